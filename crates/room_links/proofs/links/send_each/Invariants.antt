use Rattle.std.proofs.Common.{◌≡◌, ◌++◌}
use Rattle.room_links.specs.Links.{sends_of}
use Rattle.room_links.proofs.links.send_each.Given as goal

abbrev pub invariant-loop-conn : goal.invariant-loop-conn
invariant-loop-conn l =
    l.outs ++ sends_of l.whom l.sending l.conn-iterator ≡ l.initial.outs ++ sends_of l.whom l.sending l.map.entries
