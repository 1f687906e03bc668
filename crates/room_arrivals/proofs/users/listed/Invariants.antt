use Rattle.std.proofs.Common.{◌≡◌, ◌++◌}
use Rattle.room_arrivals.proofs.users.listed.Given as goal

abbrev pub invariant-loop-actor : goal.invariant-loop-actor
invariant-loop-actor l = l.users ++ l.actor-iterator ≡ l.names.entries
