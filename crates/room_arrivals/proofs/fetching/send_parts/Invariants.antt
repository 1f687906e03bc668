use Rattle.std.proofs.Common.{◌≡◌, ◌++◌, length, map}
use Rattle.room_json.specs.View.{json_of}
use Rattle.room_links.specs.Outs.{written}
use Rattle.room_model.specs.Server.{part_sends, parts_of}
use Rattle.room_arrivals.proofs.fetching.send_parts.Given as goal

abbrev pub invariant-loop-rest : goal.invariant-loop-rest
invariant-loop-rest l =
    l.outs ++ map written (part_sends l.conn l.seq l.last (parts_of (map json_of l.rest)))
    ≡ l.initial.outs ++ map written (part_sends l.conn l.seq l.last (parts_of (map json_of l.items)))

abbrev pub decreases-loop-rest : goal.decreases-loop-rest
decreases-loop-rest l = length l.rest
