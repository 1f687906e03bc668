use Rattle.std.proofs.Common.{◌≡◌, []}
use Rattle.std.specs.FinMap.{get}
use Rattle.room_json.specs.Value.{merged}
use Rattle.room_json.specs.View.{members_view}
use Rattle.room_nodes.specs.Reversal.{old_fields}
use Rattle.room_back.proofs.updates.fields_at.Given as goal

abbrev pub invariant-loop-name : goal.invariant-loop-name
invariant-loop-name g l =
    let n = get (g.T.Tree.nodes l.t) l.id in
    merged l.old (old_fields n (members_view l.name-iterator)) ≡ merged [] (old_fields n (members_view l.names.entries))
