use Rattle.std.proofs.Common.{◌≡◌, ◌++◌}
use Rattle.room_json.specs.View.{members_view}
use Rattle.room_nodes.specs.Reversal.{other_names}
use Rattle.room_back.specs.Back.{as_changes}
use Rattle.room_back.proofs.updates.restore_names.Given as goal

abbrev pub invariant-loop-name : goal.invariant-loop-name
invariant-loop-name g l =
    let t = g.T.Tree.nodes l.t in
    l.back ++ as_changes (other_names t l.id (members_view l.name-iterator))
    ≡ l.initial.back ++ as_changes (other_names t l.id (members_view l.names.entries))
