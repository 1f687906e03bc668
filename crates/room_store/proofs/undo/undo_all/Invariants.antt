use Rattle.std.proofs.Common.{◌≡◌, ◌+◌, length}
use Rattle.std.specs.FinMap.{len}
use Rattle.room_snapshot.specs.Bounds.{state_of}
use Rattle.room_store.specs.Undoing.{undone, CanUndo}
use Rattle.room_store.proofs.undo.undo_all.Given as goal

abbrev pub invariant-loop-one : goal.invariant-loop-one
invariant-loop-one g l = let t = g.T.Tree in
    CanUndo (len (t.nodes l.state.tree) + t.spare l.state.tree)
    (state_of l.state.count l.state.sessions (t.nodes l.state.tree)) l.undo.items
    × (undone (state_of l.state.count l.state.sessions (t.nodes l.state.tree)) l.undo.items
    ≡ undone (state_of l.initial.state.count l.initial.state.sessions (t.nodes l.initial.state.tree)) l.initial.undo.items)

abbrev pub decreases-loop-one : goal.decreases-loop-one
decreases-loop-one g l = length l.undo.items
