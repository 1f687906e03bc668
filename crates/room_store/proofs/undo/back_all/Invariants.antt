use Rattle.std.proofs.Common.{◌≡◌, ◌+◌, length}
use Rattle.std.specs.FinMap.{len}
use Rattle.room_store.specs.Undoing.{gone, CanGo}
use Rattle.room_store.proofs.undo.back_all.Given as goal

abbrev pub invariant-loop-one : goal.invariant-loop-one
invariant-loop-one g l = let t = g.T.Tree in
    CanGo (len (t.nodes l.t) + t.spare l.t) (t.nodes l.t) l.steps.items
    × (gone (t.nodes l.t) l.steps.items ≡ gone (t.nodes l.initial.t) l.initial.steps.items)
    × (len (t.nodes l.t) + t.spare l.t ≡ len (t.nodes l.initial.t) + t.spare l.initial.t)

abbrev pub decreases-loop-one : goal.decreases-loop-one
decreases-loop-one g l = length l.steps.items
