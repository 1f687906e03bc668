use Rattle.std.proofs.Common.{◌+◌, length}
use Rattle.std.specs.FinMap.{len}
use Rattle.room_nodes.specs.Shape.{Nodes}
use Rattle.room_overlay.specs.Together.{LeadBack}
use Rattle.room_overlay.proofs.together.back_all.Given as goal

abbrev pub invariant-loop-one : goal.invariant-loop-one
invariant-loop-one g l = let t = g.T.Tree in
    ((s : Nodes) × LeadBack s l.edits.items (t.nodes l.t) (len (t.nodes l.t) + t.spare l.t))
    × ((s : Nodes) → LeadBack s l.initial.edits.items (t.nodes l.initial.t) (len (t.nodes l.initial.t) + t.spare l.initial.t)
    → LeadBack s l.edits.items (t.nodes l.t) (len (t.nodes l.t) + t.spare l.t))

abbrev pub decreases-loop-one : goal.decreases-loop-one
decreases-loop-one g l = length l.edits.items
