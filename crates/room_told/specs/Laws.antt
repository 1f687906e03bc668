-- What holds of notices by their definitions: a view that follows them is the view of the tree.
use Rattle.std.specs.Prelude.{◌≡◌, List, true}
use Rattle.room_nodes.specs.declared.nodes.Body.{Body}
use Rattle.room_nodes.specs.Ordered.{IsOrderedTree, AreOrderedBodies}
use Rattle.room_nodes.specs.Shape.{Nodes, IsFormed}
use Rattle.room_nodes.specs.Steps.{step, fold}
use Rattle.room_items.specs.View.{view}
use Rattle.room_model.specs.Notices.{apply_all, notices_of, notices_of_all}

-- of one operation, on a well-formed tree with fields in byte order
abbrev pub NoticesShow : Type 0
NoticesShow =
    (t : Nodes) (b : Body) → IsFormed t → IsOrderedTree t
    → apply_all (notices_of t b) (view t) ≡ (view (step t b), true)

-- of operations in order, whose fields stand in byte order too
abbrev pub AllShow : Type 0
AllShow =
    (t : Nodes) (bs : List Body) → IsFormed t → IsOrderedTree t → AreOrderedBodies bs
    → apply_all (notices_of_all t bs) (view t) ≡ (view (fold t bs), true)
