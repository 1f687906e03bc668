-- A step keeps each object's fields in order.
use Rattle.std.proofs.Common.{List, [], ◌∷◌}
use Rattle.room_ids.specs.declared.ids.NodeId.{NodeId}
use Rattle.room_nodes.specs.declared.nodes.Node.{Node}
use Rattle.room_nodes.specs.declared.nodes.Body.{Body}
use Rattle.room_nodes.specs.declared.nodes.Body.TheVariants.{SetKey, Create, Update, Delete, DeleteKey}
use Rattle.room_nodes.specs.Ordered.{AreOrderedBodies, IsOrderedKind, IsOrderedTree, IsOrderedBody}
use Rattle.room_nodes.specs.Shape.{Nodes}
use Rattle.room_nodes.specs.Steps.{step, fold, settled_body, with_fields, without_field}
use Rattle.room_steps.proofs.Fields.{ordered_with, ordered_without}
use Rattle.room_steps.proofs.Keeping.{Brings, Spares, of_kind, all_step, of_settled}

abbrev IsOrdered : NodeId → Node → Type 0
IsOrdered x n = IsOrderedKind n.kind

spares : Spares IsOrdered
spares x k n h = of_kind IsOrderedKind (without_field k) (ordered_without k) n.kind h

brings : (b : Body) → IsOrderedBody b → Brings IsOrdered b
brings (SetKey x k) h = λ n m. m
brings (Create x p k r kind) h = λ d. h
brings (Update x fs) h = λ n m. of_kind IsOrderedKind (with_fields fs) (ordered_with fs) n.kind m
brings (Delete x) h = tt
brings (DeleteKey x k) h = tt

pub ordered_step : (t : Nodes) (b : Body) → IsOrderedTree t → IsOrderedBody b → IsOrderedTree (step t b)
ordered_step t b h o = all_step IsOrdered spares t b h (brings (settled_body t b) (of_settled IsOrderedBody t (λ x k e s. s) (λ x p k r kind e s. s) b o))

pub ordered_fold : (t : Nodes) (bs : List Body) → IsOrderedTree t → AreOrderedBodies bs → IsOrderedTree (fold t bs)
ordered_fold t [] o h = o
ordered_fold t (b ∷ bs) o h = ordered_fold (step t b) bs (ordered_step t b o h.0) h.1
