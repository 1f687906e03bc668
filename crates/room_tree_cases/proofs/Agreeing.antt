-- Trees that agree on cells.
use Rattle.std.proofs.Common.{List, [], ◌∷◌, refl, sym, ◌∙◌}
use Rattle.room_nodes.specs.Cells.{Agrees}
use Rattle.room_nodes.specs.Shape.{Nodes}
use Rattle.room_nodes.specs.declared.cells.Cell.{Cell}
use Rattle.room_nodes.specs.declared.cells.Cell.TheVariants.{Node as NodeOf, Slot, All}

pub agrees_self : (t : Nodes) (ds : List Cell) → Agrees t t ds
agrees_self t [] = tt
agrees_self t (NodeOf x ∷ ds) = (refl, agrees_self t ds)
agrees_self t (Slot x k ∷ ds) = ((refl, refl), agrees_self t ds)
agrees_self t (All x ∷ ds) = (λ k. (refl, refl), agrees_self t ds)

pub agrees_back : (t u : Nodes) (ds : List Cell) → Agrees t u ds → Agrees u t ds
agrees_back t u [] h = tt
agrees_back t u (NodeOf x ∷ ds) h = (sym h.0, agrees_back t u ds h.1)
agrees_back t u (Slot x k ∷ ds) h = ((sym h.0.0, sym h.0.1), agrees_back t u ds h.1)
agrees_back t u (All x ∷ ds) h = (λ k. (sym (h.0 k).0, sym (h.0 k).1), agrees_back t u ds h.1)

pub agrees_then : (t u v : Nodes) (ds : List Cell) → Agrees t u ds → Agrees u v ds → Agrees t v ds
agrees_then t u v [] h r = tt
agrees_then t u v (NodeOf x ∷ ds) h r = (h.0 ∙ r.0, agrees_then t u v ds h.1 r.1)
agrees_then t u v (Slot x k ∷ ds) h r = ((h.0.0 ∙ r.0.0, h.0.1 ∙ r.0.1), agrees_then t u v ds h.1 r.1)
agrees_then t u v (All x ∷ ds) h r =
    (λ k. ((h.0 k).0 ∙ (r.0 k).0, (h.0 k).1 ∙ (r.0 k).1), agrees_then t u v ds h.1 r.1)
