-- The cells of one operation more; nothing meets no cells.
use Rattle.std.proofs.Common.{◌≡◌, ◌++◌, ◌∙◌, false, List, [], ◌∷◌, refl, sym, ap}
use Rattle.std.proofs.lemmas.List.{append_assoc}
use Rattle.room_nodes.specs.Cells.{cells_all, meets, writes, writes_all}
use Rattle.room_nodes.specs.Shape.{Nodes}
use Rattle.room_nodes.specs.Steps.{step}
use Rattle.room_nodes.specs.declared.cells.Cell.{Cell}
use Rattle.room_nodes.specs.declared.nodes.Op.{Op}
use Rattle.room_log.specs.Log.{bodies_of}
use Rattle.room_overlay.specs.Touched.{cells_of}

pub written_more : (all rest : List Op) (o : Op) → all ≡ o ∷ rest → (t v : Nodes) → v ≡ step t o.body
    → (xs ys zs : List Cell) → ys ≡ xs ++ writes t o.body → xs ++ writes_all t (bodies_of all) ≡ zs
    → ys ++ writes_all v (bodies_of rest) ≡ zs
written_more all rest o here t v e xs ys zs more h =
    (λ i. more i ++ writes_all (e i) (bodies_of rest))
    ∙ append_assoc xs (writes t o.body) (writes_all (step t o.body) (bodies_of rest))
    ∙ sym (ap (λ os. xs ++ writes_all t (bodies_of os)) here)
    ∙ h

pub cells_more : (all rest : List Op) (o : Op) → all ≡ o ∷ rest → (t v : Nodes) → v ≡ step t o.body
    → (xs ys zs : List Cell) → ys ≡ xs ++ cells_of t o.body → xs ++ cells_all t (bodies_of all) ≡ zs
    → ys ++ cells_all v (bodies_of rest) ≡ zs
cells_more all rest o here t v e xs ys zs more h =
    (λ i. more i ++ cells_all (e i) (bodies_of rest))
    ∙ append_assoc xs (cells_of t o.body) (cells_all (step t o.body) (bodies_of rest))
    ∙ sym (ap (λ os. xs ++ cells_all t (bodies_of os)) here)
    ∙ h

pub meets_none : (cs : List Cell) → meets cs [] ≡ false
meets_none [] = refl
meets_none (c ∷ cs) = meets_none cs
