-- The nodes below the children of a node.
use Rattle.std.proofs.Common.{◌≡◌, ℕ, List, [], ◌∷◌, ◌++◌, flat_map, map, refl, sym, ap, ◌∙◌}
use Rattle.std.proofs.lemmas.List.Concat.{flat_map-cons}
use Rattle.room_ids.specs.declared.ids.NodeId.{NodeId}

abbrev pub Kid : Type 0
Kid = List ℕ × NodeId

pub flat_of : (f : NodeId → List NodeId) (es : List Kid)
    → flat_map f (map (λ (e : Kid). e.1) es) ≡ flat_map (λ (e : Kid). f e.1) es
flat_of f [] = refl
flat_of f (e ∷ es) =
    flat_map-cons f e.1 (map (λ (e : Kid). e.1) es) ∙ ap (λ (l : List NodeId). f e.1 ++ l) (flat_of f es)
    ∙ sym (flat_map-cons (λ (e : Kid). f e.1) e es)
