-- Changes taken back, one after the other from the last.
use Rattle.std.proofs.Common.{◌≡◌, ℕ, List, [], ◌∷◌, ◌++◌, refl, sym, ap, ◌∙◌, subst}
use Rattle.room_nodes.specs.Shape.{Nodes}
use Rattle.room_nodes.specs.Turns.{turned, reverse, CanTurn}
use Rattle.room_apply.specs.Edits.{turned_all, reverse_all, CanTurnAll, places, HasPlace, places_all, HasPlaces}
use Rattle.room_nodes.specs.declared.turns.Turn.{Turn}

pub turned_last : (t : Nodes) (cs : List Turn) (c : Turn) → turned_all t (cs ++ c ∷ []) ≡ turned_all (turned t c) cs
turned_last t [] c = refl
turned_last t (d ∷ cs) c = ap (λ (u : Nodes). turned u d) (turned_last t cs c)

pub places_last : (s : ℕ) (cs : List Turn) (c : Turn) → places_all s (cs ++ c ∷ []) ≡ places_all (places s c) cs
places_last s [] c = refl
places_last s (d ∷ cs) c = ap (λ n. places n d) (places_last s cs c)

pub can_last : (t : Nodes) (cs : List Turn) (c : Turn) → CanTurnAll t (cs ++ c ∷ [])
    → CanTurn t c × CanTurnAll (turned t c) cs
can_last t [] c h = (h.0, tt)
can_last t (d ∷ cs) c h = let r = can_last t cs c h.1 in
    (r.0, (subst (λ (u : Nodes). CanTurn u d) (turned_last t cs c) h.0, r.1))

pub last_can : (t : Nodes) (cs : List Turn) (c : Turn) → CanTurn t c → CanTurnAll (turned t c) cs
    → CanTurnAll t (cs ++ c ∷ [])
last_can t [] c h hs = (h, tt)
last_can t (d ∷ cs) c h hs = (
  subst (λ (u : Nodes). CanTurn u d)
      (sym (turned_last t cs c)) hs.0,
  last_can t cs c h hs.1,
)

pub place_last : (s : ℕ) (cs : List Turn) (c : Turn) → HasPlaces s (cs ++ c ∷ [])
    → HasPlace s c × HasPlaces (places s c) cs
place_last s [] c h = (h.0, tt)
place_last s (d ∷ cs) c h = let r = place_last s cs c h.1 in
    (r.0, (subst (λ n. HasPlace n d) (places_last s cs c) h.0, r.1))

pub reverse_last : (t : Nodes) (cs : List Turn) (c : Turn)
    → reverse_all t (cs ++ c ∷ []) ≡ reverse t c ∷ reverse_all (turned t c) cs
reverse_last t [] c = refl
reverse_last t (d ∷ cs) c =
    ap (λ rs. rs ++ reverse (turned_all t (cs ++ c ∷ [])) d ∷ []) (reverse_last t cs c)
    ∙ ap (λ (u : Nodes). (reverse t c ∷ reverse_all (turned t c) cs) ++ reverse u d ∷ []) (turned_last t cs c)
