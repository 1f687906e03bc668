-- One more change, and the list that takes all back.
use Rattle.std.proofs.Common.{◌≤◌, ◌≡◌, ◌+◌, ℕ, List, [], ◌∷◌, ◌++◌, Option, Some, None, refl, sym, ap, ◌∙◌, subst}
use Rattle.std.proofs.Common.{arith}
use Rattle.std.specs.FinMap.{get}
use Rattle.room_nodes.specs.Shape.{Nodes, IsFormed}
use Rattle.room_apply.specs.Edits.{reverse_all, turned_all, CanTurnAll, places, HasPlace, places_all, HasPlaces, IsUndo}
use Rattle.room_nodes.specs.Turns.{turned, reverse, put_of, CanTurn}
use Rattle.room_apply.proofs.Lasts.{turned_last, last_can, places_last}
use Rattle.room_nodes.proofs.Again.{again}
use Rattle.room_nodes.proofs.Fitting.{some_of}
use Rattle.room_nodes.specs.declared.turns.Turn.{Turn}
use Rattle.room_nodes.specs.declared.turns.Turn.TheVariants.{Put, Cut, Fields, Key}
use Rattle.room_ids.specs.declared.ids.NodeId.{NodeId}
use Rattle.room_nodes.specs.declared.nodes.Node.{Node}

pub last_place : (s : ℕ) (cs : List Turn) (c : Turn) → HasPlace s c → HasPlaces (places s c) cs
    → HasPlaces s (cs ++ c ∷ [])
last_place s [] c h hs = (h, tt)
last_place s (d ∷ cs) c h hs = (subst (λ n. HasPlace n d) (sym (places_last s cs c)) hs.0, last_place s cs c h hs.1)

gone_places : (b : ℕ) (x : NodeId) (o : Option Node) → (n : Node) → o ≡ Some n → HasPlace (b + 1) (put_of x o)
    × (places (b + 1) (put_of x o) ≡ b)
gone_places b x None n e = cc
gone_places b x (Some m) n e = (omega arith, omega arith)

place_again : (t : Nodes) (b : ℕ) (c : Turn) → CanTurn t c → HasPlace b c → HasPlace (places b c) (reverse t c)
    × (places (places b c) (reverse t c) ≡ b)
place_again t b (Put x n) h p = (tt, omega arith)
place_again t b (Cut x) h p = let n = some_of (get t x) h.there in gone_places b x (get t x) n.0 n.1
place_again t b (Fields x fs) h p = (tt, refl)
place_again t b (Key x k) h p = (tt, refl)

pub undo_more : (s u : Nodes) (a b : ℕ) (cs : List Turn) (c : Turn) → IsFormed u → CanTurn u c → HasPlace b c
    → IsUndo s a u b cs → IsUndo s a (turned u c) (places b c) (cs ++ reverse u c ∷ [])
undo_more s u a b cs c f can place un =
    let g = again u f c can in
    let p = place_again u b c can place in
    let r = reverse u c in
    record {
      can = last_can (turned u c) cs r g.can (subst (λ (v : Nodes). CanTurnAll v cs) (sym g.back) un.can);
      back = turned_last (turned u c) cs r ∙ ap (λ (v : Nodes). turned_all v cs) g.back ∙ un.back;
      place = last_place (places b c) cs r p.0 (subst (λ n. HasPlaces n cs) (sym p.1) un.place);
      places = places_last (places b c) cs r ∙ ap (λ n. places_all n cs) p.1 ∙ un.places;
    }

pub no_changes : (t : Nodes) (a : ℕ) → IsUndo t a t a []
no_changes t a = record { can = tt; back = refl; place = tt; places = refl }

pub undo_at : (s u v : Nodes) (a b d : ℕ) (cs ds : List Turn) → v ≡ u → d ≡ b → ds ≡ cs → IsUndo s a u b cs
    → IsUndo s a v d ds
undo_at s u v a b d cs ds p q r h = subst (λ (w : Nodes). IsUndo s a w d ds) (sym p)
    (subst (λ n. IsUndo s a u n ds) (sym q) (subst (IsUndo s a u b) (sym r) h))

-- taking all back leaves what makes all again

places_back : (t : Nodes) → IsFormed t → (b : ℕ) (cs : List Turn) → CanTurnAll t cs → HasPlaces b cs
    → HasPlaces (places_all b cs) (reverse_all t cs) × (places_all (places_all b cs) (reverse_all t cs) ≡ b)
places_back t f b [] h p = (tt, refl)
places_back t f b (c ∷ cs) h p =
    let r = places_back t f b cs h.1 p.1 in
    let u = turned_all t cs in
    let a = places_all b cs in
    let g = place_again u a c h.0 p.0 in
    let rs = reverse_all t cs in (
      last_place (places a c) rs (reverse u c) g.0 (subst (λ n. HasPlaces n rs) (sym g.1) r.0),
      places_last (places a c) rs (reverse u c) ∙ ap (λ n. places_all n rs) g.1 ∙ r.1,
    )

-- more spare places serve as well
more_place : (b d : ℕ) (c : Turn) → b ≤ d → HasPlace b c → HasPlace d c × (places b c ≤ places d c)
more_place b d (Put x n) le h = (omega arith, omega arith)
more_place b d (Cut x) le h = (tt, omega arith)
more_place b d (Fields x fs) le h = (tt, le)
more_place b d (Key x k) le h = (tt, le)

pub more_places : (b d : ℕ) (cs : List Turn) → b ≤ d → HasPlaces b cs
    → HasPlaces d cs × (places_all b cs ≤ places_all d cs)
more_places b d [] le h = (tt, le)
more_places b d (c ∷ cs) le h =
    let r = more_places b d cs le h.1 in
    let s = more_place (places_all b cs) (places_all d cs) c r.1 h.0 in
    ((s.0, r.0), s.1)
