-- What one operation leaves as it is, and what it keeps of what two trees agree on.
use Rattle.std.proofs.Common.{◌≡◌, ◌≢◌, inl, inr, ℕ, Bool, true, false, cond, ◌&&◌, ◌||◌, List, [], ◌∷◌, ◌++◌, Option, Some, None, is_some, refl, sym, ap, ◌∙◌}
use Rattle.std.specs.Cmp.Lexicographic.{slice_cmp}
use Rattle.std.specs.FinMap.{get}
use Rattle.std.specs.Ordering.{nat_cmp, eq_by_cmp}
use Rattle.room_ids.specs.Order.{is_same}
use Rattle.room_ids.specs.declared.ids.NodeId.{NodeId}
use Rattle.room_ids.specs.declared.ids.NodeId.TheVariants.{Root}
use Rattle.room_nodes.specs.Cells.{Agrees, SameSlot, overlaps, overlaps_some, removal_of, slot_cells, slots_cells}
use Rattle.room_nodes.specs.Shape.{Nodes, IsFormed, child_at, is_below}
use Rattle.room_nodes.specs.Steps.{without_children}
use Rattle.room_nodes.specs.declared.cells.Cell.{Cell}
use Rattle.room_nodes.specs.declared.cells.Cell.TheVariants.{Node as NodeOf, Slot}
use Rattle.room_nodes.specs.declared.nodes.Node.{Node}
use Rattle.room_nodes.proofs.Below.{below_step}
use Rattle.room_nodes.proofs.Fitting.{the_parent}
use Rattle.room_nodes.proofs.Gets.{same, same_self, some_inj, some_none, true_false}
use Rattle.room_nodes.proofs.StepForm.{FieldsOf}
use Rattle.room_nodes.proofs.Steps.{neither}
use Rattle.room_steps.proofs.Booleans.{or_parts, or_left, or_right, and_both}
use Rattle.room_steps.proofs.Alike.{Alike}
use Rattle.room_steps.proofs.Changing.{Kept}
use Rattle.room_steps.proofs.Covering.{Agrees-append, covered-append, is_hit, hit_is, hit_of, covers_node, covers_slot}
use Rattle.room_steps.proofs.Cutting.{cut, IsSpared}
use Rattle.room_steps.proofs.Fields.{key_self}
use Rattle.room_steps.proofs.Framing.{Covered, gone_of, gone_at}
use Rattle.room_steps.proofs.Kin.{child_of}
use Rattle.room_steps.proofs.Regions.{hit_same, removal_same}

-- outside the cells ds, u is t
pub record Framed (t u : Nodes) (ds : List Cell) : Type 0 where
  pub node : (q : NodeId) → overlaps_some (NodeOf q) ds ≡ false → Alike (get t q) (get u q)
  pub slot : (q : NodeId) (k : List ℕ) → overlaps_some (Slot q k) ds ≡ false → SameSlot t u q k

pub framed_then : (t u v : Nodes) (ds : List Cell) → Framed t u ds → Framed u v ds → Framed t v ds
framed_then t u v ds a b = record { node = λ q h. a.node q h ∙ b.node q h; slot = λ q k h. ((a.slot q k h).0 ∙ (b.slot q k h).0, (a.slot q k h).1 ∙ (b.slot q k h).1) }

pub kept_then : (t u t2 u2 t3 u3 : Nodes) → Kept t u t2 u2 → Kept t2 u2 t3 u3 → Kept t u t3 u3
kept_then t u t2 u2 t3 u3 a b = record { node = λ q h. b.node q (a.node q h); slot = λ q k h. b.slot q k (a.slot q k h); matched = λ h. b.matched (a.matched h) }

-- nodes that a child takes with it

abbrev pub IsOut : Nodes → Option NodeId → Type 0
IsOut t o = (y : NodeId) → o ≡ Some y → (m : Node) × (get t y ≡ Some m) × (y ≢ Root)

pub child_out : (t : Nodes) (p : NodeId) (k : List ℕ) → IsOut t (child_at t p k)
child_out t p k y e = let c = child_of t p k y e in (c.node, c.there, c.made)

module _ (t : Nodes) (f : IsFormed t) (ds : List Cell) where
  pub covered_out : (o : Option NodeId) → IsOut t o → ((c : Cell) → overlaps_some c (removal_of t o) ≡ true → overlaps_some c ds ≡ true)
      → ((y : NodeId) (m : Node) → o ≡ Some y → get t y ≡ Some m → overlaps_some (Slot m.parent m.key) ds ≡ true) → Covered t (gone_of t o) ds
  covered_out None out rest top = record { nodes = λ q n e h. absurd (true_false (sym h)); slots = λ q k n e h. absurd (true_false (sym h)); places = λ y n e made h. absurd (true_false (sym h)) }
  covered_out (Some y) out rest top = record {
    nodes = λ q n e h. rest (NodeOf q) (covers_node t y q h);
    slots = λ q k n e h. rest (Slot q k) (covers_slot t y q k h);
    places = λ z n e made h. elim (or_parts (is_same z y) _ (sym (below_step t f y z n made e) ∙ (hit_is t y z h).2)) [
      | inl s ↦ top y n refl (ap (get t) (sym (same z y s)) ∙ e)
      | inr b ↦ let p = the_parent t f z n made e in rest (Slot n.parent n.key) (covers_slot t y n.parent n.key (hit_of t y n.parent p.0 p.1 b))
    ];
  }

covered_both : (t : Nodes) (a b : NodeId → Bool) (ds es : List Cell) → Covered t a ds → Covered t b es → Covered t (λ q. a q || b q) (ds ++ es)
covered_both t a b ds es h k = record {
  nodes = λ q n e g. covered-append (NodeOf q) ds es ∙ elim (or_parts (a q) (b q) g) [ inl x ↦ or_left _ _ (h.nodes q n e x) | inr x ↦ or_right (overlaps_some (NodeOf q) ds) _ (k.nodes q n e x) ];
  slots = λ q j n e g. covered-append (Slot q j) ds es ∙ elim (or_parts (a q) (b q) g) [ inl x ↦ or_left _ _ (h.slots q j n e x) | inr x ↦ or_right (overlaps_some (Slot q j) ds) _ (k.slots q j n e x) ];
  places = λ y n e made g. covered-append (Slot n.parent n.key) ds es
      ∙ elim (or_parts (a y) (b y) g) [ inl x ↦ or_left _ _ (h.places y n e made x) | inr x ↦ or_right (overlaps_some (Slot n.parent n.key) ds) _ (k.places y n e made x) ];
}

pub own_slot : (x : NodeId) (k : List ℕ) → overlaps (Slot x k) (Slot x k) ≡ true
own_slot x k = and_both (is_same x x) (eq_by_cmp (slice_cmp nat_cmp) k k) (same_self x) (key_self k)

-- the slot at k with what goes there
pub covered_slot : (t : Nodes) → IsFormed t → (x : NodeId) (k : List ℕ) → Covered t (gone_of t (child_at t x k)) (slot_cells t x k)
covered_slot t f x k = covered_out t f (slot_cells t x k) (child_at t x k) (child_out t x k) (λ c h. or_right (overlaps c (Slot x k)) _ h) (λ y m e there.
    let c = child_of t x k y e in
    let is : m ≡ c.node = some_inj m c.node (sym there ∙ c.there) in
    or_left _ _ (ap (λ z. overlaps (Slot z m.key) (Slot x k)) (ap (λ (v : Node). v.parent) is ∙ c.parent) ∙ ap (λ j. overlaps (Slot x j) (Slot x k)) (ap (λ (v : Node). v.key) is ∙ c.key) ∙ own_slot x k))

pub covered_slots : (t : Nodes) → IsFormed t → (x : NodeId) (fs : FieldsOf) → Covered t (gone_at t x fs) (slots_cells t x fs)
covered_slots t f x [] = record { nodes = λ q n e h. absurd (true_false (sym h)); slots = λ q k n e h. absurd (true_false (sym h)); places = λ y n e made h. absurd (true_false (sym h)) }
covered_slots t f x (e ∷ fs) = covered_both t (gone_of t (child_at t x e.0)) (gone_at t x fs) (slot_cells t x e.0) (slots_cells t x fs) (covered_slot t f x e.0) (covered_slots t f x fs)

module _ (t u : Nodes) (f : IsFormed t) (g : IsFormed u) where
  pub gone_same : (o : Option NodeId) → IsOut t o → Agrees t u (removal_of t o) → (q : NodeId) → gone_of t o q ≡ gone_of u o q
  gone_same None out h q = refl
  gone_same (Some y) out h q = let r = out y refl in hit_same t u f g y r.0 r.1 r.2 h q

  pub removals_same : (o w : Option NodeId) → o ≡ w → IsOut t o → Agrees t u (removal_of t o) → removal_of t o ≡ removal_of u w
  removals_same None w e out h = ap (removal_of u) e
  removals_same (Some y) w e out h = let r = out y refl in removal_same t u f g y r.0 r.1 r.2 h ∙ ap (removal_of u) e

  pub gone_at_out : (o w : Option NodeId) → o ≡ w → IsOut t o → Agrees t u (removal_of t o) → (q : NodeId) → gone_of t o q ≡ gone_of u w q
  gone_at_out o w e out h q = gone_same o out h q ∙ ap (λ z. gone_of u z q) e

  pub slot_cells_same : (x : NodeId) (k : List ℕ) → Agrees t u (slot_cells t x k) → slot_cells t x k ≡ slot_cells u x k
  slot_cells_same x k h = ap (λ ds. Slot x k ∷ ds) (removals_same (child_at t x k) (child_at u x k) h.0.1 (child_out t x k) h.1)

  pub slots_cells_same : (x : NodeId) (fs : FieldsOf) → Agrees t u (slots_cells t x fs) → slots_cells t x fs ≡ slots_cells u x fs
  slots_cells_same x [] h = refl
  slots_cells_same x (e ∷ fs) h =
      let a = Agrees-append t u (slot_cells t x e.0) (slots_cells t x fs) h in
      ap (λ ds. ds ++ slots_cells t x fs) (slot_cells_same x e.0 a.0) ∙ ap (λ ds. slot_cells u x e.0 ++ ds) (slots_cells_same x fs a.1)

  pub gones_same : (x : NodeId) (fs : FieldsOf) → Agrees t u (slots_cells t x fs) → (q : NodeId) → gone_at t x fs q ≡ gone_at u x fs q
  gones_same x [] h q = refl
  gones_same x (e ∷ fs) h q =
      let a = Agrees-append t u (slot_cells t x e.0) (slots_cells t x fs) h in
      ap (λ b. b || gone_at t x fs q) (gone_at_out (child_at t x e.0) (child_at u x e.0) a.0.0.1 (child_out t x e.0) a.0.1 q)
      ∙ ap (λ b. gone_of u (child_at u x e.0) q || b) (gones_same x fs a.1 q)

-- the children at some names taken out

module _ (t : Nodes) (f : IsFormed t) (x : NodeId) where
  hit_off : (z q : NodeId) (b : Bool) → is_below t z q ≡ false → (b && is_below t z q) ≡ false
  hit_off z q true h = h
  hit_off z q false h = refl

  gone_off : (o : Option NodeId) (q : NodeId) → ((z : NodeId) → o ≡ Some z → is_below t z q ≡ false) → gone_of t o q ≡ false
  gone_off None q h = refl
  gone_off (Some z) q h = hit_off z q (is_some (get t q)) (h z refl)

  spared_off : (fs : FieldsOf) (q : NodeId) → IsSpared x t fs q → gone_at t x fs q ≡ false
  spared_off [] q s = refl
  spared_off (e ∷ fs) q s = rw (gone_off (child_at t x e.0) q (λ z h. s e.0 z (inl refl) h), spared_off fs q (λ k z m h. s k z (inr m) h)) refl

  off_below : (z q : NodeId) (n : Node) → get t q ≡ Some n → is_hit t z q ≡ false → is_below t z q ≡ false
  off_below z q n e h = ap (λ o. is_some o && is_below t z q) (sym e) ∙ h

  off_spared : (fs : FieldsOf) (q : NodeId) (n : Node) → get t q ≡ Some n → gone_at t x fs q ≡ false → IsSpared x t fs q
  off_spared [] q n e h k z m there = absurd m
  off_spared (d ∷ fs) q n e h k z m there =
      let a = neither (gone_of t (child_at t x d.0) q) _ h in
      elim m [
        | inl is ↦ off_below z q n e (ap (λ o. gone_of t o q) (sym there ∙ ap (child_at t x) (sym is)) ∙ a.0)
        | inr m ↦ off_spared fs q n e a.1 k z m there
      ]

  none_either : (b : Bool) → ◌≡◌ {A = Option Node} (cond b None None) None
  none_either true = refl
  none_either false = refl

  abbrev left : FieldsOf → Nodes
  left fs = without_children t x fs

  left_none : (fs : FieldsOf) (q : NodeId) (o : Option Node) → get (left fs) q ≡ o → ((w : Node) → o ≡ Some w → ⊥) → o ≡ None
  left_none fs q None e h = refl
  left_none fs q (Some w) e h = absurd (h w refl)

  pub left_at : (fs : FieldsOf) (q : NodeId) (o : Option Node) → get t q ≡ o → (b : Bool) → gone_at t x fs q ≡ b → get (left fs) q ≡ cond b None o
  left_at fs q None e b g = left_none fs q _ refl (λ w h. some_none w (sym ((cut x t f fs).part q w h) ∙ e)) ∙ sym (none_either b)
  left_at fs q (Some n) e true g = left_none fs q _ refl (λ w h. true_false (sym g ∙ spared_off fs q ((cut x t f fs).spared q w h)))
  left_at fs q (Some n) e false g = (cut x t f fs).stays q n e (off_spared fs q n e g)
