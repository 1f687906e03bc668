-- What a change leaves as it is, and what putting a node does to what two trees agree on.
use Rattle.std.proofs.Common.{◌≡◌, ◌≢◌, inl, inr, ℕ, Bool, true, false, cond, not, ◌&&◌, ◌||◌, List, [], ◌∷◌, Option, Some, None, option_map, is_some, refl, sym, ap, ◌∙◌, subst}
use Rattle.std.specs.Cmp.Lexicographic.{slice_cmp}
use Rattle.std.specs.FinMap.{get, insert, find}
use Rattle.std.specs.Ordering.{nat_cmp}
use Rattle.room_ids.specs.Order.{is_same}
use Rattle.room_ids.specs.declared.ids.NodeId.{NodeId}
use Rattle.room_ids.specs.declared.ids.NodeId.TheVariants.{Root}
use Rattle.room_nodes.specs.Cells.{SameSlot, bare, field_at, overlaps_some}
use Rattle.room_nodes.specs.Primitives.{kind_fields}
use Rattle.room_nodes.specs.Shape.{Nodes, IsFormed, child_at, is_below}
use Rattle.room_nodes.specs.Steps.{fields_kind, on_fields, without}
use Rattle.room_nodes.specs.declared.cells.Cell.{Cell}
use Rattle.room_nodes.specs.declared.cells.Cell.TheVariants.{Node as NodeOf, Slot}
use Rattle.room_nodes.specs.declared.nodes.Kind.{Kind}
use Rattle.room_nodes.specs.declared.nodes.Kind.TheVariants.{Object, List as Listed, Map as Mapped, Register}
use Rattle.room_nodes.specs.declared.nodes.Node.{Node}
use Rattle.room_nodes.proofs.Gets.{get_here, get_other, get_removed, here_or_old, one_or_two, same, same_self, differ, some_none, true_false}
use Rattle.room_nodes.proofs.StepForm.{FieldsOf}
use Rattle.room_steps.proofs.Booleans.{by_no}
use Rattle.room_steps.proofs.Alike.{Alike, bare_fields, parent_alike, key_alike}
use Rattle.room_steps.proofs.Changing.{Acts, AreMatched, IsMatched, Kept, edited, edited_by, found_in, map_same, stays_there, was_there, child_was, child_stays}
use Rattle.room_steps.proofs.Covering.{is_hit}
use Rattle.room_steps.proofs.Kin.{IsChild, carried, same_child}

-- where no written cell lies, nothing changes

abbrev pub AreKept : (FieldsOf → FieldsOf) → NodeId → List Cell → Type 0
AreKept g x ds = (k : List ℕ) → overlaps_some (Slot x k) ds ≡ false → (es : FieldsOf) → find (slice_cmp nat_cmp) k (g es) ≡ find (slice_cmp nat_cmp) k es

pub record Covered (t : Nodes) (gone : NodeId → Bool) (ds : List Cell) : Type 0 where
  pub nodes : (q : NodeId) (n : Node) → get t q ≡ Some n → gone q ≡ true → overlaps_some (NodeOf q) ds ≡ true
  pub slots : (q : NodeId) (k : List ℕ) (n : Node) → get t q ≡ Some n → gone q ≡ true → overlaps_some (Slot q k) ds ≡ true
  pub places : (y : NodeId) (n : Node) → get t y ≡ Some n → y ≢ Root → gone y ≡ true → overlaps_some (Slot n.parent n.key) ds ≡ true

module _ (t u : Nodes) (gone : NodeId → Bool) (x : NodeId) (g : FieldsOf → FieldsOf) (a : Acts t u gone x g) (h : IsFormed u) (ds : List Cell) (c : Covered t gone ds) (names : AreKept g x ds) where
  bare_by : (b : Bool) (n : Node) → bare (edited_by b g n) ≡ bare n
  bare_by true n = bare_fields g n
  bare_by false n = refl

  none_left : (q : NodeId) (b : Bool) → option_map (edited x g q) (cond b None None) ≡ None
  none_left q true = refl
  none_left q false = refl

  not_gone : (q : NodeId) (n : Node) → get t q ≡ Some n → overlaps_some (NodeOf q) ds ≡ false → gone q ≡ false
  not_gone q n e off = by_no (gone q) (λ g. true_false (sym (c.nodes q n e g) ∙ off))

  node_at : (q : NodeId) → overlaps_some (NodeOf q) ds ≡ false → (o : Option Node) → get t q ≡ o → Alike (get t q) (get u q)
  node_at q off None e = ap (option_map bare) (e ∙ sym (none_left q (gone q)) ∙ ap (λ o. option_map (edited x g q) (cond (gone q) None o)) (sym e) ∙ sym (a.at q))
  node_at q off (Some n) e =
      ap (option_map bare) e ∙ ap Some (sym (bare_by (is_same q x) n))
      ∙ sym (ap (option_map bare) (stays_there t u gone x g a q n e (not_gone q n e off)))

  pub node_framed : (q : NodeId) → overlaps_some (NodeOf q) ds ≡ false → Alike (get t q) (get u q)
  node_framed q off = node_at q off (get t q) refl

  kind_by : (k : List ℕ) → overlaps_some (Slot x k) ds ≡ false → (kind : Kind) → find (slice_cmp nat_cmp) k (kind_fields kind) ≡ find (slice_cmp nat_cmp) k (kind_fields (fields_kind g kind))
  kind_by k off (Object fs) = sym (names k off fs)
  kind_by k off Listed = refl
  kind_by k off Mapped = refl
  kind_by k off (Register v) = refl

  field_by : (q : NodeId) (k : List ℕ) (n : Node) → overlaps_some (Slot q k) ds ≡ false → (b : Bool) → is_same q x ≡ b → found_in k (Some n) ≡ found_in k (Some (edited_by b g n))
  field_by q k n off true s = kind_by k (ap (λ z. overlaps_some (Slot z k) ds) (sym (same q x s)) ∙ off) n.kind
  field_by q k n off false s = refl

  slot_at : (q : NodeId) (k : List ℕ) → overlaps_some (Slot q k) ds ≡ false → (o : Option Node) → get t q ≡ o → field_at t q k ≡ field_at u q k
  slot_at q k off None e = ap (found_in k) (e ∙ sym (none_left q (gone q)) ∙ ap (λ o. option_map (edited x g q) (cond (gone q) None o)) (sym e) ∙ sym (a.at q))
  slot_at q k off (Some n) e =
      ap (found_in k) e ∙ field_by q k n off (is_same q x) refl
      ∙ sym (ap (found_in k) (stays_there t u gone x g a q n e (by_no (gone q) (λ g. true_false (sym (c.slots q k n e g) ∙ off)))))

  pub slot_framed : (q : NodeId) (k : List ℕ) → overlaps_some (Slot q k) ds ≡ false → SameSlot t u q k
  slot_framed q k off = (
    slot_at q k off (get t q) refl,
    same_child t u h q k
        (λ y d. child_stays t u gone x g a q k y d (by_no (gone y) (λ g.
        true_false (sym (c.places y d.node d.there d.made g) ∙ ap (λ z. overlaps_some (Slot z d.node.key) ds) d.parent ∙ ap (λ j. overlaps_some (Slot q j) ds) d.key ∙ off))))
        (λ y d. (child_was t u gone x g a q k y d).0),
  )

-- a new node

module _ (t : Nodes) (y : NodeId) (n : Node) (h : IsFormed (insert t y n)) (fresh : get t y ≡ None) (ds : List Cell)
    (node : overlaps_some (NodeOf y) ds ≡ true) (slots : (k : List ℕ) → overlaps_some (Slot y k) ds ≡ true) (place : overlaps_some (Slot n.parent n.key) ds ≡ true) where
  pub node_beside : (q : NodeId) → overlaps_some (NodeOf q) ds ≡ false → Alike (get t q) (get (insert t y n) q)
  node_beside q off = ap (option_map bare) (sym (get_other t y n q (λ e. true_false (sym node ∙ ap (λ z. overlaps_some (NodeOf z) ds) (sym e) ∙ off))))

  pub slot_beside : (q : NodeId) (k : List ℕ) → overlaps_some (Slot q k) ds ≡ false → SameSlot t (insert t y n) q k
  slot_beside q k off =
      let other : q ≢ y = λ e. true_false (sym (slots k) ∙ ap (λ z. overlaps_some (Slot z k) ds) (sym e) ∙ off) in (
        ap (found_in k) (sym (get_other t y n q other)),
        same_child t (insert t y n) h q k
            (λ z c. record { node = c.node; there = get_other t y n z (λ e. some_none c.node (sym c.there ∙ ap (get t) e ∙ fresh)) ∙ c.there; made = c.made; parent = c.parent; key = c.key })
            (λ z c. elim (here_or_old t y n z c.node c.there) [
              | inl i ↦ absurd (true_false (sym place
                  ∙ ap (λ p. overlaps_some (Slot p n.key) ds) (sym (ap (λ (v : Node). v.parent) i.1) ∙ c.parent)
                  ∙ ap (λ j. overlaps_some (Slot q j) ds) (sym (ap (λ (v : Node). v.key) i.1) ∙ c.key) ∙ off))
              | inr old ↦ record { node = c.node; there = old.1; made = c.made; parent = c.parent; key = c.key }
            ]),
      )

-- two trees into which alike nodes are put agree where they agreed

module _ (t u : Nodes) (f : IsFormed t) (g : IsFormed u) (y : NodeId) (n k : Node) (e : bare n ≡ bare k) (h : IsFormed (insert t y n)) (h2 : IsFormed (insert u y k))
    (fields : (j : List ℕ) → SameSlot t u y j → find (slice_cmp nat_cmp) j (kind_fields n.kind) ≡ find (slice_cmp nat_cmp) j (kind_fields k.kind)) (kinds : AreMatched t u → IsMatched n.kind k.kind) where
  node_put : (q : NodeId) → Alike (get t q) (get u q) → Alike (get (insert t y n) q) (get (insert u y k) q)
  node_put q s = elim (one_or_two q y) [
    | inl i ↦ ap (λ z. option_map bare (get (insert t y n) z)) i ∙ ap (option_map bare) (get_here t y n) ∙ ap Some e ∙ sym (ap (option_map bare) (get_here u y k)) ∙ sym (ap (λ z. option_map bare (get (insert u y k) z)) i)
    | inr d ↦ ap (option_map bare) (get_other t y n q d) ∙ s ∙ sym (ap (option_map bare) (get_other u y k q d))
  ]

  field_put : (q : NodeId) (j : List ℕ) → SameSlot t u q j → field_at (insert t y n) q j ≡ field_at (insert u y k) q j
  field_put q j s = elim (one_or_two q y) [
    | inl i ↦
        ap (λ z. found_in j (get (insert t y n) z)) i ∙ ap (found_in j) (get_here t y n) ∙ fields j (subst (λ z. SameSlot t u z j) i s)
        ∙ sym (ap (found_in j) (get_here u y k)) ∙ sym (ap (λ z. found_in j (get (insert u y k) z)) i)
    | inr d ↦ ap (found_in j) (get_other t y n q d) ∙ s.0 ∙ sym (ap (found_in j) (get_other u y k q d))
  ]

  child_to : (v w : Nodes) (m l : Node) → bare m ≡ bare l → (q : NodeId) (j : List ℕ) → ((z : NodeId) → IsChild v q j z → IsChild w q j z) → (z : NodeId) → IsChild (insert v y m) q j z → IsChild (insert w y l) q j z
  child_to v w m l b q j over z c = elim (here_or_old v y m z c.node c.there) [
    | inl i ↦ record {
      node = l;
      there = ap (get (insert w y l)) i.0 ∙ get_here w y l;
      made = c.made;
      parent = sym (parent_alike m l b) ∙ sym (ap (λ (a : Node). a.parent) i.1) ∙ c.parent;
      key = sym (key_alike m l b) ∙ sym (ap (λ (a : Node). a.key) i.1) ∙ c.key;
    }
    | inr old ↦
        let d = over z (record { node = c.node; there = old.1; made = c.made; parent = c.parent; key = c.key }) in
        record { node = d.node; there = get_other w y l z old.0 ∙ d.there; made = c.made; parent = d.parent; key = d.key }
  ]

  slot_put : (q : NodeId) (j : List ℕ) → SameSlot t u q j → SameSlot (insert t y n) (insert u y k) q j
  slot_put q j s = (
    field_put q j s,
    same_child (insert t y n) (insert u y k) h2 q j
        (child_to t u n k e q j (λ z c. carried t u f q j z s.1 c))
        (child_to u t k n (sym e) q j (λ z c. carried u t g q j z (sym s.1) c)),
  )

  matched_put : AreMatched t u → AreMatched (insert t y n) (insert u y k)
  matched_put m q a b is so = elim (here_or_old t y n q a is) [
    | inl i ↦ elim (here_or_old u y k q b so) [
      | inl j ↦ subst (λ (z : Node). IsMatched z.kind b.kind) (sym i.1) (subst (λ (z : Node). IsMatched n.kind z.kind) (sym j.1) (kinds m))
      | inr old ↦ absurd (old.0 i.0)
    ]
    | inr was ↦ elim (here_or_old u y k q b so) [ inl j ↦ absurd (was.0 j.0) | inr old ↦ m q a b was.1 old.1 ]
  ]

  pub kept_put : Kept t u (insert t y n) (insert u y k)
  kept_put = record { node = node_put; slot = slot_put; matched = matched_put }

-- taking nodes out

abbrev pub gone_of : Nodes → Option NodeId → NodeId → Bool
gone_of t None q = false
gone_of t (Some y) q = is_hit t y q

abbrev pub gone_at : {V : Type 0} → Nodes → NodeId → List (List ℕ × V) → NodeId → Bool
gone_at t x [] q = false
gone_at t x (e ∷ es) q = gone_of t (child_at t x e.0) q || gone_at t x es q

abbrev pub plain : FieldsOf → FieldsOf
plain fs = fs

plain_kind : (kind : Kind) → fields_kind plain kind ≡ kind
plain_kind (Object fs) = refl
plain_kind Listed = refl
plain_kind Mapped = refl
plain_kind (Register v) = refl

edited_plain : (b : Bool) (n : Node) → edited_by b plain n ≡ n
edited_plain true n = ap (λ (k : Kind). record n { kind = k }) (plain_kind n.kind)
edited_plain false n = refl

map_plain : (x q : NodeId) (o : Option Node) → option_map (edited x plain q) o ≡ o
map_plain x q None = refl
map_plain x q (Some n) = ap Some (edited_plain (is_same q x) n)

removed_by : (b : Bool) (o : Option Node) → cond (not b) o None ≡ cond (is_some o && b) None o
removed_by true None = refl
removed_by true (Some n) = refl
removed_by false None = refl
removed_by false (Some n) = refl

pub acts_without : (t : Nodes) (x : NodeId) (o : Option NodeId) → Acts t (without t o) (gone_of t o) x plain
acts_without t x None = record { at = λ q. sym (map_plain x q (get t q)) }
acts_without t x (Some y) = record { at = λ q. get_removed t y q ∙ removed_by (is_below t y q) (get t q) ∙ sym (map_plain x q (cond (is_hit t y q) None (get t q))) }

pub acts_plain : (t u : Nodes) (gone : NodeId → Bool) (x : NodeId) → ((q : NodeId) → get u q ≡ cond (gone q) None (get t q)) → Acts t u gone x plain
acts_plain t u gone x h = record { at = λ q. h q ∙ sym (map_plain x q (cond (gone q) None (get t q))) }

-- and then the fields of a node that stays
pub acts_then : (t u : Nodes) (gone : NodeId → Bool) (x : NodeId) (g : FieldsOf → FieldsOf) (n : Node) → Acts t u gone x plain → get u x ≡ Some n → Acts t (insert u x (on_fields g n)) gone x g
acts_then t u gone x g n a e = record {
  at = λ q. elim (one_or_two q x) [
    | inl i ↦
        let w = was_there t u gone x plain a x n e in
        let is : w.0 ≡ n = sym (edited_plain (is_same x x) w.0) ∙ w.3 in
        ap (get (insert u x (on_fields g n))) i ∙ get_here u x (on_fields g n)
        ∙ ap (λ b. Some (edited_by b g n)) (sym (same_self x)) ∙ ap (λ m. Some (edited x g x m)) (sym is)
        ∙ sym (ap (λ b. option_map (edited x g x) (cond b None (get t x))) w.2 ∙ ap (option_map (edited x g x)) w.1)
        ∙ ap (λ z. option_map (edited x g z) (cond (gone z) None (get t z))) (sym i)
    | inr d ↦
        get_other u x (on_fields g n) q d ∙ a.at q ∙ map_plain x q (cond (gone q) None (get t q))
        ∙ sym (ap (λ b. option_map (edited_by b g) (cond (gone q) None (get t q))) (differ q x d) ∙ map_same (cond (gone q) None (get t q)))
  ];
}
