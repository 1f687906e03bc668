-- A tree of which nodes went and one node's fields changed, and a tree into which a node was put: what stays, and what agrees.
use Rattle.std.proofs.Common.{◌≡◌, ◌⊎◌, inl, inr, ℕ, Bool, true, false, cond, List, [], Option, Some, None, option_map, refl, sym, ap, ◌∙◌, subst}
use Rattle.std.specs.Cmp.Lexicographic.{slice_cmp}
use Rattle.std.specs.FinMap.{get, find}
use Rattle.std.specs.Ordering.{nat_cmp}
use Rattle.room_json.specs.Value.{Value}
use Rattle.room_ids.specs.Order.{is_same}
use Rattle.room_ids.specs.declared.ids.NodeId.{NodeId}
use Rattle.room_ids.specs.declared.ids.NodeId.TheVariants.{Root}
use Rattle.room_nodes.specs.Cells.{SameSlot, bare, field_at}
use Rattle.room_nodes.specs.Ordered.{AreOrdered, IsOrderedKind}
use Rattle.room_nodes.specs.Primitives.{fields_in, kind_fields}
use Rattle.room_nodes.specs.Shape.{Nodes, IsFormed, child_at}
use Rattle.room_nodes.specs.Steps.{fields_kind, holds_object, on_fields}
use Rattle.room_nodes.specs.declared.nodes.Kind.{Kind}
use Rattle.room_nodes.specs.declared.nodes.Kind.TheVariants.{Object, List as Listed, Map as Mapped, Register}
use Rattle.room_nodes.specs.declared.nodes.Node.{Node}
use Rattle.room_nodes.proofs.Gets.{same, some_inj, some_none}
use Rattle.room_nodes.proofs.StepForm.{FieldsOf}
use Rattle.room_steps.proofs.Alike.{Alike, bare_fields}
use Rattle.room_steps.proofs.Keeping.{of_kind}
use Rattle.room_steps.proofs.Kin.{IsChild, carried, same_child}

-- a change of one node's fields

abbrev pub edited_by : Bool → (FieldsOf → FieldsOf) → Node → Node
edited_by b g n = cond b (on_fields g n) n

abbrev pub edited : NodeId → (FieldsOf → FieldsOf) → NodeId → Node → Node
edited x g q = edited_by (is_same q x) g

edited_parent : (b : Bool) (g : FieldsOf → FieldsOf) (n : Node) → (edited_by b g n).parent ≡ n.parent
edited_parent true g n = refl
edited_parent false g n = refl

edited_key : (b : Bool) (g : FieldsOf → FieldsOf) (n : Node) → (edited_by b g n).key ≡ n.key
edited_key true g n = refl
edited_key false g n = refl

edited_bare : (b : Bool) (g : FieldsOf → FieldsOf) (n : Node) → bare (edited_by b g n) ≡ bare n
edited_bare true g n = bare_fields g n
edited_bare false g n = refl

-- nodes gone and the fields of x changed
pub record Acts (t u : Nodes) (gone : NodeId → Bool) (x : NodeId) (g : FieldsOf → FieldsOf) : Type 0 where
  pub at : (q : NodeId) → get u q ≡ option_map (edited x g q) (cond (gone q) None (get t q))

module _ (t u : Nodes) (gone : NodeId → Bool) (x : NodeId) (g : FieldsOf → FieldsOf) (a : Acts t u gone x g) where
  old_by : (q : NodeId) (m : Node) (b : Bool) (o : Option Node) → gone q ≡ b → get t q ≡ o → option_map (edited x g q) (cond b None o) ≡ Some m
      → (n : Node) × (get t q ≡ Some n) × (gone q ≡ false) × (edited x g q n ≡ m)
  old_by q m true o gb e h = absurd (some_none m (sym h))
  old_by q m false None gb e h = absurd (some_none m (sym h))
  old_by q m false (Some n) gb e h = (n, e, gb, some_inj (edited x g q n) m h)

  pub was_there : (q : NodeId) (m : Node) → get u q ≡ Some m → (n : Node) × (get t q ≡ Some n) × (gone q ≡ false) × (edited x g q n ≡ m)
  was_there q m e = old_by q m _ _ refl refl (sym (a.at q) ∙ e)

  pub stays_there : (q : NodeId) (n : Node) → get t q ≡ Some n → gone q ≡ false → get u q ≡ Some (edited x g q n)
  stays_there q n e h = a.at q ∙ ap (λ b. option_map (edited x g q) (cond b None (get t q))) h ∙ ap (option_map (edited x g q)) e

  pub child_was : (p : NodeId) (k : List ℕ) (y : NodeId) → IsChild u p k y → IsChild t p k y × (gone y ≡ false)
  child_was p k y c =
      let w = was_there y c.node c.there in (
        record {
          node = w.0;
          there = w.1;
          made = c.made;
          parent = sym (edited_parent (is_same y x) g w.0) ∙ ap (λ (v : Node). v.parent) w.3 ∙ c.parent;
          key = sym (edited_key (is_same y x) g w.0) ∙ ap (λ (v : Node). v.key) w.3 ∙ c.key;
        },
        w.2,
      )

  pub child_stays : (p : NodeId) (k : List ℕ) (y : NodeId) → IsChild t p k y → gone y ≡ false → IsChild u p k y
  child_stays p k y c h = record {
    node = edited x g y c.node;
    there = stays_there y c.node c.there h;
    made = c.made;
    parent = edited_parent (is_same y x) g c.node ∙ c.parent;
    key = edited_key (is_same y x) g c.node ∙ c.key;
  }

-- the same change of two trees keeps what they agree on

bare_left : (x : NodeId) (g : FieldsOf → FieldsOf) (q : NodeId) (b : Bool) (o : Option Node) → option_map bare (option_map (edited x g q) (cond b None o)) ≡ cond b None (option_map bare o)
bare_left x g q true o = refl
bare_left x g q false None = refl
bare_left x g q false (Some n) = ap Some (edited_bare (is_same q x) g n)

-- each field after is made of the one before
abbrev pub IsByName : (FieldsOf → FieldsOf) → Type 0
IsByName g = (k : List ℕ) (es fs : FieldsOf) → find (slice_cmp nat_cmp) k es ≡ find (slice_cmp nat_cmp) k fs → find (slice_cmp nat_cmp) k (g es) ≡ find (slice_cmp nat_cmp) k (g fs)

abbrev pub found_in : List ℕ → Option Node → Option Value
found_in k o = find (slice_cmp nat_cmp) k (fields_in o)

module _ (g : FieldsOf → FieldsOf) (local : IsByName g) (k : List ℕ) where
  kinds_same : (a b : Kind) → holds_object (Some (record { parent = Root; key = []; depth = 0; kind = a })) ≡ holds_object (Some (record { parent = Root; key = []; depth = 0; kind = b }))
      → find (slice_cmp nat_cmp) k (kind_fields a) ≡ find (slice_cmp nat_cmp) k (kind_fields b)
      → find (slice_cmp nat_cmp) k (kind_fields (fields_kind g a)) ≡ find (slice_cmp nat_cmp) k (kind_fields (fields_kind g b))
  kinds_same (Object es) (Object fs) h e = local k es fs e
  kinds_same (Object es) Listed h e = cc
  kinds_same (Object es) Mapped h e = cc
  kinds_same (Object es) (Register v) h e = cc
  kinds_same Listed (Object fs) h e = cc
  kinds_same Listed Listed h e = refl
  kinds_same Listed Mapped h e = refl
  kinds_same Listed (Register v) h e = refl
  kinds_same Mapped (Object fs) h e = cc
  kinds_same Mapped Listed h e = refl
  kinds_same Mapped Mapped h e = refl
  kinds_same Mapped (Register v) h e = refl
  kinds_same (Register w) (Object fs) h e = cc
  kinds_same (Register w) Listed h e = refl
  kinds_same (Register w) Mapped h e = refl
  kinds_same (Register w) (Register v) h e = refl

  none_object : (a : Kind) → holds_object None ≡ holds_object (Some (record { parent = Root; key = []; depth = 0; kind = a })) → None ≡ find (slice_cmp nat_cmp) k (kind_fields (fields_kind g a))
  none_object (Object fs) h = cc
  none_object Listed h = refl
  none_object Mapped h = refl
  none_object (Register v) h = refl

  changed_same : (o w : Option Node) → holds_object o ≡ holds_object w → found_in k o ≡ found_in k w → found_in k (option_map (on_fields g) o) ≡ found_in k (option_map (on_fields g) w)
  changed_same None None h e = refl
  changed_same None (Some n) h e = none_object n.kind h
  changed_same (Some m) None h e = sym (none_object m.kind (sym h))
  changed_same (Some m) (Some n) h e = kinds_same m.kind n.kind h e

-- fields that stand in order in both, or are the same

abbrev pub IsMatched : Kind → Kind → Type 0
IsMatched a b = (IsOrderedKind a × IsOrderedKind b) ⊎ (a ≡ b)

abbrev pub AreMatched : Nodes → Nodes → Type 0
AreMatched t u = (q : NodeId) (m n : Node) → get t q ≡ Some m → get u q ≡ Some n → IsMatched m.kind n.kind

module _ (g : FieldsOf → FieldsOf) (orders : (fs : FieldsOf) → AreOrdered fs → AreOrdered (g fs)) where
  matched_kinds : (a b : Kind) → IsMatched a b → IsMatched (fields_kind g a) (fields_kind g b)
  matched_kinds a b h = elim h [ inl o ↦ inl (of_kind IsOrderedKind g orders a o.0, of_kind IsOrderedKind g orders b o.1) | inr e ↦ inr (ap (fields_kind g) e) ]

  matched_by : (c : Bool) (m n : Node) → IsMatched m.kind n.kind → IsMatched (edited_by c g m).kind (edited_by c g n).kind
  matched_by true m n h = matched_kinds m.kind n.kind h
  matched_by false m n h = h

-- what t and u agree on, the two after them agree on
pub record Kept (t u t2 u2 : Nodes) : Type 0 where
  pub node : (q : NodeId) → Alike (get t q) (get u q) → Alike (get t2 q) (get u2 q)
  pub slot : (q : NodeId) (k : List ℕ) → SameSlot t u q k → SameSlot t2 u2 q k
  pub matched : AreMatched t u → AreMatched t2 u2

pub map_same : (o : Option Node) → option_map (λ (n : Node). n) o ≡ o
map_same None = refl
map_same (Some n) = refl

module _ (t u t2 u2 : Nodes) (gt gu : NodeId → Bool) (x : NodeId) (g : FieldsOf → FieldsOf) (a : Acts t t2 gt x g) (b : Acts u u2 gu x g)
    (orders : (fs : FieldsOf) → AreOrdered fs → AreOrdered (g fs)) (gones : (q : NodeId) → gt q ≡ gu q) (f : IsFormed t) (h : IsFormed u) (f2 : IsFormed t2) (h2 : IsFormed u2) (local : IsByName g) (objects : holds_object (get t x) ≡ holds_object (get u x)) where
  node_kept : (q : NodeId) → Alike (get t q) (get u q) → Alike (get t2 q) (get u2 q)
  node_kept q e =
      ap (option_map bare) (a.at q) ∙ bare_left x g q (gt q) (get t q) ∙ ap (λ c. cond c None (option_map bare (get t q))) (gones q) ∙ ap (cond (gu q) None) e
      ∙ sym (bare_left x g q (gu q) (get u q)) ∙ sym (ap (option_map bare) (b.at q))

  field_by : (q : NodeId) (k : List ℕ) (c s : Bool) → is_same q x ≡ s → found_in k (get t q) ≡ found_in k (get u q)
      → found_in k (option_map (edited_by s g) (cond c None (get t q))) ≡ found_in k (option_map (edited_by s g) (cond c None (get u q)))
  field_by q k true s is e = refl
  field_by q k false true is e = changed_same g local k (get t q) (get u q) (ap (λ z. holds_object (get t z)) (same q x is) ∙ objects ∙ ap (λ z. holds_object (get u z)) (sym (same q x is))) e
  field_by q k false false is e = ap (found_in k) (map_same (get t q)) ∙ e ∙ ap (found_in k) (sym (map_same (get u q)))

  field_kept : (q : NodeId) (k : List ℕ) → field_at t q k ≡ field_at u q k → field_at t2 q k ≡ field_at u2 q k
  field_kept q k e =
      ap (found_in k) (a.at q) ∙ field_by q k (gt q) (is_same q x) refl e
      ∙ ap (λ c. found_in k (option_map (edited x g q) (cond c None (get u q)))) (gones q) ∙ sym (ap (found_in k) (b.at q))

  child_kept : (q : NodeId) (k : List ℕ) → child_at t q k ≡ child_at u q k → child_at t2 q k ≡ child_at u2 q k
  child_kept q k e = same_child t2 u2 h2 q k
      (λ y c. let w = child_was t t2 gt x g a q k y c in child_stays u u2 gu x g b q k y (carried t u f q k y e w.0) (sym (gones y) ∙ w.1))
      (λ y c. let w = child_was u u2 gu x g b q k y c in child_stays t t2 gt x g a q k y (carried u t h q k y (sym e) w.0) (gones y ∙ w.1))

  slot_kept : (q : NodeId) (k : List ℕ) → SameSlot t u q k → SameSlot t2 u2 q k
  slot_kept q k s = (field_kept q k s.0, child_kept q k s.1)

  matched_kept : AreMatched t u → AreMatched t2 u2
  matched_kept h q m n e d =
      let v = was_there t t2 gt x g a q m e in
      let w = was_there u u2 gu x g b q n d in
      subst (λ (z : Node). IsMatched z.kind n.kind) v.3 (subst (λ (z : Node). IsMatched (edited x g q v.0).kind z.kind) w.3 (matched_by g orders (is_same q x) v.0 w.0 (h q v.0 w.0 v.1 w.1)))

  pub kept_changed : Kept t u t2 u2
  kept_changed = record { node = node_kept; slot = slot_kept; matched = matched_kept }
