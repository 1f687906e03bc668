-- The names of the fields that an operation changes, and what it does last, lie in its cells.
use Rattle.std.proofs.Common.{◌≡◌, ◌≢◌, inl, inr, ℕ, Bool, true, false, cond, ◌||◌, List, [], ◌∷◌}
use Rattle.std.proofs.Common.{Option, Some, None, is_some, refl, sym, ap, ◌∙◌, subst}
use Rattle.std.specs.Cmp.Lexicographic.{slice_cmp}
use Rattle.std.specs.FinMap.{get, find}
use Rattle.std.specs.Ordering.{nat_cmp, eq_by_cmp}
use Rattle.room_json.specs.Value.{Value}
use Rattle.room_ids.specs.Order.{is_same}
use Rattle.room_ids.specs.declared.ids.NodeId.{NodeId}
use Rattle.room_nodes.specs.Cells.{overlaps_some, replaced_cells, slot_cells}
use Rattle.room_nodes.specs.Cells.{slots_cells}
use Rattle.room_nodes.specs.Shape.{Nodes, up}
use Rattle.room_nodes.specs.Steps.{holds_list, is_void, with_fields, without_field}
use Rattle.room_nodes.specs.declared.cells.Cell.{Cell}
use Rattle.room_nodes.specs.declared.cells.Cell.TheVariants.{Node as NodeOf, Slot, All}
use Rattle.room_nodes.specs.declared.nodes.Body.{Body}
use Rattle.room_nodes.specs.declared.nodes.Body.TheVariants.{SetKey, Create, Update, DeleteKey}
use Rattle.room_nodes.specs.declared.nodes.Kind.{Kind}
use Rattle.room_nodes.proofs.Gets.{same_self, true_false}
use Rattle.room_nodes.proofs.Steps.{neither, not_false}
use Rattle.room_steps.proofs.Booleans.{or_left, or_right, and_both}
use Rattle.room_steps.proofs.Covering.{covered-append}
use Rattle.room_steps.proofs.Fields.{Named, beside_without, key_self, same_name, with_beside}
use Rattle.room_apply.specs.Within.{FieldsOf, AreFieldsIn, IsKeyIn, IsNodeIn, IsPlaceIn, IsSlotIn, cells, is_name}
use Rattle.room_apply.proofs.Gone.{in_effect, in_reads, read_beside, read_create}

-- a field that goes

module _ (k : List ℕ) (v : Value) where
  hit : (b : Bool) → is_some (cond b (Some v) None) ≡ b
  hit true = refl
  hit false = refl

  only : (j : List ℕ) → is_name j ((k, v) ∷ []) ≡ true → j ≡ k
  only j e = same_name j k (sym (hit (eq_by_cmp (slice_cmp nat_cmp) j k)) ∙ e)

  other : (j : List ℕ) → is_name j ((k, v) ∷ []) ≡ false → k ≢ j
  other j e is = true_false (sym (hit (eq_by_cmp (slice_cmp nat_cmp) j k)
      ∙ ap (λ i. eq_by_cmp (slice_cmp nat_cmp) j i) is ∙ key_self j) ∙ e)

pub cleared_in : (cs : List Cell) (x : NodeId) (k : List ℕ) (v : Value) (gs : FieldsOf) → IsNodeIn cs x
    → IsSlotIn cs x k → AreFieldsIn cs ((k, v) ∷ []) x (without_field k gs) gs
cleared_in cs x k v gs node slot = record {
  node = node;
  names = λ j e. subst (IsSlotIn cs x) (sym (only k v j e)) slot;
  others = λ j e. beside_without j k gs (other k v j e);
}

-- fields that are set

module _ (t : Nodes) (x : NodeId) where
  set_by : (f : List ℕ × Value) (fs : FieldsOf) (j : List ℕ) (b : Bool) → eq_by_cmp (slice_cmp nat_cmp) j f.0 ≡ b
      → is_some (cond b (Some f.1) (find (slice_cmp nat_cmp) j fs)) ≡ true
      → (is_some (find (slice_cmp nat_cmp) j fs) ≡ true → overlaps_some (Slot x j) (slots_cells t x fs) ≡ true)
      → (overlaps_some (Slot x j) (slot_cells t x f.0) || overlaps_some (Slot x j) (slots_cells t x fs)) ≡ true
  set_by f fs j true is e more = or_left _ _
      (or_left _ _ (and_both (is_same x x) (eq_by_cmp (slice_cmp nat_cmp) j f.0) (same_self x) is))
  set_by f fs j false is e more = or_right (overlaps_some (Slot x j) (slot_cells t x f.0)) _ (more e)

  set_in : (fs : FieldsOf) (j : List ℕ) → is_name j fs ≡ true → overlaps_some (Slot x j) (slots_cells t x fs) ≡ true
  set_in [] j e = cc
  set_in (f ∷ fs) j e = covered-append (Slot x j) (slot_cells t x f.0) (slots_cells t x fs)
      ∙ set_by f fs j _ refl e (set_in fs j)

found_by : (b : Bool) (v : Value) (o : Option Value) → is_some o ≡ true → is_some (cond b (Some v) o) ≡ true
found_by true v o e = refl
found_by false v o e = e

named_found : (j : List ℕ) (fs : FieldsOf) → Named j fs → is_name j fs ≡ true
named_found j [] h = absurd h
named_found j (f ∷ fs) h = elim h [
  | inl is ↦ ap (λ b. is_some (cond b (Some f.1) (find (slice_cmp nat_cmp) j fs)))
      (ap (eq_by_cmp (slice_cmp nat_cmp) j) is ∙ key_self j)
  | inr m ↦ found_by (eq_by_cmp (slice_cmp nat_cmp) j f.0) f.1 (find (slice_cmp nat_cmp) j fs) (named_found j fs m)
]

pub update_in : (t : Nodes) (x : NodeId) (fs gs : FieldsOf) → is_void t (Update x fs) ≡ false
    → AreFieldsIn (cells t (Update x fs)) fs x (with_fields fs gs) gs
update_in t x fs gs live = record {
  node = in_reads (NodeOf x) t (Update x fs) (or_left _ _ (same_self x));
  names = λ j e. in_effect (Slot x j) t (Update x fs) live (set_in t x fs j e);
  others = λ j e. with_beside gs j fs gs (λ m. true_false (sym (named_found j fs m) ∙ e));
}

-- a key that goes

module _ (t : Nodes) (x : NodeId) (k : List ℕ) where
  pub delete_node : IsNodeIn (cells t (DeleteKey x k)) x
  delete_node = in_reads (NodeOf x) t (DeleteKey x k) (or_left _ _ (same_self x))

  pub delete_slot : is_void t (DeleteKey x k) ≡ false → IsSlotIn (cells t (DeleteKey x k)) x k
  delete_slot live = in_effect (Slot x k) t (DeleteKey x k) live
      (or_left _ _ (and_both (is_same x x) _ (same_self x) (key_self k)))

  -- a key that is set
  pub key_in_cells : is_void t (SetKey x k) ≡ false → IsKeyIn (cells t (SetKey x k)) x (up t x)
  key_in_cells live = record {
    node = in_effect (NodeOf x) t (SetKey x k) live (or_left _ _ (same_self x));
    parent = in_reads (NodeOf (up t x)) t (SetKey x k)
        (read_beside t x [] x (get t x) (not_false _ (neither _ _ live).0));
    slots = λ j. in_effect (Slot (up t x) j) t (SetKey x k) live (or_left _ _ (same_self (up t x)));
  }

-- a new node

module _ (t : Nodes) (x p : NodeId) (k : List ℕ) (r : Option NodeId) (kind : Kind) where
  abbrev body : Body
  body = Create x p k r kind

  pub create_parent : IsNodeIn (cells t body) p
  create_parent = in_reads (NodeOf p) t body (read_create t x [] x p r (holds_list (get t p)))

  rest_in : (b : Bool) → overlaps_some (Slot p k) (cond b (All p ∷ replaced_cells t p r) (slot_cells t p k)) ≡ true
  rest_in true = or_left _ _ (same_self p)
  rest_in false = or_left _ _ (and_both (is_same p p) _ (same_self p) (key_self k))

  pub create_slot : is_void t body ≡ false → IsSlotIn (cells t body) p k
  create_slot live = in_effect (Slot p k) t body live (or_right (is_same p x) _ (rest_in (holds_list (get t p))))

  pub create_in : is_void t body ≡ false → IsPlaceIn (cells t body) x p k
  create_in live = record {
    node = in_effect (NodeOf x) t body live (or_left _ _ (same_self x));
    slots = λ j. in_effect (Slot x j) t body live (or_left _ _ (same_self x));
    parent = create_parent;
    slot = create_slot live;
  }
