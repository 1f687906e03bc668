-- Operation by operation: what stays outside its written cells, and what it keeps of what two trees agree on.
use Rattle.std.proofs.Common.{◌≡◌, ◌≢◌, inl, inr, ℕ, Bool, true, false, cond, not, List, [], ◌∷◌, Some, None, refl, sym, ap, ◌∙◌, subst}
use Rattle.std.specs.Cmp.Lexicographic.{slice_cmp}
use Rattle.std.specs.FinMap.{get, put}
use Rattle.std.specs.FinMap.Entries.{find-put}
use Rattle.std.specs.Ordering.{nat_cmp, eq_by_cmp}
use Rattle.std.proofs.lemmas.Cmp.{nat_list_cmp_total}
use Rattle.room_ids.specs.Order.{is_same}
use Rattle.room_ids.specs.declared.ids.NodeId.{NodeId}
use Rattle.room_ids.specs.declared.ids.NodeId.TheVariants.{Root}
use Rattle.room_nodes.specs.Cells.{Agrees, overlaps, overlaps_some, writes, effect_cells, removal_cells, removal_of, slot_cells, slots_cells}
use Rattle.room_nodes.specs.Primitives.{key_in}
use Rattle.room_nodes.specs.Shape.{Nodes, IsFormed, child_at, parent_of, removed, up}
use Rattle.room_nodes.specs.Steps.{step, effect, is_void, settled_body, changed, holds_list, holds_object, on_fields, with_fields, without_child, without_children, without_field}
use Rattle.room_nodes.specs.declared.cells.Cell.{Cell}
use Rattle.room_nodes.specs.declared.cells.Cell.TheVariants.{Slot, All}
use Rattle.room_nodes.specs.declared.nodes.Body.{Body}
use Rattle.room_nodes.specs.declared.nodes.Body.TheVariants.{Update, Delete, DeleteKey}
use Rattle.room_nodes.specs.declared.nodes.Node.{Node}
use Rattle.room_nodes.proofs.Fitting.{some_of}
use Rattle.room_nodes.proofs.Formed.{formed-removed}
use Rattle.room_nodes.proofs.Gets.{same_self, some_inj, true_false}
use Rattle.room_nodes.proofs.StepForm.{FieldsOf, at_node, object_there, cut_child, cut_children, formed-cleared, formed-update}
use Rattle.room_nodes.proofs.Steps.{neither, not_false}
use Rattle.room_steps.proofs.Booleans.{or_left, or_right}
use Rattle.room_steps.proofs.Alike.{Alike, parent_same, key_same, holds_list_same, holds_object_same}
use Rattle.room_steps.proofs.Changing.{Acts, IsByName, Kept, kept_changed}
use Rattle.room_steps.proofs.Covering.{covered-append}
use Rattle.room_steps.proofs.Fields.{Named, beside_without, find_without, ordered_with, ordered_without, with_beside}
use Rattle.room_steps.proofs.Touching.{Framed, IsOut, child_out, covered_out, covered_slot, covered_slots, gone_at_out, gone_same, gones_same, left_at, own_slot, removals_same, slot_cells_same, slots_cells_same}
use Rattle.room_steps.proofs.Framing.{AreKept, Covered, node_framed, slot_framed, gone_of, gone_at, plain, acts_plain, acts_then, acts_without}
use Rattle.room_steps.proofs.Restoring.{step_acts, step_void}

-- the two things that hold of a step

pub record IsLocal (t u : Nodes) (b : Body) : Type 0 where
  pub kept : Kept t u (step t b) (step u b)
  pub cells : writes t b ≡ writes u b

abbrev pub IsFramed : Nodes → Body → Type 0
IsFramed t b = Framed t (step t b) (writes t b)

pub writes_by : (t : Nodes) (b : Body) (v : Bool) → is_void t b ≡ v → writes t b ≡ cond v [] (effect_cells t b)
writes_by t b v e = ap (λ w. cond w [] (effect_cells t b)) e

pub framed_void : (t : Nodes) (b : Body) → is_void t b ≡ true → IsFramed t b
framed_void t b e = subst (λ (v : Nodes). Framed t v (writes t b)) (sym (step_void t b e)) (record { node = λ q h. refl; slot = λ q k h. (refl, refl) })

pub framed_live : (t : Nodes) (b : Body) → is_void t b ≡ false → Framed t (effect t (settled_body t b)) (effect_cells t b) → IsFramed t b
framed_live t b e h = subst (λ (v : Nodes). Framed t v (writes t b)) (sym (step_acts t b e)) (subst (Framed t (effect t (settled_body t b))) (sym (writes_by t b false e)) h)

pub local_void : (t u : Nodes) (b : Body) → is_void t b ≡ true → is_void u b ≡ true → IsLocal t u b
local_void t u b e d = record {
  kept = subst (λ (v : Nodes). Kept t u v (step u b)) (sym (step_void t b e)) (subst (Kept t u t) (sym (step_void u b d)) (record { node = λ q h. h; slot = λ q k h. h; matched = λ h. h }));
  cells = writes_by t b true e ∙ sym (writes_by u b true d);
}

pub local_live : (t u : Nodes) (b : Body) → is_void t b ≡ false → is_void u b ≡ false → Kept t u (effect t (settled_body t b)) (effect u (settled_body u b)) → effect_cells t b ≡ effect_cells u b → IsLocal t u b
local_live t u b e d h c = record {
  kept = subst (λ (v : Nodes). Kept t u v (step u b)) (sym (step_acts t b e)) (subst (Kept t u (effect t (settled_body t b))) (sym (step_acts u b d)) h);
  cells = writes_by t b false e ∙ c ∙ sym (writes_by u b false d);
}

-- changes of fields, name by name

pub by_name_plain : IsByName plain
by_name_plain k es fs e = e

by_name_without : (k : List ℕ) → IsByName (without_field k)
by_name_without k j es fs e = find_without j k es ∙ ap (λ o. cond (not (eq_by_cmp (slice_cmp nat_cmp) k j)) o None) e ∙ sym (find_without j k fs)

by_name_with : (ds : FieldsOf) → IsByName (with_fields ds)
by_name_with [] k es fs e = e
by_name_with (d ∷ ds) k es fs e = by_name_with ds k (put (slice_cmp nat_cmp) d.0 d.1 es) (put (slice_cmp nat_cmp) d.0 d.1 fs)
    (find-put (slice_cmp nat_cmp) nat_list_cmp_total k d.0 d.1 es ∙ ap (cond (eq_by_cmp (slice_cmp nat_cmp) k d.0) (Some d.1)) e ∙ sym (find-put (slice_cmp nat_cmp) nat_list_cmp_total k d.0 d.1 fs))

off_other : (x : NodeId) (j k : List ℕ) → overlaps (Slot x j) (Slot x k) ≡ false → k ≢ j
off_other x j k h e = true_false (sym (own_slot x j) ∙ ap (λ i. overlaps (Slot x j) (Slot x i)) (sym e) ∙ h)

kept_without : (x : NodeId) (k : List ℕ) (ds : List Cell) → AreKept (without_field k) x (Slot x k ∷ ds)
kept_without x k ds j off es = beside_without j k es (off_other x j k (neither (overlaps (Slot x j) (Slot x k)) _ off).0)

off_named : (t : Nodes) (x : NodeId) (j : List ℕ) (fs : FieldsOf) → overlaps_some (Slot x j) (slots_cells t x fs) ≡ false → Named j fs → ⊥
off_named t x j [] off m = m
off_named t x j (e ∷ fs) off m =
    let a = neither (overlaps_some (Slot x j) (slot_cells t x e.0)) _ (sym (covered-append (Slot x j) (slot_cells t x e.0) (slots_cells t x fs)) ∙ off) in
    elim m [
      | inl is ↦ off_other x j e.0 (neither (overlaps (Slot x j) (Slot x e.0)) _ a.0).0 is
      | inr m ↦ off_named t x j fs a.1 m
    ]

kept_with : (t : Nodes) (x : NodeId) (fs : FieldsOf) → AreKept (with_fields fs) x (slots_cells t x fs)
kept_with t x fs j off es = with_beside [] j fs es (off_named t x j fs off)

-- the slot at a key emptied

abbrev pub emptied : Nodes → NodeId → List ℕ → Nodes
emptied t x k = changed (without_child t x k) x (on_fields (without_field k))

module _ (t : Nodes) (f : IsFormed t) (x : NodeId) (k : List ℕ) (n : Node) (there : get t x ≡ Some n) where
  still : get (without_child t x k) x ≡ Some n
  still = (cut_child x t f k).0.here ∙ there

  emptied_acts : Acts t (emptied t x k) (gone_of t (child_at t x k)) x (without_field k)
  emptied_acts =
      subst (λ (v : Nodes). Acts t v (gone_of t (child_at t x k)) x (without_field k)) (sym (at_node (without_child t x k) x (on_fields (without_field k)) n still))
      (acts_then t (without_child t x k) (gone_of t (child_at t x k)) x (without_field k) n (acts_without t x (child_at t x k)) still)

  pub emptied_formed : IsFormed (emptied t x k)
  emptied_formed = formed-cleared t f x x k n there

  pub emptied_framed : Framed t (emptied t x k) (slot_cells t x k)
  emptied_framed = record {
    node = node_framed t (emptied t x k) (gone_of t (child_at t x k)) x (without_field k) emptied_acts emptied_formed (slot_cells t x k) (covered_slot t f x k) (kept_without x k (removal_of t (child_at t x k)));
    slot = slot_framed t (emptied t x k) (gone_of t (child_at t x k)) x (without_field k) emptied_acts emptied_formed (slot_cells t x k) (covered_slot t f x k) (kept_without x k (removal_of t (child_at t x k)));
  }

module _ (t u : Nodes) (f : IsFormed t) (g : IsFormed u) (x : NodeId) (k : List ℕ) (n m : Node) (there : get t x ≡ Some n) (too : get u x ≡ Some m) (alike : Alike (get t x) (get u x)) (agree : Agrees t u (slot_cells t x k)) where
  gones : (q : NodeId) → gone_of t (child_at t x k) q ≡ gone_of u (child_at u x k) q
  gones q = gone_at_out t u f g (child_at t x k) (child_at u x k) agree.0.1 (child_out t x k) agree.1 q

  pub emptied_kept : Kept t u (emptied t x k) (emptied u x k)
  emptied_kept =
      kept_changed t u (emptied t x k) (emptied u x k) _ _ x (without_field k) (emptied_acts t f x k n there) (emptied_acts u g x k m too) (ordered_without k) gones f g
      (emptied_formed t f x k n there) (emptied_formed u g x k m too) (by_name_without k) (holds_object_same _ _ alike)

-- delete key

pub framed_delete_key : (t : Nodes) → IsFormed t → (x : NodeId) (k : List ℕ) → is_void t (DeleteKey x k) ≡ false → IsFramed t (DeleteKey x k)
framed_delete_key t f x k e = let n = object_there (get t x) (not_false _ e) in framed_live t (DeleteKey x k) e (emptied_framed t f x k n.0 n.1)

pub local_delete_key : (t u : Nodes) → IsFormed t → IsFormed u → (x : NodeId) (k : List ℕ) → is_void t (DeleteKey x k) ≡ false → is_void u (DeleteKey x k) ≡ false
    → Alike (get t x) (get u x) → Agrees t u (slot_cells t x k) → IsLocal t u (DeleteKey x k)
local_delete_key t u f g x k e d alike agree =
    let n = object_there (get t x) (not_false _ e) in
    let m = object_there (get u x) (not_false _ d) in
    local_live t u (DeleteKey x k) e d (emptied_kept t u f g x k n.0 m.0 n.1 m.1 alike agree) (slot_cells_same t u f g x k agree)

-- update

module _ (t : Nodes) (f : IsFormed t) (x : NodeId) (fs : FieldsOf) (n : Node) (there : get t x ≡ Some n) (object : holds_object (get t x) ≡ true) where
  abbrev now : Nodes
  now = changed (without_children t x fs) x (on_fields (with_fields fs))

  left_there : get (without_children t x fs) x ≡ Some n
  left_there = (cut_children x t f fs).0.here ∙ there

  updated_acts : Acts t now (gone_at t x fs) x (with_fields fs)
  updated_acts =
      subst (λ (v : Nodes). Acts t v (gone_at t x fs) x (with_fields fs)) (sym (at_node (without_children t x fs) x (on_fields (with_fields fs)) n left_there))
      (acts_then t (without_children t x fs) (gone_at t x fs) x (with_fields fs) n (acts_plain t (without_children t x fs) (gone_at t x fs) x (λ q. left_at t f x fs q _ refl _ refl)) left_there)

  updated_formed : IsFormed now
  updated_formed = formed-update t f x fs object

  updated_framed : Framed t now (slots_cells t x fs)
  updated_framed = record {
    node = node_framed t now (gone_at t x fs) x (with_fields fs) updated_acts updated_formed (slots_cells t x fs) (covered_slots t f x fs) (kept_with t x fs);
    slot = slot_framed t now (gone_at t x fs) x (with_fields fs) updated_acts updated_formed (slots_cells t x fs) (covered_slots t f x fs) (kept_with t x fs);
  }

pub framed_update : (t : Nodes) → IsFormed t → (x : NodeId) (fs : FieldsOf) → is_void t (Update x fs) ≡ false → IsFramed t (Update x fs)
framed_update t f x fs e = let n = object_there (get t x) (not_false _ e) in framed_live t (Update x fs) e (updated_framed t f x fs n.0 n.1 (not_false _ e))

pub local_update : (t u : Nodes) → IsFormed t → IsFormed u → (x : NodeId) (fs : FieldsOf) → is_void t (Update x fs) ≡ false → is_void u (Update x fs) ≡ false
    → Alike (get t x) (get u x) → Agrees t u (slots_cells t x fs) → IsLocal t u (Update x fs)
local_update t u f g x fs e d alike agree =
    let n = object_there (get t x) (not_false _ e) in
    let m = object_there (get u x) (not_false _ d) in
    let a = updated_acts t f x fs n.0 n.1 (not_false _ e) in
    let b = updated_acts u g x fs m.0 m.1 (not_false _ d) in
    let h = updated_formed t f x fs n.0 n.1 (not_false _ e) in
    let k = updated_formed u g x fs m.0 m.1 (not_false _ d) in
    let same = gones_same t u f g x fs agree in
    local_live t u (Update x fs) e d
    (kept_changed t u _ _ (gone_at t x fs) (gone_at u x fs) x (with_fields fs) a b (ordered_with fs) same f g h k (by_name_with fs) (holds_object_same _ _ alike))
    (slots_cells_same t u f g x fs agree)

-- delete

place_by : (b : Bool) (p : NodeId) (k : List ℕ) → overlaps (Slot p k) (cond b (All p) (Slot p k)) ≡ true
place_by true p k = same_self p
place_by false p k = own_slot p k

made_of : (t : Nodes) (x : NodeId) → is_void t (Delete x) ≡ false → (n : Node) × (get t x ≡ Some n) × (x ≢ Root)
made_of t x e =
    let a = neither _ _ e in
    let n = some_of (get t x) (not_false _ a.0) in
    (n.0, n.1, λ r. true_false (sym (same_self Root) ∙ ap (λ y. is_same y Root) (sym r) ∙ a.1))

out_itself : (t : Nodes) (x : NodeId) (n : Node) → get t x ≡ Some n → x ≢ Root → IsOut t (Some x)
out_itself t x n e made y h = subst (λ (z : NodeId). (m : Node) × (get t z ≡ Some m) × (z ≢ Root)) (some_inj x y h) (n, e, made)

pub framed_delete : (t : Nodes) → IsFormed t → (x : NodeId) → is_void t (Delete x) ≡ false → IsFramed t (Delete x)
framed_delete t f x e =
    let n = made_of t x e in
    let ds = effect_cells t (Delete x) in
    let first : Cell = cond (holds_list (get t (up t x))) (All (up t x)) (Slot (up t x) (key_in (get t x))) in
    let c : Covered t (gone_of t (Some x)) ds = covered_out t f ds (Some x) (out_itself t x n.0 n.1 n.2) (λ c h. or_right (overlaps c first) _ h) (λ y m is there.
    let one : get t x ≡ Some m = ap (get t) (some_inj x y is) ∙ there in
    or_left _ _ (ap (λ o. overlaps (Slot m.parent m.key) (cond (holds_list (get t (parent_of o))) (All (parent_of o)) (Slot (parent_of o) (key_in o)))) one ∙ place_by (holds_list (get t m.parent)) m.parent m.key)) in
    framed_live t (Delete x) e (record {
      node = node_framed t (removed t x) (gone_of t (Some x)) x plain (acts_without t x (Some x)) (formed-removed t x f n.2) ds c (λ k h es. refl);
      slot = slot_framed t (removed t x) (gone_of t (Some x)) x plain (acts_without t x (Some x)) (formed-removed t x f n.2) ds c (λ k h es. refl);
    })

cell_same : (b c : Bool) (p q : NodeId) (j k : List ℕ) → b ≡ c → p ≡ q → j ≡ k → cond b (All p) (Slot p j) ≡ cond c (All q) (Slot q k)
cell_same b c p q j k e d h = λ i. cond (e i) (All (d i)) (Slot (d i) (h i))

pub local_delete : (t u : Nodes) → IsFormed t → IsFormed u → (x : NodeId) → is_void t (Delete x) ≡ false → is_void u (Delete x) ≡ false
    → Alike (get t x) (get u x) → Alike (get t (up t x)) (get u (up t x)) → Agrees t u (removal_cells t x) → IsLocal t u (Delete x)
local_delete t u f g x e d alike above agree =
    let n = made_of t x e in
    let m = made_of u x d in
    let out = out_itself t x n.0 n.1 n.2 in
    let ups : up t x ≡ up u x = parent_same _ _ alike in
    let lists : holds_list (get t (up t x)) ≡ holds_list (get u (up u x)) = holds_list_same _ _ above ∙ ap (λ p. holds_list (get u p)) ups in
    let same = gone_same t u f g (Some x) out agree in
    local_live t u (Delete x) e d
    (kept_changed t u (removed t x) (removed u x) (gone_of t (Some x)) (gone_of u (Some x)) x plain (acts_without t x (Some x)) (acts_without u x (Some x)) (λ fs h. h) same f g
    (formed-removed t x f n.2) (formed-removed u x g m.2) by_name_plain (holds_object_same _ _ alike))
    (ap (λ c. c ∷ removal_cells t x) (cell_same _ _ _ _ _ _ lists ups (key_same _ _ alike)) ∙ ap (λ ds. place u ∷ ds) (removals_same t u f g (Some x) (Some x) refl out agree))
  where
    place : Nodes → Cell
    place v = cond (holds_list (get v (up v x))) (All (up v x)) (Slot (up v x) (key_in (get v x)))
