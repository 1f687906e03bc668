-- An item moved into another gap.
use Rattle.std.proofs.Common.{◌≡◌, ◌≢◌, ◌≤◌, ◌<◌, ℕ, zero, suc, inl, inr, Bool, true, false, cond, not, ◌||◌, List, [], ◌∷◌, length, map, Option, Some, None, option_map, is_some, refl, sym, ap, ◌∙◌, subst, arith}
use Rattle.std.specs.Prelude.{IfSome, slice_get}
use Rattle.std.specs.BTreeMap.{insert_entry}
use Rattle.std.specs.List.{insert as insert_at, remove as remove_at}
use Rattle.std.specs.Cmp.Lexicographic.{slice_cmp}
use Rattle.std.specs.FinMap.{get, find, insert, put}
use Rattle.std.specs.Ordering.{nat_cmp, eq_by_cmp}
use Rattle.std.proofs.lemmas.Option.{slice_get-map}
use Rattle.room_ids.specs.Order.{is_same}
use Rattle.room_ids.specs.Position.{IsBelow, is_pos, between}
use Rattle.room_ids.specs.declared.ids.NodeId.{NodeId}
use Rattle.room_ids.specs.declared.ids.NodeId.TheVariants.{Root}
use Rattle.room_json.specs.Value.{Value, list, values_of}
use Rattle.room_nodes.specs.declared.nodes.Body.TheVariants.{SetKey}
use Rattle.room_nodes.specs.declared.nodes.Kind.TheVariants.{List as Listed}
use Rattle.room_nodes.specs.declared.nodes.Node.{Node}
use Rattle.room_nodes.specs.Ordered.{AreOrdered}
use Rattle.room_nodes.specs.Shape.{Nodes, IsFormed, child_at, children, parent_of, up, is_list}
use Rattle.room_nodes.specs.Steps.{step, effect, is_void, settled_body, settled_key, next_key, is_other, is_placed, holds_list, without_field}
use Rattle.room_nodes.proofs.Fitting.{the_parent}
use Rattle.room_nodes.proofs.Gets.{differ, some_inj, some_none, true_false, get_here, get_other, here_or_old, one_or_two}
use Rattle.room_nodes.proofs.StepForm.{at_node}
use Rattle.room_nodes.proofs.Steps.{formed-step}
use Rattle.room_steps.proofs.Fields.{same_fields, ordered_put, ordered_without, find_without, same_name, key_self}
use Rattle.room_steps.proofs.Kin.{IsChild, child_of, found, same_child, same_children}
use Rattle.room_steps.proofs.Restoring.{step_acts}
use Rattle.room_items.specs.View.{view, view_at, view_within, second}
use Rattle.room_model.specs.Edits.{on_list}
use Rattle.room_effect.specs.Beside.{last_by, left_of, right_of, key_between}
use Rattle.room_effect.specs.Effect.{Changes}
use Rattle.room_effect.proofs.Created.{fits_length}
use Rattle.room_effect.proofs.Emptied.{remove_without}
use Rattle.room_effect.proofs.Indices.{remove_index, insert_index, map_insert, map_remove}
use Rattle.room_effect.proofs.Inserted.{made, made_pos, made_free}
use Rattle.room_effect.proofs.Items.{items_of, list_view, on_items, left_map, right_map}
use Rattle.room_effect.proofs.Keyed.{kids_of, find_kids, kids_ordered, kid_beside, rest_of}
use Rattle.room_effect.proofs.Local.{Kid, Pair, IsLocal}
use Rattle.room_effect.proofs.Members.{insert_put, find_insert}
use Rattle.room_effect.proofs.Taken.{kid_at}

-- the neighbours of a gap, once an entry is out

pub left_after : (es : List Pair) (f t : ℕ) → f < t → t < length es → left_of t (remove_at es f) ≡ left_of (suc t) es
left_after [] f t l m = absurd (omega (arith, m))
left_after (e ∷ es) f zero l m = absurd (omega (arith, l))
left_after (e ∷ []) f (suc t) l m = absurd (let a : suc t < 1 = m in omega (arith, a))
left_after (e ∷ d ∷ es) zero (suc t) l m = refl
left_after (e ∷ d ∷ es) (suc f) (suc t) l m =
    let a : suc t < suc (length (d ∷ es)) = m in
    ap (λ o. Some (last_by e.0 o)) (left_after (d ∷ es) f t (omega (arith, l)) (omega (arith, a)))

pub right_after : (es : List Pair) (f t : ℕ) → f < t → t < length es → right_of t (remove_at es f) ≡ right_of (suc t) es
right_after [] f t l m = absurd (omega (arith, m))
right_after (e ∷ es) f zero l m = absurd (omega (arith, l))
right_after (e ∷ es) zero (suc t) l m = refl
right_after (e ∷ es) (suc f) (suc t) l m = let a : suc t < suc (length es) = m in right_after es f t (omega (arith, l)) (omega (arith, a))

pub left_before : (es : List Pair) (f t : ℕ) → t < f → f < length es → left_of t (remove_at es f) ≡ left_of t es
left_before [] f t l m = absurd (omega (arith, m))
left_before (e ∷ es) zero t l m = absurd (omega (arith, l))
left_before (e ∷ es) (suc f) zero l m = refl
left_before (e ∷ es) (suc f) (suc t) l m = let a : suc f < suc (length es) = m in ap (λ o. Some (last_by e.0 o)) (left_before es f t (omega (arith, l)) (omega (arith, a)))

pub right_before : (es : List Pair) (f t : ℕ) → t < f → f < length es → right_of t (remove_at es f) ≡ right_of t es
right_before [] f t l m = absurd (omega (arith, m))
right_before (e ∷ es) zero t l m = absurd (omega (arith, l))
right_before (e ∷ es) (suc f) zero l m = refl
right_before (e ∷ es) (suc f) (suc t) l m = let a : suc f < suc (length es) = m in right_before es f t (omega (arith, l)) (omega (arith, a))

pub length_removed : (es : List Pair) (f : ℕ) → f < length es → suc (length (remove_at es f)) ≡ length es
length_removed [] f m = absurd (omega (arith, m))
length_removed (e ∷ es) zero m = refl
length_removed (e ∷ es) (suc f) m = let a : suc f < suc (length es) = m in ap suc (length_removed es f (omega (arith, a)))

live_move : (a b l p : Bool) → a ≡ true → b ≡ false → l ≡ true → p ≡ true → (not a || (b || (not l || not p))) ≡ false
live_move a b l p g h i j = rw (g, h, i, j) refl

module _ (t : Nodes) (f : IsFormed t) (x : NodeId) (n : Node) (there : get t x ≡ Some n) (kind : n.kind ≡ Listed) (from : ℕ) (e : Kid) (at : slice_get (children t x) from ≡ Some e)
    (g : ℕ) (within : g ≤ length (children t x)) (k : List ℕ) (is : k ≡ key_between (left_of g (children t x)) (right_of g (children t x))) (fits : length k ≤ 4096) where
  abbrev y : NodeId
  y = e.1

  child : child_at t x e.0 ≡ Some e.1
  child = kid_at t x from e at

  c : IsChild t x e.0 e.1
  c = child_of t x e.0 e.1 child

  free : child_at t x k ≡ None
  free = made_free t f x n there kind g within k is fits

  pos : is_pos k ≡ true
  pos = made_pos t f x n there kind g within k is fits

  up_is : up t e.1 ≡ x
  up_is = ap parent_of c.there ∙ c.parent

  settled_there : settled_key t (up t e.1) e.1 k ≡ k
  settled_there = ap (λ p. settled_key t p e.1 k) up_is ∙ ap (λ o. cond (is_other e.1 o) (between k (next_key t x k)) k) free

  live : is_void t (SetKey e.1 k) ≡ false
  live = live_move (is_some (get t e.1)) (is_same e.1 Root) (holds_list (get t (up t e.1))) (is_placed t (up t e.1) e.1 k)
      (ap is_some c.there) (differ e.1 Root c.made) (ap (λ p. holds_list (get t p)) up_is ∙ ap holds_list there ∙ ap is_list kind) (rw (settled_there, pos, fits_length k pos) refl)

  settled : settled_body t (SetKey e.1 k) ≡ SetKey e.1 k
  settled = ap (λ b. cond b (SetKey e.1 k) (SetKey e.1 (settled_key t (up t e.1) e.1 k))) live ∙ ap (SetKey e.1) settled_there

  abbrev node : Node
  node = record c.node { key = k }

  abbrev w : Nodes
  w = insert t e.1 node

  step_is : step t (SetKey e.1 k) ≡ w
  step_is = step_acts t (SetKey e.1 k) live ∙ ap (effect t) settled ∙ at_node t e.1 (λ m. record m { key = k }) c.node c.there

  formed : IsFormed w
  formed = subst IsFormed step_is (formed-step t f (SetKey e.1 k))

  other : e.1 ≢ x
  other i =
      let p = the_parent t f e.1 c.node c.made c.there in
      let one : p.0 ≡ c.node = some_inj p.0 c.node (sym p.1 ∙ ap (get t) (c.parent ∙ sym i) ∙ c.there) in
      let deep : p.0.depth ≡ c.node.depth = ap (λ (m : Node). m.depth) one in
      omega (arith, p.2.depth, deep)

  w_there : get w x ≡ Some n
  w_there = get_other t e.1 node x (λ i. other (sym i)) ∙ there

  -- all other nodes stay

  kid_to : (q : NodeId) (j : List ℕ) (z : NodeId) → (q ≡ x → j ≡ e.0 → ⊥) → IsChild t q j z → IsChild w q j z
  kid_to q j z off h = record {
    node = h.node;
    there = get_other t e.1 node z (λ i. let one : h.node ≡ c.node = some_inj h.node c.node (sym h.there ∙ ap (get t) i ∙ c.there) in
        off (sym h.parent ∙ ap (λ (m : Node). m.parent) one ∙ c.parent) (sym h.key ∙ ap (λ (m : Node). m.key) one ∙ c.key)) ∙ h.there;
    made = h.made;
    parent = h.parent;
    key = h.key;
  }

  kid_from : (q : NodeId) (j : List ℕ) (z : NodeId) → (q ≡ x → j ≡ k → ⊥) → IsChild w q j z → IsChild t q j z
  kid_from q j z off h = elim (here_or_old t e.1 node z h.node h.there) [
    | inl i ↦ absurd (off (sym h.parent ∙ ap (λ (m : Node). m.parent) i.1 ∙ c.parent) (sym h.key ∙ ap (λ (m : Node). m.key) i.1))
    | inr i ↦ record { node = h.node; there = i.1; made = h.made; parent = h.parent; key = h.key }
  ]

  node_stays : (q : NodeId) (m : Node) → get t q ≡ Some m → (v : Node) × (get w q ≡ Some v) × (v.kind ≡ m.kind)
  node_stays q m h = elim (one_or_two q e.1) [
    | inl i ↦ (node, ap (get w) i ∙ get_here t e.1 node, ap (λ (v : Node). v.kind) (some_inj c.node m (sym c.there ∙ ap (get t) (sym i) ∙ h)))
    | inr i ↦ (m, get_other t e.1 node q i ∙ h, refl)
  ]

  local : IsLocal t w x (λ q. false)
  local = record {
    node = λ q m h s o. node_stays q m h;
    kids = λ q m h s o. same_children w t q (λ j. same_child w t f q j (λ z d. kid_from q j z (λ i l. o i) d) (λ z d. kid_to q j z (λ i l. o i) d));
    closed = λ q m h r o s. refl;
  }

  -- the children of x, by key

  child_new : child_at w x k ≡ Some e.1
  child_new = found w formed x k e.1 (record { node = node; there = get_here t e.1 node; made = c.made; parent = c.parent; key = refl })

  child_beside : (q : List ℕ) → q ≢ k → q ≢ e.0 → child_at w x q ≡ child_at t x q
  child_beside q a b = same_child w t f x q (λ z d. kid_from x q z (λ i l. a l) d) (λ z d. kid_to x q z (λ i l. b l) d)

  gone_by : e.0 ≢ k → (o : Option NodeId) → child_at w x e.0 ≡ o → o ≡ None
  gone_by off None h = refl
  gone_by off (Some z) h =
      let d = child_of w x e.0 z h in
      absurd (elim (here_or_old t e.1 node z d.node d.there) [
        | inl i ↦ off (sym d.key ∙ ap (λ (m : Node). m.key) i.1)
        | inr i ↦ i.0 (some_inj z e.1 (sym (found t f x e.0 z (record { node = d.node; there = i.1; made = d.made; parent = d.parent; key = d.key })) ∙ child))
      ])

  old_other : e.0 ≢ k
  old_other i = some_none e.1 (sym child ∙ ap (child_at t x) i ∙ free)

  stays_shown : (q : List ℕ) (o : Option NodeId) → child_at t x q ≡ o → option_map (view_within 59 w) o ≡ option_map (view_within 59 t) o
  stays_shown q None h = refl
  stays_shown q (Some z) h = ap Some (kid_beside t w f x (λ q. false) local n there 59 q z h refl)

  other_key : (q j : List ℕ) → eq_by_cmp (slice_cmp nat_cmp) q j ≡ false → q ≢ j
  other_key q j h i = true_false (sym (key_self q) ∙ ap (eq_by_cmp (slice_cmp nat_cmp) q) i ∙ h)

  old_by : (q : List ℕ) (b : Bool) → q ≢ k → eq_by_cmp (slice_cmp nat_cmp) e.0 q ≡ b
      → find (slice_cmp nat_cmp) q (kids_of 59 w x) ≡ cond (not b) (find (slice_cmp nat_cmp) q (kids_of 59 t x)) None
  old_by q true off h =
      find_kids 59 w x q ∙ ap (λ j. option_map (view_within 59 w) (child_at w x j)) (sym (same_name e.0 q h)) ∙ ap (option_map (view_within 59 w)) (gone_by old_other (child_at w x e.0) refl)
  old_by q false off h =
      find_kids 59 w x q ∙ ap (option_map (view_within 59 w)) (child_beside q off (λ i. other_key e.0 q h (sym i))) ∙ stays_shown q (child_at t x q) refl ∙ sym (find_kids 59 t x q)

  name_by : (q : List ℕ) (b : Bool) → eq_by_cmp (slice_cmp nat_cmp) q k ≡ b
      → find (slice_cmp nat_cmp) q (kids_of 59 w x) ≡ cond b (Some (view_within 59 t e.1)) (find (slice_cmp nat_cmp) q (without_field e.0 (kids_of 59 t x)))
  name_by q true h =
      find_kids 59 w x q ∙ ap (λ j. option_map (view_within 59 w) (child_at w x j)) (same_name q k h) ∙ ap (option_map (view_within 59 w)) child_new
      ∙ ap Some (kid_beside t w f x (λ q. false) local n there 59 e.0 e.1 child refl)
  name_by q false h = old_by q (eq_by_cmp (slice_cmp nat_cmp) e.0 q) (other_key q k h) refl ∙ sym (find_without q e.0 (kids_of 59 t x))

  abbrev left_kids : List Pair
  left_kids = remove_at (kids_of 59 t x) from

  kids_left : without_field e.0 (kids_of 59 t x) ≡ left_kids
  kids_left = sym (remove_without e.0 (kids_of 59 t x) (kids_ordered 59 t x))
      ∙ remove_index (kids_of 59 t x) from (e.0, view_within 59 t e.1) (kids_ordered 59 t x)
      (slice_get-map (λ (d : Kid). (d.0, view_within 59 t d.1)) (children t x) from ∙ ap (option_map (λ (d : Kid). (d.0, view_within 59 t d.1))) at)

  kids : kids_of 59 w x ≡ insert_entry (slice_cmp nat_cmp) left_kids k (view_within 59 t e.1)
  kids =
      same_fields (kids_of 59 w x) (put (slice_cmp nat_cmp) k (view_within 59 t e.1) (without_field e.0 (kids_of 59 t x))) (kids_ordered 59 w x)
      (ordered_put k (view_within 59 t e.1) (without_field e.0 (kids_of 59 t x)) (ordered_without e.0 (kids_of 59 t x) (kids_ordered 59 t x)))
      (λ q. name_by q (eq_by_cmp (slice_cmp nat_cmp) q k) refl
      ∙ sym (find_insert q (without_field e.0 (kids_of 59 t x)) k (view_within 59 t e.1))
      ∙ ap (find (slice_cmp nat_cmp) q) (insert_put (without_field e.0 (kids_of 59 t x)) k (view_within 59 t e.1)))
      ∙ sym (insert_put (without_field e.0 (kids_of 59 t x)) k (view_within 59 t e.1))
      ∙ ap (λ es. insert_entry (slice_cmp nat_cmp) es k (view_within 59 t e.1)) kids_left

  -- at the gap `to` of those that are left
  module _ (to : ℕ) (few : to ≤ length left_kids) (lefts : left_of to left_kids ≡ left_of g (kids_of 59 t x)) (rights : right_of to left_kids ≡ right_of g (kids_of 59 t x)) where
    abbrev shown : Kid → Pair
    shown d = (d.0, view_within 59 t d.1)

    kids_at : kids_of 59 w x ≡ insert_at left_kids to (k, view_within 59 t e.1)
    kids_at =
        let m = made t f x n there kind g within k is fits in
        kids ∙ insert_index left_kids to k (view_within 59 t e.1) (subst AreOrdered kids_left (ordered_without e.0 (kids_of 59 t x) (kids_ordered 59 t x))) few
        (subst (λ (o : Option (List ℕ)). IfSome o (λ j. IsBelow j k)) (sym (lefts ∙ left_map shown (λ d. refl) g (children t x))) m.left)
        (subst (λ (o : Option (List ℕ)). IfSome o (λ j. IsBelow k j)) (sym (rights ∙ right_map shown (λ d. refl) g (children t x))) m.right)

    module _ (h : List Value → List Value) (so : insert_at (remove_at (items_of t x) from) to (view_within 59 t e.1) ≡ h (items_of t x)) where
      shown_now : view_at w x ≡ on_list h (view_at t x)
      shown_now =
          list_view w x n w_there kind
          ∙ ap (λ vs. list (values_of vs)) (ap (map second) kids_at ∙ map_insert second left_kids to (k, view_within 59 t e.1)
          ∙ ap (λ vs. insert_at vs to (view_within 59 t e.1)) (map_remove second (kids_of 59 t x) from) ∙ so)
          ∙ sym (on_items h (view_at t x) (items_of t x) (list_view t x n there kind))

      pub move_changes : Changes t x (SetKey e.1 k ∷ []) (λ v. on_list h v)
      move_changes = record {
        live = (live, settled, tt);
        node = ap (λ (u : Nodes). view_at u x) step_is ∙ shown_now;
        rest = ap view step_is ∙ rest_of t w f x (λ q. false) local n there formed n w_there refl refl (on_list h (view_at t x)) shown_now;
      }
