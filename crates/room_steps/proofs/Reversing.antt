-- Each operation and its reversal lead back, and so does a batch with its own.
use Rattle.std.proofs.Common.{◌≡◌, ◌≢◌, inl, inr, ◌+◌, Bool, true, false, cond, not, ◌&&◌, ◌||◌, nat_le, ℕ, List, [], ◌∷◌, length, Option, Some, None, is_some, refl, sym, ap, ◌∙◌, subst}
use Rattle.std.specs.Cmp.Lexicographic.{slice_cmp}
use Rattle.std.specs.FinMap.{get, insert, find}
use Rattle.std.specs.Ordering.{nat_cmp}
use Rattle.room_json.specs.Value.{Value}
use Rattle.room_ids.specs.Order.{is_same}
use Rattle.room_ids.specs.Position.{is_pos, is_some_text, between}
use Rattle.room_ids.specs.declared.ids.NodeId.{NodeId}
use Rattle.room_ids.specs.declared.ids.NodeId.TheVariants.{Root}
use Rattle.room_nodes.specs.Shape.{Nodes, IsFormed, IsFree, child_at, has_field, is_list, removed, up, parent_of}
use Rattle.room_nodes.specs.Steps.{step, fold, is_void, effect, changed, holds_object, holds_list, is_other, is_placed, is_under, next_key, on_fields, fields_kind, settled_body, settled_key, without, without_child, without_field, without_replaced}
use Rattle.room_nodes.specs.declared.nodes.Body.{Body}
use Rattle.room_nodes.specs.declared.nodes.Body.TheVariants.{SetKey, Create, Update, Delete, DeleteKey}
use Rattle.room_nodes.specs.declared.nodes.Kind.{Kind}
use Rattle.room_nodes.specs.declared.nodes.Kind.TheVariants.{Object, List as Listed, Map as Mapped, Register}
use Rattle.room_nodes.specs.declared.nodes.Node.{Node}
use Rattle.room_nodes.specs.declared.turns.Turn.TheVariants.{Put}
use Rattle.room_nodes.proofs.Again.{again}
use Rattle.room_nodes.proofs.Below.{below_self}
use Rattle.room_nodes.proofs.Children.{child_at_some}
use Rattle.room_nodes.proofs.Cutting.{walk_end}
use Rattle.room_nodes.proofs.Fitting.{both, not_true, some_of, the_parent}
use Rattle.room_nodes.proofs.Gets.{same_self, differ, true_false, get_here, get_other, here_or_old}
use Rattle.room_nodes.proofs.StepForm.{FieldsOf, at_node, object_there, cut_child, formed-cleared, free-create, effect-create}
use Rattle.room_nodes.proofs.Steps.{neither, not_false, room_there, second, list_or_not, can_set_key, pruned, free-create_in_list, effect-create_in_list, formed-step}
use Rattle.room_nodes.proofs.Undoing.{parent_other}
use Rattle.room_steps.specs.Laws.{Reversible}
use Rattle.room_nodes.specs.Ordered.{AreOrdered, IsOrderedBody, IsOrderedKind, IsOrderedTree}
use Rattle.room_nodes.specs.Reversal.{child_restored, displaced, field_in, field_of_node, key_restored, node_restored, replaced_restored, reverse, reverse_all, reversed, slot_or, slot_restored}
use Rattle.room_steps.proofs.Booleans.{where_so}
use Rattle.room_steps.proofs.Fields.{put_back}
use Rattle.room_steps.proofs.OrderedSteps.{ordered_step}
use Rattle.room_steps.proofs.Restoring.{step_acts, step_void, put_same, put_twice, without_node, restored, fold-append}
use Rattle.room_steps.proofs.Updating.{now, now_same, free_none, field_none, updated, update_back}

-- what stood at a key of an object or a map

object_field : (k : List ℕ) (v : Value) (kind : Kind) → field_in k kind ≡ Some v → (gs : FieldsOf) × (kind ≡ Object gs) × (find (slice_cmp nat_cmp) k gs ≡ Some v)
object_field k v (Object gs) e = (gs, refl, e)
object_field k v Listed e = cc
object_field k v Mapped e = cc
object_field k v (Register w) e = cc

no_field_in : (k : List ℕ) (kind : Kind) → field_in k kind ≡ None → has_field k kind ≡ false
no_field_in k (Object gs) e = ap is_some e
no_field_in k Listed e = refl
no_field_in k Mapped e = refl
no_field_in k (Register w) e = refl

object_kind : (kind : Kind) (o : Option Node) (n : Node) → o ≡ Some n → holds_object o ≡ true → n.kind ≡ kind → (gs : FieldsOf) × (n.kind ≡ Object gs)
object_kind (Object gs) o n e h is = (gs, is)
object_kind Listed o n e h is = absurd (true_false (sym h ∙ ap holds_object e ∙ ap (λ k. holds_object (Some (record n { kind = k }))) is))
object_kind Mapped o n e h is = absurd (true_false (sym h ∙ ap holds_object e ∙ ap (λ k. holds_object (Some (record n { kind = k }))) is))
object_kind (Register w) o n e h is = absurd (true_false (sym h ∙ ap holds_object e ∙ ap (λ k. holds_object (Some (record n { kind = k }))) is))

module _ (t : Nodes) (f : IsFormed t) (o : IsOrderedTree t) where
  fields_ordered : (x : NodeId) (n : Node) → get t x ≡ Some n → (gs : FieldsOf) → n.kind ≡ Object gs → AreOrdered gs
  fields_ordered x n there gs kind = subst IsOrderedKind kind (o x n there)

  child_or : (x : NodeId) (k : List ℕ) (c : Option NodeId) → child_at t x k ≡ c → fold (without t c) (child_restored t c) ≡ t
  child_or x k None e = refl
  child_or x k (Some y) e = let b = child_at_some t x k y e in restored t f y b.0 b.2 b.1

  module _ (x : NodeId) (n : Node) (there : get t x ≡ Some n) (k : List ℕ) where
    abbrev emptied : Nodes
    emptied = insert (without_child t x k) x (on_fields (without_field k) n)

    still : get (without_child t x k) x ≡ Some n
    still = (cut_child x t f k).0.here ∙ there

    slot_by : (v : Option Value) → field_in k n.kind ≡ v → fold emptied (slot_or x k v (child_restored t (child_at t x k))) ≡ t
    slot_by None e =
        ap (λ (m : Node). fold (insert (without_child t x k) x m) (child_restored t (child_at t x k))) (without_node k n (no_field_in k n.kind e))
        ∙ ap (λ (u : Nodes). fold u (child_restored t (child_at t x k))) (put_same (without_child t x k) x n still)
        ∙ child_or x k (child_at t x k) refl
    slot_by (Some v) e =
        let g = object_field k v n.kind e in
        let hs = without_field k g.0 in
        let start : emptied ≡ now t f x n there g.0 g.1 [] hs =
        ap (λ c. insert (without t c) x (on_fields (without_field k) n)) (field_none t f x n there g.0 g.1 k v g.2)
        ∙ ap (λ kind. insert t x (record n { kind = fields_kind (without_field k) kind })) g.1 in
        ap (λ (u : Nodes). fold u (Update x ((k, v) ∷ []) ∷ [])) start
        ∙ updated t f x n there g.0 g.1 [] hs ((k, v) ∷ []) (λ j m. elim m [
          | inl is ↦ free_none t f x n there g.0 g.1 [] hs j (field_none t f x n there g.0 g.1 j v (ap (λ i. find (slice_cmp nat_cmp) i g.0) (sym is) ∙ g.2))
          | inr h ↦ absurd h
        ])
        ∙ ap (now t f x n there g.0 g.1 []) (put_back k v g.0 (fields_ordered x n there g.0 g.1) g.2)
        ∙ now_same t f x n there g.0 g.1

    slot_back : fold (changed (without_child t x k) x (on_fields (without_field k))) (slot_restored t x k) ≡ t
    slot_back =
        ap (λ (u : Nodes). fold u (slot_restored t x k)) (at_node (without_child t x k) x (on_fields (without_field k)) n still)
        ∙ ap (λ w. fold emptied (slot_or x k (field_of_node k w) (child_restored t (child_at t x k)))) there
        ∙ slot_by (field_in k n.kind) refl

  -- a new node taken out again

  or_none : (a b : Bool) → a ≡ false → b ≡ false → (a || b) ≡ false
  or_none a b p q = rw (p, q) refl

  taken_out : (c : Nodes) → IsFormed c → (x : NodeId) (m : Node) → IsFree c x m → step (insert c x m) (Delete x) ≡ c
  taken_out c g x m free =
      let u = insert c x m in
      let a = again c g (Put x m) free in
      let leaf = a.can in
      step_acts u (Delete x) (or_none (not (is_some (get u x))) (is_same x Root) (ap (λ w. not (is_some w)) (get_here c x m)) (differ x Root leaf.made))
      ∙ sym (walk_end u u x leaf.made a.formed a.formed leaf x (record { part = λ q. inl refl; top = leaf.there; here = leaf.there; below = below_self u x }))
      ∙ a.back

  replaced_by : (p y : NodeId) (w : Option Node) → get t y ≡ w → (b : Bool) → is_under p y w ≡ b → fold (cond b (removed t y) t) (cond b (node_restored t y) []) ≡ t
  replaced_by p y w e false h = refl
  replaced_by p y None e true h = absurd (true_false (sym h))
  replaced_by p y (Some n) e true h =
      let a = both (not (is_same y Root)) _ h in
      restored t f y n (λ r. true_false (sym (same_self Root) ∙ ap (λ z. is_same z Root) (sym r) ∙ not_true _ a.0)) e

  replaced_back : (p : NodeId) (r : Option NodeId) → fold (without_replaced t p r) (replaced_restored t p r) ≡ t
  replaced_back p None = refl
  replaced_back p (Some y) = replaced_by p y (get t y) refl (is_under p y (get t y)) refl

  module _ (x p : NodeId) (k : List ℕ) (r : Option NodeId) (kind : Kind) (e : is_void t (Create x p k r kind) ≡ false) where
    fresh : is_some (get t x) ≡ false
    fresh = (neither _ _ e).0

    create_back : fold (step t (Create x p k r kind)) (reversed t (Create x p k r kind)) ≡ t
    create_back =
        let b = neither _ _ (neither _ _ e).1 in
        let n = room_there (get t p) (not_false _ b.0) in
        list_or_not (is_list n.0.kind) _
        (λ list.
        let holds : holds_list (get t p) ≡ true = ap holds_list n.1 ∙ list in
        let placed : is_placed (without_replaced t p r) p x k ≡ true = not_false _ (second (holds_list (get t p)) _ b.1 holds) in
        let c = without_replaced t p r in
        let z = settled_key c p x k in
        let m : Node = record { parent = p; key = z; depth = n.0.depth + 1; kind = kind } in
        let settled : settled_body t (Create x p k r kind) ≡ Create x p z r kind =
        ap (λ v. cond (v || not (holds_list (get t p))) (Create x p k r kind) (Create x p z r kind)) e ∙ ap (λ h. cond (not h) (Create x p k r kind) (Create x p z r kind)) holds in
        let made : step t (Create x p k r kind) ≡ insert c x m =
        step_acts t (Create x p k r kind) e ∙ ap (effect t) settled ∙ effect-create_in_list t f x p k r n.0 n.1 list n.2 n.3 fresh placed kind z in
        ap (λ (u : Nodes). fold (step u (Delete x)) (displaced t p k r)) made
        ∙ ap (λ (u : Nodes). fold u (displaced t p k r)) (taken_out c (pruned t f p r).formed x m (free-create_in_list t f x p k r n.0 n.1 list n.2 n.3 fresh placed kind))
        ∙ ap (λ h. fold c (cond h (replaced_restored t p r) (slot_restored t p k))) holds
        ∙ replaced_back p r)
        (λ list.
        let holds : holds_list (get t p) ≡ false = ap holds_list n.1 ∙ list in
        let c = changed (without_child t p k) p (on_fields (without_field k)) in
        let z = settled_key (without_replaced t p r) p x k in
        let m : Node = record { parent = p; key = k; depth = n.0.depth + 1; kind = kind } in
        let settled : settled_body t (Create x p k r kind) ≡ Create x p k r kind =
        ap (λ v. cond (v || not (holds_list (get t p))) (Create x p k r kind) (Create x p z r kind)) e ∙ ap (λ h. cond (not h) (Create x p k r kind) (Create x p z r kind)) holds in
        let made : step t (Create x p k r kind) ≡ insert c x m =
        step_acts t (Create x p k r kind) e ∙ ap (effect t) settled ∙ effect-create t f x p k n.0 n.1 kind list n.2 n.3 fresh r in
        ap (λ (u : Nodes). fold (step u (Delete x)) (displaced t p k r)) made
        ∙ ap (λ (u : Nodes). fold u (displaced t p k r)) (taken_out c (formed-cleared t f x p k n.0 n.1) x m (free-create t f x p k n.0 n.1 kind list n.2 n.3 fresh))
        ∙ ap (λ h. fold c (cond h (replaced_restored t p r) (slot_restored t p k))) holds
        ∙ slot_back p n.0 n.1 k)

  -- a position back
  module _ (x : NodeId) (k : List ℕ) (e : is_void t (SetKey x k) ≡ false) (n : Node) (there : get t x ≡ Some n) where
    abbrev new_key : List ℕ
    new_key = settled_key t (up t x) x k

    abbrev moved : Nodes
    moved = insert t x (record n { key = new_key })

    set : step t (SetKey x k) ≡ moved
    set =
        step_acts t (SetKey x k) e ∙ ap (λ v. effect t (cond v (SetKey x k) (SetKey x new_key))) e
        ∙ at_node t x (λ v. record v { key = new_key }) n there

    made : x ≢ Root
    made = (can_set_key t f x k e).made

    up_was : up t x ≡ n.parent
    up_was = ap parent_of there

    up_is : up moved x ≡ n.parent
    up_is = ap parent_of (get_here t x (record n { key = new_key }))

    parent_is : get moved n.parent ≡ get t n.parent
    parent_is = get_other t x (record n { key = new_key }) n.parent (parent_other t f x n made there)

    -- no other child has the old position
    own : (c : Option NodeId) → child_at moved n.parent n.key ≡ c → is_other x c ≡ false
    own None h = refl
    own (Some y) h =
        let a = child_at_some moved n.parent n.key y h in
        let one : is_same y x ≡ true = elim (here_or_old t x (record n { key = new_key }) y a.0 a.1) [
          | inl q ↦ ap (λ z. is_same z x) q.0 ∙ same_self x
          | inr q ↦ f.keys y x a.0 n a.2 made q.1 there a.3 a.4
        ] in
        ap not one

    settled_back : settled_key moved (up moved x) x n.key ≡ n.key
    settled_back =
        ap (λ y. settled_key moved y x n.key) up_is
        ∙ ap (λ v. cond v (between n.key (next_key moved n.parent n.key)) n.key) (own _ refl)

    is_list_there : holds_list (get t n.parent) ≡ true
    is_list_there = ap (λ y. holds_list (get t y)) (sym up_was) ∙ (can_set_key t f x k e).list

    old_pos : is_pos n.key ≡ true
    old_pos =
        let p = the_parent t f x n made there in
        where_so (is_list p.0.kind) _ p.2.place (ap holds_list (sym p.1) ∙ is_list_there)

    short : nat_le (length n.key) 4096 ≡ true
    short = (both (nat_le (length n.key) 4096) _ (both (is_some_text n.key) _ old_pos).1).0

    placed_by : (z : List ℕ) → z ≡ n.key → (is_pos n.key && nat_le (length z) 4096) ≡ true
    placed_by z h = rw (h, old_pos, short) refl

    four : (a b c d : Bool) → a ≡ true → b ≡ false → c ≡ true → d ≡ true → (not a || (b || (not c || not d))) ≡ false
    four a b c d p q r s = rw (p, q, r, s) refl

    acts_back : is_void moved (SetKey x n.key) ≡ false
    acts_back = four (is_some (get moved x)) (is_same x Root) (holds_list (get moved (up moved x))) (is_placed moved (up moved x) x n.key)
        (ap is_some (get_here t x (record n { key = new_key }))) (differ x Root made)
        (ap (λ y. holds_list (get moved y)) up_is ∙ ap holds_list parent_is ∙ is_list_there)
        (placed_by (settled_key moved (up moved x) x n.key) settled_back)

    key_back : fold (step t (SetKey x k)) (reversed t (SetKey x k)) ≡ t
    key_back =
        ap (λ (u : Nodes). fold u (key_restored x (get t x))) set ∙ ap (λ w. fold moved (key_restored x w)) there
        ∙ step_acts moved (SetKey x n.key) acts_back
        ∙ ap (λ v. effect moved (cond v (SetKey x n.key) (SetKey x (settled_key moved (up moved x) x n.key)))) acts_back
        ∙ ap (λ z. effect moved (SetKey x z)) settled_back
        ∙ at_node moved x (λ v. record v { key = n.key }) (record n { key = new_key }) (get_here t x (record n { key = new_key }))
        ∙ put_twice t x (record n { key = new_key }) n ∙ put_same t x n there

  -- an operation
  acting_back : (b : Body) → IsOrderedBody b → is_void t b ≡ false → fold (step t b) (reversed t b) ≡ t
  acting_back (SetKey x k) h e = let n = some_of (get t x) (not_false _ (neither _ _ e).0) in key_back x k e n.0 n.1
  acting_back (Create x p k r kind) h e = create_back x p k r kind e
  acting_back (Update x fs) h e =
      let holds = not_false _ e in
      let n = object_there (get t x) holds in
      let g = object_kind n.0.kind (get t x) n.0 n.1 holds refl in
      update_back t f x n.0 n.1 g.0 g.1 fs (fields_ordered x n.0 n.1 g.0 g.1) h
  acting_back (Delete x) h e =
      let a = neither _ _ e in
      let n = some_of (get t x) (not_false _ a.0) in
      ap (λ (u : Nodes). fold u (node_restored t x)) (step_acts t (Delete x) e)
      ∙ restored t f x n.0 (λ r. true_false (sym (same_self Root) ∙ ap (λ y. is_same y Root) (sym r) ∙ a.1)) n.1
  acting_back (DeleteKey x k) h e =
      let n = object_there (get t x) (not_false _ e) in
      ap (λ (u : Nodes). fold u (slot_restored t x k)) (step_acts t (DeleteKey x k) e) ∙ slot_back x n.0 n.1 k

  back_by : (b : Body) → IsOrderedBody b → (v : Bool) → is_void t b ≡ v → fold (step t b) (cond v [] (reversed t b)) ≡ t
  back_by b h true e = step_void t b e
  back_by b h false e = acting_back b h e

  pub step_back : (b : Body) → IsOrderedBody b → fold (step t b) (reverse t b) ≡ t
  step_back b h = back_by b h (is_void t b) refl

pub reversible : Reversible
reversible t [] f o h = refl
reversible t (b ∷ bs) f o h =
    fold-append (fold (step t b) bs) (reverse_all (step t b) bs) (reverse t b)
    ∙ ap (λ (u : Nodes). fold u (reverse t b)) (reversible (step t b) bs (formed-step t f b) (ordered_step t b o h.0) h.1)
    ∙ step_back t f o b h.0
