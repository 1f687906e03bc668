-- A name of an object or a map taken out, with the child that stands there.
use Rattle.std.proofs.Common.{◌≡◌, ◌≢◌, ℕ, Bool, true, false, cond, not, List, [], ◌∷◌, Option, Some, None, option_map, refl, sym, ap, ◌∙◌, subst}
use Rattle.std.specs.BTreeMap.{is_at}
use Rattle.std.specs.Cmp.Lexicographic.{slice_cmp}
use Rattle.std.specs.FinMap.{get, find}
use Rattle.std.specs.Map.{remove_entry}
use Rattle.std.specs.Ordering.{nat_cmp, eq_by_cmp}
use Rattle.room_ids.specs.declared.ids.NodeId.{NodeId}
use Rattle.room_ids.specs.declared.ids.NodeId.TheVariants.{Root}
use Rattle.room_json.specs.Value.{Value, members, fields_of}
use Rattle.room_nodes.specs.declared.nodes.Node.{Node}
use Rattle.room_nodes.specs.declared.nodes.Kind.{Kind}
use Rattle.room_nodes.specs.declared.nodes.Kind.TheVariants.{Object, List as Listed, Map as Mapped, Register}
use Rattle.room_nodes.specs.Ordered.{AreOrdered, IsOrderedKind}
use Rattle.room_nodes.specs.Primitives.{kind_fields}
use Rattle.room_nodes.specs.Shape.{Nodes, IsFormed, child_at}
use Rattle.room_nodes.specs.Steps.{without_child, on_fields, fields_kind, without_field}
use Rattle.room_nodes.proofs.Below.{below_self}
use Rattle.room_nodes.proofs.Gets.{get_here, true_false}
use Rattle.room_nodes.proofs.StepForm.{at_node, cut_child}
use Rattle.room_steps.proofs.Changing.{Acts, child_was}
use Rattle.room_steps.proofs.Covering.{hit_of}
use Rattle.room_steps.proofs.Fields.{same_fields, same_name, key_self, find_without, ordered_without, without_none}
use Rattle.room_steps.proofs.Framing.{gone_of, acts_then, acts_without}
use Rattle.room_steps.proofs.Kin.{child_of, found}
use Rattle.room_steps.proofs.Operations.{emptied, emptied_formed}
use Rattle.room_items.specs.View.{view_at, view_within}
use Rattle.room_model.specs.Edits.{on_members, is_keyed}
use Rattle.room_effect.proofs.Acting.{acts_local, kid_at_x, gone_closed, gone_root, stays_beside}
use Rattle.room_effect.proofs.Keyed.{kids_of, find_kids, kids_ordered, keyed_view, members_shown, find_shown, ordered_shown, on_shown, kid_shown}
use Rattle.room_effect.proofs.Local.{Pair, IsLocal}
use Rattle.room_effect.proofs.Members.{or_else, none_above, tail_ordered}

-- an entry taken out of members in order

remove_by : (k : List ℕ) (e : Pair) (es : List Pair) (b : Bool) → eq_by_cmp (slice_cmp nat_cmp) k e.0 ≡ b → AreOrdered (e ∷ es)
    → remove_entry (is_at (slice_cmp nat_cmp k)) es ≡ without_field k es → cond b es (e ∷ remove_entry (is_at (slice_cmp nat_cmp k)) es) ≡ cond (not b) (e ∷ without_field k es) (without_field k es)
remove_by k e es true is h more =
    let t = tail_ordered e es h in
    sym (without_none k es (ap (λ j. find (slice_cmp nat_cmp) j es) (same_name k e.0 is) ∙ none_above e.0 es t.0))
remove_by k e es false is h more = ap (λ fs. e ∷ fs) more

pub remove_without : (k : List ℕ) (es : List Pair) → AreOrdered es → remove_entry (is_at (slice_cmp nat_cmp k)) es ≡ without_field k es
remove_without k [] h = refl
remove_without k (e ∷ es) h = remove_by k e es (eq_by_cmp (slice_cmp nat_cmp) k e.0) refl h (remove_without k es (tail_ordered e es h).1)

pub remove_none : (k : List ℕ) (es : List Pair) → AreOrdered es → find (slice_cmp nat_cmp) k es ≡ None → remove_entry (is_at (slice_cmp nat_cmp k)) es ≡ es
remove_none k es h none = remove_without k es h ∙ without_none k es none

keyed_without : (k : List ℕ) (kind : Kind) → is_keyed (fields_kind (without_field k) kind) ≡ is_keyed kind
keyed_without k (Object fs) = refl
keyed_without k Listed = refl
keyed_without k Mapped = refl
keyed_without k (Register v) = refl

ordered_kind : (k : List ℕ) (kind : Kind) → IsOrderedKind kind → IsOrderedKind (fields_kind (without_field k) kind)
ordered_kind k (Object fs) h = ordered_without k fs h
ordered_kind k Listed h = h
ordered_kind k Mapped h = h
ordered_kind k (Register v) h = h

fields_without : (k : List ℕ) (kind : Kind) → kind_fields (fields_kind (without_field k) kind) ≡ without_field k (kind_fields kind)
fields_without k (Object fs) = refl
fields_without k Listed = refl
fields_without k Mapped = refl
fields_without k (Register v) = refl

module _ (t : Nodes) (f : IsFormed t) (x : NodeId) (k : List ℕ) (n : Node) (there : get t x ≡ Some n) where
  still : get (without_child t x k) x ≡ Some n
  still = (cut_child x t f k).0.here ∙ there

  pub empty_acts : Acts t (emptied t x k) (gone_of t (child_at t x k)) x (without_field k)
  empty_acts =
      subst (λ (v : Nodes). Acts t v (gone_of t (child_at t x k)) x (without_field k)) (sym (at_node (without_child t x k) x (on_fields (without_field k)) n still))
      (acts_then t (without_child t x k) (gone_of t (child_at t x k)) x (without_field k) n (acts_without t x (child_at t x k)) still)

  pub empty_formed : IsFormed (emptied t x k)
  empty_formed = emptied_formed t f x k n there

  abbrev pub empty_node : Node
  empty_node = on_fields (without_field k) n

  pub empty_here : get (emptied t x k) x ≡ Some empty_node
  empty_here = ap (λ (v : Nodes). get v x) (at_node (without_child t x k) x (on_fields (without_field k)) n still) ∙ get_here (without_child t x k) x empty_node

  pub empty_local : IsLocal t (emptied t x k) x (gone_of t (child_at t x k))
  empty_local = acts_local t (emptied t x k) (gone_of t (child_at t x k)) x (without_field k) empty_acts f empty_formed (gone_closed t f x k (child_at t x k) refl)

  pub empty_root : gone_of t (child_at t x k) Root ≡ false
  empty_root = gone_root t f x k (child_at t x k) refl

  -- no child is left there

  none_by : (o : Option NodeId) → child_at (emptied t x k) x k ≡ o → o ≡ None
  none_by None e = refl
  none_by (Some y) e =
      let c = child_of (emptied t x k) x k y e in
      let w = child_was t (emptied t x k) (gone_of t (child_at t x k)) x (without_field k) empty_acts x k y c in
      absurd (true_false (sym (hit_of t y y w.0.node w.0.there (below_self t y)) ∙ ap (λ o. gone_of t o y) (sym (found t f x k y w.0)) ∙ w.1))

  pub empty_none : child_at (emptied t x k) x k ≡ None
  empty_none = none_by (child_at (emptied t x k) x k) refl

  -- the others stay

  pub beside_same : (q : List ℕ) → k ≢ q → child_at t x q ≡ child_at (emptied t x k) x q
  beside_same q other = kid_at_x t (emptied t x k) (gone_of t (child_at t x k)) x (without_field k) empty_acts f empty_formed (gone_closed t f x k (child_at t x k) refl) q
      (λ y at. stays_beside t f x q y at k other)

  pub kids_by : (q : List ℕ) (b : Bool) → eq_by_cmp (slice_cmp nat_cmp) k q ≡ b → find (slice_cmp nat_cmp) q (kids_of 59 (emptied t x k) x) ≡ cond (not b) (find (slice_cmp nat_cmp) q (kids_of 59 t x)) None
  kids_by q true e =
      find_kids 59 (emptied t x k) x q ∙ ap (λ j. option_map (view_within 59 (emptied t x k)) (child_at (emptied t x k) x j)) (sym (same_name k q e)) ∙ ap (option_map (view_within 59 (emptied t x k))) empty_none
  kids_by q false e =
      let other : k ≢ q = λ is. true_false (sym (key_self k) ∙ ap (eq_by_cmp (slice_cmp nat_cmp) k) is ∙ e) in
      kid_shown t (emptied t x k) f x (gone_of t (child_at t x k)) empty_local n there 59 q (beside_same q other) (λ y at. stays_beside t f x q y at k other)

  or_by : (b : Bool) (o w : Option Value) → or_else (cond (not b) o None) (cond (not b) w None) ≡ cond (not b) (or_else o w) None
  or_by true o w = refl
  or_by false o w = refl

  module _ (keyed : is_keyed n.kind ≡ true) (ordered : IsOrderedKind n.kind) where
    abbrev before : List Pair
    before = members_shown n.kind (kids_of 59 t x)

    abbrev after : List Pair
    after = members_shown empty_node.kind (kids_of 59 (emptied t x k) x)

    keyed_now : is_keyed empty_node.kind ≡ true
    keyed_now = keyed_without k n.kind ∙ keyed

    pub before_ordered : AreOrdered before
    before_ordered = ordered_shown n.kind (kids_of 59 t x) keyed ordered (kids_ordered 59 t x)

    pub find_empty : (q : List ℕ) → find (slice_cmp nat_cmp) q after ≡ cond (not (eq_by_cmp (slice_cmp nat_cmp) k q)) (find (slice_cmp nat_cmp) q before) None
    find_empty q =
        find_shown q empty_node.kind (kids_of 59 (emptied t x k) x) keyed_now (kids_ordered 59 (emptied t x k) x)
        ∙ (λ i. or_else (kids_by q (eq_by_cmp (slice_cmp nat_cmp) k q) refl i) (ap (find (slice_cmp nat_cmp) q) (fields_without k n.kind) i))
        ∙ ap (or_else _) (find_without q k (kind_fields n.kind))
        ∙ or_by (eq_by_cmp (slice_cmp nat_cmp) k q) (find (slice_cmp nat_cmp) q (kids_of 59 t x)) (find (slice_cmp nat_cmp) q (kind_fields n.kind))
        ∙ ap (λ o. cond (not (eq_by_cmp (slice_cmp nat_cmp) k q)) o None) (sym (find_shown q n.kind (kids_of 59 t x) keyed (kids_ordered 59 t x)))

    empty_members : after ≡ remove_entry (is_at (slice_cmp nat_cmp k)) before
    empty_members =
        same_fields after (without_field k before)
        (ordered_shown empty_node.kind (kids_of 59 (emptied t x k) x) keyed_now (ordered_kind k n.kind ordered) (kids_ordered 59 (emptied t x k) x))
        (ordered_without k before before_ordered)
        (λ q. find_empty q ∙ sym (find_without q k before))
        ∙ sym (remove_without k before before_ordered)

    pub empty_shown : view_at (emptied t x k) x ≡ on_members (λ fs. remove_entry (is_at (slice_cmp nat_cmp k)) fs) (view_at t x)
    empty_shown =
        keyed_view (emptied t x k) x empty_node empty_here keyed_now
        ∙ ap (λ z. members (fields_of z)) empty_members
        ∙ sym (on_shown (λ fs. remove_entry (is_at (slice_cmp nat_cmp k)) fs) (view_at t x) before (keyed_view t x n there keyed))
