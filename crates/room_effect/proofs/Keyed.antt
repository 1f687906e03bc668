-- What objects and maps show, name by name.
use Rattle.std.proofs.Common.{◌≡◌, ℕ, Bool, true, false, List, [], map, Option, Some, None, option_map, is_some, refl, sym, ap, ◌∙◌, arith}
use Rattle.std.specs.Cmp.Lexicographic.{slice_cmp}
use Rattle.std.specs.FinMap.{get, find}
use Rattle.std.specs.Ordering.{nat_cmp}
use Rattle.room_ids.specs.declared.ids.NodeId.{NodeId}
use Rattle.room_ids.specs.declared.ids.NodeId.TheVariants.{Root}
use Rattle.room_json.proofs.Values.{fields_list-fields_of}
use Rattle.room_json.specs.Value.{Value, members, fields_of, merged}
use Rattle.room_nodes.specs.declared.nodes.Node.{Node}
use Rattle.room_nodes.specs.declared.nodes.Kind.{Kind}
use Rattle.room_nodes.specs.declared.nodes.Kind.TheVariants.{Object, List as Listed, Map as Mapped, Register}
use Rattle.room_nodes.specs.Ordered.{AreOrdered, IsOrderedKind}
use Rattle.room_nodes.specs.Primitives.{kind_fields}
use Rattle.room_nodes.specs.Shape.{Nodes, IsFormed, child_at, children, has_field}
use Rattle.room_nodes.proofs.Fitting.{the_parent, the_root}
use Rattle.room_nodes.proofs.Gets.{some_inj, true_false}
use Rattle.room_steps.proofs.Fields.{ordered_of}
use Rattle.room_steps.proofs.Kin.{child_of}
use Rattle.room_items.proofs.Shown.{shown_sorted}
use Rattle.room_items.specs.View.{view, view_within, view_at, node_view, kind_view}
use Rattle.room_model.specs.Edits.{on_members, is_keyed}
use Rattle.room_effect.specs.Effect.{view_where, shown_within}
use Rattle.room_effect.proofs.Local.{Kid, Pair, IsLocal, beside, whole}
use Rattle.room_effect.proofs.Members.{find_map, find_merged, or_else, ordered_merged}

abbrev pub kids_of : ℕ → Nodes → NodeId → List Pair
kids_of n t x = map (λ (e : Kid). (e.0, view_within n t e.1)) (children t x)

pub find_kids : (n : ℕ) (t : Nodes) (x : NodeId) (q : List ℕ) → find (slice_cmp nat_cmp) q (kids_of n t x) ≡ option_map (view_within n t) (child_at t x q)
find_kids n t x q = find_map (view_within n t) q (children t x)

pub kids_ordered : (n : ℕ) (t : Nodes) (x : NodeId) → AreOrdered (kids_of n t x)
kids_ordered n t x = ordered_of (kids_of n t x) (shown_sorted t x (λ e. view_within n t e.1))

pub view_is : (t : Nodes) (x : NodeId) → view_at t x ≡ node_view (get t x) (kids_of 59 t x)
unfolding view_at view_within
view_is t x = refl

module _ (t : Nodes) (x : NodeId) (n : Node) (there : get t x ≡ Some n) where
  pub object_view : (fs : List Pair) → n.kind ≡ Object fs → view_at t x ≡ members (fields_of (merged fs (kids_of 59 t x)))
  object_view fs kind = view_is t x ∙ ap (λ o. node_view o (kids_of 59 t x)) there ∙ ap (λ k. kind_view k (kids_of 59 t x)) kind

  pub map_view : n.kind ≡ Mapped → view_at t x ≡ members (fields_of (kids_of 59 t x))
  map_view kind = view_is t x ∙ ap (λ o. node_view o (kids_of 59 t x)) there ∙ ap (λ k. kind_view k (kids_of 59 t x)) kind

-- members changed as members
pub on_shown : (f : List Pair → List Pair) (v : Value) (ms : List Pair) → v ≡ members (fields_of ms) → on_members f v ≡ members (fields_of (f ms))
on_shown f v ms e = ap (on_members f) e ∙ ap (λ fs. members (fields_of (f fs))) (fields_list-fields_of ms)

-- no child has the name of a field

module _ (u : Nodes) (g : IsFormed u) (x : NodeId) (n : Node) (there : get u x ≡ Some n) (fs : List Pair) (kind : n.kind ≡ Object fs) where
  no_kid_by : (q : List ℕ) (v : Value) → find (slice_cmp nat_cmp) q fs ≡ Some v → (o : Option NodeId) → child_at u x q ≡ o → o ≡ None
  no_kid_by q v at None e = refl
  no_kid_by q v at (Some y) e =
      let c = child_of u x q y e in
      let p = the_parent u g y c.node c.made c.there in
      let is : p.0 ≡ n = some_inj p.0 n (sym p.1 ∙ ap (get u) c.parent ∙ there) in
      let field : has_field q (Object fs) ≡ true = ap is_some at in
      absurd (true_false (sym field ∙ ap (has_field q) (sym (ap (λ (m : Node). m.kind) is ∙ kind)) ∙ ap (λ k. has_field k p.0.kind) (sym c.key) ∙ p.2.plain))

  pub no_kid : (q : List ℕ) (v : Value) → find (slice_cmp nat_cmp) q fs ≡ Some v → child_at u x q ≡ None
  no_kid q v at = no_kid_by q v at (child_at u x q) refl

-- children that stay are shown as before

module _ (t w : Nodes) (f : IsFormed t) (x : NodeId) (gone : NodeId → Bool) (l : IsLocal t w x gone) (a : Node) (at : get t x ≡ Some a) where
  pub kid_beside : (n : ℕ) (q : List ℕ) (y : NodeId) → child_at t x q ≡ Some y → gone y ≡ false → view_within n w y ≡ view_within n t y
  kid_beside n q y e stays =
      let c = child_of t x q y e in
      let p = the_parent t f y c.node c.made c.there in
      let is : p.0.depth ≡ a.depth = ap (λ (m : Node). m.depth) (some_inj p.0 a (sym p.1 ∙ ap (get t) c.parent ∙ at)) in
      beside t w f x gone l a at n y c.node c.there stays (omega (arith, p.2.depth, is))

  shown_by : (n : ℕ) (q : List ℕ) (o : Option NodeId) → child_at t x q ≡ o → ((y : NodeId) → child_at t x q ≡ Some y → gone y ≡ false) → option_map (view_within n w) o ≡ option_map (view_within n t) o
  shown_by n q None e stays = refl
  shown_by n q (Some y) e stays = ap Some (kid_beside n q y e (stays y e))

  pub kid_shown : (n : ℕ) (q : List ℕ) → child_at t x q ≡ child_at w x q → ((y : NodeId) → child_at t x q ≡ Some y → gone y ≡ false)
      → find (slice_cmp nat_cmp) q (kids_of n w x) ≡ find (slice_cmp nat_cmp) q (kids_of n t x)
  kid_shown n q same stays =
      find_kids n w x q ∙ ap (option_map (view_within n w)) (sym same) ∙ shown_by n q (child_at t x q) refl stays ∙ sym (find_kids n t x q)

  -- what x shows is all that changes
  pub rest_of : (g : IsFormed w) (b : Node) → get w x ≡ Some b → b.depth ≡ a.depth → gone Root ≡ false → (v : Value) → view_at w x ≡ v → view w ≡ view_where t x v
  rest_of g b too level stays v is =
      let r = the_root t f in
      whole t w f x gone l a at g b too level r.0 r.1 stays ∙ ap (λ z. shown_within 60 t x z Root) is

-- objects and maps alike

abbrev pub members_shown : Kind → List Pair → List Pair
members_shown (Object fs) vs = merged fs vs
members_shown Listed vs = []
members_shown Mapped vs = vs
members_shown (Register v) vs = []

pub keyed_kind : (kind : Kind) (vs : List Pair) → is_keyed kind ≡ true → kind_view kind vs ≡ members (fields_of (members_shown kind vs))
keyed_kind (Object fs) vs e = refl
keyed_kind Listed vs e = cc
keyed_kind Mapped vs e = refl
keyed_kind (Register v) vs e = cc

pub keyed_view : (t : Nodes) (x : NodeId) (n : Node) → get t x ≡ Some n → is_keyed n.kind ≡ true → view_at t x ≡ members (fields_of (members_shown n.kind (kids_of 59 t x)))
keyed_view t x n there e = view_is t x ∙ ap (λ o. node_view o (kids_of 59 t x)) there ∙ keyed_kind n.kind (kids_of 59 t x) e

or_none : {A : Type 0} (o : Option A) → o ≡ or_else o None
or_none None = refl
or_none (Some v) = refl

pub find_shown : (q : List ℕ) (kind : Kind) (vs : List Pair) → is_keyed kind ≡ true → AreOrdered vs
    → find (slice_cmp nat_cmp) q (members_shown kind vs) ≡ or_else (find (slice_cmp nat_cmp) q vs) (find (slice_cmp nat_cmp) q (kind_fields kind))
find_shown q (Object fs) vs e h = find_merged q fs vs h
find_shown q Listed vs e h = cc
find_shown q Mapped vs e h = or_none (find (slice_cmp nat_cmp) q vs)
find_shown q (Register v) vs e h = cc

pub ordered_shown : (kind : Kind) (vs : List Pair) → is_keyed kind ≡ true → IsOrderedKind kind → AreOrdered vs → AreOrdered (members_shown kind vs)
ordered_shown (Object fs) vs e o h = ordered_merged fs vs o
ordered_shown Listed vs e o h = cc
ordered_shown Mapped vs e o h = h
ordered_shown (Register v) vs e o h = cc
