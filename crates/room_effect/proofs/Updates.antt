-- An update shows the values that it names.
use Rattle.std.proofs.Common.{◌≡◌, ℕ, true, false, not, List, [], ◌∷◌, Option, Some, None, option_map, refl, sym, ap, ◌∙◌, subst}
use Rattle.std.specs.Cmp.Lexicographic.{slice_cmp}
use Rattle.std.specs.FinMap.{get, find}
use Rattle.std.specs.Ordering.{nat_cmp}
use Rattle.room_ids.specs.declared.ids.NodeId.{NodeId}
use Rattle.room_json.specs.Value.{Value, members, fields_of, merged}
use Rattle.room_nodes.specs.declared.nodes.Node.{Node}
use Rattle.room_nodes.specs.declared.nodes.Body.TheVariants.{Update}
use Rattle.room_nodes.specs.declared.nodes.Kind.TheVariants.{Object}
use Rattle.room_nodes.specs.Ordered.{AreOrdered}
use Rattle.room_nodes.specs.Shape.{Nodes, IsFormed, child_at, is_object}
use Rattle.room_nodes.specs.Steps.{step, is_void, changed, without_children, on_fields, fields_kind, with_fields, holds_object}
use Rattle.room_nodes.proofs.Gets.{get_here}
use Rattle.room_nodes.proofs.StepForm.{at_node, cut_children, formed-update}
use Rattle.room_steps.proofs.Changing.{Acts}
use Rattle.room_steps.proofs.Fields.{same_fields, ordered_with}
use Rattle.room_steps.proofs.Framing.{gone_at, acts_plain, acts_then}
use Rattle.room_steps.proofs.Restoring.{step_acts}
use Rattle.room_steps.proofs.Touching.{left_at}
use Rattle.room_items.specs.View.{view, view_at, view_within}
use Rattle.room_model.specs.Edits.{on_members}
use Rattle.room_effect.specs.Effect.{Changes}
use Rattle.room_effect.proofs.Acting.{acts_local, kid_at_x, at_closed, at_root, stays_unnamed}
use Rattle.room_effect.proofs.Keyed.{kids_of, find_kids, kids_ordered, object_view, on_shown, no_kid, kid_shown, rest_of}
use Rattle.room_effect.proofs.Local.{Pair, IsLocal}
use Rattle.room_effect.proofs.Members.{or_else, find_merged, merged_with, ordered_merged}

module _ (t : Nodes) (f : IsFormed t) (x : NodeId) (fs gs : List Pair) (n : Node) (there : get t x ≡ Some n) (kind : n.kind ≡ Object gs) (named : AreOrdered fs) (ordered : AreOrdered gs) where
  object : holds_object (get t x) ≡ true
  object = ap holds_object there ∙ ap is_object kind

  abbrev now : Nodes
  now = changed (without_children t x fs) x (on_fields (with_fields fs))

  abbrev node : Node
  node = on_fields (with_fields fs) n

  left_there : get (without_children t x fs) x ≡ Some n
  left_there = (cut_children x t f fs).0.here ∙ there

  acts : Acts t now (gone_at t x fs) x (with_fields fs)
  acts =
      subst (λ (v : Nodes). Acts t v (gone_at t x fs) x (with_fields fs)) (sym (at_node (without_children t x fs) x (on_fields (with_fields fs)) n left_there))
      (acts_then t (without_children t x fs) (gone_at t x fs) x (with_fields fs) n (acts_plain t (without_children t x fs) (gone_at t x fs) x (λ q. left_at t f x fs q _ refl _ refl)) left_there)

  formed : IsFormed now
  formed = formed-update t f x fs object

  here : get now x ≡ Some node
  here = ap (λ (v : Nodes). get v x) (at_node (without_children t x fs) x (on_fields (with_fields fs)) n left_there) ∙ get_here (without_children t x fs) x node

  kind_now : node.kind ≡ Object (with_fields fs gs)
  kind_now = ap (fields_kind (with_fields fs)) kind

  local : IsLocal t now x (gone_at t x fs)
  local = acts_local t now (gone_at t x fs) x (with_fields fs) acts f formed (at_closed t f x fs)

  -- name by name

  find_now : (q : List ℕ) → find (slice_cmp nat_cmp) q (with_fields fs gs) ≡ or_else (find (slice_cmp nat_cmp) q fs) (find (slice_cmp nat_cmp) q gs)
  find_now q = ap (find (slice_cmp nat_cmp) q) (sym (merged_with gs fs)) ∙ find_merged q gs fs named

  name_by : (q : List ℕ) (o : Option Value) → find (slice_cmp nat_cmp) q fs ≡ o
      → or_else (find (slice_cmp nat_cmp) q (kids_of 59 now x)) (find (slice_cmp nat_cmp) q (with_fields fs gs))
      ≡ or_else o (or_else (find (slice_cmp nat_cmp) q (kids_of 59 t x)) (find (slice_cmp nat_cmp) q gs))
  name_by q None e =
      let stays = λ (y : NodeId) (at : child_at t x q ≡ Some y). stays_unnamed t f x q y at fs e in
      let same = kid_at_x t now (gone_at t x fs) x (with_fields fs) acts f formed (at_closed t f x fs) q stays in
      (λ i. or_else (kid_shown t now f x (gone_at t x fs) local n there 59 q same stays i) (find_now q i))
      ∙ ap (λ o. or_else (find (slice_cmp nat_cmp) q (kids_of 59 t x)) (or_else o (find (slice_cmp nat_cmp) q gs))) e
  name_by q (Some v) e =
      let set : find (slice_cmp nat_cmp) q (with_fields fs gs) ≡ Some v = find_now q ∙ ap (λ o. or_else o (find (slice_cmp nat_cmp) q gs)) e in
      let none : find (slice_cmp nat_cmp) q (kids_of 59 now x) ≡ None = find_kids 59 now x q ∙ ap (option_map (view_within 59 now)) (no_kid now formed x node here (with_fields fs gs) kind_now q v set) in
      (λ i. or_else (none i) (set i))

  shown : merged (with_fields fs gs) (kids_of 59 now x) ≡ merged (merged gs (kids_of 59 t x)) fs
  shown = same_fields (merged (with_fields fs gs) (kids_of 59 now x)) (merged (merged gs (kids_of 59 t x)) fs)
      (ordered_merged (with_fields fs gs) (kids_of 59 now x) (ordered_with fs gs ordered))
      (ordered_merged (merged gs (kids_of 59 t x)) fs (ordered_merged gs (kids_of 59 t x) ordered))
      (λ q.
      find_merged q (with_fields fs gs) (kids_of 59 now x) (kids_ordered 59 now x)
      ∙ name_by q (find (slice_cmp nat_cmp) q fs) refl
      ∙ ap (or_else (find (slice_cmp nat_cmp) q fs)) (sym (find_merged q gs (kids_of 59 t x) (kids_ordered 59 t x)))
      ∙ sym (find_merged q (merged gs (kids_of 59 t x)) fs named))

  shown_now : view_at now x ≡ on_members (λ hs. merged hs fs) (view_at t x)
  shown_now =
      object_view now x node here (with_fields fs gs) kind_now
      ∙ ap (λ z. members (fields_of z)) shown
      ∙ sym (on_shown (λ hs. merged hs fs) (view_at t x) (merged gs (kids_of 59 t x)) (object_view t x n there gs kind))

  live : is_void t (Update x fs) ≡ false
  live = ap not object

  is_now : step t (Update x fs) ≡ now
  is_now = step_acts t (Update x fs) live

  pub update_changes : Changes t x (Update x fs ∷ []) (λ v. on_members (λ hs. merged hs fs) v)
  update_changes = record {
    live = (live, refl, tt);
    node = ap (λ (u : Nodes). view_at u x) is_now ∙ shown_now;
    rest = ap view is_now ∙ rest_of t now f x (gone_at t x fs) local n there formed node here refl (at_root t f x fs) (on_members (λ hs. merged hs fs) (view_at t x)) shown_now;
  }
