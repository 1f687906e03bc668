-- A removal takes the name out of what is shown.
use Rattle.std.proofs.Common.{◌≡◌, ℕ, Bool, true, false, cond, not, ◌||◌, List, [], ◌∷◌, Option, Some, None, option_map, is_some, refl, sym, ap, ◌∙◌}
use Rattle.std.specs.BTreeMap.{is_at}
use Rattle.std.specs.Cmp.Lexicographic.{slice_cmp}
use Rattle.std.specs.FinMap.{get, find, insert}
use Rattle.std.specs.Map.{remove_entry}
use Rattle.std.specs.Ordering.{nat_cmp}
use Rattle.room_ids.specs.declared.ids.NodeId.{NodeId}
use Rattle.room_ids.specs.declared.ids.NodeId.TheVariants.{Root}
use Rattle.room_json.specs.Value.{Value, members, fields_of}
use Rattle.room_nodes.specs.declared.nodes.Node.{Node}
use Rattle.room_nodes.specs.declared.nodes.Body.{Body}
use Rattle.room_nodes.specs.declared.nodes.Body.TheVariants.{Delete, DeleteKey}
use Rattle.room_nodes.specs.declared.nodes.Kind.{Kind}
use Rattle.room_nodes.specs.declared.nodes.Kind.TheVariants.{Object, List as Listed, Map as Mapped, Register}
use Rattle.room_nodes.specs.Ordered.{IsOrderedKind}
use Rattle.room_nodes.specs.Primitives.{kind_fields}
use Rattle.room_nodes.specs.Shape.{Nodes, IsFormed, child_at, has_field, is_object, removed}
use Rattle.room_nodes.specs.Steps.{step, is_void, settled_body, holds_object, without_child, without, without_field, on_fields, fields_kind}
use Rattle.room_nodes.proofs.Fitting.{none_of}
use Rattle.room_nodes.proofs.Gets.{differ, true_false}
use Rattle.room_nodes.proofs.StepForm.{at_node, cut_child}
use Rattle.room_steps.proofs.Framing.{gone_of}
use Rattle.room_steps.proofs.Kin.{child_of}
use Rattle.room_steps.proofs.Operations.{emptied}
use Rattle.room_steps.proofs.Restoring.{step_acts, put_same}
use Rattle.room_items.specs.View.{view, view_at, view_within}
use Rattle.room_model.specs.Edits.{on_members, is_keyed, remove_bodies, delete_bodies}
use Rattle.room_effect.specs.Effect.{Changes}
use Rattle.room_effect.proofs.Emptied.{remove_none, empty_formed, empty_here, empty_node, empty_local, empty_root, empty_shown, before_ordered}
use Rattle.room_effect.proofs.Keyed.{kids_of, find_kids, kids_ordered, keyed_view, members_shown, find_shown, on_shown, rest_of}
use Rattle.room_effect.proofs.Members.{or_else}
use Rattle.room_effect.proofs.Still.{none_changes}

abbrev taken_out : List ℕ → Value → Value
taken_out k v = on_members (λ fs. remove_entry (is_at (slice_cmp nat_cmp k)) fs) v

module _ (t : Nodes) (f : IsFormed t) (x : NodeId) (k : List ℕ) (n : Node) (there : get t x ≡ Some n) (keyed : is_keyed n.kind ≡ true) (ordered : IsOrderedKind n.kind) where
  -- by an operation that leaves the emptied tree
  emptied_by : (b : Body) → is_void t b ≡ false → settled_body t b ≡ b → step t b ≡ emptied t x k → Changes t x (b ∷ []) (taken_out k)
  emptied_by b live settled is = record {
    live = (live, settled, tt);
    node = ap (λ (u : Nodes). view_at u x) is ∙ empty_shown t f x k n there keyed ordered;
    rest = ap view is
        ∙ rest_of t (emptied t x k) f x (gone_of t (child_at t x k)) (empty_local t f x k n there) n there (empty_formed t f x k n there) (empty_node t f x k n there) (empty_here t f x k n there) refl
        (empty_root t f x k n there) (taken_out k (view_at t x)) (empty_shown t f x k n there keyed ordered);
  }

  -- nothing stands there
  absent : find (slice_cmp nat_cmp) k (kind_fields n.kind) ≡ None → child_at t x k ≡ None → Changes t x [] (taken_out k)
  absent field child =
      let ms = members_shown n.kind (kids_of 59 t x) in
      let none : find (slice_cmp nat_cmp) k ms ≡ None =
      find_shown k n.kind (kids_of 59 t x) keyed (kids_ordered 59 t x) ∙ (λ i. or_else ((find_kids 59 t x k ∙ ap (option_map (view_within 59 t)) child) i) (field i)) in
      let is = keyed_view t x n there keyed in
      none_changes t f x n there (taken_out k)
      (is ∙ ap (λ z. members (fields_of z)) (sym (remove_none k ms (before_ordered t f x k n there keyed ordered) none)) ∙ sym (on_shown (λ fs. remove_entry (is_at (slice_cmp nat_cmp k)) fs) (view_at t x) ms is))

  -- of a map its child goes
  of_map : n.kind ≡ Mapped → (o : Option NodeId) → child_at t x k ≡ o → Changes t x (delete_bodies o) (taken_out k)
  of_map kind None e = absent (ap (λ z. find (slice_cmp nat_cmp) k (kind_fields z)) kind) e
  of_map kind (Some y) e =
      let c = child_of t x k y e in
      let live : is_void t (Delete y) ≡ false = rw (c.there, differ y Root c.made) refl in
      let left = (cut_child x t f k).0.here ∙ there in
      let same : on_fields (without_field k) n ≡ n = λ i. record n { kind = (ap (fields_kind (without_field k)) kind ∙ sym kind) i } in
      let is : removed t y ≡ emptied t x k =
      ap (without t) (sym e)
      ∙ sym (at_node (without_child t x k) x (on_fields (without_field k)) n left ∙ ap (insert (without_child t x k) x) same ∙ put_same (without_child t x k) x n left) in
      emptied_by (Delete y) live refl (step_acts t (Delete y) live ∙ is)

  by_key : (gs : List (List ℕ × Value)) → n.kind ≡ Object gs → Changes t x (DeleteKey x k ∷ []) (taken_out k)
  by_key gs kind =
      let object : holds_object (get t x) ≡ true = ap holds_object there ∙ ap is_object kind in
      let live : is_void t (DeleteKey x k) ≡ false = ap not object in
      emptied_by (DeleteKey x k) live refl (step_acts t (DeleteKey x k) live)

  of_object : (gs : List (List ℕ × Value)) → n.kind ≡ Object gs → (b d : Bool) → has_field k (Object gs) ≡ b → is_some (child_at t x k) ≡ d → Changes t x (cond (b || d) (DeleteKey x k ∷ []) []) (taken_out k)
  of_object gs kind true d field child = by_key gs kind
  of_object gs kind false true field child = by_key gs kind
  of_object gs kind false false field child = absent (ap (λ z. find (slice_cmp nat_cmp) k (kind_fields z)) kind ∙ none_of _ field) (none_of _ child)

  removal_by : (kind : Kind) → n.kind ≡ kind → Changes t x (remove_bodies kind x k (child_at t x k)) (taken_out k)
  removal_by (Object gs) e = of_object gs e (has_field k (Object gs)) (is_some (child_at t x k)) refl refl
  removal_by Listed e = absurd (true_false (sym keyed ∙ ap is_keyed e))
  removal_by Mapped e = of_map e (child_at t x k) refl
  removal_by (Register v) e = absurd (true_false (sym keyed ∙ ap is_keyed e))

  pub removal_changes : Changes t x (remove_bodies n.kind x k (child_at t x k)) (taken_out k)
  removal_changes = removal_by n.kind refl
