-- An item taken out.
use Rattle.std.proofs.Common.{◌≡◌, ℕ, zero, suc, inl, inr, false, List, [], ◌∷◌, map, Some, option_map, refl, sym, ap, ◌∙◌}
use Rattle.std.specs.Prelude.{slice_get}
use Rattle.std.specs.BTreeMap.{is_at}
use Rattle.std.specs.List.{remove as remove_at}
use Rattle.std.specs.Map.{remove_entry}
use Rattle.std.specs.Cmp.Lexicographic.{slice_cmp}
use Rattle.std.specs.FinMap.{get, entries, insert}
use Rattle.std.specs.Ordering.{nat_cmp, eq_by_cmp}
use Rattle.std.proofs.lemmas.Cmp.{nat_list_cmp_total}
use Rattle.std.proofs.lemmas.Option.{slice_get-map}
use Rattle.room_ids.specs.declared.ids.NodeId.{NodeId}
use Rattle.room_ids.specs.declared.ids.NodeId.TheVariants.{Root}
use Rattle.room_json.specs.Value.{list, values_of}
use Rattle.room_nodes.specs.declared.nodes.Body.TheVariants.{Delete}
use Rattle.room_nodes.specs.declared.nodes.Kind.TheVariants.{List as Listed}
use Rattle.room_nodes.specs.declared.nodes.Node.{Node}
use Rattle.room_nodes.specs.Shape.{Nodes, IsFormed, child_at, children, removed}
use Rattle.room_nodes.specs.Steps.{step, is_void, without, without_child, without_field, on_fields, fields_kind}
use Rattle.room_nodes.proofs.Children.{text_exact}
use Rattle.room_nodes.proofs.Gets.{differ, some_inj}
use Rattle.room_nodes.proofs.Listing.{Has, has_find}
use Rattle.room_nodes.proofs.Places.{children_sorted}
use Rattle.room_nodes.proofs.StepForm.{at_node, cut_child}
use Rattle.room_steps.proofs.Fields.{same_fields, find_without, ordered_without}
use Rattle.room_steps.proofs.Framing.{gone_of}
use Rattle.room_steps.proofs.Kin.{child_of}
use Rattle.room_steps.proofs.Operations.{emptied}
use Rattle.room_steps.proofs.Restoring.{step_acts, put_same}
use Rattle.room_items.specs.View.{view, view_at, view_within, second}
use Rattle.room_model.specs.Edits.{on_list}
use Rattle.room_effect.specs.Effect.{Changes}
use Rattle.room_effect.proofs.Emptied.{remove_without, empty_formed, empty_here, empty_node, empty_local, empty_root, kids_by}
use Rattle.room_effect.proofs.Indices.{remove_index, map_remove}
use Rattle.room_effect.proofs.Items.{items_of, list_view, on_items}
use Rattle.room_effect.proofs.Keyed.{kids_of, kids_ordered, rest_of}
use Rattle.room_effect.proofs.Local.{Kid}

pub got_has : (cs : List Kid) (i : ℕ) (e : Kid) → slice_get cs i ≡ Some e → Has e cs
got_has [] i e g = cc
got_has (c ∷ cs) zero e g = inl (some_inj c e g)
got_has (c ∷ cs) (suc i) e g = inr (got_has cs i e g)

pub kid_at : (t : Nodes) (x : NodeId) (i : ℕ) (e : Kid) → slice_get (children t x) i ≡ Some e → child_at t x e.0 ≡ Some e.1
kid_at t x i e g = has_find (slice_cmp nat_cmp) text_exact nat_list_cmp_total e (children t x) (children_sorted x (entries t)) (got_has (children t x) i e g)

module _ (t : Nodes) (f : IsFormed t) (x : NodeId) (n : Node) (there : get t x ≡ Some n) (kind : n.kind ≡ Listed) where
  -- a list has no field to be emptied
  pub emptied_list : (k : List ℕ) → without_child t x k ≡ emptied t x k
  emptied_list k =
      let left = (cut_child x t f k).0.here ∙ there in
      let same : on_fields (without_field k) n ≡ n = λ i. record n { kind = (ap (fields_kind (without_field k)) kind ∙ sym kind) i } in
      sym (at_node (without_child t x k) x (on_fields (without_field k)) n left ∙ ap (insert (without_child t x k) x) same ∙ put_same (without_child t x k) x n left)

  pub kids_without : (k : List ℕ) → kids_of 59 (emptied t x k) x ≡ remove_entry (is_at (slice_cmp nat_cmp k)) (kids_of 59 t x)
  kids_without k =
      same_fields (kids_of 59 (emptied t x k) x) (without_field k (kids_of 59 t x)) (kids_ordered 59 (emptied t x k) x) (ordered_without k (kids_of 59 t x) (kids_ordered 59 t x))
      (λ q. kids_by t f x k n there q (eq_by_cmp (slice_cmp nat_cmp) k q) refl ∙ sym (find_without q k (kids_of 59 t x)))
      ∙ sym (remove_without k (kids_of 59 t x) (kids_ordered 59 t x))

  pub kind_empty : (k : List ℕ) → (empty_node t f x k n there).kind ≡ Listed
  kind_empty k = ap (fields_kind (without_field k)) kind

  module _ (i : ℕ) (e : Kid) (at : slice_get (children t x) i ≡ Some e) where
    child : child_at t x e.0 ≡ Some e.1
    child = kid_at t x i e at

    pub removed_is : removed t e.1 ≡ emptied t x e.0
    removed_is = ap (without t) (sym child) ∙ emptied_list e.0

    pub delete_live : is_void t (Delete e.1) ≡ false
    delete_live = let c = child_of t x e.0 e.1 child in rw (c.there, differ e.1 Root c.made) refl

    pub delete_step : step t (Delete e.1) ≡ emptied t x e.0
    delete_step = step_acts t (Delete e.1) delete_live ∙ removed_is

    pub kids_taken : kids_of 59 (emptied t x e.0) x ≡ remove_at (kids_of 59 t x) i
    kids_taken = kids_without e.0
        ∙ remove_index (kids_of 59 t x) i (e.0, view_within 59 t e.1) (kids_ordered 59 t x)
        (slice_get-map (λ (d : Kid). (d.0, view_within 59 t d.1)) (children t x) i ∙ ap (option_map (λ (d : Kid). (d.0, view_within 59 t d.1))) at)

    shown_taken : view_at (emptied t x e.0) x ≡ on_list (λ vs. remove_at vs i) (view_at t x)
    shown_taken =
        list_view (emptied t x e.0) x (empty_node t f x e.0 n there) (empty_here t f x e.0 n there) (kind_empty e.0)
        ∙ ap (λ vs. list (values_of vs)) (ap (map second) kids_taken ∙ map_remove second (kids_of 59 t x) i)
        ∙ sym (on_items (λ vs. remove_at vs i) (view_at t x) (items_of t x) (list_view t x n there kind))

    pub take_changes : Changes t x (Delete e.1 ∷ []) (λ v. on_list (λ vs. remove_at vs i) v)
    take_changes = record {
      live = (delete_live, refl, tt);
      node = ap (λ (u : Nodes). view_at u x) delete_step ∙ shown_taken;
      rest = ap view delete_step
          ∙ rest_of t (emptied t x e.0) f x (gone_of t (child_at t x e.0)) (empty_local t f x e.0 n there) n there (empty_formed t f x e.0 n there) (empty_node t f x e.0 n there) (empty_here t f x e.0 n there) refl
          (empty_root t f x e.0 n there) (on_list (λ vs. remove_at vs i) (view_at t x)) shown_taken;
    }
