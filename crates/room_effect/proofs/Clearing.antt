-- All items taken out.
use Rattle.std.proofs.Common.{◌≡◌, ◌≢◌, ℕ, inl, inr, Bool, true, false, cond, T, List, [], ◌∷◌, map, Option, Some, None, option_map, refl, sym, ap, ◌∙◌, subst}
use Rattle.std.specs.Prelude.{slice_get}
use Rattle.std.specs.Cmp.Lexicographic.{slice_cmp}
use Rattle.std.specs.FinMap.{get, find, entries, is_sorted}
use Rattle.std.specs.FinMap.Entries.{same_entries, below_all}
use Rattle.std.specs.Ordering.{nat_cmp, eq_by_cmp}
use Rattle.std.proofs.lemmas.Cmp.{nat_list_cmp_total}
use Rattle.room_ids.specs.declared.ids.NodeId.{NodeId}
use Rattle.room_json.specs.Value.{Value, list, values_of}
use Rattle.room_nodes.specs.declared.nodes.Kind.TheVariants.{List as Listed}
use Rattle.room_nodes.specs.declared.nodes.Node.{Node}
use Rattle.room_nodes.specs.Shape.{Nodes, IsFormed, child_at, children}
use Rattle.room_nodes.specs.Steps.{fold, without_child, without_children}
use Rattle.room_nodes.proofs.Children.{text_exact}
use Rattle.room_nodes.proofs.Gets.{true_false}
use Rattle.room_nodes.proofs.Listing.{find_has, has_above, parts}
use Rattle.room_nodes.proofs.Places.{children_sorted, not_below_itself}
use Rattle.room_nodes.proofs.StepForm.{cut_children, Named}
use Rattle.room_steps.proofs.Booleans.{by_no}
use Rattle.room_steps.proofs.Changing.{Acts, child_was}
use Rattle.room_steps.proofs.Fields.{same_fields, same_name, key_self}
use Rattle.room_steps.proofs.Framing.{gone_at, plain, acts_plain}
use Rattle.room_steps.proofs.Kin.{child_of, found}
use Rattle.room_steps.proofs.Operations.{emptied}
use Rattle.room_steps.proofs.Touching.{left_at}
use Rattle.room_items.specs.View.{view, view_at, view_within, second}
use Rattle.room_model.specs.Edits.{on_list, clear_bodies}
use Rattle.room_effect.specs.Effect.{Changes, AreLive}
use Rattle.room_effect.proofs.Acting.{acts_local, at_closed, at_root}
use Rattle.room_effect.proofs.Emptied.{empty_formed, empty_here, empty_node, empty_none, beside_same}
use Rattle.room_effect.proofs.Items.{items_of, list_view, on_items}
use Rattle.room_effect.proofs.Keyed.{kids_of, find_kids, kids_ordered, rest_of}
use Rattle.room_effect.proofs.Local.{Kid, Pair, IsLocal}
use Rattle.room_effect.proofs.Planting.{no_members}
use Rattle.room_effect.proofs.Taken.{delete_live, delete_step, emptied_list, kind_empty}

abbrev Sorted : List Kid → Type 0
Sorted cs = T (is_sorted (slice_cmp nat_cmp) cs)

-- the others, once the first is out

none_by : (q : List ℕ) (e : Kid) (es : List Kid) (o : Option NodeId) → Sorted (e ∷ es) → e.0 ≡ q → find (slice_cmp nat_cmp) q es ≡ o → o ≡ None
none_by q e es None s is h = refl
none_by q e es (Some z) s is h =
    let below = has_above (slice_cmp nat_cmp) text_exact nat_list_cmp_total e.0 (q, z) es (parts (below_all (slice_cmp nat_cmp) e.0 es) _ s).0 (find_has (slice_cmp nat_cmp) text_exact q z es h) in
    absurd (not_below_itself q (ap (λ j. slice_cmp nat_cmp j q) (sym is) ∙ below))

module _ (v : Nodes) (f : IsFormed v) (x : NodeId) (m : Node) (there : get v x ≡ Some m) (e : Kid) (es : List Kid) (is : children v x ≡ e ∷ es) where
  sorted : Sorted (e ∷ es)
  sorted = subst Sorted is (children_sorted x (entries v))

  other_way : (q : List ℕ) → eq_by_cmp (slice_cmp nat_cmp) e.0 q ≡ false → eq_by_cmp (slice_cmp nat_cmp) q e.0 ≡ false
  other_way q h = by_no (eq_by_cmp (slice_cmp nat_cmp) q e.0) (λ s. true_false (sym (key_self e.0) ∙ ap (eq_by_cmp (slice_cmp nat_cmp) e.0) (sym (same_name q e.0 s)) ∙ h))

  name_by : (q : List ℕ) (b : Bool) → eq_by_cmp (slice_cmp nat_cmp) e.0 q ≡ b → child_at (emptied v x e.0) x q ≡ find (slice_cmp nat_cmp) q es
  name_by q true h =
      let one = same_name e.0 q h in
      ap (child_at (emptied v x e.0) x) (sym one) ∙ empty_none v f x e.0 m there ∙ sym (none_by q e es (find (slice_cmp nat_cmp) q es) sorted one refl)
  name_by q false h =
      let other : e.0 ≢ q = λ i. true_false (sym (key_self e.0) ∙ ap (eq_by_cmp (slice_cmp nat_cmp) e.0) i ∙ h) in
      sym (beside_same v f x e.0 m there q other) ∙ ap (find (slice_cmp nat_cmp) q) is ∙ ap (λ b. cond b (Some e.1) (find (slice_cmp nat_cmp) q es)) (other_way q h)

  rest_left : children (emptied v x e.0) x ≡ es
  rest_left = same_entries (slice_cmp nat_cmp) nat_list_cmp_total text_exact (children (emptied v x e.0) x) es
      (children_sorted x (entries (emptied v x e.0))) (parts (below_all (slice_cmp nat_cmp) e.0 es) _ sorted).1
      (λ q. name_by q (eq_by_cmp (slice_cmp nat_cmp) e.0 q) refl)

clear_steps : (x : NodeId) (cs : List Kid) (v : Nodes) → IsFormed v → (m : Node) → get v x ≡ Some m → m.kind ≡ Listed → children v x ≡ cs
    → AreLive v (clear_bodies cs) × (fold v (clear_bodies cs) ≡ without_children v x cs)
clear_steps x [] v f m there kind is = (tt, refl)
clear_steps x (e ∷ es) v f m there kind is =
    let at : slice_get (children v x) 0 ≡ Some e = ap (λ cs. slice_get cs 0) is in
    let u = emptied v x e.0 in
    let first = delete_step v f x m there kind 0 e at in
    let more = clear_steps x es u (empty_formed v f x e.0 m there) (empty_node v f x e.0 m there) (empty_here v f x e.0 m there) (kind_empty v f x m there kind e.0) (rest_left v f x m there e es is) in (
      (delete_live v f x m there kind 0 e at, refl, subst (λ (z : Nodes). AreLive z (clear_bodies es)) (sym first) more.0),
      ap (λ (z : Nodes). fold z (clear_bodies es)) first ∙ more.1 ∙ ap (λ (z : Nodes). without_children z x es) (sym (emptied_list v f x m there kind e.0)),
    )

by_keys : (h : Kid → Pair) → ((e : Kid) → (h e).0 ≡ e.0) → (v : Nodes) (x : NodeId) (cs : List Kid) → without_children v x cs ≡ without_children v x (map h cs)
by_keys h key v x [] = refl
by_keys h key v x (e ∷ es) = ap (λ k. without_children (without_child v x k) x es) (sym (key e)) ∙ by_keys h key (without_child v x (h e).0) x es

named_by : (p : NodeId) (q : List ℕ) (e : Pair) (es : List Pair) (w : Value) (b : Bool) → eq_by_cmp (slice_cmp nat_cmp) q e.0 ≡ b → cond b (Some e.1) (find (slice_cmp nat_cmp) q es) ≡ Some w
    → (find (slice_cmp nat_cmp) q es ≡ Some w → Named p q es) → Named p q (e ∷ es)
named_by p q e es w true i h more = inl (sym (same_name q e.0 i))
named_by p q e es w false i h more = inr (more h)

named : (p : NodeId) (q : List ℕ) (es : List Pair) (w : Value) → find (slice_cmp nat_cmp) q es ≡ Some w → Named p q es
named p q [] w h = cc
named p q (e ∷ es) w h = named_by p q e es w (eq_by_cmp (slice_cmp nat_cmp) q e.0) refl h (named p q es w)

module _ (t : Nodes) (f : IsFormed t) (x : NodeId) (n : Node) (there : get t x ≡ Some n) (kind : n.kind ≡ Listed) where
  abbrev fs : List Pair
  fs = kids_of 59 t x

  abbrev now : Nodes
  now = without_children t x (kids_of 59 t x)

  steps : AreLive t (clear_bodies (children t x)) × (fold t (clear_bodies (children t x)) ≡ without_children t x (children t x))
  steps = clear_steps x (children t x) t f n there kind refl

  fold_is : fold t (clear_bodies (children t x)) ≡ now
  fold_is = steps.1 ∙ by_keys (λ (e : Kid). (e.0, view_within 59 t e.1)) (λ e. refl) t x (children t x)

  acts : Acts t now (gone_at t x fs) x plain
  acts = acts_plain t now (gone_at t x fs) x (λ q. left_at t f x fs q _ refl _ refl)

  formed : IsFormed now
  formed = (cut_children x t f fs).0.formed

  here : get now x ≡ Some n
  here = (cut_children x t f fs).0.here ∙ there

  local : IsLocal t now x (gone_at t x fs)
  local = acts_local t now (gone_at t x fs) x plain acts f formed (at_closed t f x fs)

  bare_by : (q : List ℕ) (o : Option NodeId) → child_at now x q ≡ o → o ≡ None
  bare_by q None e = refl
  bare_by q (Some y) e =
      let c = child_of now x q y e in
      let w = child_was t now (gone_at t x fs) x plain acts x q y c in
      let at = find_kids 59 t x q ∙ ap (option_map (view_within 59 t)) (found t f x q y w.0) in
      absurd ((cut_children x t f fs).1 q (named x q fs (view_within 59 t y) at) y c.node c.made c.there c.parent c.key)

  bare : kids_of 59 now x ≡ []
  bare = same_fields (kids_of 59 now x) [] (kids_ordered 59 now x) no_members (λ q. find_kids 59 now x q ∙ ap (option_map (view_within 59 now)) (bare_by q (child_at now x q) refl))

  shown_now : view_at now x ≡ on_list (λ vs. []) (view_at t x)
  shown_now = list_view now x n here kind ∙ ap (λ es. list (values_of (map second es))) bare ∙ sym (on_items (λ vs. []) (view_at t x) (items_of t x) (list_view t x n there kind))

  pub clear_changes : Changes t x (clear_bodies (children t x)) (λ v. on_list (λ vs. []) v)
  clear_changes = record {
    live = steps.0;
    node = ap (λ (u : Nodes). view_at u x) fold_is ∙ shown_now;
    rest = ap view fold_is ∙ rest_of t now f x (gone_at t x fs) local n there formed n here refl (at_root t f x fs) (on_list (λ vs. []) (view_at t x)) shown_now;
  }
