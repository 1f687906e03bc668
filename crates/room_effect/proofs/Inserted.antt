-- A new item stands in its gap.
use Rattle.std.proofs.Common.{◌≡◌, ◌≤◌, ◌+◌, ℕ, true, false, List, length, map, Option, Some, None, option_map, refl, sym, ap, ◌∙◌, subst, arith}
use Rattle.std.specs.Prelude.{IfSome}
use Rattle.std.specs.List.{insert as insert_at}
use Rattle.std.specs.FinMap.{get}
use Rattle.std.proofs.lemmas.Option.{slice_get-map}
use Rattle.room_ids.specs.Position.{IsBelow, is_pos}
use Rattle.room_ids.specs.declared.ids.NodeId.{NodeId}
use Rattle.room_json.specs.Value.{Value, list, values_of}
use Rattle.room_nodes.specs.declared.nodes.Kind.TheVariants.{List as Listed}
use Rattle.room_nodes.specs.declared.nodes.Node.{Node}
use Rattle.room_nodes.specs.Shape.{Nodes, IsFormed, child_at, children, has_field, is_list, is_register}
use Rattle.room_items.specs.View.{view, view_at, view_within, second}
use Rattle.room_model.specs.Edits.{on_list, too_long}
use Rattle.room_model.specs.Init.{Init, creates, init_view, node_depth, positions_in, nodes_in}
use Rattle.room_model.specs.Sound.{IsSoundInit}
use Rattle.room_effect.specs.Beside.{left_of, right_of, key_between, IsListAt, is_list_in}
use Rattle.room_effect.specs.Effect.{Changes}
use Rattle.room_effect.proofs.Created.{FreshFrom, grown_local}
use Rattle.room_effect.proofs.Grafting.{MayStand, Grafted, graft_kids}
use Rattle.room_effect.proofs.Indices.{insert_index, none_between, map_insert}
use Rattle.room_effect.proofs.Items.{items_of, list_view, on_items, left_map, right_map, length_map, IsMadeBetween, made_between, kid_index}
use Rattle.room_effect.proofs.Keyed.{kids_of, kids_ordered, rest_of}
use Rattle.room_effect.proofs.Local.{Kid, Pair}
use Rattle.room_effect.proofs.Neighbours.{neighbours}
use Rattle.room_effect.proofs.Planting.{grafts}

module _ (t : Nodes) (f : IsFormed t) (x : NodeId) (n : Node) (there : get t x ≡ Some n) (kind : n.kind ≡ Listed) where
  pub list_at : IsListAt t x
  list_at = ap is_list_in there ∙ ap is_list kind

  abbrev shown : Kid → Pair
  shown e = (e.0, view_within 59 t e.1)

  module _ (g : ℕ) (within : g ≤ length (children t x)) (k : List ℕ) (is : k ≡ key_between (left_of g (children t x)) (right_of g (children t x))) (fits : length k ≤ 4096) where
    pub made : IsMadeBetween (left_of g (children t x)) (right_of g (children t x)) k
    made = subst (λ (j : List ℕ). IsMadeBetween (left_of g (children t x)) (right_of g (children t x)) j) (sym is)
        (made_between (left_of g (children t x)) (right_of g (children t x)) (neighbours t f x g list_at (left_of g (children t x)) (right_of g (children t x)) refl refl))

    pub made_pos : is_pos k ≡ true
    made_pos = made.position fits

    left : IfSome (left_of g (kids_of 59 t x)) (λ j. IsBelow j k)
    left = subst (λ (o : Option (List ℕ)). IfSome o (λ j. IsBelow j k)) (sym (left_map shown (λ e. refl) g (children t x))) made.left

    right : IfSome (right_of g (kids_of 59 t x)) (λ j. IsBelow k j)
    right = subst (λ (o : Option (List ℕ)). IfSome o (λ j. IsBelow k j)) (sym (right_map shown (λ e. refl) g (children t x))) made.right

    few : g ≤ length (kids_of 59 t x)
    few = subst (λ m. g ≤ m) (sym (length_map shown (children t x))) within

    free_by : (o : Option NodeId) → child_at t x k ≡ o → o ≡ None
    free_by None e = refl
    free_by (Some y) e =
        let at = kid_index t x k y e in
        absurd (none_between (kids_of 59 t x) g k (kids_ordered 59 t x) left right few at.0 (k, view_within 59 t y)
        (slice_get-map shown (children t x) at.0 ∙ ap (option_map shown) at.1) refl)

    pub made_free : child_at t x k ≡ None
    made_free = free_by (child_at t x k) refl

    module _ (a c : ℕ) (new : FreshFrom t a c) (i : Init) (deep : node_depth (n.depth + 1) i ≤ 60) (short : too_long (positions_in i) ≡ None) (sound : IsSoundInit i)
        (h : List Value → List Value) (so : insert_at (items_of t x) g (init_view i) ≡ h (items_of t x)) where
      may : MayStand t x n k i
      may = record { free = made_free; plain = ap (has_field k) kind; place = λ l. made_pos; deep = deep; short = short; sound = sound }

      r : (w : Nodes) × Grafted t w x k a c i (creates a c x k None i)
      r = grafts i t a c x n k f new there (ap is_register kind) may

      abbrev w : Nodes
      w = r.0

      w_there : get w x ≡ Some n
      w_there = r.1.grown.node x n there

      kids : kids_of 59 w x ≡ insert_at (kids_of 59 t x) g (k, init_view i)
      kids = graft_kids t w f x n there k a c i (creates a c x k None i) (new c (omega arith)) r.1
          ∙ insert_index (kids_of 59 t x) g k (init_view i) (kids_ordered 59 t x) few left right

      shown_now : view_at w x ≡ on_list h (view_at t x)
      shown_now =
          list_view w x n w_there kind
          ∙ ap (λ vs. list (values_of vs)) (ap (map second) kids ∙ map_insert second (kids_of 59 t x) g (k, init_view i) ∙ so)
          ∙ sym (on_items h (view_at t x) (items_of t x) (list_view t x n there kind))

      pub item_changes : Changes t x (creates a c x k None i) (λ v. on_list h v)
      item_changes = record {
        live = r.1.live;
        node = ap (λ (u : Nodes). view_at u x) r.1.is ∙ shown_now;
        rest = ap view r.1.is
            ∙ rest_of t w f x (λ q. false) (grown_local t w x a (c + nodes_in i) r.1.grown) n there r.1.grown.formed n w_there refl refl (on_list h (view_at t x)) shown_now;
      }
