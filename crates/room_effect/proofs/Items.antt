-- What lists show, item by item.
use Rattle.std.proofs.Common.{◌≡◌, inl, inr, ℕ, zero, suc, List, [], ◌∷◌, length, map, Option, Some, None, refl, ap, ◌∙◌}
use Rattle.std.specs.Prelude.{IfSome, slice_get}
use Rattle.std.specs.Cmp.Lexicographic.{slice_cmp}
use Rattle.std.specs.FinMap.{get}
use Rattle.std.specs.Ordering.{nat_cmp}
use Rattle.room_ids.specs.Position.{IsBelow}
use Rattle.room_ids.specs.Laws.{IsPosUnlessLong}
use Rattle.room_ids.specs.declared.ids.NodeId.{NodeId}
use Rattle.room_ids.proofs.Makings.{made_positions, after_above, before_below, between_between}
use Rattle.room_json.proofs.Values.{values_list-values_of}
use Rattle.room_json.specs.Value.{Value, list, values_of}
use Rattle.room_nodes.specs.declared.nodes.Kind.TheVariants.{List as Listed}
use Rattle.room_nodes.specs.declared.nodes.Node.{Node}
use Rattle.room_nodes.specs.Shape.{Nodes, child_at, children}
use Rattle.room_nodes.proofs.Listing.{Has, find_has}
use Rattle.room_nodes.proofs.Children.{text_exact}
use Rattle.room_items.specs.View.{view_at, node_view, kind_view, second}
use Rattle.room_model.specs.Edits.{on_list}
use Rattle.room_effect.specs.Beside.{Kids, last_by, left_of, right_of, key_between, AreNeighbours}
use Rattle.room_effect.proofs.Keyed.{kids_of, view_is}
use Rattle.room_effect.proofs.Local.{Kid, Pair}

abbrev pub items_of : Nodes → NodeId → List Value
items_of t x = map second (kids_of 59 t x)

pub list_view : (t : Nodes) (x : NodeId) (n : Node) → get t x ≡ Some n → n.kind ≡ Listed → view_at t x ≡ list (values_of (items_of t x))
list_view t x n there kind = view_is t x ∙ ap (λ o. node_view o (kids_of 59 t x)) there ∙ ap (λ k. kind_view k (kids_of 59 t x)) kind

pub on_items : (f : List Value → List Value) (v : Value) (vs : List Value) → v ≡ list (values_of vs) → on_list f v ≡ list (values_of (f vs))
on_items f v vs e = ap (on_list f) e ∙ ap (λ ws. list (values_of (f ws))) (values_list-values_of vs)

-- entries and what stands in their places, beside a gap

module _ (f : Kid → Pair) (key : (e : Kid) → (f e).0 ≡ e.0) where
  pub left_map : (g : ℕ) (cs : Kids) → left_of g (map f cs) ≡ left_of g cs
  left_map g [] = refl
  left_map zero (e ∷ cs) = refl
  left_map (suc g) (e ∷ cs) = λ i. Some (last_by (key e i) (left_map g cs i))

  pub right_map : (g : ℕ) (cs : Kids) → right_of g (map f cs) ≡ right_of g cs
  right_map g [] = refl
  right_map zero (e ∷ cs) = ap Some (key e)
  right_map (suc g) (e ∷ cs) = right_map g cs

pub length_map : (f : Kid → Pair) (cs : Kids) → length (map f cs) ≡ length cs
length_map f [] = refl
length_map f (e ∷ cs) = ap suc (length_map f cs)

-- the position that is made between two neighbours

pub record IsMadeBetween (l r : Option (List ℕ)) (k : List ℕ) : Type 0 where
  pub left : IfSome l (λ j. IsBelow j k)
  pub right : IfSome r (λ j. IsBelow k j)
  pub position : IsPosUnlessLong k

pub made_between : (l r : Option (List ℕ)) → AreNeighbours l r → IsMadeBetween l r (key_between l r)
made_between None None h = record { left = tt; right = tt; position = λ s. made_positions.0 }
made_between None (Some y) h = record { left = tt; right = before_below y h.right; position = (made_positions.1 y h.right).1 }
made_between (Some x) None h = record { left = after_above x h.left; right = tt; position = (made_positions.1 x h.left).0 }
made_between (Some x) (Some y) h =
    let b = between_between x (Some y) (h.left, (h.right, h.below)) in
    record { left = b.0; right = b.1; position = made_positions.2 x (Some y) (h.left, (h.right, h.below)) }

-- a child that is found stands at an index

pub has_index : (cs : Kids) (e : Kid) → Has e cs → (n : ℕ) × (slice_get cs n ≡ Some e)
has_index [] e h = absurd h
has_index (f ∷ cs) e h = elim h [
  | inl is ↦ (zero, ap Some is)
  | inr m ↦ let r = has_index cs e m in (suc r.0, r.1)
]

pub kid_index : (t : Nodes) (x : NodeId) (k : List ℕ) (y : NodeId) → child_at t x k ≡ Some y → (n : ℕ) × (slice_get (children t x) n ≡ Some (k, y))
kid_index t x k y e = has_index (children t x) (k, y) (find_has (slice_cmp nat_cmp) text_exact k y (children t x) e)
