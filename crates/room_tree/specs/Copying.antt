-- A tree on the way to be a copy of another.
use Rattle.std.specs.Prelude.{◌≡◌, ◌≢◌, ◌⊎◌, ℕ, true, List, [], ◌∷◌, Option, Some, None, is_some}
use Rattle.std.specs.FinMap.{get}
use Rattle.room_nodes.specs.Shape.{Nodes, empty_tree}
use Rattle.room_nodes.specs.Primitives.{with_fields_at, fields_in}
use Rattle.room_tree.specs.Nearest.{is_after}
use Rattle.room_ids.specs.declared.ids.NodeId.{NodeId}
use Rattle.room_ids.specs.declared.ids.NodeId.TheVariants.{Root}
use Rattle.room_nodes.specs.declared.nodes.Node.{Node}

abbrev pub Among : NodeId → List NodeId → Type 0
Among x [] = ⊥
Among x (y ∷ ys) = (y ≡ x) ⊎ Among x ys

abbrev pub Once : List NodeId → Type 0
Once [] = Unit {0}
Once (x ∷ xs) = (Among x xs → ⊥) × Once xs

-- the root alone, with the fields of another tree's
abbrev pub bare_copy : Nodes → Nodes
bare_copy t = with_fields_at empty_tree Root (fields_in (get t Root))

-- nothing is in hand
abbrev pub Nothing : NodeId → Node → Type 0
Nothing y n = ⊥

-- the children of x that are still to come: those above a key
abbrev pub ToCome : NodeId → Option (List ℕ) → NodeId → Node → Type 0
ToCome x k y n = (n.parent ≡ x) × (is_after k n.key ≡ true)

-- u is a part of t. The children of its nodes are in it, but for those of `ys` and for those that are still to come
pub record IsCopying (t u : Nodes) (ys : List NodeId) (Later : NodeId → Node → Type 0) : Type 0 where
  pub part : (q : NodeId) → (get u q ≡ get t q) ⊎ (get u q ≡ None)
  pub root : is_some (get u Root) ≡ true
  pub inside : (x : NodeId) → Among x ys → is_some (get u x) ≡ true
  pub once : Once ys
  pub closed : (y : NodeId) (n : Node) → y ≢ Root → get t y ≡ Some n → is_some (get u n.parent) ≡ true →
      (is_some (get u y) ≡ true) ⊎ (Among n.parent ys ⊎ Later y n)
  pub fresh : (y : NodeId) (n : Node) → y ≢ Root → get t y ≡ Some n → Among n.parent ys ⊎ Later y n → get u y ≡ None

-- and x is in hand
pub record IsInHand (t u : Nodes) (ys : List NodeId) (x : NodeId) (k : Option (List ℕ)) : Type 0 where
  pub copying : IsCopying t u ys (ToCome x k)
  pub there : is_some (get u x) ≡ true
  pub apart : Among x ys → ⊥
