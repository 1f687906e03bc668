-- The entries of a list in order on both sides of a gap, and the position between them.
use Rattle.std.specs.Prelude.{◌≡◌, ℕ, zero, suc, List, [], ◌∷◌, slice_get, Bool, true, false}
use Rattle.std.specs.Prelude.{Option, Some, None, IfSome, option_map}
use Rattle.std.specs.FinMap.{get}
use Rattle.room_ids.specs.Position.{IsBelow, is_pos, first as first_position, after as after_position}
use Rattle.room_ids.specs.Position.{before as before_position, between as between_positions}
use Rattle.room_ids.specs.declared.ids.NodeId.{NodeId}
use Rattle.room_nodes.specs.declared.nodes.Node.{Node}
use Rattle.room_nodes.specs.Shape.{Nodes, is_list}

abbrev pub Kids : Type 0
Kids = List (List ℕ × NodeId)

abbrev pub last_by : List ℕ → Option (List ℕ) → List ℕ
last_by k None = k
last_by k (Some j) = j

-- the position of the last entry before the gap g
abbrev pub left_of : {X : Type 0} → ℕ → List (List ℕ × X) → Option (List ℕ)
left_of g [] = None
left_of zero (e ∷ es) = None
left_of (suc g) (e ∷ es) = Some (last_by e.0 (left_of g es))

-- and of the first behind it
abbrev pub right_of : {X : Type 0} → ℕ → List (List ℕ × X) → Option (List ℕ)
right_of {X = X} g es = option_map (λ (e : List ℕ × X). e.0) (slice_get es g)

-- the position of a new item between two others, of which one or both may be missing
abbrev pub key_between : Option (List ℕ) → Option (List ℕ) → List ℕ
key_between None None = first_position
key_between None (Some y) = before_position y
key_between (Some x) None = after_position x
key_between (Some x) (Some y) = between_positions x (Some y)

-- what stands on both sides of a gap are positions, the first below the second
pub record AreNeighbours (l r : Option (List ℕ)) : Type 0 where
  pub left : IfSome l (λ x. is_pos x ≡ true)
  pub right : IfSome r (λ y. is_pos y ≡ true)
  pub below : IfSome l (λ x. IfSome r (λ y. IsBelow x y))

abbrev pub is_list_in : Option Node → Bool
is_list_in None = false
is_list_in (Some n) = is_list n.kind

-- a list stands there
abbrev pub IsListAt : Nodes → NodeId → Type 0
IsListAt t x = is_list_in (get t x) ≡ true
