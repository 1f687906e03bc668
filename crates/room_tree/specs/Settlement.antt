-- What settlement makes of an operation: nothing, as it is, or moved to another position.
use Rattle.std.specs.Prelude.{◌≡◌, ℕ, ◌&&◌, not, if◌then◌else◌, List, length, nat_le, Option, Some, None, is_some}
use Rattle.std.specs.FinMap.{get}
use Rattle.room_ids.specs.Position.{between}
use Rattle.room_nodes.specs.Shape.{Nodes, child_at, up}
use Rattle.room_nodes.specs.Steps.{is_void, is_other, is_placed, next_key, without, without_replaced, holds_list}
use Rattle.room_nodes.specs.Steps.{settled_body}
use Rattle.room_ids.specs.Order.{is_same}
use Rattle.room_ids.specs.declared.ids.NodeId.{NodeId}
use Rattle.room_ids.specs.declared.ids.NodeId.TheVariants.{Root}
use Rattle.room_nodes.specs.declared.nodes.Kind.{Kind}
use Rattle.room_nodes.specs.declared.nodes.Body.{Body}
use Rattle.room_nodes.specs.declared.nodes.Body.TheVariants.{SetKey, Create}
use Rattle.room_tree.specs.declared.settling.Settled.{Settled}
use Rattle.room_tree.specs.declared.settling.Settled.TheVariants.{Same, Moved, Void}

-- a node at a position in a list: moved where another child has the position
abbrev pub moved_in : Nodes → NodeId → NodeId → List ℕ → Settled
moved_in u p own k = if is_other own (child_at u p k) then Moved (between k (next_key u p k)) else Same

abbrev pub moved : Nodes → Body → Settled
moved t (SetKey x k) = moved_in t (up t x) x k
moved t (Create x p k r kind) = if holds_list (get t p) then moved_in (without_replaced t p r) p x k else Same
moved t b = Same

abbrev pub settlement : Nodes → Body → Settled
settlement t b = if is_void t b then Void else moved t b

-- the settled operation, unless it is void
abbrev pub live_body : Nodes → Body → Option Body
live_body t b = if is_void t b then None else Some (settled_body t b)

-- the list that a node stands in
abbrev pub list_of : Nodes → NodeId → Option NodeId
list_of t x = if is_some (get t x) && (not (is_same x Root) && holds_list (get t (up t x))) then Some (up t x) else None

-- a settled position, unless it is too long
abbrev pub fitting : List ℕ → Settled
fitting z = if nat_le (length z) 4096 then Moved z else Void

-- within a list that is there
abbrev pub placed_in : Nodes → NodeId → NodeId → List ℕ → Settled
placed_in u p own k = if is_placed u p own k then moved_in u p own k else Void

-- where a child that goes isn't counted
abbrev pub placed_without : Nodes → Option NodeId → NodeId → NodeId → List ℕ → Settled
placed_without t r p own k = placed_in (without t r) p own k

-- of a create, which what it makes has no part in
abbrev pub IsCreateSettled : Nodes → NodeId → NodeId → List ℕ → Option NodeId → Settled → Type 0
IsCreateSettled t x p k r s = (kind : Kind) → s ≡ settlement t (Create x p k r kind)

-- an operation with another key
abbrev pub with_key : Body → List ℕ → Body
with_key (SetKey x k) z = SetKey x z
with_key (Create x p k r kind) z = Create x p z r kind
with_key b z = b

abbrev pub settled_by : Settled → Body → Option Body
settled_by Void b = None
settled_by Same b = Some b
settled_by (Moved z) b = Some (with_key b z)
