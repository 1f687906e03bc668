-- What an operation does to a tree.
use Rattle.std.specs.Prelude.{◌+◌, ℕ, nat_le, nat_lt, Bool, false, ◌||◌, ◌&&◌, not, if◌then◌else◌}
use Rattle.std.specs.Prelude.{List, [], ◌∷◌, length, Option, Some, None, option_map, is_some}
use Rattle.std.specs.Ordering.{nat_cmp, eq_by_cmp}
use Rattle.std.specs.Cmp.Lexicographic.{slice_cmp}
use Rattle.std.specs.FinMap.{get, insert, put}
use Rattle.std.specs.FinMap.Entries.{where_key}
use Rattle.room_ids.specs.Position.{is_pos, between}
use Rattle.room_json.specs.Value.{Value}
use Rattle.room_ids.specs.Order.{is_same}
use Rattle.room_nodes.specs.Shape.{Nodes, is_object, is_list, is_register}
use Rattle.room_nodes.specs.Shape.{is_child, children, child_at, next_of, up, removed}
use Rattle.room_ids.specs.declared.ids.NodeId.{NodeId}
use Rattle.room_ids.specs.declared.ids.NodeId.TheVariants.{Root}
use Rattle.room_nodes.specs.declared.nodes.Node.{Node}
use Rattle.room_nodes.specs.declared.nodes.Kind.{Kind}
use Rattle.room_nodes.specs.declared.nodes.Kind.TheVariants.{Object}
use Rattle.room_nodes.specs.declared.nodes.Body.{Body}
use Rattle.room_nodes.specs.declared.nodes.Body.TheVariants.{SetKey, Create, Update, Delete, DeleteKey}

-- tests of what stands at an id

abbrev pub holds_object : Option Node → Bool
holds_object None = false
holds_object (Some n) = is_object n.kind

abbrev pub holds_list : Option Node → Bool
holds_list None = false
holds_list (Some n) = is_list n.kind

-- a node may be put under it
abbrev pub has_room : Option Node → Bool
has_room None = false
has_room (Some n) = not (is_register n.kind) && nat_lt n.depth 60

abbrev pub is_under : NodeId → NodeId → Option Node → Bool
is_under p x None = false
is_under p x (Some n) = is_child p (x, n)

-- taking out

abbrev pub without : Nodes → Option NodeId → Nodes
without t None = t
without t (Some c) = removed t c

abbrev pub without_child : Nodes → NodeId → List ℕ → Nodes
without_child t p k = without t (child_at t p k)

abbrev pub without_children : {V : Type 0} → Nodes → NodeId → List (List ℕ × V) → Nodes
without_children t p [] = t
without_children t p (e ∷ es) = without_children (without_child t p e.0) p es

abbrev pub without_replaced : Nodes → NodeId → Option NodeId → Nodes
without_replaced t p None = t
without_replaced t p (Some x) = if is_under p x (get t x) then removed t x else t

-- settlement

abbrev pub is_other : NodeId → Option NodeId → Bool
is_other own None = false
is_other own (Some c) = not (is_same c own)

abbrev pub next_key : Nodes → NodeId → List ℕ → Option (List ℕ)
next_key t p k = option_map (λ e. e.0) (next_of (Some k) (children t p))

-- the position k of a node among the children of a list p
abbrev pub settled_key : Nodes → NodeId → NodeId → List ℕ → List ℕ
settled_key t p own k = if is_other own (child_at t p k) then between k (next_key t p k) else k

-- a position that can be settled
abbrev pub is_placed : Nodes → NodeId → NodeId → List ℕ → Bool
is_placed t p own k = is_pos k && nat_le (length (settled_key t p own k)) 4096

abbrev pub is_void : Nodes → Body → Bool
is_void t (SetKey x k) =
    not (is_some (get t x))
    || (is_same x Root || (not (holds_list (get t (up t x))) || not (is_placed t (up t x) x k)))
is_void t (Create x p k r kind) =
    is_some (get t x)
    || (not (has_room (get t p)) || (holds_list (get t p) && not (is_placed (without_replaced t p r) p x k)))
is_void t (Update x fs) = not (holds_object (get t x))
is_void t (Delete x) = not (is_some (get t x)) || is_same x Root
is_void t (DeleteKey x k) = not (holds_object (get t x))

-- the operation with its position settled
abbrev pub settled_body : Nodes → Body → Body
settled_body t (SetKey x k) = if is_void t (SetKey x k) then SetKey x k else SetKey x (settled_key t (up t x) x k)
settled_body t (Create x p k r kind) =
    if is_void t (Create x p k r kind) || not (holds_list (get t p)) then Create x p k r kind
    else Create x p (settled_key (without_replaced t p r) p x k) r kind
settled_body t b = b

-- effects

abbrev pub changed_at : Nodes → NodeId → (Node → Node) → Option Node → Nodes
changed_at t x f None = t
changed_at t x f (Some n) = insert t x (f n)

abbrev pub changed : Nodes → NodeId → (Node → Node) → Nodes
changed t x f = changed_at t x f (get t x)

abbrev pub fields_kind : (List (List ℕ × Value) → List (List ℕ × Value)) → Kind → Kind
fields_kind f (Object fs) = Object (f fs)
fields_kind f k = k

abbrev pub on_fields : (List (List ℕ × Value) → List (List ℕ × Value)) → Node → Node
on_fields f n = record n { kind = fields_kind f n.kind }

abbrev pub with_fields : List (List ℕ × Value) → List (List ℕ × Value) → List (List ℕ × Value)
with_fields [] fs = fs
with_fields (e ∷ es) fs = with_fields es (put (slice_cmp nat_cmp) e.0 e.1 fs)

abbrev pub without_field : List ℕ → List (List ℕ × Value) → List (List ℕ × Value)
without_field k fs = where_key (slice_cmp nat_cmp) (λ x. not (eq_by_cmp (slice_cmp nat_cmp) k x)) fs

-- what a create takes out at its place
abbrev pub cleared : Nodes → NodeId → List ℕ → Option NodeId → Option Node → Nodes
cleared t p k r None = t
cleared t p k r (Some n) =
    if is_list n.kind then without_replaced t p r
    else changed (without_child t p k) p (on_fields (without_field k))

abbrev pub depth_in : Option Node → ℕ
depth_in None = 0
depth_in (Some n) = n.depth

abbrev pub effect : Nodes → Body → Nodes
effect t (SetKey x k) = changed t x (λ n. record n { key = k })
effect t (Create x p k r kind) =
    insert (cleared t p k r (get t p)) x (record { parent = p; key = k; depth = depth_in (get t p) + 1; kind = kind })
effect t (Update x fs) = changed (without_children t x fs) x (on_fields (with_fields fs))
effect t (Delete x) = removed t x
effect t (DeleteKey x k) = changed (without_child t x k) x (on_fields (without_field k))

unfoldable pub step : Nodes → Body → Nodes
step t b = if is_void t b then t else effect t (settled_body t b)

abbrev pub fold : Nodes → List Body → Nodes
fold t [] = t
fold t (b ∷ bs) = fold (step t b) bs

-- each operation settled on the tree after those before it
abbrev pub settle_all : Nodes → List Body → List Body
settle_all t [] = []
settle_all t (b ∷ bs) = settled_body t b ∷ settle_all (step t (settled_body t b)) bs
