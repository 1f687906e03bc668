-- What takes an operation back, as operations.
use Rattle.std.specs.Prelude.{ℕ, if◌then◌else◌, List, [], ◌∷◌, ◌++◌, Option, Some, None}
use Rattle.std.specs.Ordering.{nat_cmp}
use Rattle.std.specs.Cmp.Lexicographic.{slice_cmp}
use Rattle.std.specs.FinMap.{get, find}
use Rattle.room_json.specs.Value.{Value}
use Rattle.room_ids.specs.declared.ids.NodeId.{NodeId}
use Rattle.room_nodes.specs.declared.nodes.Node.{Node}
use Rattle.room_nodes.specs.declared.nodes.Kind.{Kind}
use Rattle.room_nodes.specs.declared.nodes.Kind.TheVariants.{Object}
use Rattle.room_nodes.specs.declared.nodes.Body.{Body}
use Rattle.room_nodes.specs.declared.nodes.Body.TheVariants.{SetKey, Create, Update, Delete, DeleteKey}
use Rattle.room_nodes.specs.Shape.{Nodes, child_at}
use Rattle.room_nodes.specs.Steps.{step, is_void, is_under, holds_list}
use Rattle.room_nodes.specs.Preorder.{preorder}

-- restoring a removed node: the creates of it and all below it, in order, with the old ids, keys and contents

abbrev pub creation : NodeId → Option Node → List Body
creation x None = []
creation x (Some n) = Create x n.parent n.key None n.kind ∷ []

abbrev pub creations : Nodes → List NodeId → List Body
creations t [] = []
creations t (x ∷ xs) = creation x (get t x) ++ creations t xs

abbrev pub node_restored : Nodes → NodeId → List Body
node_restored t x = creations t (preorder t x)

abbrev pub child_restored : Nodes → Option NodeId → List Body
child_restored t None = []
child_restored t (Some y) = node_restored t y

-- the old value of an object's field
abbrev pub field_in : List ℕ → Kind → Option Value
field_in k (Object fs) = find (slice_cmp nat_cmp) k fs
field_in k kind = None

abbrev pub field_of_node : List ℕ → Option Node → Option Value
field_of_node k None = None
field_of_node k (Some n) = field_in k n.kind

-- what stands at a key of an object or a map: a field by an update, a child by its creates

abbrev pub slot_or : NodeId → List ℕ → Option Value → List Body → List Body
slot_or x k None bs = bs
slot_or x k (Some v) bs = Update x ((k, v) ∷ []) ∷ []

abbrev pub slot_restored : Nodes → NodeId → List ℕ → List Body
slot_restored t x k = slot_or x k (field_of_node k (get t x)) (child_restored t (child_at t x k))

-- of an update: the old values of the names that were fields, in one update, if there were any; then for each other
-- name, in byte order, the child that stood there, or the removal of a key where there was nothing

abbrev pub old_field : List ℕ → Option Value → List (List ℕ × Value)
old_field k None = []
old_field k (Some v) = (k, v) ∷ []

abbrev pub old_fields : Option Node → List (List ℕ × Value) → List (List ℕ × Value)
old_fields n [] = []
old_fields n (f ∷ fs) = old_field f.0 (field_of_node f.0 n) ++ old_fields n fs

abbrev pub old_update : NodeId → List (List ℕ × Value) → List Body
old_update x [] = []
old_update x (f ∷ fs) = Update x (f ∷ fs) ∷ []

abbrev pub gone_or : NodeId → List ℕ → Option NodeId → List Body → List Body
gone_or x k None bs = DeleteKey x k ∷ []
gone_or x k (Some y) bs = bs

abbrev pub other_name : Nodes → NodeId → List ℕ → Option Value → List Body
other_name t x k None = gone_or x k (child_at t x k) (child_restored t (child_at t x k))
other_name t x k (Some v) = []

abbrev pub other_names : Nodes → NodeId → List (List ℕ × Value) → List Body
other_names t x [] = []
other_names t x (f ∷ fs) = other_name t x f.0 (field_of_node f.0 (get t x)) ++ other_names t x fs

-- of a create: the replaced child of a list, or what stood at the key

abbrev pub replaced_restored : Nodes → NodeId → Option NodeId → List Body
replaced_restored t p None = []
replaced_restored t p (Some x) = if is_under p x (get t x) then node_restored t x else []

abbrev pub displaced : Nodes → NodeId → List ℕ → Option NodeId → List Body
displaced t p k r = if holds_list (get t p) then replaced_restored t p r else slot_restored t p k

abbrev pub key_restored : NodeId → Option Node → List Body
key_restored x None = []
key_restored x (Some n) = SetKey x n.key ∷ []

-- of an operation that isn't void
abbrev pub reversed : Nodes → Body → List Body
reversed t (SetKey x k) = key_restored x (get t x)
reversed t (Create x p k r kind) = Delete x ∷ displaced t p k r
reversed t (Update x fs) = old_update x (old_fields (get t x) fs) ++ other_names t x fs
reversed t (Delete x) = node_restored t x
reversed t (DeleteKey x k) = slot_restored t x k

abbrev pub reverse : Nodes → Body → List Body
reverse t b = if is_void t b then [] else reversed t b

-- of a batch: each operation's on the tree before it, the last operation's first
abbrev pub reverse_all : Nodes → List Body → List Body
reverse_all t [] = []
reverse_all t (b ∷ bs) = reverse_all (step t b) bs ++ reverse t b
