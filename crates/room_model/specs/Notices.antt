-- Notices: what changed in a view, and where.
use Rattle.std.specs.Prelude.{ℕ, zero, suc, pos, Bool, true, false, ◌&&◌, ◌||◌, if◌then◌else◌, nat_lt, nat_le, is_some}
use Rattle.std.specs.Prelude.{List, [], ◌∷◌, ◌++◌, map, length, insert, remove, slice_get, slice_set, codes, Option}
use Rattle.std.specs.Prelude.{Some, None, option_map, option_and_then}
use Rattle.std.specs.Ordering.{nat_cmp}
use Rattle.std.specs.Cmp.Lexicographic.{slice_cmp}
use Rattle.std.specs.BTreeMap.{insert_entry, is_at}
use Rattle.std.specs.Map.{lookup, remove_entry}
use Rattle.std.specs.FinMap.{get}
use Rattle.room_json.specs.Value.{Value, whole, text, list, members, values_of, values_list, fields_of, fields_list}
use Rattle.room_json.specs.Value.{merged, object_of}
use Rattle.room_ids.specs.Order.{is_same}
use Rattle.room_ids.specs.declared.ids.NodeId.{NodeId}
use Rattle.room_ids.specs.declared.ids.NodeId.TheVariants.{Root}
use Rattle.room_nodes.specs.declared.nodes.Node.{Node}
use Rattle.room_nodes.specs.declared.nodes.Kind.{Kind}
use Rattle.room_nodes.specs.declared.nodes.Kind.TheVariants.{Object, List as Listed, Map, Register}
use Rattle.room_nodes.specs.declared.nodes.Body.{Body}
use Rattle.room_nodes.specs.declared.nodes.Body.TheVariants.{SetKey, Create, Update, Delete, DeleteKey}
use Rattle.room_nodes.specs.Shape.{Nodes, children, child_at, has_field}
use Rattle.room_nodes.specs.Steps.{step, is_void, settled_body, is_under, holds_list}
use Rattle.room_items.specs.View.{kind_view}

-- a step of a path from the root
pub data Place : Type 0 where
  Key : List ℕ → Place
  Index : ℕ → Place

pub data Notice : Type 0 where
  Fields : (path : List Place) → (set : List (List ℕ × Value)) → (unset : List (List ℕ)) → Notice  -- of an object
  Keys : (path : List Place) → (set : List (List ℕ × Value)) → (unset : List (List ℕ)) → Notice  -- of a map
  Insert : (path : List Place) → (index : ℕ) → Value → Notice
  Take : (path : List Place) → (index : ℕ) → Notice
  Move : (path : List Place) → (from : ℕ) → (to : ℕ) → Notice
  Reset : Value → Notice

-- where a node is

-- the place of a child in the order of its list; past the end where it isn't there
abbrev pub index_among : NodeId → List (List ℕ × NodeId) → ℕ
index_among x [] = 0
index_among x (e ∷ es) = if is_same x e.1 then 0 else suc (index_among x es)

abbrev pub index_in : Nodes → NodeId → NodeId → ℕ
index_in t p x = index_among x (children t p)

abbrev pub place_of : Nodes → NodeId → Node → Place
place_of t x n = if holds_list (get t n.parent) then Index (index_in t n.parent x) else Key n.key

abbrev pub parent_in : Option Node → NodeId
parent_in None = Root
parent_in (Some n) = n.parent

-- the last step to a node, behind the path to its parent
abbrev pub path_step : Nodes → NodeId → Option Node → List Place → List Place
path_step t x None above = []
path_step t x (Some n) above = if is_same x Root then [] else above ++ place_of t x n ∷ []

-- at most n steps from the root
unfoldable pub path_within : ℕ → Nodes → NodeId → List Place
path_within zero t x = []
path_within (suc n) t x = path_step t x (get t x) (path_within n t (parent_in (get t x)))

-- no node is deeper than 60
unfoldable pub path_of : Nodes → NodeId → List Place
path_of t x = path_within 60 t x

-- The notices of an operation, after settlement, on the tree before it. A void operation gives none.

-- the view of a new node alone
abbrev pub alone : Kind → Value
alone kind = kind_view kind []

-- of an object or of a map
abbrev pub keyed : Bool → List Place → List (List ℕ × Value) → List (List ℕ) → Notice
keyed true path set unset = Keys path set unset
keyed false path set unset = Fields path set unset

abbrev pub is_map : Kind → Bool
is_map (Object fs) = false
is_map Listed = false
is_map Map = true
is_map (Register v) = false

abbrev pub holds_map : Option Node → Bool
holds_map None = false
holds_map (Some n) = is_map n.kind

abbrev pub has_field_at : List ℕ → Option Node → Bool
has_field_at k None = false
has_field_at k (Some n) = has_field k n.kind

-- the replaced child of a list is taken first; the new item's index is that after the removal
abbrev pub replaced_taken : Nodes → NodeId → Option NodeId → List Notice
replaced_taken t p None = []
replaced_taken t p (Some x) = if is_under p x (get t x) then Take (path_of t p) (index_in t p x) ∷ [] else []

abbrev pub created_notices : Nodes → Nodes → NodeId → NodeId → List ℕ → Option NodeId → Kind → List Notice
created_notices t u x p k r kind =
    if holds_list (get t p)
    then replaced_taken t p r ++ Insert (path_of t p) (index_in u p x) (alone kind) ∷ []
    else keyed (holds_map (get t p)) (path_of t p) ((k, alone kind) ∷ []) [] ∷ []

abbrev pub deleted_notices : Nodes → NodeId → Option Node → List Notice
deleted_notices t x None = []
deleted_notices t x (Some n) =
    if holds_list (get t n.parent)
    then Take (path_of t n.parent) (index_in t n.parent x) ∷ []
    else keyed (holds_map (get t n.parent)) (path_of t n.parent) [] (n.key ∷ []) ∷ []

abbrev pub moved_notices : Nodes → Nodes → NodeId → Option Node → List Notice
moved_notices t u x None = []
moved_notices t u x (Some n) = Move (path_of t n.parent) (index_in t n.parent x) (index_in u n.parent x) ∷ []

-- t is the tree before, u the tree after
abbrev pub body_notices : Nodes → Nodes → Body → List Notice
body_notices t u (SetKey x k) = moved_notices t u x (get t x)
body_notices t u (Create x p k r kind) = created_notices t u x p k r kind
body_notices t u (Update x fs) = Fields (path_of t x) fs [] ∷ []
body_notices t u (Delete x) = deleted_notices t x (get t x)
body_notices t u (DeleteKey x k) =
    if has_field_at k (get t x) || is_some (child_at t x k) then Fields (path_of t x) [] (k ∷ []) ∷ [] else []

abbrev pub notices_of : Nodes → Body → List Notice
notices_of t b = if is_void t b then [] else body_notices t (step t b) (settled_body t b)

-- of operations in order
abbrev pub notices_of_all : Nodes → List Body → List Notice
notices_of_all t [] = []
notices_of_all t (b ∷ bs) = notices_of t b ++ notices_of_all (step t b) bs

-- The effect of notices on a view. None: a path or an index that isn't there.

abbrev pub without_names : List (List ℕ) → List (List ℕ × Value) → List (List ℕ × Value)
without_names [] fs = fs
without_names (k ∷ ks) fs = without_names ks (remove_entry (is_at (slice_cmp nat_cmp k)) fs)

-- the names that are set get their values first, then those of `unset` go; an absent one changes nothing
abbrev pub set_names : List (List ℕ × Value) → List (List ℕ) → Value → Option Value
set_names set unset (members fs) = Some (members (fields_of (without_names unset (merged (fields_list fs) set))))
set_names set unset v = None

abbrev pub insert_item : ℕ → Value → Value → Option Value
insert_item i w (list vs) =
    if nat_le i (length (values_list vs)) then Some (list (values_of (insert (values_list vs) i w))) else None
insert_item i w v = None

abbrev pub take_item : ℕ → Value → Option Value
take_item i (list vs) =
    if nat_lt i (length (values_list vs)) then Some (list (values_of (remove (values_list vs) i))) else None
take_item i v = None

abbrev pub move_item : ℕ → Value → Option Value → Option Value
move_item t (list vs) (Some w) = Some (list (values_of (insert (values_list vs) t w)))
move_item t v w = None

-- the item goes out at f, and in at t
abbrev pub move_items : ℕ → ℕ → Value → Option Value
move_items f t (list vs) =
    if nat_lt f (length (values_list vs)) && nat_lt t (length (values_list vs))
    then move_item t (list (values_of (remove (values_list vs) f))) (slice_get (values_list vs) f) else None
move_items f t v = None

abbrev pub step_into : Place → Value → Option Value
step_into (Key k) (members fs) = lookup (is_at (slice_cmp nat_cmp k)) (fields_list fs)
step_into (Index i) (list vs) = slice_get (values_list vs) i
step_into s v = None

abbrev pub step_out : Place → Value → Value → Value
step_out (Key k) (members fs) w = members (fields_of (insert_entry (slice_cmp nat_cmp) (fields_list fs) k w))
step_out (Index i) (list vs) w = list (values_of (slice_set (values_list vs) i w))
step_out s v w = v

-- what stands at the path changes, and all else stays
abbrev pub at_path : List Place → (Value → Option Value) → Value → Option Value
at_path [] f v = f v
at_path (s ∷ ss) f v =
    option_and_then (λ (w : Value). option_map (λ (y : Value). step_out s v y) (at_path ss f w)) (step_into s v)

abbrev pub applied : Notice → Value → Option Value
applied (Fields path set unset) v = at_path path (set_names set unset) v
applied (Keys path set unset) v = at_path path (set_names set unset) v
applied (Insert path i w) v = at_path path (insert_item i w) v
applied (Take path i) v = at_path path (take_item i) v
applied (Move path f t) v = at_path path (move_items f t) v
applied (Reset w) v = Some w

-- each in order, up to the first that can't be applied: the view then, and whether all were applied

abbrev pub or_stays : Value → Option Value → Value × Bool
or_stays v None = (v, false)
or_stays v (Some w) = (w, true)

abbrev pub apply_while : Bool → List Notice → Value → Value × Bool
apply_while false ns v = (v, false)
apply_while true [] v = (v, true)
apply_while true (n ∷ ns) v = let out = or_stays v (applied n v) in apply_while out.1 ns out.0

abbrev pub apply_all : List Notice → Value → Value × Bool
apply_all ns v = apply_while true ns v

-- as JSON

abbrev pub place_out : Place → Value
place_out (Key k) = text k
place_out (Index i) = whole (pos i)

abbrev pub path_out : List Place → Value
path_out path = list (values_of (map place_out path))

abbrev pub keyed_out : List ℕ → List Place → List (List ℕ × Value) → List (List ℕ) → Value
keyed_out kind path set unset = object_of (
    (codes "kind", text kind) ∷ (codes "path", path_out path) ∷ (codes "set", members (fields_of set))
    ∷ (codes "unset", list (values_of (map text unset))) ∷ [])

abbrev pub notice_out : Notice → Value
notice_out (Fields path set unset) = keyed_out (codes "fields") path set unset
notice_out (Keys path set unset) = keyed_out (codes "keys") path set unset
notice_out (Insert path i v) =
    object_of ((codes "index", whole (pos i)) ∷ (codes "kind", text (codes "insert")) ∷ (codes "path", path_out path)
    ∷ (codes "value", v) ∷ [])
notice_out (Take path i) =
    object_of ((codes "index", whole (pos i)) ∷ (codes "kind", text (codes "take")) ∷ (codes "path", path_out path)
    ∷ [])
notice_out (Move path f t) =
    object_of ((codes "from", whole (pos f)) ∷ (codes "kind", text (codes "move")) ∷ (codes "path", path_out path)
    ∷ (codes "to", whole (pos t)) ∷ [])
notice_out (Reset v) = object_of ((codes "kind", text (codes "reset")) ∷ (codes "view", v) ∷ [])

abbrev pub notices_value : List Notice → Value
notices_value ns = list (values_of (map notice_out ns))
