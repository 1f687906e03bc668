-- Edits: the operations that they make on a tree, or why they are refused.
--
-- The entry is `make`. Its tests in their order: the node is there (`make_at`), is of the kind that the edit needs, and
-- the
-- indices are in the list (`make_of`); the depth of the values, then that of the nodes; the length of the positions
-- (`placed`); the node clocks, then the operation clocks (`clocked`).
use Rattle.std.specs.Prelude.{ℕ, ◌+◌, ◌-◌, ◌==◌, Bool, true, false, ◌||◌, not, if◌then◌else◌, nat_lt, nat_le, is_some}
use Rattle.std.specs.Prelude.{max, List, [], ◌∷◌, ◌++◌, length, insert, remove, slice_get, slice_set, Option, Some}
use Rattle.std.specs.Prelude.{None, Result, Ok, Err}
use Rattle.std.specs.Ordering.{nat_cmp}
use Rattle.std.specs.Cmp.Lexicographic.{slice_cmp}
use Rattle.std.specs.BTreeMap.{insert_entry, is_at}
use Rattle.std.specs.Map.{remove_entry}
use Rattle.std.specs.FinMap.{get}
use Rattle.room_json.specs.Value.{Value, list, members, values_of, values_list, fields_of, fields_list, depth, merged}
use Rattle.room_json.specs.Fields.{and_then}
use Rattle.room_ids.specs.Position.{first as first_position, after as after_position, before as before_position}
use Rattle.room_ids.specs.Position.{between as between_positions}
use Rattle.room_ids.specs.declared.ids.NodeId.{NodeId}
use Rattle.room_nodes.specs.declared.nodes.Node.{Node}
use Rattle.room_nodes.specs.declared.nodes.Kind.{Kind}
use Rattle.room_nodes.specs.declared.nodes.Kind.TheVariants.{Object, List as Listed, Map, Register}
use Rattle.room_nodes.specs.declared.nodes.Op.{Op}
use Rattle.room_nodes.specs.declared.nodes.Body.{Body}
use Rattle.room_nodes.specs.declared.nodes.Body.TheVariants.{SetKey, Update as UpdateOf, Delete, DeleteKey}
use Rattle.room_nodes.specs.Shape.{Nodes, children, child_at, has_field, is_object, is_list}
use Rattle.room_log.specs.Log.{ops_from}
use Rattle.room_log.specs.Follows.{most}
use Rattle.room_model.specs.Init.{Init, Plain, init_view, plain_depth, nodes_in, node_depth, positions_in, creates}

pub data Edit : Type 0 where
  Set : NodeId → (key : List ℕ) → Init → Edit
  Update : NodeId → List (List ℕ × Value) → Edit
  Remove : NodeId → (key : List ℕ) → Edit
  Push : NodeId → Init → Edit
  Insert : NodeId → (index : ℕ) → Init → Edit
  Put : NodeId → (index : ℕ) → Init → Edit
  Move : NodeId → (from : ℕ) → (to : ℕ) → Edit
  Take : NodeId → (index : ℕ) → Edit
  Clear : NodeId → Edit

-- the next numbers of an actor: of its nodes and of its operations
pub record Clocks : Type 0 where
  pub actor : ℕ
  pub node : ℕ
  pub op : ℕ

pub record Made : Type 0 where
  pub ops : List Op
  pub next : Clocks

-- why an edit is refused; where several hold, the first
pub data EditFault : Type 0 where
  NotLoaded : EditFault
  NoNode : NodeId → EditFault
  WrongKind : NodeId → EditFault
  BadIndex : (index : ℕ) → (count : ℕ) → EditFault
  ValueTooDeep : ℕ → EditFault
  NodeTooDeep : ℕ → EditFault
  PosTooLong : ℕ → EditFault
  ClocksSpent : ℕ → EditFault
  BatchTooLarge : ℕ → EditFault

-- the node that is edited
abbrev pub target : Edit → NodeId
target (Set x k i) = x
target (Update x fs) = x
target (Remove x k) = x
target (Push x i) = x
target (Insert x n i) = x
target (Put x n i) = x
target (Move x f t) = x
target (Take x n) = x
target (Clear x) = x

-- the kinds that have the edit

abbrev pub is_keyed : Kind → Bool
is_keyed (Object fs) = true
is_keyed Listed = false
is_keyed Map = true
is_keyed (Register v) = false

abbrev pub has_edit : Kind → Edit → Bool
has_edit kind (Set x k i) = is_keyed kind
has_edit kind (Update x fs) = is_object kind
has_edit kind (Remove x k) = is_keyed kind
has_edit kind (Push x i) = is_list kind
has_edit kind (Insert x n i) = is_list kind
has_edit kind (Put x n i) = is_list kind
has_edit kind (Move x f t) = is_list kind
has_edit kind (Take x n) = is_list kind
has_edit kind (Clear x) = is_list kind

-- indices: a list of n items may be inserted into at n too; a move tests where it is from before where it goes

abbrev pub below : ℕ → ℕ → Result (Option ℕ) EditFault
below i n = if nat_lt i n then Ok None else Err (BadIndex i n)

abbrev pub indices : ℕ → Edit → Result (Option ℕ) EditFault
indices n (Insert x i v) = if nat_le i n then Ok None else Err (BadIndex i n)
indices n (Put x i v) = below i n
indices n (Move x f t) = and_then (below f n) (λ (o : Option ℕ). below t n)
indices n (Take x i) = below i n
indices n e = Ok None

-- depths: a plain value has at most 50, a node at most 60

abbrev pub fields_most : List (List ℕ × Value) → ℕ
fields_most [] = 0
fields_most (f ∷ fs) = max (depth f.1) (fields_most fs)

abbrev pub value_depth : Edit → ℕ
value_depth (Set x k i) = plain_depth i
value_depth (Update x fs) = fields_most fs
value_depth (Push x i) = plain_depth i
value_depth (Insert x n i) = plain_depth i
value_depth (Put x n i) = plain_depth i
value_depth e = 0

-- the node that is set on an object where the value is plain is none: it is a field
abbrev pub set_depth : Kind → ℕ → Init → ℕ
set_depth (Object fs) d (Plain v) = 0
set_depth kind d i = node_depth d i

-- of an edit of a node of that kind, whose children have the depth d
abbrev pub made_depth : Kind → ℕ → Edit → ℕ
made_depth kind d (Set x k i) = set_depth kind d i
made_depth kind d (Push x i) = node_depth d i
made_depth kind d (Insert x n i) = node_depth d i
made_depth kind d (Put x n i) = node_depth d i
made_depth kind d e = 0

-- positions: the children of a list, by position, are cs

abbrev pub key_in : Option (List ℕ × NodeId) → List ℕ
key_in None = []
key_in (Some e) = e.0

abbrev pub key_at : List (List ℕ × NodeId) → ℕ → List ℕ
key_at cs i = key_in (slice_get cs i)

abbrev pub id_in : Option (List ℕ × NodeId) → Option NodeId
id_in None = None
id_in (Some e) = Some e.1

abbrev pub id_at : List (List ℕ × NodeId) → ℕ → Option NodeId
id_at cs i = id_in (slice_get cs i)

-- the position of a new item at the index i
abbrev pub inserted_key : List (List ℕ × NodeId) → ℕ → List ℕ
inserted_key cs i =
    if length cs == 0 then first_position else (
    if i == 0 then before_position (key_at cs 0) else (
    if i == length cs then after_position (key_at cs (i - 1))
    else between_positions (key_at cs (i - 1)) (Some (key_at cs i))))

-- the new position of the item at f that moves to t, which isn't f
abbrev pub moved_key : List (List ℕ × NodeId) → ℕ → ℕ → List ℕ
moved_key cs f t =
    if nat_lt f t
    then (if t + 1 == length cs then after_position (key_at cs t)
    else between_positions (key_at cs t) (Some (key_at cs (t + 1))))
    else (if t == 0 then before_position (key_at cs 0) else between_positions (key_at cs (t - 1)) (Some (key_at cs t)))

-- the positions that an edit makes, in the order of its operations
abbrev pub made_positions : List (List ℕ × NodeId) → Edit → List (List ℕ)
made_positions cs (Set x k i) = positions_in i
made_positions cs (Push x i) = inserted_key cs (length cs) ∷ positions_in i
made_positions cs (Insert x n i) = inserted_key cs n ∷ positions_in i
made_positions cs (Put x n i) = positions_in i
made_positions cs (Move x f t) = if f == t then [] else moved_key cs f t ∷ []
made_positions cs e = []

-- the length of the first that is over 4,096
abbrev pub too_long : List (List ℕ) → Option ℕ
too_long [] = None
too_long (p ∷ ps) = if nat_lt 4096 (length p) then Some (length p) else too_long ps

-- operations

abbrev pub set_bodies : Kind → ℕ → ℕ → NodeId → List ℕ → Init → List Body
set_bodies (Object fs) a c x k (Plain v) = UpdateOf x ((k, v) ∷ []) ∷ []
set_bodies kind a c x k i = creates a c x k None i

abbrev pub update_bodies : NodeId → List (List ℕ × Value) → List Body
update_bodies x [] = []
update_bodies x (f ∷ fs) = UpdateOf x (f ∷ fs) ∷ []

abbrev pub delete_bodies : Option NodeId → List Body
delete_bodies None = []
delete_bodies (Some y) = Delete y ∷ []

-- of an object the key goes, of a map the child; what isn't there makes no operation
abbrev pub remove_bodies : Kind → NodeId → List ℕ → Option NodeId → List Body
remove_bodies (Object fs) x k child = if has_field k (Object fs) || is_some child then DeleteKey x k ∷ [] else []
remove_bodies kind x k child = delete_bodies child

abbrev pub move_bodies : Option NodeId → List ℕ → List Body
move_bodies None k = []
move_bodies (Some y) k = SetKey y k ∷ []

abbrev pub clear_bodies : List (List ℕ × NodeId) → List Body
clear_bodies [] = []
clear_bodies (e ∷ es) = Delete e.1 ∷ clear_bodies es

-- of the actor a, whose next node clock is c, on a node of that kind with the children cs
abbrev pub bodies : Kind → List (List ℕ × NodeId) → Option NodeId → ℕ → ℕ → Edit → List Body
bodies kind cs child a c (Set x k i) = set_bodies kind a c x k i
bodies kind cs child a c (Update x fs) = update_bodies x fs
bodies kind cs child a c (Remove x k) = remove_bodies kind x k child
bodies kind cs child a c (Push x i) = creates a c x (inserted_key cs (length cs)) None i
bodies kind cs child a c (Insert x n i) = creates a c x (inserted_key cs n) None i
bodies kind cs child a c (Put x n i) = creates a c x (key_at cs n) (id_at cs n) i
bodies kind cs child a c (Move x f t) = if f == t then [] else move_bodies (id_at cs f) (moved_key cs f t)
bodies kind cs child a c (Take x n) = delete_bodies (id_at cs n)
bodies kind cs child a c (Clear x) = clear_bodies cs

-- how many nodes it makes

abbrev pub set_nodes : Kind → Init → ℕ
set_nodes (Object fs) (Plain v) = 0
set_nodes kind i = nodes_in i

abbrev pub made_nodes : Kind → Edit → ℕ
made_nodes kind (Set x k i) = set_nodes kind i
made_nodes kind (Push x i) = nodes_in i
made_nodes kind (Insert x n i) = nodes_in i
made_nodes kind (Put x n i) = nodes_in i
made_nodes kind e = 0

-- clocks: the last of `count` numbers from `next` on, where it is over the greatest

abbrev pub spent : ℕ → ℕ → Option ℕ
spent next count = if (count == 0) || nat_le (next + count - 1) most then None else Some (next + count - 1)

abbrev pub made : Clocks → ℕ → List Body → Made
made c nodes bs = record {
  ops = ops_from c.actor c.op bs;
  next = record { actor = c.actor; node = c.node + nodes; op = c.op + length bs };
}

-- the node counter is tested before the operation counter
abbrev pub clocked : Clocks → ℕ → List Body → Option ℕ → Option ℕ → Result Made EditFault
clocked c nodes bs (Some last) op = Err (ClocksSpent last)
clocked c nodes bs None (Some last) = Err (ClocksSpent last)
clocked c nodes bs None None = Ok (made c nodes bs)

abbrev pub placed : Clocks → ℕ → List Body → Option ℕ → Result Made EditFault
placed c nodes bs (Some n) = Err (PosTooLong n)
placed c nodes bs None = clocked c nodes bs (spent c.node nodes) (spent c.op (length bs))

-- the child at the key that a removal names
abbrev pub removed_child : Nodes → Edit → Option NodeId
removed_child t (Remove x k) = child_at t x k
removed_child t e = None

abbrev pub make_of : Nodes → Clocks → Edit → Node → Result Made EditFault
make_of t c e n =
    let cs = children t (target e) in
    if not (has_edit n.kind e) then Err (WrongKind (target e)) else
    and_then (indices (length cs) e) (λ (o : Option ℕ).
    if nat_lt 50 (value_depth e) then Err (ValueTooDeep (value_depth e)) else (
    if nat_lt 60 (made_depth n.kind (n.depth + 1) e) then Err (NodeTooDeep (made_depth n.kind (n.depth + 1) e)) else
    placed c (made_nodes n.kind e) (bodies n.kind cs (removed_child t e) c.actor c.node e)
    (too_long (made_positions cs e))))

abbrev pub make_at : Nodes → Clocks → Edit → Option Node → Result Made EditFault
make_at t c e None = Err (NoNode (target e))
make_at t c e (Some n) = make_of t c e n

-- the operations and the next clocks, or the first refusal
abbrev pub make : Nodes → Clocks → Edit → Result Made EditFault
make t c e = make_at t c e (get t (target e))

-- The named effect on the view of the node: all else of it stays. That the operations of an edit have it is the law of
-- `room_effect`.

abbrev pub on_members : (List (List ℕ × Value) → List (List ℕ × Value)) → Value → Value
on_members f (members fs) = members (fields_of (f (fields_list fs)))
on_members f v = v

abbrev pub on_list : (List Value → List Value) → Value → Value
on_list f (list vs) = list (values_of (f (values_list vs)))
on_list f v = v

abbrev pub moved_item : List Value → ℕ → ℕ → Option Value → List Value
moved_item vs f t None = vs
moved_item vs f t (Some v) = insert (remove vs f) t v

abbrev pub named_effect : Edit → Value → Value
named_effect (Set x k i) v = on_members (λ fs. insert_entry (slice_cmp nat_cmp) fs k (init_view i)) v
named_effect (Update x gs) v = on_members (λ fs. merged fs gs) v
named_effect (Remove x k) v = on_members (λ fs. remove_entry (is_at (slice_cmp nat_cmp k)) fs) v
named_effect (Push x i) v = on_list (λ vs. vs ++ init_view i ∷ []) v
named_effect (Insert x n i) v = on_list (λ vs. insert vs n (init_view i)) v
named_effect (Put x n i) v = on_list (λ vs. slice_set vs n (init_view i)) v
named_effect (Move x f t) v = on_list (λ vs. moved_item vs f t (slice_get vs f)) v
named_effect (Take x n) v = on_list (λ vs. remove vs n) v
named_effect (Clear x) v = on_list (λ vs. []) v
