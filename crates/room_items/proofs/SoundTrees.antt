-- The tree that was read of items is well-formed, sound, and as shallow as a state makes it.
use Rattle.std.proofs.Common.{◌≡◌, ◌≢◌, ◌≤◌, ◌+◌, inl, inr, ℕ, ℤ, pos, negsuc, Bool, true, false, cond, nat_eq, nat_le, List, [], ◌∷◌, map, codes, Option, Some, None, option_and_then, option_map, IsUtf8, refl, sym, ap, ◌∙◌, subst, arith}
use Rattle.std.specs.Prelude.{⊤}
use Rattle.std.specs.FinMap.{get, insert, get-from_sorted}
use Rattle.std.proofs.lemmas.Bool.Decides.{nat_tests}
use Rattle.std.proofs.lemmas.Str.{IsUtf8-nil}
use Rattle.room_json.specs.Back.{json_in}
use Rattle.room_json.specs.Fields.{field_of}
use Rattle.room_json.specs.Profile.{IsJson, AreJson}
use Rattle.room_json.specs.Value.{Value, text, list, members, values_of, fields_of, depth, values_depth, fields_depth, as_text, as_members, as_list, as_whole}
use Rattle.room_json.specs.View.{json_of}
use Rattle.room_ids.proofs.Spelled.{node_once}
use Rattle.room_ids.specs.Ids.{node_in}
use Rattle.room_ids.specs.Laws.{IsNodeInRange}
use Rattle.room_ids.specs.Order.{node_cmp, is_same}
use Rattle.room_ids.specs.declared.ids.NodeId.{NodeId}
use Rattle.room_ids.specs.declared.ids.NodeId.TheVariants.{Root}
use Rattle.room_nodes.proofs.Formed.{formed-insert}
use Rattle.room_nodes.proofs.Gets.{some_none, same, differ, same_self, here_or_old}
use Rattle.room_nodes.specs.Preorder.{preorder}
use Rattle.room_nodes.specs.Shallow.{are_shallow, is_shallow_kind}
use Rattle.room_nodes.specs.Shape.{Nodes, IsFormed, is_object, is_root_node}
use Rattle.room_nodes.specs.Sound.{IsSoundKind, IsSoundNode}
use Rattle.room_nodes.specs.declared.nodes.Node.{Node}
use Rattle.room_nodes.specs.declared.nodes.Kind.{Kind}
use Rattle.room_nodes.specs.declared.nodes.Kind.TheVariants.{Object, List as Listed, Map, Register}
use Rattle.room_items.specs.declared.row.Row.{Row}
use Rattle.room_items.specs.Items.{as_node, pair_of, as_pair, kind_at, kind_in, root_in, row_in, rows_in, row_node, row_id, may_put, put_row, put_rows, in_order, root_of, same_ids, tree_in}
use Rattle.room_items.specs.Laws.{TreesAreFormed, TreesAreSound, TreesAreShallow}
use Rattle.room_items.proofs.Found.{Has, some_inj, and_then_of, map_of, text_is, members_is, list_is, json_of-json_in, has_json, has_depth, sound_members}
use Rattle.room_items.proofs.MayPut.{free_of}

-- a test that held
kept : {A : Type 0} (b : Bool) (o : Option A) (y : A) → cond b o None ≡ Some y → (b ≡ true) × (o ≡ Some y)
kept true o y e = (refl, e)
kept false o y e = cc

-- the two of an item

pair_is : (vs : List Value) (p : Value × Value) → pair_of vs ≡ Some p → vs ≡ p.0 ∷ p.1 ∷ []
pair_is [] p e = cc
pair_is (a ∷ []) p e = cc
pair_is (a ∷ b ∷ []) p e = ap (λ (q : Value × Value). q.0 ∷ q.1 ∷ []) (some_inj e)
pair_is (a ∷ b ∷ c ∷ vs) p e = cc

as_pair_is : (v : Value) (p : Value × Value) → as_pair v ≡ Some p → v ≡ list (values_of (p.0 ∷ p.1 ∷ []))
as_pair_is v p e = and_then_of _ pair_of (as_list v) p e (λ vs is h. list_is v vs is ∙ ap (λ (ws : List Value). list (values_of ws)) (pair_is vs p h))

-- the second holds what v holds
record Second (v w : Value) : Type 0 where
  json : IsJson v → IsJson w
  less : depth w + 1 ≤ depth v

second_of : (v : Value) (p : Value × Value) → as_pair v ≡ Some p → Second v p.1
second_of v p e =
    let is = as_pair_is v p e in
    let deep : depth v ≡ depth (list (values_of (p.0 ∷ p.1 ∷ []))) = ap depth is in
    record { json = λ h. (subst IsJson is h).1.0; less = omega (arith, deep) }

-- nodes

node_range : (v : Value) (x : NodeId) → as_node v ≡ Some x → IsNodeInRange x
node_range v x e = and_then_of _ node_in (as_text v) x e (λ t is spells. (node_once t x spells).1)

node_at : (o : Option Value) (x : NodeId) → option_and_then as_node o ≡ Some x → IsNodeInRange x
node_at o x e = and_then_of _ as_node o x e (λ v is h. node_range v x h)

abbrev KindFrom : Value → Kind → Type 0
KindFrom v (Object fs) = Has v (members (fields_of fs))
KindFrom v Listed = ⊤
KindFrom v Map = ⊤
KindFrom v (Register j) = Has v (json_of j)

object_from : (v : Value) (name : List ℕ) (kind : Kind) → option_map Object (option_and_then as_members (field_of name v)) ≡ Some kind → KindFrom v kind
object_from v name kind e =
    map_of _ Object (option_and_then as_members (field_of name v)) kind e (λ fs found same.
    and_then_of _ as_members (field_of name v) fs found (λ w is h. subst (KindFrom v) same (name, is ∙ ap Some (members_is w fs h))))

register_from : (v : Value) (name : List ℕ) (kind : Kind) → option_map (λ (w : Value). Register (json_in w)) (field_of name v) ≡ Some kind → KindFrom v kind
register_from v name kind e =
    map_of _ _ (field_of name v) kind e (λ w is same. subst (KindFrom v) same (name, is ∙ ap Some (sym (json_of-json_in w))))

numbered_from : (v : Value) (kind : Kind) (a b c d : Bool)
    → cond a (option_map Object (option_and_then as_members (field_of (codes "data") v))) (cond b (Some Listed) (cond c (Some Map) (cond d (option_map (λ (w : Value). Register (json_in w)) (field_of (codes "data") v)) None))) ≡ Some kind
    → KindFrom v kind
numbered_from v kind true b c d e = object_from v (codes "data") kind e
numbered_from v kind false true c d e = subst (KindFrom v) {x = Listed} (some_inj e) tt
numbered_from v kind false false true d e = subst (KindFrom v) {x = Map} (some_inj e) tt
numbered_from v kind false false false true e = register_from v (codes "data") kind e
numbered_from v kind false false false false e = cc

whole_from : (v : Value) (z : ℤ) (kind : Kind) → kind_at v z ≡ Some kind → KindFrom v kind
whole_from v (pos n) kind e = numbered_from v kind (nat_eq n 0) (nat_eq n 1) (nat_eq n 2) (nat_eq n 3) e
whole_from v (negsuc n) kind e = cc

kind_from : (v : Value) (kind : Kind) → kind_in v ≡ Some kind → KindFrom v kind
kind_from v kind e = and_then_of _ (kind_at v) (option_and_then as_whole (field_of (codes "type") v)) kind e (λ z is h. whole_from v z kind h)

kind_sound : (v : Value) (kind : Kind) → KindFrom v kind → IsJson v → IsSoundKind kind
kind_sound v (Object fs) from json = sound_members fs (has_json v (members (fields_of fs)) from json)
kind_sound v Listed from json = tt
kind_sound v Map from json = tt
kind_sound v (Register j) from json = has_json v (json_of j) from json

le_true : (a b : ℕ) → a ≤ b → nat_le a b ≡ true
le_true a b h = grind (arith, nat_tests)

fields_shallow : (fs : List (List ℕ × Value)) → fields_depth (fields_of fs) ≤ 55 → are_shallow fs ≡ true
fields_shallow [] h = refl
fields_shallow (f ∷ fs) h = rw (le_true (depth f.1) 55 (omega (arith, h)), fields_shallow fs (omega (arith, h))) refl

kind_shallow : (v : Value) (kind : Kind) → KindFrom v kind → depth v ≤ 57 → is_shallow_kind kind ≡ true
kind_shallow v (Object fs) from small = fields_shallow fs (omega (arith, has_depth v (members (fields_of fs)) from, small))
kind_shallow v Listed from small = refl
kind_shallow v Map from small = refl
kind_shallow v (Register j) from small = le_true (depth (json_of j)) 56 (omega (arith, has_depth v (json_of j) from, small))

-- rows

record IsSoundRow (r : Row) : Type 0 where
  id : IsNodeInRange r.id
  parent : IsNodeInRange r.parent
  key : IsUtf8 r.key
  kind : IsSoundKind r.kind

record RowFrom (v : Value) (r : Row) : Type 0 where
  node : Value
  second : Second v node
  id : IsNodeInRange r.id
  parent : IsNodeInRange r.parent
  key : Has node (text r.key)
  kind : KindFrom node r.kind

row_from : (v : Value) (r : Row) → row_in v ≡ Some r → RowFrom v r
row_from v r e =
    and_then_of _ _ (as_pair v) r e (λ p two e.
    and_then_of _ _ (as_node p.0) r e (λ x id e.
    and_then_of _ _ (kind_in p.1) r e (λ kind made e.
    and_then_of _ _ (option_and_then as_node (field_of (codes "parentId") p.1)) r e (λ parent there e.
    map_of _ _ (option_and_then as_text (field_of (codes "parentKey") p.1)) r e (λ key named same.
    and_then_of _ as_text (field_of (codes "parentKey") p.1) key named (λ w is h.
    subst (RowFrom v) same (record {
      node = p.1;
      second = second_of v p two;
      id = node_range p.0 x id;
      parent = node_at (field_of (codes "parentId") p.1) parent there;
      key = (codes "parentKey", is ∙ ap Some (text_is w key h));
      kind = kind_from p.1 kind made;
    })))))))

row_sound : (v : Value) (r : Row) → RowFrom v r → IsJson v → IsSoundRow r
row_sound v r from json =
    let inner = from.second.json json in
    record { id = from.id; parent = from.parent; key = has_json from.node (text r.key) from.key inner; kind = kind_sound from.node r.kind from.kind inner }

row_shallow : (v : Value) (r : Row) → RowFrom v r → depth v ≤ 58 → is_shallow_kind r.kind ≡ true
row_shallow v r from small = kind_shallow from.node r.kind from.kind (omega (arith, from.second.less, small))

abbrev AllRows : (Row → Type 0) → List Row → Type 0
AllRows P [] = ⊤
AllRows P (r ∷ rs) = P r × AllRows P rs

rows_sound : (vs : List Value) (rs : List Row) → rows_in vs ≡ Some rs → AreJson (values_of vs) → AllRows IsSoundRow rs
rows_sound [] rs e json = subst (AllRows IsSoundRow) {x = []} (some_inj e) tt
rows_sound (v ∷ vs) rs e json =
    and_then_of _ _ (row_in v) rs e (λ r is e.
    map_of _ _ (rows_in vs) rs e (λ qs are same. subst (AllRows IsSoundRow) same (row_sound v r (row_from v r is) json.0, rows_sound vs qs are json.1)))

abbrev IsShallowRow : Row → Type 0
IsShallowRow r = is_shallow_kind r.kind ≡ true

rows_shallow : (vs : List Value) (rs : List Row) → rows_in vs ≡ Some rs → values_depth (values_of vs) ≤ 58 → AllRows IsShallowRow rs
rows_shallow [] rs e small = subst (AllRows IsShallowRow) {x = []} (some_inj e) tt
rows_shallow (v ∷ vs) rs e small =
    and_then_of _ _ (row_in v) rs e (λ r is e.
    map_of _ _ (rows_in vs) rs e (λ qs are same.
    subst (AllRows IsShallowRow) same (row_shallow v r (row_from v r is) (omega (arith, small)), rows_shallow vs qs are (omega (arith, small)))))

-- trees

-- each node of a tree with its id
abbrev AllNodes : (NodeId → Node → Type 0) → Nodes → Type 0
AllNodes P t = (x : NodeId) (n : Node) → get t x ≡ Some n → P x n

put_is : (u v : Nodes) (r : Row) → put_row u r ≡ Some v → (may_put u r ≡ true) × (insert u r.id (row_node u r) ≡ v)
put_is u v r e = let k = kept (may_put u r) (Some (insert u r.id (row_node u r))) v e in (k.0, some_inj k.1)

put_all : (P : NodeId → Node → Type 0) (u v : Nodes) (r : Row) → AllNodes P u → P r.id (row_node u r) → put_row u r ≡ Some v → AllNodes P v
put_all P u v r h new e =
    subst (AllNodes P) (put_is u v r e).1 (λ x n there. elim (here_or_old u r.id (row_node u r) x n there) [
      | inl here ↦ subst (P x) (sym here.1) (subst (λ (y : NodeId). P y (row_node u r)) (sym here.0) new)
      | inr old ↦ h x n old.1
    ])

rows_all : (P : NodeId → Node → Type 0) (Q : Row → Type 0) → ((u : Nodes) (r : Row) → Q r → P r.id (row_node u r)) → (rs : List Row) (u v : Nodes) → AllNodes P u → AllRows Q rs → put_rows u rs ≡ Some v → AllNodes P v
rows_all P Q new [] u v h rows e = subst (AllNodes P) (some_inj e) h
rows_all P Q new (r ∷ rs) u v h rows e =
    and_then_of _ _ (put_row u r) v e (λ w is e. rows_all P Q new rs w v (put_all P u w r h (new u r rows.0) is) rows.1 e)

rows_formed : (rs : List Row) (u v : Nodes) → IsFormed u → put_rows u rs ≡ Some v → IsFormed v
rows_formed [] u v f e = subst IsFormed (some_inj e) f
rows_formed (r ∷ rs) u v f e =
    and_then_of _ _ (put_row u r) v e (λ w is e.
    let put = put_is u w r is in
    rows_formed rs w v (subst IsFormed put.1 (formed-insert u r.id (row_node u r) f (free_of u r put.0))) e)

-- the root alone

abbrev alone : Kind → Node
alone kind = record { parent = Root; key = []; depth = 0; kind = kind }

root_at : (kind : Kind) (x : NodeId) → get (root_of kind) x ≡ cond (is_same x Root) (Some (alone kind)) None
root_at kind x = get-from_sorted node_cmp ((Root, alone kind) ∷ []) x tt

root_only : (kind : Kind) (x : NodeId) (n : Node) → x ≢ Root → get (root_of kind) x ≡ Some n → ⊥
root_only kind x n other e = some_none n (sym e ∙ root_at kind x ∙ ap (λ b. cond b (Some (alone kind)) None) (differ x Root other))

root_test : (kind : Kind) → is_object kind ≡ true → is_root_node (get (root_of kind) Root) ≡ true
root_test kind object = ap is_root_node (root_at kind Root ∙ ap (λ b. cond b (Some (alone kind)) None) (same_self Root)) ∙ rw (same_self Root, object) refl

root_formed : (kind : Kind) → is_object kind ≡ true → IsFormed (root_of kind)
root_formed kind object = record {
  root = root_test kind object;
  parents = λ x n other e. absurd (root_only kind x n other e);
  keys = λ x y m n a b e d same key. absurd (root_only kind x m a e);
}

root_all : (P : NodeId → Node → Type 0) (kind : Kind) → ((x : NodeId) → x ≡ Root → P x (alone kind)) → AllNodes P (root_of kind)
root_all P kind h x n there = by (is_same x Root) refl
  where
    by : (b : Bool) → is_same x Root ≡ b → P x n
    by true e = let is = kept (is_same x Root) (Some (alone kind)) n (sym (root_at kind x) ∙ there) in subst (P x) (some_inj is.1) (h x (same x Root is.0))
    by false e = absurd (some_none n (sym there ∙ root_at kind x ∙ ap (λ b. cond b (Some (alone kind)) None) e))

-- what was read of items

tree_of : (P : Type 0) (v : Value) (vs : List Value) (t : Nodes) → tree_in (v ∷ vs) ≡ Some t
    → ((kind : Kind) (rs : List Row) → root_in v ≡ Some kind → rows_in vs ≡ Some rs → is_object kind ≡ true → put_rows (root_of kind) rs ≡ Some t → P) → P
tree_of P v vs t e k =
    and_then_of _ _ (root_in v) t e (λ kind is e.
    and_then_of _ _ (rows_in vs) t e (λ rs are e.
    let object = kept (is_object kind) (option_and_then (in_order rs) (put_rows (root_of kind) rs)) t e in
    and_then_of _ _ (put_rows (root_of kind) rs) t object.1 (λ u put e.
    let order = kept (same_ids (preorder u Root) (Root ∷ map row_id rs)) (Some u) t e in
    k kind rs is are object.0 (put ∙ order.1))))

root_from : (P : Type 0) (v : Value) (kind : Kind) → root_in v ≡ Some kind → ((w : Value) → Second v w → KindFrom w kind → P) → P
root_from P v kind e k =
    and_then_of _ _ (as_pair v) kind e (λ p two e.
    and_then_of _ _ (as_node p.0) kind e (λ x id e.
    k p.1 (second_of v p two) (kind_from p.1 kind (kept (is_same x Root) (kind_in p.1) kind e).1)))

pub trees_formed : TreesAreFormed
trees_formed [] t e = cc
trees_formed (v ∷ vs) t e = tree_of _ v vs t e (λ kind rs root rows object put. rows_formed rs (root_of kind) t (root_formed kind object) put)

abbrev IsSoundAt : NodeId → Node → Type 0
IsSoundAt x n = IsNodeInRange x × IsSoundNode n

root_sound : (kind : Kind) → IsSoundKind kind → AllNodes IsSoundAt (root_of kind)
root_sound kind h = root_all IsSoundAt kind (λ x is. (subst IsNodeInRange (sym is) tt, record { parent = tt; key = IsUtf8-nil; kind = h }))

pub trees_sound : TreesAreSound
trees_sound [] t e json = cc
trees_sound (v ∷ vs) t e json =
    tree_of _ v vs t e (λ kind rs root rows object put.
    root_from _ v kind root (λ w second from.
    rows_all IsSoundAt IsSoundRow (λ u r row. (row.id, record { parent = row.parent; key = row.key; kind = row.kind })) rs (root_of kind) t
    (root_sound kind (kind_sound w kind from (second.json json.0))) (rows_sound vs rs rows json.1) put))

abbrev IsShallowAt : NodeId → Node → Type 0
IsShallowAt x n = is_shallow_kind n.kind ≡ true

pub trees_shallow : TreesAreShallow
trees_shallow [] t e small = cc
trees_shallow (v ∷ vs) t e small =
    tree_of _ v vs t e (λ kind rs root rows object put.
    root_from _ v kind root (λ w second from.
    rows_all IsShallowAt IsShallowRow (λ u r row. row) rs (root_of kind) t
    (root_all IsShallowAt kind (λ x is. kind_shallow w kind from (omega (arith, small, second.less)))) (rows_shallow vs rs rows (omega (arith, small))) put))
