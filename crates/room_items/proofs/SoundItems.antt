-- The items of a sound tree are values of the profile, and those of a shallow tree fit into a state.
use Rattle.std.proofs.Common.{◌≡◌, ◌<◌, ◌≤◌, ◌&&◌, ◌++◌, inl, inr, ℕ, zero, suc, pos, Bool, true, false, cond, nat_le, nat_lt, List, [], ◌∷◌, map, flat_map, codes, Option, Some, None, IsUtf8, refl, sym, subst, arith}
use Rattle.std.specs.FinMap.{get, entries}
use Rattle.std.specs.Fmt.{decimal}
use Rattle.std.specs.List.{AllByRecursion}
use Rattle.std.proofs.lemmas.Bool.Decides.{nat_tests}
use Rattle.std.proofs.lemmas.Fmt.{IsAscii-decimal}
use Rattle.std.proofs.lemmas.Str.Ascii.{IsAscii-nil}
use Rattle.std.specs.Cmp.Lexicographic.{slice_cmp}
use Rattle.std.specs.List.Sorted.{IsStrictlySortedBy}
use Rattle.std.specs.Map.{keys_of}
use Rattle.std.specs.Ordering.{nat_cmp}
use Rattle.std.specs.Str.{IsAscii}
use Rattle.std.proofs.lemmas.Str.{IsUtf8-from_ascii, IsUtf8-append}
use Rattle.room_json.specs.Profile.{IsJson, AreJson}
use Rattle.room_json.specs.Value.{whole, text, values_of, fields_of, depth, values_depth, fields_depth}
use Rattle.room_json.specs.View.{json_of}
use Rattle.room_json.proofs.Values.{fields_list-fields_of}
use Rattle.room_ids.specs.Ids.{node_text, stamp_text}
use Rattle.room_ids.specs.Laws.{IsInRange, IsNodeInRange}
use Rattle.room_ids.specs.Order.{is_same}
use Rattle.room_ids.specs.Stamp.{Stamp}
use Rattle.room_ids.specs.declared.ids.NodeId.{NodeId}
use Rattle.room_ids.specs.declared.ids.NodeId.TheVariants.{Root, Made}
use Rattle.room_nodes.proofs.Children.{answer_of, is_child_of}
use Rattle.room_nodes.proofs.Listing.{Has}
use Rattle.room_nodes.specs.Preorder.{preorder, preorder_within}
use Rattle.room_nodes.specs.Shallow.{are_shallow, is_shallow_kind, IsShallowTree}
use Rattle.room_nodes.specs.Shape.{Nodes, children}
use Rattle.room_nodes.specs.Sound.{IsSoundKind, IsSoundNode, IsSoundTree}
use Rattle.room_nodes.specs.declared.nodes.Node.{Node}
use Rattle.room_nodes.specs.declared.nodes.Kind.{Kind}
use Rattle.room_nodes.specs.declared.nodes.Kind.TheVariants.{Object, List as Listed, Map, Register}
use Rattle.room_items.specs.Items.{kind_number, content_out, place_out, node_out, item_out}
use Rattle.room_items.specs.Laws.{ItemsAreSound, ItemsAreShallow}
use Rattle.room_items.proofs.Members.{Pair, EachJson, object_json, object_depth}

-- ids as texts

abbrev are_low : List ℕ → Bool
are_low [] = true
are_low (c ∷ cs) = nat_lt c 128 && are_low cs

both : (a b : Bool) → (a && b) ≡ true → (a ≡ true) × (b ≡ true)
both true b e = (refl, e)
both false b e = cc

from_lt : (a b : ℕ) → nat_lt a b ≡ true → a < b
from_lt a b t = grind (arith, nat_tests, t)

ascii_cons : (c : ℕ) (cs : List ℕ) → c < 128 → IsAscii cs → IsAscii (c ∷ cs)
ascii_cons c cs low h zero = low
ascii_cons c cs low h (suc i) = h i

low_ascii : (cs : List ℕ) → are_low cs ≡ true → IsAscii cs
low_ascii [] h = IsAscii-nil
low_ascii (c ∷ cs) h = let p = both (nat_lt c 128) (are_low cs) h in ascii_cons c cs (from_lt c 128 p.0) (low_ascii cs p.1)

low_utf8 : (cs : List ℕ) → are_low cs ≡ true → IsUtf8 cs
low_utf8 cs h = IsUtf8-from_ascii cs (low_ascii cs h)

stamp_utf8 : (s : Stamp) → IsInRange s → IsUtf8 (stamp_text s)
unfolding stamp_text
stamp_utf8 s h =
    IsUtf8-append (decimal s.actor) (58 ∷ decimal s.clock) (IsUtf8-from_ascii _ (IsAscii-decimal s.actor (omega (arith, h.0))))
    (IsUtf8-append (58 ∷ []) (decimal s.clock) (low_utf8 (58 ∷ []) refl) (IsUtf8-from_ascii _ (IsAscii-decimal s.clock (omega (arith, h.1)))))

node_utf8 : (x : NodeId) → IsNodeInRange x → IsUtf8 (node_text x)
unfolding node_text
node_utf8 Root h = low_utf8 (codes "root") refl
node_utf8 (Made s) h = stamp_utf8 s h

-- members

each_append : (xs ys : List Pair) → EachJson xs → EachJson ys → EachJson (xs ++ ys)
each_append [] ys h k = k
each_append (x ∷ xs) ys h k = (h.0, h.1, each_append xs ys h.2 k)

type_json : (kind : Kind) → EachJson ((codes "type", whole (pos (kind_number kind))) ∷ [])
type_json (Object fs) = (low_utf8 (codes "type") refl, (omega arith, omega arith), tt)
type_json Listed = (low_utf8 (codes "type") refl, (omega arith, omega arith), tt)
type_json Map = (low_utf8 (codes "type") refl, (omega arith, omega arith), tt)
type_json (Register v) = (low_utf8 (codes "type") refl, (omega arith, omega arith), tt)

content_json : (kind : Kind) → IsSoundKind kind → EachJson (content_out kind)
content_json (Object fs) h =
    (low_utf8 (codes "data") refl, (subst (λ (gs : List Pair). IsStrictlySortedBy (slice_cmp nat_cmp) (keys_of gs)) (sym (fields_list-fields_of fs)) h.ordered, h.json), tt)
content_json Listed h = tt
content_json Map h = tt
content_json (Register v) h = (low_utf8 (codes "data") refl, h, tt)

place_json : (b : Bool) (n : Node) → IsSoundNode n → EachJson (cond b [] ((codes "parentId", text (node_text n.parent)) ∷ (codes "parentKey", text n.key) ∷ []))
place_json true n h = tt
place_json false n h = (low_utf8 (codes "parentId") refl, node_utf8 n.parent h.parent, (low_utf8 (codes "parentKey") refl, h.key, tt))

abbrev node_members : NodeId → Node → List Pair
node_members x n = ((codes "type", whole (pos (kind_number n.kind))) ∷ []) ++ (content_out n.kind ++ place_out x n)

node_json : (x : NodeId) (o : Option Node) → ((n : Node) → o ≡ Some n → IsSoundNode n) → IsJson (node_out x o)
node_json x None h = tt
node_json x (Some n) h =
    let sound = h n refl in
    object_json (node_members x n) (each_append ((codes "type", whole (pos (kind_number n.kind))) ∷ []) (content_out n.kind ++ place_out x n) (type_json n.kind)
    (each_append (content_out n.kind) (place_out x n) (content_json n.kind sound.kind) (place_json (is_same x Root) n sound)))

item_json : (t : Nodes) → IsSoundTree t → (x : NodeId) → IsNodeInRange x → IsJson (item_out t x)
item_json t h x range = (node_utf8 x range, (node_json x (get t x) (λ n e. (h x n e).1), tt))

-- the ids in preorder are those of nodes

abbrev AllIds : List NodeId → Type 0
AllIds xs = AllByRecursion IsNodeInRange xs

all_append : (xs ys : List NodeId) → AllIds xs → AllIds ys → AllIds (xs ++ ys)
all_append [] ys h k = k
all_append (x ∷ xs) ys h k = (h.0, all_append xs ys h.1 k)

all_flat : (f : List ℕ × NodeId → List NodeId) (es : List (List ℕ × NodeId)) → ((e : List ℕ × NodeId) → Has e es → AllIds (f e)) → AllIds (flat_map f es)
all_flat f [] h = tt
all_flat f (e ∷ es) h = all_append (f e) (flat_map f es) (h e (inl refl)) (all_flat f es (λ g there. h g (inr there)))

within_ids : (t : Nodes) → IsSoundTree t → (n : ℕ) (x : NodeId) → IsNodeInRange x → AllIds (preorder_within n t x)
unfolding preorder_within
within_ids t h zero x range = (range, tt)
within_ids t h (suc n) x range = (
  range,
  all_flat (λ (e : List ℕ × NodeId). preorder_within n t e.1) (children t x) (λ e there.
      let child = is_child_of x (entries t) e there in
      within_ids t h n e.1 (h e.1 child.node (answer_of t (e.1, child.node) child.has)).0),
)

preorder_ids : (t : Nodes) → IsSoundTree t → AllIds (preorder t Root)
unfolding preorder
preorder_ids t h = within_ids t h 60 Root tt

each_item : (t : Nodes) → IsSoundTree t → (xs : List NodeId) → AllIds xs → AreJson (values_of (map (item_out t) xs))
each_item t h [] ids = tt
each_item t h (x ∷ xs) ids = (item_json t h x ids.0, each_item t h xs ids.1)

pub items_sound : ItemsAreSound
items_sound t h = each_item t h (preorder t Root) (preorder_ids t h)

-- and how deep

depth_append : (n : ℕ) (xs ys : List Pair) → fields_depth (fields_of xs) ≤ n → fields_depth (fields_of ys) ≤ n → fields_depth (fields_of (xs ++ ys)) ≤ n
depth_append n [] ys h k = k
depth_append n (x ∷ xs) ys h k = omega (arith, h, depth_append n xs ys (omega (arith, h)) k)

from_le : (a b : ℕ) → nat_le a b ≡ true → a ≤ b
from_le a b t = grind (arith, nat_tests, t)

fields_small : (fs : List Pair) → are_shallow fs ≡ true → fields_depth (fields_of fs) ≤ 55
fields_small [] h = omega arith
fields_small (f ∷ fs) h = let p = both (nat_le (depth f.1) 55) (are_shallow fs) h in omega (arith, from_le (depth f.1) 55 p.0, fields_small fs p.1)

content_depth : (kind : Kind) → is_shallow_kind kind ≡ true → fields_depth (fields_of (content_out kind)) ≤ 56
content_depth (Object fs) h = omega (arith, fields_small fs h)
content_depth Listed h = omega arith
content_depth Map h = omega arith
content_depth (Register v) h = omega (arith, from_le (depth (json_of v)) 56 h)

place_depth : (b : Bool) (n : Node) → fields_depth (fields_of (cond b [] ((codes "parentId", text (node_text n.parent)) ∷ (codes "parentKey", text n.key) ∷ []))) ≤ 56
place_depth true n = omega arith
place_depth false n = omega arith

node_depth : (x : NodeId) (o : Option Node) → ((n : Node) → o ≡ Some n → is_shallow_kind n.kind ≡ true) → depth (node_out x o) ≤ 57
node_depth x None h = omega arith
node_depth x (Some n) h =
    object_depth 56 (node_members x n) (depth_append 56 ((codes "type", whole (pos (kind_number n.kind))) ∷ []) (content_out n.kind ++ place_out x n) (omega arith)
    (depth_append 56 (content_out n.kind) (place_out x n) (content_depth n.kind (h n refl)) (place_depth (is_same x Root) n)))

each_depth : (t : Nodes) → IsShallowTree t → (xs : List NodeId) → values_depth (values_of (map (item_out t) xs)) ≤ 58
each_depth t h [] = omega arith
each_depth t h (x ∷ xs) = omega (arith, node_depth x (get t x) (h x), each_depth t h xs)

pub items_shallow : ItemsAreShallow
items_shallow t h = each_depth t h (preorder t Root)
