-- What a tree of nodes is.
use Rattle.std.specs.Prelude.{◌≡◌, ◌≢◌, ◌+◌, ℕ, zero, suc, nat_eq, nat_le, List, [], ◌∷◌, Option, Some, None, is_some}
use Rattle.std.specs.Prelude.{Bool, true, false, ◌||◌, ◌&&◌, not, if◌then◌else◌}
use Rattle.std.specs.Ordering.{nat_cmp, is_lt}
use Rattle.std.specs.Cmp.Lexicographic.{slice_cmp}
use Rattle.std.specs.FinMap.{FinMap, get, entries, retain_keys, find, put, from_sorted}
use Rattle.room_ids.specs.Position.{is_pos, is_some_text}
use Rattle.room_ids.specs.Order.{node_cmp, is_same}
use Rattle.room_ids.specs.declared.ids.NodeId.{NodeId}
use Rattle.room_ids.specs.declared.ids.NodeId.TheVariants.{Root}
use Rattle.room_nodes.specs.declared.nodes.Node.{Node}
use Rattle.room_nodes.specs.declared.nodes.Kind.{Kind}
use Rattle.room_nodes.specs.declared.nodes.Kind.TheVariants.{Object, List as Listed, Register}

abbrev pub Nodes : Type 0
Nodes = FinMap node_cmp Node

abbrev pub is_register : Kind → Bool
is_register (Register v) = true
is_register _ = false

abbrev pub is_object : Kind → Bool
is_object (Object fs) = true
is_object _ = false

abbrev pub is_list : Kind → Bool
is_list Listed = true
is_list _ = false

-- whether an object has a field of that name
abbrev pub has_field : List ℕ → Kind → Bool
has_field k (Object fs) = is_some (find (slice_cmp nat_cmp) k fs)
has_field k _ = false

-- children

abbrev pub is_child : NodeId → NodeId × Node → Bool
is_child p e = not (is_same e.0 Root) && is_same e.1.parent p

abbrev pub child_entries : NodeId → List (NodeId × Node) → List (List ℕ × NodeId)
child_entries p [] = []
child_entries p (e ∷ es) =
    if is_child p e then put (slice_cmp nat_cmp) e.1.key e.0 (child_entries p es) else child_entries p es

-- the children of a node by key, in order of the keys
abbrev pub children : Nodes → NodeId → List (List ℕ × NodeId)
children t p = child_entries p (entries t)

abbrev pub child_at : Nodes → NodeId → List ℕ → Option NodeId
child_at t p k = find (slice_cmp nat_cmp) k (children t p)

-- the first of them, or the first with a key above
abbrev pub next_of : {X : Type 0} → Option (List ℕ) → List (List ℕ × X) → Option (List ℕ × X)
next_of k [] = None
next_of None (e ∷ es) = Some e
next_of (Some k) (e ∷ es) = if is_lt (slice_cmp nat_cmp k e.0) then Some e else next_of (Some k) es

-- what lies below a node

abbrev pub parent_of : Option Node → NodeId
parent_of None = Root
parent_of (Some node) = node.parent

abbrev pub up : Nodes → NodeId → NodeId
up t y = parent_of (get t y)

-- whether at most n steps to the parent lead from y to x
abbrev pub leads_to : ℕ → Nodes → NodeId → NodeId → Bool
leads_to zero t x y = is_same y x
leads_to (suc n) t x y = is_same y x || leads_to n t x (up t y)

unfoldable pub is_below : Nodes → NodeId → NodeId → Bool
is_below t x y = leads_to 60 t x y

-- the tree without x and all below it
abbrev pub removed : Nodes → NodeId → Nodes
removed t x = retain_keys t (λ y. not (is_below t x y))

-- well-formed trees

-- whether n may stand under p
abbrev pub fits : Node → Node → Bool
fits p n =
    nat_eq n.depth (p.depth + 1)
    && (nat_le n.depth 60
    && (not (is_register p.kind) && (not (has_field n.key p.kind) && (not (is_list p.kind) || is_pos n.key))))

abbrev pub fits_under : Option Node → Node → Bool
fits_under None n = false
fits_under (Some p) n = fits p n

abbrev pub is_root_node : Option Node → Bool
is_root_node None = false
is_root_node (Some r) = nat_eq r.depth 0 && (is_same r.parent Root && (not (is_some_text r.key) && is_object r.kind))

pub record IsFormed (t : Nodes) : Type 0 where
  pub root : is_root_node (get t Root) ≡ true
  pub parents : (x : NodeId) (n : Node) → x ≢ Root → get t x ≡ Some n → fits_under (get t n.parent) n ≡ true
  pub keys : (x y : NodeId) (m n : Node) → x ≢ Root → y ≢ Root → get t x ≡ Some m → get t y ≡ Some n
      → m.parent ≡ n.parent → m.key ≡ n.key → is_same x y ≡ true

-- a node may be put there
pub record IsFree (t : Nodes) (id : NodeId) (node : Node) : Type 0 where
  pub fresh : is_some (get t id) ≡ false
  pub parent : fits_under (get t node.parent) node ≡ true
  pub key : (y : NodeId) (n : Node) → y ≢ Root → get t y ≡ Some n → n.parent ≡ node.parent → n.key ≡ node.key → ⊥

-- a node without children that isn't the root
pub record IsLeaf (t : Nodes) (x : NodeId) : Type 0 where
  pub there : is_some (get t x) ≡ true
  pub made : x ≢ Root
  pub bare : (y : NodeId) (n : Node) → y ≢ Root → get t y ≡ Some n → n.parent ≡ x → ⊥

-- the root alone, without fields
abbrev pub bare_root : Node
bare_root = record { parent = Root; key = []; depth = 0; kind = Object [] }

abbrev pub empty_tree : Nodes
empty_tree = from_sorted ((Root, bare_root) ∷ [])
