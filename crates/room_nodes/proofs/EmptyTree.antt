-- The tree of the root alone is well-formed.
use Rattle.std.proofs.Common.{◌≡◌, ◌≢◌, cond, [], ◌∷◌, Some, None, sym, ap, ◌∙◌}
use Rattle.std.specs.FinMap.{get, get-from_sorted}
use Rattle.room_ids.specs.Order.{node_cmp, is_same}
use Rattle.room_nodes.specs.Shape.{IsFormed, bare_root, empty_tree, is_root_node}
use Rattle.room_nodes.proofs.Gets.{some_none, differ}
use Rattle.room_ids.specs.declared.ids.NodeId.{NodeId}
use Rattle.room_ids.specs.declared.ids.NodeId.TheVariants.{Root}
use Rattle.room_nodes.specs.declared.nodes.Node.{Node}

pub read : (q : NodeId) → get empty_tree q ≡ cond (is_same q Root) (Some bare_root) None
read q = get-from_sorted node_cmp ((Root, bare_root) ∷ []) q tt

pub nothing : (x : NodeId) (n : Node) → x ≢ Root → get empty_tree x ≡ Some n → ⊥
nothing x n other e = some_none n (sym e ∙ read x ∙ ap (λ b. cond b (Some bare_root) None) (differ x Root other))

pub formed-empty : IsFormed empty_tree
formed-empty = record {
  root = ap is_root_node (read Root);
  parents = λ x n other e. absurd (nothing x n other e);
  keys = λ x y m n a b e d same key. absurd (nothing x m a e);
}
