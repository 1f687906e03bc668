use Rattle.std.proofs.Common.{◌≡◌, List, ℕ, Option, option_map, true, sym, ◌∙◌, ap}
use Rattle.room_nodes.specs.Shape.{children, next_of}
use Rattle.std.specs.FinMap.{from_sorted, is_sorted}
use Rattle.room_ids.specs.Order.{node_cmp}
use Rattle.room_tree.specs.Nearest.{nearest_of}
use Rattle.room_tree.proofs.Scanning.{next_nearest}
use Rattle.room_tree.proofs.Vectors.{the_children}
use Rattle.room_ids.specs.declared.ids.NodeId.{NodeId}
use Rattle.room_nodes.specs.declared.nodes.Node.{Node}
use Rattle.room_tree.proofs.plain.PlainTreeTree.next_child.Goals as goal

found_next : (es xs : List (NodeId × Node)) (p : NodeId) (k : Option (List ℕ)) (o : Option (List ℕ × NodeId)) → is_sorted node_cmp es ≡ true → xs ≡ es → o ≡ nearest_of p k xs
    → option_map (λ e. e.1) o ≡ option_map (λ e. e.1) (next_of k (children (from_sorted es) p))
found_next es xs p k o sorted is e =
    ap (option_map (λ e. e.1)) (e ∙ ap (nearest_of p k) is ∙ sym (ap (next_of k) (the_children es sorted p) ∙ next_nearest p k es))

pub returns-in-Some : goal.returns-in-Some
returns-in-Some c = found_next c.args.self.now.entries.items _ c.args.parent.now _ _ c.args.self.now.sorted c.as_slice.ensures.value c.in-Some.ensures

pub returns-in-None : goal.returns-in-None
returns-in-None c = found_next c.args.self.now.entries.items _ c.args.parent.now _ _ c.args.self.now.sorted c.as_slice.ensures.value c.in-None.ensures
