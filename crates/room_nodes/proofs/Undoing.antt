-- Taking a leaf, and putting it back.
use Rattle.std.proofs.Common.{◌≡◌, ◌≢◌, inl, inr, ◌+◌, Option, Some, is_some, sym, ap, ◌∙◌, arith}
use Rattle.std.specs.FinMap.{get, insert, remove, same_map}
use Rattle.room_nodes.specs.Shape.{Nodes, IsFormed, IsFree, fits_under}
use Rattle.room_nodes.specs.Steps.{depth_in}
use Rattle.room_ids.proofs.IdOrder.{node_cmp-total, node_cmp-exact}
use Rattle.room_nodes.proofs.Gets.{some_none, same, get_here, get_other, get_without, get_beside, one_or_two}
use Rattle.room_nodes.proofs.Fitting.{the_parent}
use Rattle.room_ids.specs.declared.ids.NodeId.{NodeId}
use Rattle.room_ids.specs.declared.ids.NodeId.TheVariants.{Root}
use Rattle.room_nodes.specs.declared.nodes.Node.{Node}

module _ (t : Nodes) (f : IsFormed t) (x : NodeId) (n : Node) (made : x ≢ Root) (there : get t x ≡ Some n) where
  -- a node isn't its own parent
  pub parent_other : n.parent ≢ x
  parent_other e =
      let p = the_parent t f x n made there in
      let d : n.depth ≡ p.0.depth + 1 = p.2.depth in
      let s : n.depth ≡ p.0.depth = ap (λ (o : Option Node). depth_in o) (sym there ∙ ap (get t) (sym e) ∙ p.1) in
      absurd (omega arith)

  pub free_again : IsFree (remove t x) x n
  free_again = record {
    fresh = ap is_some (get_without t x);
    parent = ap (λ o. fits_under o n) (get_beside t x n.parent parent_other) ∙ f.parents x n made there;
    key = λ y m other e p k. elim (one_or_two y x) [
      | inl h ↦ some_none m (sym e ∙ ap (get (remove t x)) h ∙ get_without t x)
      | inr h ↦ h (same y x (f.keys y x m n other made (sym (get_beside t x y h) ∙ e) there p k))
    ];
  }

  pub put_again : insert (remove t x) x n ≡ t
  put_again = same_map node_cmp-total node_cmp-exact (insert (remove t x) x n) t (λ q. elim (one_or_two q x) [
    | inl h ↦ ap (get (insert (remove t x) x n)) h ∙ get_here (remove t x) x n ∙ sym there ∙ ap (get t) (sym h)
    | inr h ↦ get_other (remove t x) x n q h ∙ get_beside t x q h
  ])
