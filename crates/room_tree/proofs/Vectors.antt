-- A vector in order, beside the map that it makes.
use Rattle.std.proofs.Common.{◌≡◌, ℕ, Bool, true, false, cond, not, List, insert, remove, get_or, Option, Some, None, is_some, Equal, sym, ap, ◌∙◌, subst}
use Rattle.std.specs.Ordering.{eq_by_cmp}
use Rattle.std.proofs.lemmas.Cmp.{eq_by_cmp_equiv}
use Rattle.std.specs.FinMap.{get, get-from_sorted, get-remove, from_sorted, same_map, find, is_sorted, entries-from_sorted, insert as with_entry, remove as without_entry}
use Rattle.std.specs.FinMap.Entries.{where_key, is_sorted-where_key, find-where_key, is_sorted-put}
use Rattle.room_ids.specs.Order.{node_cmp}
use Rattle.room_tree.specs.Nearest.{place_of}
use Rattle.room_nodes.specs.Shape.{children, child_entries}
use Rattle.room_ids.specs.declared.ids.NodeId.{NodeId}
use Rattle.room_nodes.specs.declared.nodes.Node.{Node}
use Rattle.room_ids.proofs.IdOrder.{node_cmp-total, node_cmp-exact}
use Rattle.room_nodes.proofs.Fitting.{some_of}
use Rattle.room_nodes.proofs.Gets.{some_inj}
use Rattle.room_tree.proofs.Entries.{IsPlaced, stands, test_of, true_of, from_sorted-put}

module _ (es : List (NodeId × Node)) (sorted : is_sorted node_cmp es ≡ true) where
  pub read : (q : NodeId) → get (from_sorted {R = node_cmp} es) q ≡ find node_cmp q es
  read q = get-from_sorted node_cmp es q (test_of _ sorted)

  pub the_children : (p : NodeId) → children (from_sorted es) p ≡ child_entries p es
  the_children p = ap (child_entries p) (entries-from_sorted node_cmp es (test_of _ sorted))

  module _ (k : NodeId) (at : ℕ) (here : at ≡ place_of k es) (there : is_some (get (from_sorted {R = node_cmp} es) k) ≡ true) where
    pub held : (v : Node) × (get (from_sorted {R = node_cmp} es) k ≡ Some v)
    held = some_of (get (from_sorted {R = node_cmp} es) k) there

    pub at_place : (w : Node) → IsPlaced k held.0 w es at
    at_place w = subst (IsPlaced k held.0 w es) (sym here) (stands k held.0 w es (test_of _ sorted) (sym (read k) ∙ held.1))

    pub taken : (n : Node) → ((d : Node) (i : NodeId) → n ≡ (get_or es at (i, d)).1) → Some n ≡ get (from_sorted {R = node_cmp} es) k
    taken n is = ap Some (is held.0 k ∙ ap (λ (e : NodeId × Node). e.1) ((at_place held.0).value (k, held.0))) ∙ sym held.1

    pub taken_is : (n : Node) → ((d : Node) (i : NodeId) → n ≡ (get_or es at (i, d)).1) → n ≡ held.0
    taken_is n is = some_inj n held.0 (taken n is ∙ held.1)

    pub cut_sorted : (fs : List (NodeId × Node)) → fs ≡ remove es at → is_sorted node_cmp fs ≡ true
    cut_sorted fs is = ap (is_sorted node_cmp) (is ∙ (at_place held.0).without) ∙ true_of _ (is_sorted-where_key node_cmp (λ x. not (eq_by_cmp node_cmp k x)) es (test_of _ sorted))

    alike : (q x : NodeId) → node_cmp q x ≡ Equal → not (eq_by_cmp node_cmp k x) ≡ not (eq_by_cmp node_cmp k q)
    alike q x e = ap (λ y. not (eq_by_cmp node_cmp k y)) (sym (node_cmp-exact q x e))

    turned_over : (b c : Bool) (o : Option Node) → b ≡ c → cond (not b) o None ≡ cond c None o
    turned_over true c o e = ap (λ d. cond d None o) e
    turned_over false c o e = ap (λ d. cond d None o) e

    pub cut_map : (fs : List (NodeId × Node)) → fs ≡ remove es at → from_sorted {R = node_cmp} fs ≡ without_entry (from_sorted es) k
    cut_map fs is =
        let p = λ (x : NodeId). not (eq_by_cmp node_cmp k x) in
        let kept = where_key node_cmp p es in
        ap from_sorted (is ∙ (at_place held.0).without)
        ∙ same_map node_cmp-total node_cmp-exact (from_sorted kept) (without_entry (from_sorted es) k) (λ q.
        get-from_sorted node_cmp kept q (is_sorted-where_key node_cmp p es (test_of _ sorted))
        ∙ find-where_key node_cmp p q (alike q) es
        ∙ ap (λ o. cond (p q) o None) (sym (read q))
        ∙ turned_over _ _ _ ((eq_by_cmp_equiv node_cmp-total).symm k q)
        ∙ sym (get-remove node_cmp-total (from_sorted es) k q))

    pub swap_sorted : (w : Node) (fs gs : List (NodeId × Node)) → fs ≡ remove es at → gs ≡ insert fs at (k, w) → is_sorted node_cmp gs ≡ true
    swap_sorted w fs gs a b = ap (is_sorted node_cmp) (b ∙ ap (λ hs. insert hs at (k, w)) a ∙ (at_place w).again) ∙ true_of _ (is_sorted-put node_cmp node_cmp-total k w es (test_of _ sorted))

    pub swap_map : (w : Node) (fs gs : List (NodeId × Node)) → fs ≡ remove es at → gs ≡ insert fs at (k, w) → from_sorted {R = node_cmp} gs ≡ with_entry (from_sorted es) k w
    swap_map w fs gs a b = ap from_sorted (b ∙ ap (λ hs. insert hs at (k, w)) a ∙ (at_place w).again) ∙ from_sorted-put k w es (test_of _ sorted)
