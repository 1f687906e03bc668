-- What lies below a node, in two trees that agree on it.
use Rattle.std.proofs.Common.{◌≡◌, ◌≢◌, inl, inr, ℕ, zero, suc, Bool, true, false, cond, ◌&&◌, T, List, [], ◌∷◌, Option, Some, None, option_map, is_some, refl, sym, ap, ◌∙◌, subst, arith}
use Rattle.std.specs.FinMap.{get, entries, get-entries, entries_sorted, find, is_sorted}
use Rattle.std.specs.FinMap.Entries.{below_all, find-where_key, is_sorted-where_key, same_entries, where_key}
use Rattle.std.specs.Ordering.{eq_by_cmp}
use Rattle.room_ids.proofs.IdOrder.{node_cmp-total, node_cmp-exact}
use Rattle.room_ids.specs.Order.{is_same, node_cmp}
use Rattle.room_ids.specs.declared.ids.NodeId.{NodeId}
use Rattle.room_ids.specs.declared.ids.NodeId.TheVariants.{Root}
use Rattle.room_nodes.specs.Cells.{Agrees, SameSlot, removal_among, removal_cells}
use Rattle.room_nodes.specs.Shape.{Nodes, IsFormed, is_below}
use Rattle.room_nodes.specs.declared.cells.Cell.{Cell}
use Rattle.room_nodes.specs.declared.cells.Cell.TheVariants.{Node as NodeOf, All}
use Rattle.room_nodes.specs.declared.nodes.Node.{Node}
use Rattle.room_nodes.proofs.Below.{below_root, below_self, below_step}
use Rattle.room_nodes.proofs.Fitting.{the_parent}
use Rattle.room_nodes.proofs.Gets.{same, true_false}
use Rattle.room_steps.proofs.Booleans.{or_parts, or_right, both_ways}
use Rattle.room_steps.proofs.Alike.{Alike, alike_some, parent_alike}
use Rattle.room_steps.proofs.Covering.{is_hit, hit_is, hit_of, covers_node, covers_slot, on_node, on_slot}
use Rattle.room_steps.proofs.Kin.{child_of, found}

-- the ids below a node, in order

abbrev Ids : Type 0
Ids = List (NodeId × Unit {0})

abbrev ids_of : List (NodeId × Node) → Ids
ids_of [] = []
ids_of (e ∷ es) = (e.0, tt) ∷ ids_of es

abbrev ids_below : Nodes → NodeId → Ids
ids_below t y = where_key node_cmp (is_below t y) (ids_of (entries t))

abbrev cells_of : Ids → List Cell
cells_of [] = []
cells_of (e ∷ es) = NodeOf e.0 ∷ All e.0 ∷ cells_of es

ids_above : (x : NodeId) (es : List (NodeId × Node)) → below_all node_cmp x (ids_of es) ≡ below_all node_cmp x es
ids_above x [] = refl
ids_above x (e ∷ es) = rw (ids_above x es) refl

ids_sorted : (es : List (NodeId × Node)) → is_sorted node_cmp (ids_of es) ≡ is_sorted node_cmp es
ids_sorted [] = refl
ids_sorted (e ∷ es) = rw (ids_above e.0 es, ids_sorted es) refl

found_by : (b : Bool) (v : Node) (o : Option Node) (p : Option (Unit {0})) → p ≡ option_map (λ _. tt) o → cond b (Some tt) p ≡ option_map (λ _. tt) (cond b (Some v) o)
found_by true v o p e = refl
found_by false v o p e = e

find_ids : (q : NodeId) (es : List (NodeId × Node)) → find node_cmp q (ids_of es) ≡ option_map (λ _. tt) (find node_cmp q es)
find_ids q [] = refl
find_ids q (e ∷ es) = found_by (eq_by_cmp node_cmp q e.0) e.1 (find node_cmp q es) (find node_cmp q (ids_of es)) (find_ids q es)

hit_by : (b : Bool) (o : Option Node) → ◌≡◌ {A = Option (Unit {0})} (cond b (option_map (λ _. tt) o) None) (cond (is_some o && b) (Some tt) None)
hit_by true None = refl
hit_by true (Some n) = refl
hit_by false None = refl
hit_by false (Some n) = refl

module _ (t : Nodes) (y : NodeId) where
  below_sorted : T (is_sorted node_cmp (ids_below t y))
  below_sorted = is_sorted-where_key node_cmp (is_below t y) (ids_of (entries t)) (subst T (sym (ids_sorted (entries t))) (entries_sorted t))

  find_below : (q : NodeId) → find node_cmp q (ids_below t y) ≡ cond (is_hit t y q) (Some tt) None
  find_below q =
      find-where_key node_cmp (is_below t y) q (λ x e. ap (is_below t y) (sym (node_cmp-exact q x e))) (ids_of (entries t))
      ∙ ap (λ o. cond (is_below t y q) o None) (find_ids q (entries t) ∙ ap (option_map (λ _. tt)) (sym (get-entries t q)))
      ∙ hit_by (is_below t y q) (get t q)

  cells_by : (b : Bool) (x : NodeId) (ds : List Cell) (es : Ids) → ds ≡ cells_of es → cond b (NodeOf x ∷ All x ∷ ds) ds ≡ cells_of (cond b ((x, tt) ∷ es) es)
  cells_by true x ds es e = ap (λ cs. NodeOf x ∷ All x ∷ cs) e
  cells_by false x ds es e = e

  among_is : (es : List (NodeId × Node)) → removal_among t y es ≡ cells_of (where_key node_cmp (is_below t y) (ids_of es))
  among_is [] = refl
  among_is (e ∷ es) = cells_by (is_below t y e.0) e.0 (removal_among t y es) (where_key node_cmp (is_below t y) (ids_of es)) (among_is es)

  removal_is : removal_cells t y ≡ cells_of (ids_below t y)
  removal_is = among_is (entries t)

module _ (t u : Nodes) (f : IsFormed t) (g : IsFormed u) (y : NodeId) (m : Node) (here : get t y ≡ Some m) (made : y ≢ Root) (agree : Agrees t u (removal_cells t y)) where
  pub node_agrees : (q : NodeId) → is_hit t y q ≡ true → Alike (get t q) (get u q)
  node_agrees q h = on_node t u q (removal_cells t y) agree (covers_node t y q h)

  pub slot_agrees : (q : NodeId) (k : List ℕ) → is_hit t y q ≡ true → SameSlot t u q k
  slot_agrees q k h = on_slot t u q k (removal_cells t y) agree (covers_slot t y q k h)

  not_root : (v : Nodes) → IsFormed v → (q : NodeId) → is_below v y q ≡ true → q ≢ Root
  not_root v fv q h e = true_false (sym h ∙ ap (is_below v y) e ∙ below_root v fv y made)

  forth_at : (d : ℕ) (q : NodeId) (n : Node) → get t q ≡ Some n → n.depth ≡ d → is_below t y q ≡ true → is_hit u y q ≡ true
  forth_at zero q n e deep h = let p = the_parent t f q n (not_root t f q h) e in absurd (omega (arith, p.2.depth, deep))
  forth_at (suc d) q n e deep h =
      let other = not_root t f q h in
      let p = the_parent t f q n other e in
      let a = alike_some (get t q) (get u q) (node_agrees q (hit_of t y q n e h)) n e in
      elim (or_parts (is_same q y) _ (sym (below_step t f y q n other e) ∙ h)) [
        | inl s ↦ hit_of u y q a.0 a.1 (ap (is_below u y) (same q y s) ∙ below_self u y)
        | inr b ↦
            let above = hit_is u y n.parent (forth_at d n.parent p.0 p.1 (omega (arith, p.2.depth, deep)) b) in
            hit_of u y q a.0 a.1 (below_step u g y q a.0 other a.1 ∙ or_right (is_same q y) _ (ap (is_below u y) (sym (parent_alike n a.0 a.2)) ∙ above.2))
      ]

  back_at : (d : ℕ) (q : NodeId) (n : Node) → get u q ≡ Some n → n.depth ≡ d → is_below u y q ≡ true → is_hit t y q ≡ true
  back_at zero q n e deep h = let p = the_parent u g q n (not_root u g q h) e in absurd (omega (arith, p.2.depth, deep))
  back_at (suc d) q n e deep h =
      let other = not_root u g q h in
      let p = the_parent u g q n other e in
      elim (or_parts (is_same q y) _ (sym (below_step u g y q n other e) ∙ h)) [
        | inl s ↦ hit_of t y q m (ap (get t) (same q y s) ∙ here) (ap (is_below t y) (same q y s) ∙ below_self t y)
        | inr b ↦
            let above = back_at d n.parent p.0 p.1 (omega (arith, p.2.depth, deep)) b in
            let c = child_of t n.parent n.key q ((slot_agrees n.parent n.key above).1 ∙ found u g n.parent n.key q (record { node = n; there = e; made = other; parent = refl; key = refl })) in
            hit_of t y q c.node c.there (below_step t f y q c.node other c.there ∙ or_right (is_same q y) _ (ap (is_below t y) c.parent ∙ (hit_is t y n.parent above).2))
      ]

  -- the same nodes lie below it
  pub hit_same : (q : NodeId) → is_hit t y q ≡ is_hit u y q
  hit_same q = both_ways (is_hit t y q) (is_hit u y q)
      (λ h. let a = hit_is t y q h in forth_at a.0.depth q a.0 a.1 refl a.2)
      (λ h. let a = hit_is u y q h in back_at a.0.depth q a.0 a.1 refl a.2)

  pub removal_same : removal_cells t y ≡ removal_cells u y
  removal_same =
      removal_is t y
      ∙ ap cells_of (same_entries node_cmp node_cmp-total node_cmp-exact (ids_below t y) (ids_below u y) (below_sorted t y) (below_sorted u y)
      (λ q. find_below t y q ∙ ap (λ b. cond b (Some tt) None) (hit_same q) ∙ sym (find_below u y q)))
      ∙ sym (removal_is u y)
