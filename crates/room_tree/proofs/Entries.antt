-- Entries in order beside the map that they make.
use Rattle.std.proofs.Common.{◌≡◌, ◌<◌, ℕ, suc, List, [], ◌∷◌, length, insert, remove, get_or, not, Bool, true, false, cond, Some, None, Less, Equal, Greater, Ordering, T, refl, sym, ap, ◌∙◌, arith, subst}
use Rattle.std.specs.Ordering.{eq_by_cmp, is_eq, match_ordering}
use Rattle.std.proofs.lemmas.Cmp.{tied_itself}
use Rattle.room_nodes.proofs.Gets.{some_inj}
use Rattle.room_nodes.proofs.Listing.{less_of, parts, has_above, find_has}
use Rattle.std.specs.FinMap.{from_sorted, entries-from_sorted, entries-insert, get-from_sorted, same_entries_map, find, put, is_sorted, len, len-entries, get, insert as with_entry}
use Rattle.std.specs.FinMap.Entries.{is_sorted-put, by_order, below_all, where_key}
use Rattle.room_ids.specs.Order.{node_cmp}
use Rattle.room_tree.specs.Nearest.{place_of}
use Rattle.room_ids.proofs.IdOrder.{node_cmp-total, node_cmp-exact}
use Rattle.room_ids.specs.declared.ids.NodeId.{NodeId}

some_none : {A : Type 0} (x : A) → Some x ≡ None → ⊥
some_none x e = cc

module _ {X : Type 0} where
  put_by : (o : Ordering) (k : NodeId) (v : X) (e : NodeId × X) (es : List (NodeId × X)) → node_cmp k e.0 ≡ o
      → cond (is_eq o) (Some e.1) (find node_cmp k es) ≡ None
      → (find node_cmp k es ≡ None → insert es (place_of k es) (k, v) ≡ put node_cmp k v es)
      → insert (e ∷ es) (match_ordering o 0 0 (suc (place_of k es))) (k, v) ≡ by_order o ((k, v) ∷ e ∷ es) ((e.0, v) ∷ es) (e ∷ put node_cmp k v es)
  put_by Less k v e es is none more = refl
  put_by Equal k v e es is none more = absurd (some_none e.1 none)
  put_by Greater k v e es is none more = ap (λ fs. e ∷ fs) (more none)

  -- an entry whose id is new goes to its place
  pub insert-place : (k : NodeId) (v : X) (es : List (NodeId × X)) → find node_cmp k es ≡ None → insert es (place_of k es) (k, v) ≡ put node_cmp k v es
  insert-place k v [] none = refl
  insert-place k v (e ∷ es) none = put_by (node_cmp k e.0) k v e es refl none (insert-place k v es)

  -- and the map that they make has the entry
  pub from_sorted-put : (k : NodeId) (v : X) (es : List (NodeId × X)) → T (is_sorted node_cmp es) → from_sorted {R = node_cmp} (put node_cmp k v es) ≡ with_entry (from_sorted es) k v
  from_sorted-put k v es h = same_entries_map _ _ (
      entries-from_sorted node_cmp (put node_cmp k v es) (is_sorted-put node_cmp node_cmp-total k v es h)
      ∙ ap (put node_cmp k v) (sym (entries-from_sorted node_cmp es h))
      ∙ sym (entries-insert node_cmp-total (from_sorted es) k v))

  pub len-from_sorted : (es : List (NodeId × X)) → T (is_sorted node_cmp es) → len (from_sorted {R = node_cmp} es) ≡ length es
  len-from_sorted es h = len-entries (from_sorted es) ∙ ap length (entries-from_sorted node_cmp es h)

pub test_of : (b : Bool) → b ≡ true → T b
test_of b e = subst T (sym e) tt

pub true_of : (b : Bool) → T b → b ≡ true
true_of true h = refl
true_of false h = absurd h

module _ {X : Type 0} (k : NodeId) (v : X) (es fs : List (NodeId × X)) (at : ℕ) where
  -- what `put` leaves in the vector
  pub placed : fs ≡ insert es at (k, v) → at ≡ place_of k es → is_sorted node_cmp es ≡ true → get (from_sorted {R = node_cmp} es) k ≡ None → fs ≡ put node_cmp k v es
  placed made here sorted fresh =
      made ∙ ap (λ n. insert es n (k, v)) here ∙ insert-place k v es (sym (get-from_sorted node_cmp es k (test_of _ sorted)) ∙ fresh)

  pub placed_sorted : fs ≡ put node_cmp k v es → is_sorted node_cmp es ≡ true → is_sorted node_cmp fs ≡ true
  placed_sorted made sorted = ap (is_sorted node_cmp) made ∙ true_of _ (is_sorted-put node_cmp node_cmp-total k v es (test_of _ sorted))

  pub placed_map : fs ≡ put node_cmp k v es → is_sorted node_cmp es ≡ true → from_sorted {R = node_cmp} fs ≡ with_entry (from_sorted es) k v
  placed_map made sorted = ap (λ gs. from_sorted gs) made ∙ from_sorted-put k v es (test_of _ sorted)

below_itself : (k : NodeId) → node_cmp k k ≡ Less → ⊥
below_itself k e = let h : Equal ≡ Less = sym (tied_itself node_cmp-total k) ∙ e in cc

module _ {X : Type 0} where
  -- all keys above k are kept
  kept_all : (k : NodeId) (es : List (NodeId × X)) → T (below_all node_cmp k es) → where_key node_cmp (λ x. not (eq_by_cmp node_cmp k x)) es ≡ es
  kept_all k [] h = refl
  kept_all k (f ∷ es) h =
      let p = less_of (node_cmp k f.0) _ h in
      ap (λ o. cond (not (is_eq o)) (f ∷ where_key node_cmp (λ x. not (eq_by_cmp node_cmp k x)) es) (where_key node_cmp (λ x. not (eq_by_cmp node_cmp k x)) es)) p.0 ∙ ap (λ gs. f ∷ gs) (kept_all k es p.1)

  -- an id that is there stands at its place
  pub record IsPlaced (k : NodeId) (v w : X) (es : List (NodeId × X)) (at : ℕ) : Type 0 where
    pub within : at < length es
    pub value : (d : NodeId × X) → get_or es at d ≡ (k, v)
    pub without : remove es at ≡ where_key node_cmp (λ x. not (eq_by_cmp node_cmp k x)) es
    pub again : insert (remove es at) at (k, w) ≡ put node_cmp k w es

  placed_by : (o : Ordering) (k : NodeId) (v w : X) (e : NodeId × X) (es : List (NodeId × X)) → node_cmp k e.0 ≡ o → T (below_all node_cmp e.0 es)
      → cond (is_eq o) (Some e.1) (find node_cmp k es) ≡ Some v → (find node_cmp k es ≡ Some v → IsPlaced k v w es (place_of k es))
      → IsPlaced k v w (e ∷ es) (match_ordering o 0 0 (suc (place_of k es)))
  placed_by Less k v w e es is h found more =
      absurd (below_itself k (node_cmp-total.trans k e.0 k is (has_above node_cmp node_cmp-exact node_cmp-total e.0 (k, v) es h (find_has node_cmp node_cmp-exact k v es found))))
  placed_by Equal k v w e es is h found more =
      let same : e.0 ≡ k = sym (node_cmp-exact k e.0 is) in
      record {
        within = omega arith;
        value = λ d i. (same i, some_inj e.1 v found i);
        without = sym (ap (λ o. cond (not (is_eq o)) (e ∷ where_key node_cmp (λ x. not (eq_by_cmp node_cmp k x)) es) (where_key node_cmp (λ x. not (eq_by_cmp node_cmp k x)) es)) is
            ∙ kept_all k es (subst (λ x. T (below_all node_cmp x es)) same h));
        again = ap (λ x. (x, w) ∷ es) (sym same) ∙ ap (λ o. by_order o ((k, w) ∷ e ∷ es) ((e.0, w) ∷ es) (e ∷ put node_cmp k w es)) (sym is);
      }
  placed_by Greater k v w e es is h found more =
      let r = more found in
      let low : place_of k es < length es = r.within in
      record {
        within = omega arith;
        value = r.value;
        without = ap (λ gs. e ∷ gs) r.without ∙ sym (ap (λ o. cond (not (is_eq o)) (e ∷ where_key node_cmp (λ x. not (eq_by_cmp node_cmp k x)) es) (where_key node_cmp (λ x. not (eq_by_cmp node_cmp k x)) es)) is);
        again = ap (λ gs. e ∷ gs) r.again ∙ ap (λ o. by_order o ((k, w) ∷ e ∷ es) ((e.0, w) ∷ es) (e ∷ put node_cmp k w es)) (sym is);
      }

  pub stands : (k : NodeId) (v w : X) (es : List (NodeId × X)) → T (is_sorted node_cmp es) → find node_cmp k es ≡ Some v → IsPlaced k v w es (place_of k es)
  stands k v w [] h found = absurd (some_none v (sym found))
  stands k v w (e ∷ es) h found = let p = parts (below_all node_cmp e.0 es) _ h in placed_by (node_cmp k e.0) k v w e es refl p.0 found (stands k v w es p.1)
