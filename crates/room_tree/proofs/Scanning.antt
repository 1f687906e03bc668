-- What walks over the entries find.
use Rattle.std.proofs.Common.{◌≡◌, ℕ, Bool, true, false, cond, ◌&&◌, List, [], ◌∷◌, Option, Some, None, Ordering, Less, Equal, Greater, refl, sym, ap, ◌∙◌}
use Rattle.std.specs.Ordering.{nat_cmp, eq_by_cmp, is_lt, ordering_reverse}
use Rattle.std.specs.Cmp.Lexicographic.{slice_cmp}
use Rattle.std.proofs.lemmas.Cmp.{nat_list_cmp_total}
use Rattle.std.specs.FinMap.{find, put}
use Rattle.std.specs.FinMap.Entries.{find-put, by_order}
use Rattle.room_nodes.specs.Shape.{is_child, child_entries, next_of}
use Rattle.room_tree.specs.Nearest.{found_of, is_after, keyed, lesser_key, nearest_of}
use Rattle.room_nodes.proofs.Children.{text_exact}
use Rattle.room_ids.specs.declared.ids.NodeId.{NodeId}
use Rattle.room_nodes.specs.declared.nodes.Node.{Node}

-- the child at a key

found_by : (p : NodeId) (k : List ℕ) (e : NodeId × Node) (es : List (NodeId × Node)) (b : Bool) → find (slice_cmp nat_cmp) k (child_entries p es) ≡ found_of p k es
    → find (slice_cmp nat_cmp) k (cond b (put (slice_cmp nat_cmp) e.1.key e.0 (child_entries p es)) (child_entries p es)) ≡ cond (b && eq_by_cmp (slice_cmp nat_cmp) k e.1.key) (Some e.0) (found_of p k es)
found_by p k e es true more = find-put (slice_cmp nat_cmp) nat_list_cmp_total k e.1.key e.0 (child_entries p es) ∙ ap (cond (eq_by_cmp (slice_cmp nat_cmp) k e.1.key) (Some e.0)) more
found_by p k e es false more = more

pub child_found : (p : NodeId) (k : List ℕ) (es : List (NodeId × Node)) → find (slice_cmp nat_cmp) k (child_entries p es) ≡ found_of p k es
child_found p k [] = refl
child_found p k (e ∷ es) = found_by p k e es (is_child p e) (child_found p k es)

-- the next one

before_of : (x y : List ℕ) (o : Ordering) → slice_cmp nat_cmp x y ≡ o → slice_cmp nat_cmp y x ≡ ordering_reverse o
before_of x y o e = nat_list_cmp_total.antisymm y x ∙ ap ordering_reverse e

none_next : {X : Type 0} (k : Option (List ℕ)) → next_of {X = X} k [] ≡ None
none_next None = refl
none_next (Some k) = refl

less_of : (o : Ordering) → is_lt o ≡ true → o ≡ Less
less_of Less e = refl
less_of Equal e = cc
less_of Greater e = cc

after_more : (k : Option (List ℕ)) (x y : List ℕ) → is_after k x ≡ true → slice_cmp nat_cmp x y ≡ Less → is_after k y ≡ true
after_more None x y h e = refl
after_more (Some k) x y h e = ap is_lt (nat_list_cmp_total.trans k x y (less_of _ h) e)

module _ {X : Type 0} where
  after_first : (k : Option (List ℕ)) (f : List ℕ × X) (cs : List (List ℕ × X)) → is_after k f.0 ≡ true → next_of k (f ∷ cs) ≡ Some f
  after_first None f cs h = refl
  after_first (Some k) f cs h = ap (λ b. cond b (Some f) (next_of (Some k) cs)) h

  after_later : (k : Option (List ℕ)) (f : List ℕ × X) (cs : List (List ℕ × X)) → is_after k f.0 ≡ false → next_of k (f ∷ cs) ≡ next_of k cs
  after_later None f cs h = cc
  after_later (Some k) f cs h = ap (λ b. cond b (Some f) (next_of (Some k) cs)) h

  next_by : (o : Ordering) (k : Option (List ℕ)) (key : List ℕ) (id : X) (f : List ℕ × X) (cs : List (List ℕ × X)) (b c : Bool) → slice_cmp nat_cmp key f.0 ≡ o → is_after k key ≡ b → is_after k f.0 ≡ c
      → next_of k (put (slice_cmp nat_cmp) key id cs) ≡ cond b (lesser_key (key, id) (next_of k cs)) (next_of k cs)
      → next_of k (by_order o ((key, id) ∷ f ∷ cs) ((f.0, id) ∷ cs) (f ∷ put (slice_cmp nat_cmp) key id cs)) ≡ cond b (lesser_key (key, id) (next_of k (f ∷ cs))) (next_of k (f ∷ cs))
  next_by Less k key id f cs true c e s t more =
      after_first k (key, id) (f ∷ cs) s
      ∙ sym (ap (lesser_key (key, id)) (after_first k f cs (after_more k key f.0 s e)) ∙ ap (λ o. cond (is_lt o) (Some f) (Some (key, id))) (before_of key f.0 Less e))
  next_by Less k key id f cs false c e s t more = after_later k (key, id) (f ∷ cs) s
  next_by Equal k key id f cs true c e s t more =
      let same : key ≡ f.0 = text_exact key f.0 e in
      after_first k (f.0, id) cs (ap (is_after k) (sym same) ∙ s) ∙ ap (λ j. Some (j, id)) (sym same)
      ∙ sym (ap (lesser_key (key, id)) (after_first k f cs (ap (is_after k) (sym same) ∙ s)) ∙ ap (λ o. cond (is_lt o) (Some f) (Some (key, id))) (before_of key f.0 Equal e))
  next_by Equal k key id f cs false c e s t more =
      let same : key ≡ f.0 = text_exact key f.0 e in
      let no : is_after k f.0 ≡ false = ap (is_after k) (sym same) ∙ s in
      after_later k (f.0, id) cs no ∙ sym (after_later k f cs no)
  next_by Greater k key id f cs true true e s t more =
      after_first k f (put (slice_cmp nat_cmp) key id cs) t
      ∙ sym (ap (lesser_key (key, id)) (after_first k f cs t) ∙ ap (λ o. cond (is_lt o) (Some f) (Some (key, id))) (before_of key f.0 Greater e))
  next_by Greater k key id f cs true false e s t more =
      after_later k f (put (slice_cmp nat_cmp) key id cs) t ∙ more ∙ ap (lesser_key (key, id)) (sym (after_later k f cs t))
  next_by Greater k key id f cs false true e s t more = after_first k f (put (slice_cmp nat_cmp) key id cs) t ∙ sym (after_first k f cs t)
  next_by Greater k key id f cs false false e s t more = after_later k f (put (slice_cmp nat_cmp) key id cs) t ∙ more ∙ sym (after_later k f cs t)

  one_by : (k : Option (List ℕ)) (key : List ℕ) (id : X) (b : Bool) → is_after k key ≡ b → next_of k ((key, id) ∷ []) ≡ cond b (Some (key, id)) None
  one_by k key id true e = after_first k (key, id) [] e
  one_by k key id false e = after_later k (key, id) [] e ∙ none_next k

  next_put : (k : Option (List ℕ)) (key : List ℕ) (id : X) (cs : List (List ℕ × X)) → next_of k (put (slice_cmp nat_cmp) key id cs) ≡ cond (is_after k key) (lesser_key (key, id) (next_of k cs)) (next_of k cs)
  next_put k key id [] = one_by k key id _ refl
  next_put k key id (f ∷ cs) = next_by _ k key id f cs _ _ refl refl refl (next_put k key id cs)

near_by : (p : NodeId) (k : Option (List ℕ)) (e : NodeId × Node) (es : List (NodeId × Node)) (b : Bool) → next_of k (child_entries p es) ≡ nearest_of p k es
    → next_of k (cond b (put (slice_cmp nat_cmp) e.1.key e.0 (child_entries p es)) (child_entries p es)) ≡ cond (b && is_after k e.1.key) (lesser_key (keyed e) (nearest_of p k es)) (nearest_of p k es)
near_by p k e es true more = next_put k e.1.key e.0 (child_entries p es) ∙ ap (λ o. cond (is_after k e.1.key) (lesser_key (keyed e) o) o) more
near_by p k e es false more = more

pub next_nearest : (p : NodeId) (k : Option (List ℕ)) (es : List (NodeId × Node)) → next_of k (child_entries p es) ≡ nearest_of p k es
next_nearest p k [] = none_next k
next_nearest p k (e ∷ es) = near_by p k e es (is_child p e) (next_nearest p k es)
