-- Items of a list by the index of a child.
use Rattle.std.proofs.Common.{◌≡◌, ◌≢◌, ◌≤◌, ◌<◌, ℕ, zero, suc, inl, inr, Bool, true, false, cond, ◌&&◌, T, List, [], ◌∷◌, ◌++◌, map, length, take, drop, Some, None, refl, sym, ap, ◌∙◌, arith}
use Rattle.std.specs.Ordering.{nat_cmp, eq_by_cmp, is_eq, is_lt}
use Rattle.std.specs.Cmp.Lexicographic.{slice_cmp}
use Rattle.std.proofs.lemmas.Cmp.{nat_list_cmp_total}
use Rattle.std.specs.FinMap.{find, is_sorted}
use Rattle.std.specs.FinMap.Entries.{below_all}
use Rattle.std.specs.List.{insert, remove, slice_get, slice_set}
use Rattle.room_json.specs.Value.{Value}
use Rattle.room_ids.specs.Order.{is_same}
use Rattle.room_ids.specs.declared.ids.NodeId.{NodeId}
use Rattle.room_nodes.proofs.Children.{text_exact}
use Rattle.room_nodes.proofs.Gets.{differ, same_self}
use Rattle.room_nodes.proofs.Listing.{Has, has_above, is_equal, less_of, parts}
use Rattle.room_nodes.proofs.Places.{not_below_itself}
use Rattle.room_tree.specs.Skipped.{skip}
use Rattle.room_model.specs.Notices.{index_among}
use Rattle.room_told.proofs.Following.{Kid, map_in}

abbrev pub AreSorted : List Kid → Type 0
AreSorted es = T (is_sorted (slice_cmp nat_cmp) es)

-- x stands there at k alone
pub record IsOnce (x : NodeId) (k : List ℕ) (es : List Kid) : Type 0 where
  pub sorted : AreSorted es
  pub there : Has (k, x) es
  pub key : (e : Kid) → Has e es → e.1 ≡ x → e.0 ≡ k

above_first : (e g : Kid) (es : List Kid) → AreSorted (e ∷ es) → Has g es → slice_cmp nat_cmp e.0 g.0 ≡ slice_cmp nat_cmp e.0 e.0 → ⊥
above_first e g es h m is =
    let low = has_above (slice_cmp nat_cmp) text_exact nat_list_cmp_total e.0 g es (parts (below_all (slice_cmp nat_cmp) e.0 es) _ h).0 m in
    not_below_itself e.0 (sym is ∙ low)

module _ (x : NodeId) (k : List ℕ) where
  -- in front of x stand others
  front_other : (e : Kid) (es : List Kid) → AreSorted (e ∷ es) → Has (k, x) es → ((g : Kid) → Has g (e ∷ es) → g.1 ≡ x → g.0 ≡ k) → e.1 ≢ x
  front_other e es h m one is = above_first e (k, x) es h m (ap (slice_cmp nat_cmp e.0) (sym (one e (inl refl) is)))

  -- and behind it
  rest_other : (e : Kid) (es : List Kid) → AreSorted (e ∷ es) → e ≡ (k, x) → ((g : Kid) → Has g (e ∷ es) → g.1 ≡ x → g.0 ≡ k) → (g : Kid) → Has g es → g.1 ≢ x
  rest_other e es h is one g m own = above_first e g es h m (ap (slice_cmp nat_cmp e.0) (one g (inr m) own ∙ sym (ap (λ (d : Kid). d.0) is)))

  index_here : (e : Kid) (es : List Kid) → e ≡ (k, x) → index_among x (e ∷ es) ≡ 0
  index_here e es is = ap (λ b. cond b 0 (suc (index_among x es))) (ap (is_same x) (ap (λ (d : Kid). d.1) is) ∙ same_self x)

  index_there : (e : Kid) (es : List Kid) → e.1 ≢ x → index_among x (e ∷ es) ≡ suc (index_among x es)
  index_there e es other = ap (λ b. cond b 0 (suc (index_among x es))) (differ x e.1 (λ is. other (sym is)))

  module _ (g h : Kid → Value) where
    pub item_at : (es : List Kid) → AreSorted es → Has (k, x) es → ((e : Kid) → Has e es → e.1 ≡ x → e.0 ≡ k) → slice_get (map g es) (index_among x es) ≡ Some (g (k, x))
    item_at [] s m one = absurd m
    item_at (e ∷ es) s m one = elim m [
      | inl is ↦ ap (slice_get (map g (e ∷ es))) (index_here e es is) ∙ ap (λ d. Some (g d)) is
      | inr m ↦ ap (slice_get (map g (e ∷ es))) (index_there e es (front_other e es s m one)) ∙ item_at es (parts (below_all (slice_cmp nat_cmp) e.0 es) _ s).1 m (λ d n. one d (inr n))
    ]

    pub item_set : (es : List Kid) → AreSorted es → Has (k, x) es → ((e : Kid) → Has e es → e.1 ≡ x → e.0 ≡ k) → ((e : Kid) → Has e es → e.1 ≢ x → g e ≡ h e)
        → slice_set (map g es) (index_among x es) (h (k, x)) ≡ map h es
    item_set [] s m one same = absurd m
    item_set (e ∷ es) s m one same = elim m [
      | inl is ↦
          ap (λ i. slice_set (map g (e ∷ es)) i (h (k, x))) (index_here e es is)
          ∙ (λ i. h (sym is i) ∷ map_in g h es (λ d n. same d (inr n) (rest_other e es s is one d n)) i)
      | inr m ↦
          let other = front_other e es s m one in
          ap (λ i. slice_set (map g (e ∷ es)) i (h (k, x))) (index_there e es other)
          ∙ (λ i. same e (inl refl) other i ∷ item_set es (parts (below_all (slice_cmp nat_cmp) e.0 es) _ s).1 m (λ d n. one d (inr n)) (λ d n. same d (inr n)) i)
    ]

  pub index_below : (es : List Kid) → AreSorted es → Has (k, x) es → ((e : Kid) → Has e es → e.1 ≡ x → e.0 ≡ k) → index_among x es < length es
  index_below [] s m one = absurd m
  index_below (e ∷ es) s m one = elim m [
    | inl is ↦ omega (arith, index_here e es is)
    | inr m ↦ omega (arith, index_there e es (front_other e es s m one), index_below es (parts (below_all (slice_cmp nat_cmp) e.0 es) _ s).1 m (λ d n. one d (inr n)))
  ]

-- all but x

abbrev pub others : NodeId → List Kid → List Kid
others x [] = []
others x (e ∷ es) = cond (is_same e.1 x) (others x es) (e ∷ others x es)

module _ (x : NodeId) where
  others_all : (es : List Kid) → ((e : Kid) → Has e es → e.1 ≢ x) → others x es ≡ es
  others_all [] h = refl
  others_all (e ∷ es) h = ap (λ b. cond b (others x es) (e ∷ others x es)) (differ e.1 x (h e (inl refl))) ∙ ap (λ ds. e ∷ ds) (others_all es (λ d m. h d (inr m)))

  others_here : (k : List ℕ) (e : Kid) (es : List Kid) → e ≡ (k, x) → others x (e ∷ es) ≡ others x es
  others_here k e es is = ap (λ b. cond b (others x es) (e ∷ others x es)) (ap (λ (d : Kid). is_same d.1 x) is ∙ same_self x)

  others_there : (e : Kid) (es : List Kid) → e.1 ≢ x → others x (e ∷ es) ≡ e ∷ others x es
  others_there e es other = ap (λ b. cond b (others x es) (e ∷ others x es)) (differ e.1 x other)

  module _ (k : List ℕ) where
    -- the list without x at its index
    pub removed_others : (es : List Kid) → AreSorted es → Has (k, x) es → ((e : Kid) → Has e es → e.1 ≡ x → e.0 ≡ k) → remove es (index_among x es) ≡ others x es
    removed_others [] s m one = absurd m
    removed_others (e ∷ es) s m one = elim m [
      | inl is ↦ ap (remove (e ∷ es)) (index_here x k e es is) ∙ sym (others_here k e es is ∙ others_all es (rest_other x k e es s is one))
      | inr m ↦
          let other = front_other x k e es s m one in
          ap (remove (e ∷ es)) (index_there x k e es other)
          ∙ ap (λ ds. e ∷ ds) (removed_others es (parts (below_all (slice_cmp nat_cmp) e.0 es) _ s).1 m (λ d n. one d (inr n)))
          ∙ sym (others_there e es other)
    ]

    -- the others with x at its index
    pub inserted_others : (es : List Kid) → AreSorted es → Has (k, x) es → ((e : Kid) → Has e es → e.1 ≡ x → e.0 ≡ k) → insert (others x es) (index_among x es) (k, x) ≡ es
    inserted_others [] s m one = absurd m
    inserted_others (e ∷ es) s m one = elim m [
      | inl is ↦
          ap (λ i. insert (others x (e ∷ es)) i (k, x)) (index_here x k e es is)
          ∙ (λ i. sym is i ∷ (others_here k e es is ∙ others_all es (rest_other x k e es s is one)) i)
      | inr m ↦
          let other = front_other x k e es s m one in
          (λ i. insert (others_there e es other i) (index_there x k e es other i) (k, x))
          ∙ ap (λ ds. e ∷ ds) (inserted_others es (parts (below_all (slice_cmp nat_cmp) e.0 es) _ s).1 m (λ d n. one d (inr n)))
    ]

    pub index_others : (es : List Kid) → AreSorted es → Has (k, x) es → ((e : Kid) → Has e es → e.1 ≡ x → e.0 ≡ k) → index_among x es ≤ length (others x es)
    index_others [] s m one = absurd m
    index_others (e ∷ es) s m one = elim m [
      | inl is ↦ omega (arith, index_here x k e es is)
      | inr m ↦
          let other = front_other x k e es s m one in
          omega (arith, index_there x k e es other, ap length (others_there e es other), index_others es (parts (below_all (slice_cmp nat_cmp) e.0 es) _ s).1 m (λ d n. one d (inr n)))
    ]

    pub length_others : (es : List Kid) → AreSorted es → Has (k, x) es → ((e : Kid) → Has e es → e.1 ≡ x → e.0 ≡ k) → length es ≡ suc (length (others x es))
    length_others [] s m one = absurd m
    length_others (e ∷ es) s m one = elim m [
      | inl is ↦ ap suc (sym (ap length (others_here k e es is ∙ others_all es (rest_other x k e es s is one))))
      | inr m ↦
          let other = front_other x k e es s m one in
          ap suc (length_others es (parts (below_all (slice_cmp nat_cmp) e.0 es) _ s).1 m (λ d n. one d (inr n)) ∙ sym (ap length (others_there e es other)))
    ]

  -- by key

  none_among : (j : List ℕ) (es : List Kid) → T (below_all (slice_cmp nat_cmp) j es) → find (slice_cmp nat_cmp) j es ≡ None
  none_among j [] h = refl
  none_among j (e ∷ es) h =
      let p = less_of (slice_cmp nat_cmp j e.0) _ h in
      ap (λ o. cond (is_eq o) (Some e.1) (find (slice_cmp nat_cmp) j es)) p.0 ∙ none_among j es p.1

  found_by : (q : List ℕ) (e : Kid) (es : List Kid) (b s : Bool) → eq_by_cmp (slice_cmp nat_cmp) q e.0 ≡ b → is_same e.1 x ≡ s → (b ≡ true → find (slice_cmp nat_cmp) q es ≡ None)
      → find (slice_cmp nat_cmp) q (others x es) ≡ skip x (find (slice_cmp nat_cmp) q es)
      → find (slice_cmp nat_cmp) q (cond s (others x es) (e ∷ others x es)) ≡ skip x (cond b (Some e.1) (find (slice_cmp nat_cmp) q es))
  found_by q e es true true is own none more = more ∙ ap (skip x) (none refl) ∙ sym (ap (λ c. cond c None (Some e.1)) own)
  found_by q e es false true is own none more = more
  found_by q e es true false is own none more = ap (λ c. cond c (Some e.1) (find (slice_cmp nat_cmp) q (others x es))) is ∙ sym (ap (λ c. cond c None (Some e.1)) own)
  found_by q e es false false is own none more = ap (λ c. cond c (Some e.1) (find (slice_cmp nat_cmp) q (others x es))) is ∙ more

  pub found_others : (q : List ℕ) (es : List Kid) → AreSorted es → find (slice_cmp nat_cmp) q (others x es) ≡ skip x (find (slice_cmp nat_cmp) q es)
  found_others q [] h = refl
  found_others q (e ∷ es) h =
      let p = parts (below_all (slice_cmp nat_cmp) e.0 es) _ h in
      found_by q e es (eq_by_cmp (slice_cmp nat_cmp) q e.0) (is_same e.1 x) refl refl
      (λ is. ap (λ j. find (slice_cmp nat_cmp) j es) (text_exact q e.0 (is_equal _ is)) ∙ none_among e.0 es p.0) (found_others q es p.1)

  both_hold : (a b : Bool) → T a → T b → T (a && b)
  both_hold true b g h = h
  both_hold false b g h = g

  below_by : (j : List ℕ) (s : Bool) (e : Kid) (ds : List Kid) → T (is_lt (slice_cmp nat_cmp j e.0)) → T (below_all (slice_cmp nat_cmp) j ds) → T (below_all (slice_cmp nat_cmp) j (cond s ds (e ∷ ds)))
  below_by j true e ds g h = h
  below_by j false e ds g h = both_hold (is_lt (slice_cmp nat_cmp j e.0)) _ g h

  below_others : (j : List ℕ) (es : List Kid) → T (below_all (slice_cmp nat_cmp) j es) → T (below_all (slice_cmp nat_cmp) j (others x es))
  below_others j [] h = h
  below_others j (e ∷ es) h = let p = parts (is_lt (slice_cmp nat_cmp j e.0)) _ h in below_by j (is_same e.1 x) e (others x es) p.0 (below_others j es p.1)

  sorted_by : (s : Bool) (e : Kid) (ds : List Kid) → T (below_all (slice_cmp nat_cmp) e.0 ds) → AreSorted ds → AreSorted (cond s ds (e ∷ ds))
  sorted_by true e ds g h = h
  sorted_by false e ds g h = both_hold (below_all (slice_cmp nat_cmp) e.0 ds) _ g h

  pub sorted_others : (es : List Kid) → AreSorted es → AreSorted (others x es)
  sorted_others [] h = h
  sorted_others (e ∷ es) h =
      let p = parts (below_all (slice_cmp nat_cmp) e.0 es) _ h in
      sorted_by (is_same e.1 x) e (others x es) (below_others e.0 es p.0) (sorted_others es p.1)

-- values in the places of items

module _ {X Y : Type 0} (g : X → Y) where
  take_each : (n : ℕ) (xs : List X) → map g (take n xs) ≡ take n (map g xs)
  take_each zero xs = refl
  take_each (suc n) [] = refl
  take_each (suc n) (x ∷ xs) = ap (λ ys. g x ∷ ys) (take_each n xs)

  drop_each : (n : ℕ) (xs : List X) → map g (drop n xs) ≡ drop n (map g xs)
  drop_each zero xs = refl
  drop_each (suc n) [] = refl
  drop_each (suc n) (x ∷ xs) = drop_each n xs

  map_append : (xs ys : List X) → map g (xs ++ ys) ≡ map g xs ++ map g ys
  map_append [] ys = refl
  map_append (x ∷ xs) ys = ap (λ zs. g x ∷ zs) (map_append xs ys)

  pub map_remove : (xs : List X) (i : ℕ) → map g (remove xs i) ≡ remove (map g xs) i
  map_remove xs i = map_append (take i xs) (drop (suc i) xs) ∙ (λ z. take_each i xs z ++ drop_each (suc i) xs z)

  pub map_insert : (xs : List X) (i : ℕ) (x : X) → map g (insert xs i x) ≡ insert (map g xs) i (g x)
  map_insert xs i x = map_append (take i xs) (x ∷ drop i xs) ∙ (λ z. take_each i xs z ++ g x ∷ drop_each i xs z)

  pub map_length : (xs : List X) → length (map g xs) ≡ length xs
  map_length [] = refl
  map_length (x ∷ xs) = ap suc (map_length xs)
