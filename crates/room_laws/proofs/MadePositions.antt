-- The positions that an edit makes are positions, where none is too long.
use Rattle.std.proofs.Common.{◌≡◌, ◌≤◌, ◌<◌, ◌+◌, ◌-◌, ℕ, zero, suc, Bool, true, false, cond, ◌==◌, nat_lt, List, [], ◌∷◌, ◌++◌, length, Option, Some, None, T, refl, sym, ap, ◌∙◌, subst, arith, inl, inr}
use Rattle.std.specs.Prelude.{IsUtf8, slice_get}
use Rattle.std.specs.Ordering.{nat_cmp}
use Rattle.std.specs.Cmp.Lexicographic.{slice_cmp}
use Rattle.std.specs.FinMap.{is_sorted}
use Rattle.std.specs.FinMap.Entries.{below_all}
use Rattle.std.specs.List.{AllByRecursion}
use Rattle.std.proofs.lemmas.Bool.Decides.{nat_tests}
use Rattle.room_ids.specs.Laws.{IsPosUnlessLong}
use Rattle.room_ids.specs.Position.{IsBelow, is_pos, first as first_position, after as after_position, before as before_position, between as between_positions}
use Rattle.room_ids.specs.declared.ids.NodeId.{NodeId}
use Rattle.room_ids.proofs.Makings.{utf8, made_positions as makers}
use Rattle.room_ids.proofs.Orders.{is_pos-spelled}
use Rattle.room_nodes.proofs.Listing.{Has, parts as both_parts, less_of}
use Rattle.room_model.specs.Edits.{too_long, key_at, key_in, inserted_key, moved_key}
use Rattle.room_model.specs.Init.{Init, Plain, AnObject, AMap, AList, Parts, no_parts, part, Inits, no_inits, init, positions_in, parts_positions, item_positions}
use Rattle.room_laws.proofs.Facts.{some_is, some_none}

abbrev pub IsShort : List ℕ → Type 0
IsShort k = length k ≤ 4096

abbrev pub ArePositions : List (List ℕ) → Type 0
ArePositions ps = AllByRecursion (λ k. is_pos k ≡ true) ps

pub pos_utf8 : (k : List ℕ) → is_pos k ≡ true → IsUtf8 k
pos_utf8 k h = utf8 k (is_pos-spelled k h)

-- lists in two parts

module _ (P : List ℕ → Type 0) where
  all_append : (xs ys : List (List ℕ)) → AllByRecursion P xs → AllByRecursion P ys → AllByRecursion P (xs ++ ys)
  all_append [] ys h k = k
  all_append (x ∷ xs) ys h k = (h.0, all_append xs ys h.1 k)

  pub all_front : (xs ys : List (List ℕ)) → AllByRecursion P (xs ++ ys) → AllByRecursion P xs
  all_front [] ys h = tt
  all_front (x ∷ xs) ys h = (h.0, all_front xs ys h.1)

  pub all_back : (xs ys : List (List ℕ)) → AllByRecursion P (xs ++ ys) → AllByRecursion P ys
  all_back [] ys h = h
  all_back (x ∷ xs) ys h = all_back xs ys h.1

short_by : (b : Bool) (k : List ℕ) (o : Option ℕ) → nat_lt 4096 (length k) ≡ b → cond b (Some (length k)) o ≡ None → IsShort k × (o ≡ None)
short_by true k o t e = absurd (some_none (length k) e)
short_by false k o t e = (grind (arith, nat_tests, t), e)

pub all_short : (ps : List (List ℕ)) → too_long ps ≡ None → AllByRecursion IsShort ps
all_short [] e = tt
all_short (p ∷ ps) e = let r = short_by (nat_lt 4096 (length p)) p (too_long ps) refl e in (r.0, all_short ps r.1)

-- those of a live value

mutual
  pub made_in : (i : Init) → AllByRecursion IsShort (positions_in i) → ArePositions (positions_in i)
  made_in (Plain v) h = tt
  made_in (AnObject ps) h = made_parts ps h
  made_in (AMap ps) h = made_parts ps h
  made_in (AList is) h = made_items first_position is (λ l. makers.0) h

  made_parts : (ps : Parts) → AllByRecursion IsShort (parts_positions ps) → ArePositions (parts_positions ps)
  made_parts no_parts h = tt
  made_parts (part k i ps) h =
      all_append (λ k. is_pos k ≡ true) (positions_in i) (parts_positions ps)
      (made_in i (all_front IsShort (positions_in i) (parts_positions ps) h)) (made_parts ps (all_back IsShort (positions_in i) (parts_positions ps) h))

  made_items : (p : List ℕ) (is : Inits) → IsPosUnlessLong p → AllByRecursion IsShort (item_positions p is) → ArePositions (item_positions p is)
  made_items p no_inits pos h = tt
  made_items p (init i is) pos h =
      let here = pos h.0 in
      let more = item_positions (after_position p) is in (
        here,
        all_append (λ k. is_pos k ≡ true) (positions_in i) more (made_in i (all_front IsShort (positions_in i) more h.1))
            (made_items (after_position p) is (makers.1 p here).0 (all_back IsShort (positions_in i) more h.1)),
      )

-- those beside and between the items of a list

abbrev pub Kids : Type 0
Kids = List (List ℕ × NodeId)

pub got_has : (cs : Kids) (i : ℕ) (e : List ℕ × NodeId) → slice_get cs i ≡ Some e → Has e cs
got_has [] i e g = cc
got_has (c ∷ cs) zero e g = inl (some_is c e g)
got_has (c ∷ cs) (suc i) e g = inr (got_has cs i e g)

pub there_at : (cs : Kids) (i : ℕ) → i < length cs → (e : List ℕ × NodeId) × (slice_get cs i ≡ Some e)
there_at [] i l = absurd (omega (arith, l))
there_at (c ∷ cs) zero l = (c, refl)
there_at (c ∷ cs) (suc i) l = there_at cs i (omega (arith, l))

below_has : (k : List ℕ) (cs : Kids) (i : ℕ) (e : List ℕ × NodeId) → T (below_all (slice_cmp nat_cmp) k cs) → slice_get cs i ≡ Some e → IsBelow k e.0
below_has k [] i e b g = cc
below_has k (c ∷ cs) zero e b g = subst (λ (f : List ℕ × NodeId). IsBelow k f.0) (some_is c e g) (less_of (slice_cmp nat_cmp k c.0) _ b).0
below_has k (c ∷ cs) (suc i) e b g = below_has k cs i e (less_of (slice_cmp nat_cmp k c.0) _ b).1 g

-- of two neighbours the first is below
next_below : (cs : Kids) (i : ℕ) (d e : List ℕ × NodeId) → T (is_sorted (slice_cmp nat_cmp) cs) → slice_get cs i ≡ Some d → slice_get cs (suc i) ≡ Some e → IsBelow d.0 e.0
next_below [] i d e s f g = cc
next_below (c ∷ cs) zero d e s f g = subst (λ (x : List ℕ × NodeId). IsBelow x.0 e.0) (some_is c d f) (below_has c.0 cs zero e (both_parts (below_all (slice_cmp nat_cmp) c.0 cs) _ s).0 g)
next_below (c ∷ cs) (suc i) d e s f g = next_below cs i d e (both_parts (below_all (slice_cmp nat_cmp) c.0 cs) _ s).1 f g

module _ (cs : Kids) (sorted : T (is_sorted (slice_cmp nat_cmp) cs)) (positions : (e : List ℕ × NodeId) → Has e cs → is_pos e.0 ≡ true) where
  -- what stands at an index
  at : (i : ℕ) → i < length cs → is_pos (key_at cs i) ≡ true
  at i l = let e = there_at cs i l in subst (λ (o : Option (List ℕ × NodeId)). is_pos (key_in o) ≡ true) (sym e.1) (positions e.0 (got_has cs i e.0 e.1))

  below : (i j : ℕ) → j ≡ suc i → j < length cs → IsBelow (key_at cs i) (key_at cs j)
  below i j n l =
      let d = there_at cs i (omega (arith, n, l)) in
      let e = there_at cs j l in
      let here : slice_get cs (suc i) ≡ Some e.0 = ap (slice_get cs) (sym n) ∙ e.1 in
      subst (λ (o : Option (List ℕ × NodeId)). IsBelow (key_in o) (key_at cs j)) (sym d.1)
      (subst (λ (o : Option (List ℕ × NodeId)). IsBelow (d.0).0 (key_in o)) (sym e.1) (next_below cs i d.0 e.0 sorted d.1 here))

  after_at : (i : ℕ) → i < length cs → IsPosUnlessLong (after_position (key_at cs i))
  after_at i l = (makers.1 (key_at cs i) (at i l)).0

  before_at : (i : ℕ) → i < length cs → IsPosUnlessLong (before_position (key_at cs i))
  before_at i l = (makers.1 (key_at cs i) (at i l)).1

  between_at : (i j : ℕ) → j ≡ suc i → j < length cs → IsPosUnlessLong (between_positions (key_at cs i) (Some (key_at cs j)))
  between_at i j n l = makers.2 (key_at cs i) (Some (key_at cs j)) (at i (omega (arith, n, l)), (at j l, below i j n l))

  by_test : (b : Bool) (x y : List ℕ) → (b ≡ true → IsPosUnlessLong x) → (b ≡ false → IsPosUnlessLong y) → IsPosUnlessLong (cond b x y)
  by_test true x y p q = p refl
  by_test false x y p q = q refl

  pub inserted_pos : (i : ℕ) → i ≤ length cs → IsPosUnlessLong (inserted_key cs i)
  inserted_pos i l =
      by_test (length cs == 0) first_position _ (λ e s. makers.0) (λ some.
      by_test (i == 0) (before_position (key_at cs 0)) _ (λ e. before_at 0 (grind (arith, nat_tests, some))) (λ behind.
      by_test (i == length cs) (after_position (key_at cs (i - 1))) _ (λ e. after_at (i - 1) (grind (arith, nat_tests, some, behind, e))) (λ inner.
      between_at (i - 1) i (grind (arith, nat_tests, behind)) (grind (arith, nat_tests, inner, l)))))

  pub moved_pos : (f t : ℕ) → f < length cs → t < length cs → IsPosUnlessLong (moved_key cs f t)
  moved_pos f t l m =
      by_test (nat_lt f t) _ _
      (λ inbound. by_test (t + 1 == length cs) (after_position (key_at cs t)) _ (λ e. after_at t m) (λ inner. between_at t (t + 1) (omega arith) (grind (arith, nat_tests, inner, m))))
      (λ outbound. by_test (t == 0) (before_position (key_at cs 0)) _ (λ e. before_at 0 (omega (arith, m))) (λ behind. between_at (t - 1) t (grind (arith, nat_tests, behind)) m))
