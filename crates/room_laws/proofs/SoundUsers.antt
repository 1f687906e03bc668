-- The users of a room state: they rise, their actors are in range, and their names are texts.
use Rattle.std.proofs.Common.{◌≡◌, ◌≤◌, ◌<◌, ℕ, zero, suc, Bool, true, false, ◌&&◌, cond, T, List, [], ◌∷◌, ◌++◌}
use Rattle.std.proofs.Common.{length}
use Rattle.std.proofs.Common.{refl, sym, ap, ◌∙◌, subst, arith, rules, nat_cmp, Ordering, Less, Equal, Greater}
use Rattle.std.specs.Prelude.{Option, Some, None, IsUtf8, slice_get, ⊤}
use Rattle.std.specs.Ordering.{eq_by_cmp, is_eq, is_lt}
use Rattle.std.specs.Cmp.{nat_cmp_total}
use Rattle.std.proofs.lemmas.Bool.Decides.{nat_tests}
use Rattle.std.specs.FinMap.{FinMap, get, entries, from_entries, find, is_sorted, entries_sorted, get-entries}
use Rattle.std.specs.FinMap.{get-from_entries, nat_cmp-IsAntisymmetric}
use Rattle.std.specs.FinMap.Entries.{below_all}
use Rattle.room_msg.specs.Laws.{AreActors}
use Rattle.room_msg.specs.Sound.{AreNames}
use Rattle.room_msg.specs.Users.{IsRising}
use Rattle.room_log.specs.Log.{Session, session_of, name_in}
use Rattle.room_log.specs.Follows.{AreValidSessions, IsValidSession, most_actor}
use Rattle.room_model.specs.Server.{Link, user_at, users_among, users_of}
use Rattle.room_laws.specs.Validity.{IsActorOf, IsSoundLink}
use Rattle.room_laws.proofs.SoundMaps.{Each}

none_some : {A : Type 0} (x : A) → None ≡ Some x → ⊥
none_some x e = cc

some_is : {A : Type 0} (x y : A) → Some x ≡ Some y → x ≡ y
some_is x y e = cc

left : (a b : Bool) → T (a && b) → T a
left true b p = tt
left false b p = p

right : (a b : Bool) → T (a && b) → T b
right true b p = p
right false b p = absurd p

less : (k j : ℕ) → T (is_lt (nat_cmp k j)) → k < j
less k j h = by (nat_cmp k j) refl h
  where
    by : (o : Ordering) → nat_cmp k j ≡ o → T (is_lt o) → k < j
    by Less e t = grind (arith, nat_tests, e)
    by Equal e t = absurd t
    by Greater e t = absurd t

-- entries in order, by what is found among them

module _ {X : Type 0} where
  absent : (q j : ℕ) (es : List (ℕ × X)) → q ≡ j → T (below_all nat_cmp j es) → find nat_cmp q es ≡ None
  absent q j [] e h = refl
  absent q j (x ∷ es) e h =
      let apart : is_eq (nat_cmp q x.0) ≡ false = grind (arith, nat_tests, e, less j x.0 (left _ _ h)) in
      ap (λ b. cond b (Some x.1) (find nat_cmp q es)) apart ∙ absent q j es e (right _ _ h)

  later : (q j : ℕ) (v x : X) (es : List (ℕ × X)) → T (below_all nat_cmp j es) → find nat_cmp q es ≡ Some x
      → find nat_cmp q ((j, v) ∷ es) ≡ Some x
  later q j v x es h e = by (nat_cmp q j) refl
    where
      by : (o : Ordering) → nat_cmp q j ≡ o → cond (is_eq o) (Some v) (find nat_cmp q es) ≡ Some x
      by Less i = e
      by Equal i = absurd (none_some x (sym (absent q j es (nat_cmp-IsAntisymmetric q j i) h) ∙ e))
      by Greater i = e

  here : (q : ℕ) (v : X) (es : List (ℕ × X)) → find nat_cmp q ((q, v) ∷ es) ≡ Some v
  here q v es =
      let same : is_eq (nat_cmp q q) ≡ true = grind (arith, nat_tests) in
      ap (λ b. cond b (Some v) (find nat_cmp q es)) same

  abbrev pub All : (ℕ → X → Type 0) → List (ℕ × X) → Type 0
  All P [] = ⊤
  All P (e ∷ es) = P e.0 e.1 × All P es

  each_of : (P : ℕ → X → Type 0) (es : List (ℕ × X)) → T (is_sorted nat_cmp es)
      → ((q : ℕ) (x : X) → find nat_cmp q es ≡ Some x → P q x) → All P es
  each_of P [] h f = tt
  each_of P (e ∷ es) h f = (
    f e.0 e.1 (here e.0 e.1 es),
    each_of P es (right _ _ h) (λ q x i. f q x (later q e.0 e.1 x es (left _ _ h) i)),
  )

  found_in : (P : ℕ → X → Type 0) (q : ℕ) (x : X) (es : List (ℕ × X)) → All P es → find nat_cmp q es ≡ Some x → P q x
  found_in P q x [] h e = absurd (none_some x e)
  found_in P q x (y ∷ es) h e = by (found_in P q x es h.1) (nat_cmp q y.0) refl e
    where
      by : (find nat_cmp q es ≡ Some x → P q x) → (o : Ordering) → nat_cmp q y.0 ≡ o
          → cond (is_eq o) (Some y.1) (find nat_cmp q es) ≡ Some x → P q x
      by rest Less i j = rest j
      by rest Equal i j =
          subst (λ n. P n x) (sym (nat_cmp-IsAntisymmetric q y.0 i)) (subst (P y.0) (some_is y.1 x j) h.0)
      by rest Greater i j = rest j

  all_entries : (P : ℕ → X → Type 0) (m : FinMap nat_cmp X) → ((q : ℕ) (x : X) → get m q ≡ Some x → P q x)
      → All P (entries m)
  all_entries P m f = each_of P (entries m) (entries_sorted m) (λ q x e. f q x (get-entries m q ∙ e))

  -- what holds of each entry of a list holds of each of the map that it makes
  all_made : (P : ℕ → X → Type 0) (es : List (ℕ × X)) → All P es → All P (entries (from_entries {R = nat_cmp} es))
  all_made P es h =
      all_entries P (from_entries es) (λ q x e. found_in P q x es h (sym (get-from_entries nat_cmp_total es q) ∙ e))

-- users

abbrev IsUser : ℕ → List ℕ → Type 0
IsUser a name = (a ≤ most_actor) × IsUtf8 name

rising : (us : List (ℕ × List ℕ)) → T (is_sorted nat_cmp us) → IsRising us
rising [] h = tt
rising (u ∷ []) h = tt
rising (u ∷ v ∷ us) h = (less u.0 v.0 (left _ _ (left _ _ h)), rising (v ∷ us) (right _ _ h))

actors : (us : List (ℕ × List ℕ)) → All IsUser us → AreActors us
actors [] h = tt
actors (u ∷ us) h = (h.0.0, actors us h.1)

names : (us : List (ℕ × List ℕ)) → All IsUser us → AreNames us
names [] h = tt
names (u ∷ us) h = (h.0.1, names us h.1)

module _ (ss : List Session) (valid : AreValidSessions ss) (n : ℕ) (low : n ≤ most_actor) where
  at : (rs : List Session) (i : ℕ) (x : Session) → AreValidSessions rs → slice_get rs i ≡ Some x → IsValidSession x
  at [] i x h e = cc
  at (r ∷ rs) zero x h e = subst IsValidSession (some_is r x e) h.0
  at (r ∷ rs) (suc i) x h e = at rs i x h.1 e

  name_at : (a : ℕ) → IsUtf8 (name_in (session_of ss a))
  name_at a = by (session_of ss a) refl
    where
      known : (b : ℕ) (x : Session) → session_of ss b ≡ Some x → IsValidSession x
      known zero x e = absurd (none_some x e)
      known (suc i) x e = at ss i x valid e

      by : (o : Option Session) → session_of ss a ≡ o → IsUtf8 (name_in o)
      by None e = search rules
      by (Some x) e = (known a x e).name

  user_ok : (o : Option ℕ) → IsActorOf n o → All IsUser (user_at ss o)
  user_ok None h = tt
  user_ok (Some a) h = ((omega (arith, h.1, low), name_at a), tt)

  joined_ok : (us vs : List (ℕ × List ℕ)) → All IsUser us → All IsUser vs → All IsUser (us ++ vs)
  joined_ok [] vs h k = k
  joined_ok (u ∷ us) vs h k = (h.0, joined_ok us vs h.1 k)

  among_ok : (es : List (ℕ × Link)) → All (λ j l. IsSoundLink n l) es → All IsUser (users_among ss es)
  among_ok [] h = tt
  among_ok (e ∷ es) h = joined_ok (user_at ss (e.1).actor) (users_among ss es) (user_ok (e.1).actor h.0.actor) (among_ok es h.1)

  pub users_sound : (ls : FinMap nat_cmp Link) → Each (IsSoundLink n) ls
      → IsRising (users_of ss ls) × AreActors (users_of ss ls) × AreNames (users_of ss ls)
  users_sound ls h =
      let all : All IsUser (users_of ss ls) =
      all_made IsUser (users_among ss (entries ls)) (among_ok (entries ls) (all_entries (λ j l. IsSoundLink n l) ls h)) in (
        rising (users_of ss ls) (entries_sorted (from_entries {R = nat_cmp} (users_among ss (entries ls)))),
        actors (users_of ss ls) all,
        names (users_of ss ls) all,
      )
