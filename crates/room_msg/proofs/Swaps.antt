-- Users may be found in any order: so reading from the front gives the entries that the definition tells.
use Rattle.std.proofs.Common.{◌≡◌, ◌≢◌, ◌∙◌, sym, ap, subst, ℕ, List, [], ◌∷◌, Option, Some, None, option_and_then, option_map, refl, arith, ◌≤◌, ◌<◌, Ordering, Less, Equal, Greater, nat_cmp, map}
use Rattle.std.specs.Bool.{⊤}
use Rattle.std.specs.Fmt.{decimal}
use Rattle.std.proofs.lemmas.Grind.{common_steps}
use Rattle.std.proofs.lemmas.Cmp.{nat_list_cmp_total}
use Rattle.std.specs.FinMap.{slice_cmp-IsAntisymmetric, nat_cmp-IsAntisymmetric}
use Rattle.std.specs.Cmp.Lexicographic.{slice_cmp}
use Rattle.std.specs.Ordering.{match_ordering, ordering_reverse}
use Rattle.std.specs.BTreeMap.{insert_entry}
use Rattle.std.specs.List.{AllByRecursion}
use Rattle.room_json.specs.Value.{Value, as_members, merged, object_of}
use Rattle.room_json.proofs.Values.{fields_list-fields_of}
use Rattle.room_ids.specs.Ids.{number_in}
use Rattle.room_ids.proofs.Spelled.{number_again, number_once}
use Rattle.room_msg.specs.Users.{insert_user, user_in, users_of, name_in, as_users, IsRising}
use Rattle.room_msg.specs.Laws.{AreActors}
use Rattle.room_msg.specs.Written.{user_out, user_value}

insert_user-swap : (a b : ℕ) (s t : List ℕ) (xs : List (ℕ × List ℕ)) → a ≢ b → insert_user (a, s) (insert_user (b, t) xs) ≡ insert_user (b, t) (insert_user (a, s) xs)
insert_user-swap a b s t [] n = grind (arith, common_steps)
insert_user-swap a b s t (x ∷ xs) n = grind (arith, common_steps, insert_user-swap a b s t xs n)

abbrev pub Entry : Type 0
Entry = List ℕ × Value

-- the users found before, with these
abbrev pub users_into : List Entry → List (ℕ × List ℕ) → Option (List (ℕ × List ℕ))
users_into [] found = Some found
users_into (e ∷ es) found = option_and_then (λ u. users_into es (insert_user u found)) (user_in e)

-- no entry has this name
abbrev pub IsFresh : List ℕ → List Entry → Type 0
IsFresh k es = AllByRecursion (λ (e : Entry). slice_cmp nat_cmp k e.0 ≡ Equal → ⊥) es

exact : (x y : List ℕ) → slice_cmp nat_cmp x y ≡ Equal → x ≡ y
exact = slice_cmp-IsAntisymmetric nat_cmp-IsAntisymmetric

self_equal : (o : Ordering) → o ≡ ordering_reverse o → o ≡ Equal
self_equal Less e = cc
self_equal Equal e = refl
self_equal Greater e = cc

pub same : (x y : List ℕ) → x ≡ y → slice_cmp nat_cmp x y ≡ Equal
same x y e = subst (λ (z : List ℕ). slice_cmp nat_cmp x z ≡ Equal) e (self_equal (slice_cmp nat_cmp x x) (nat_list_cmp_total.antisymm x x))

some_inj : {A : Type 0} {a b : A} → Some a ≡ Some b → a ≡ b
some_inj e = cc

user_step : (t : List ℕ) (v : Value) (u : ℕ × List ℕ) (p : Option ℕ) → number_in 4294967295 t ≡ p → option_and_then (λ n. option_map (λ ms. (n, name_in v)) (as_members v)) p ≡ Some u → decimal u.0 ≡ t
user_step t v u None e h = cc
user_step t v u (Some n) e h = user_in_some (as_members v) h
  where
    user_in_some : (o : Option (List (List ℕ × Value))) → option_map (λ ms. (n, name_in v)) o ≡ Some u → decimal u.0 ≡ t
    user_in_some None h = cc
    user_in_some (Some ms) h = let is : (n, name_in v) ≡ u = some_inj h in ap (λ (w : ℕ × List ℕ). decimal w.0) (sym is) ∙ (number_once 4294967295 n t (omega arith) e).0

-- each name but once
abbrev pub AllFresh : List Entry → Type 0
AllFresh [] = ⊤
AllFresh (e ∷ es) = IsFresh e.0 es × AllFresh es

mirrored : (x y : List ℕ) → slice_cmp nat_cmp x y ≡ Equal → slice_cmp nat_cmp y x ≡ Equal
mirrored x y e = same y x (sym (exact x y e))

-- an entry's name is the text of its actor
pub actor_of : (e : Entry) (u : ℕ × List ℕ) → user_in e ≡ Some u → decimal u.0 ≡ e.0
actor_of e u h = user_step e.0 e.1 u _ refl h

apart : (e d : Entry) (u w : ℕ × List ℕ) → (slice_cmp nat_cmp d.0 e.0 ≡ Equal → ⊥) → user_in e ≡ Some u → user_in d ≡ Some w → u.0 ≢ w.0
apart e d u w fresh h k = λ one. fresh (same d.0 e.0 (sym (actor_of d w k) ∙ ap decimal (sym one) ∙ actor_of e u h))

-- a user found before others, or after them
into_insert : (e : Entry) (u : ℕ × List ℕ) → user_in e ≡ Some u → (es : List Entry) (found : List (ℕ × List ℕ)) → IsFresh e.0 es
    → users_into es (insert_user u found) ≡ option_map (insert_user u) (users_into es found)
into_insert e u i [] found fresh = refl
into_insert e u i (d ∷ es) found fresh = by_user (user_in d) refl (λ f. into_insert e u i es f fresh.1)
  where
    by_user : (p : Option (ℕ × List ℕ)) → user_in d ≡ p
        → ((f : List (ℕ × List ℕ)) → users_into es (insert_user u f) ≡ option_map (insert_user u) (users_into es f))
        → option_and_then (λ w. users_into es (insert_user w (insert_user u found))) p
        ≡ option_map (insert_user u) (option_and_then (λ w. users_into es (insert_user w found)) p)
    by_user None j rest = refl
    by_user (Some w) j rest =
        ap (users_into es) (insert_user-swap w.0 u.0 w.1 u.1 found (λ one. apart e d u w (λ k. fresh.0 (mirrored d.0 e.0 k)) i j (sym one)))
        ∙ rest (insert_user w found)

pub users_of_into : (es : List Entry) → AllFresh es → users_of es ≡ users_into es []
users_of_into [] h = refl
users_of_into (e ∷ es) h = by_user (user_in e) refl (users_of_into es h.1)
  where
    by_user : (p : Option (ℕ × List ℕ)) → user_in e ≡ p → users_of es ≡ users_into es []
        → option_and_then (λ u. option_map (insert_user u) (users_of es)) p ≡ option_and_then (λ u. users_into es (insert_user u [])) p
    by_user None j rest = refl
    by_user (Some u) j rest = ap (option_map (insert_user u)) rest ∙ sym (into_insert e u j es [] h.0)

step : (e d : Entry) (p q : Option (ℕ × List ℕ)) (es more : List Entry) (found : List (ℕ × List ℕ)) → user_in e ≡ p → user_in d ≡ q → (slice_cmp nat_cmp d.0 e.0 ≡ Equal → ⊥)
    → ((f : List (ℕ × List ℕ)) → users_into more f ≡ option_and_then (λ n. users_into es (insert_user n f)) q)
    → option_and_then (λ n. users_into more (insert_user n found)) p ≡ option_and_then (λ m. option_and_then (λ n. users_into es (insert_user n (insert_user m found))) p) q
step e d None None es more found i j fresh h = refl
step e d None (Some m) es more found i j fresh h = refl
step e d (Some n) None es more found i j fresh h = h (insert_user n found)
step e d (Some n) (Some m) es more found i j fresh h =
    h (insert_user n found) ∙ ap (users_into es) (insert_user-swap m.0 n.0 m.1 n.1 found (λ one. apart e d n m fresh i j (sym one)))

users-put : (es : List Entry) (k : List ℕ) (v : Value) (found : List (ℕ × List ℕ)) → IsFresh k es → users_into (insert_entry (slice_cmp nat_cmp) es k v) found ≡ users_into ((k, v) ∷ es) found
users-put [] k v found fresh = refl
users-put (e ∷ es) k v found fresh =
    let Goal : Ordering → Type 0 = λ o. slice_cmp nat_cmp k e.0 ≡ o → users_into (match_ordering o ((k, v) ∷ e ∷ es) ((e.0, v) ∷ es) (e ∷ insert_entry (slice_cmp nat_cmp) es k v)) found ≡ users_into ((k, v) ∷ e ∷ es) found in
    elim (slice_cmp nat_cmp k e.0) as Goal [
      | Less ↦ λ o. refl
      | Equal ↦ λ o. absurd (fresh.0 o)
      | Greater ↦ λ o. step e (k, v) _ _ es (insert_entry (slice_cmp nat_cmp) es k v) found refl refl fresh.0 (λ f. users-put es k v f fresh.1)
    ] refl

-- what is written of a user is read again

user_again : (n : ℕ) (t : List ℕ) → n ≤ 4294967295 → user_in (decimal n, user_value t) ≡ Some (n, t)
user_again n [] h = rw (number_again 4294967295 n h (omega arith)) refl
user_again n (c ∷ cs) h = rw (number_again 4294967295 n h (omega arith)) refl

abbrev insert_all : List (ℕ × List ℕ) → List (ℕ × List ℕ) → List (ℕ × List ℕ)
insert_all [] found = found
insert_all (u ∷ us) found = insert_user u (insert_all us found)

abbrev pub AreFresh : List (ℕ × List ℕ) → List Entry → Type 0
AreFresh us es = AllByRecursion (λ (u : ℕ × List ℕ). IsFresh (decimal u.0) es) us

abbrev AreDistinct : List (ℕ × List ℕ) → Type 0
AreDistinct [] = ⊤
AreDistinct (u ∷ us) = AllByRecursion (λ (w : ℕ × List ℕ). w.0 ≢ u.0) us × AreDistinct us

spelled : (m n : ℕ) → m ≤ 4294967295 → n ≤ 4294967295 → decimal m ≡ decimal n → m ≡ n
spelled m n h k e = some_inj (sym (number_again 4294967295 m h (omega arith)) ∙ ap (number_in 4294967295) e ∙ number_again 4294967295 n k (omega arith))

fresh_put : (m n : ℕ) (v : Value) → m ≤ 4294967295 → n ≤ 4294967295 → m ≢ n → (es : List Entry) → IsFresh (decimal m) es → IsFresh (decimal m) (insert_entry (slice_cmp nat_cmp) es (decimal n) v)
fresh_put m n v a b other [] h = (λ e. other (spelled m n a b (exact _ _ e)), tt)
fresh_put m n v a b other (e ∷ es) h =
    let Goal : Ordering → Type 0 = λ o. IsFresh (decimal m) (match_ordering o ((decimal n, v) ∷ e ∷ es) ((e.0, v) ∷ es) (e ∷ insert_entry (slice_cmp nat_cmp) es (decimal n) v)) in
    elim (slice_cmp nat_cmp (decimal n) e.0) as Goal [
      | Less ↦ (λ e. other (spelled m n a b (exact _ _ e)), h)
      | Equal ↦ (h.0, h.1)
      | Greater ↦ (h.0, fresh_put m n v a b other es h.1)
    ]

all_fresh_put : (n : ℕ) (v : Value) (us : List (ℕ × List ℕ)) → n ≤ 4294967295 → AreActors us → AllByRecursion (λ (w : ℕ × List ℕ). w.0 ≢ n) us → (es : List Entry) → AreFresh us es
    → AreFresh us (insert_entry (slice_cmp nat_cmp) es (decimal n) v)
all_fresh_put n v [] a r d es h = tt
all_fresh_put n v (u ∷ us) a r d es h = (fresh_put u.0 n v r.0 a d.0 es h.0, all_fresh_put n v us a r.1 d.1 es h.1)

users-merged : (us : List (ℕ × List ℕ)) (es : List Entry) (found : List (ℕ × List ℕ)) → AreActors us → AreDistinct us → AreFresh us es → users_into (merged es (map user_out us)) found ≡ users_into es (insert_all us found)
users-merged [] es found r d h = refl
users-merged (u ∷ us) es found r d h =
    users-merged us (insert_entry (slice_cmp nat_cmp) es (decimal u.0) (user_value u.1)) found r.1 d.1 (all_fresh_put u.0 (user_value u.1) us r.0 r.1 d.0 es h.1)
    ∙ users-put es (decimal u.0) (user_value u.1) (insert_all us found) h.0 ∙ rw (user_again u.0 u.1 r.0) refl

insert_all-rising : (us : List (ℕ × List ℕ)) → IsRising us → insert_all us [] ≡ us
insert_all-rising [] h = refl
insert_all-rising (u ∷ []) h = refl
insert_all-rising (u ∷ w ∷ us) h = rw (insert_all-rising (w ∷ us) h.1) (grind (arith, common_steps, h.0))

above : (n : ℕ) (u : ℕ × List ℕ) (us : List (ℕ × List ℕ)) → n < u.0 → IsRising (u ∷ us) → AllByRecursion (λ (w : ℕ × List ℕ). w.0 ≢ n) (u ∷ us)
above n u [] less h = (omega arith, tt)
above n u (w ∷ us) less h = (omega arith, above n w us (omega (arith, less, h.0)) h.1)

distinct : (us : List (ℕ × List ℕ)) → IsRising us → AreDistinct us
distinct [] h = tt
distinct (u ∷ []) h = (tt, tt)
distinct (u ∷ w ∷ us) h = (above u.0 w us h.0 h.1, distinct (w ∷ us) h.1)

none_fresh : (us : List (ℕ × List ℕ)) → AreFresh us []
none_fresh [] = tt
none_fresh (u ∷ us) = (tt, none_fresh us)

fresh_insert : (j k : List ℕ) (v : Value) (es : List Entry) → (slice_cmp nat_cmp j k ≡ Equal → ⊥) → IsFresh j es
    → IsFresh j (insert_entry (slice_cmp nat_cmp) es k v)
fresh_insert j k v [] n h = (n, tt)
fresh_insert j k v (e ∷ es) n h =
    let Goal : Ordering → Type 0 = λ o. IsFresh j (match_ordering o ((k, v) ∷ e ∷ es) ((e.0, v) ∷ es) (e ∷ insert_entry (slice_cmp nat_cmp) es k v)) in
    elim (slice_cmp nat_cmp k e.0) as Goal [
      | Less ↦ (n, h)
      | Equal ↦ (h.0, h.1)
      | Greater ↦ (h.0, fresh_insert j k v es n h.1)
    ]

all_fresh_insert : (k : List ℕ) (v : Value) (es : List Entry) → IsFresh k es → AllFresh es → AllFresh (insert_entry (slice_cmp nat_cmp) es k v)
all_fresh_insert k v [] h all = (tt, tt)
all_fresh_insert k v (e ∷ es) h all =
    let Goal : Ordering → Type 0 = λ o. AllFresh (match_ordering o ((k, v) ∷ e ∷ es) ((e.0, v) ∷ es) (e ∷ insert_entry (slice_cmp nat_cmp) es k v)) in
    elim (slice_cmp nat_cmp k e.0) as Goal [
      | Less ↦ (h, all)
      | Equal ↦ (all.0, all.1)
      | Greater ↦ (fresh_insert e.0 k v es (λ q. h.0 (mirrored e.0 k q)) all.0, all_fresh_insert k v es h.1 all.1)
    ]

merged_fresh : (us : List (ℕ × List ℕ)) (es : List Entry) → AreActors us → AreDistinct us → AreFresh us es → AllFresh es
    → AllFresh (merged es (map user_out us))
merged_fresh [] es r d h all = all
merged_fresh (u ∷ us) es r d h all =
    merged_fresh us (insert_entry (slice_cmp nat_cmp) es (decimal u.0) (user_value u.1)) r.1 d.1
    (all_fresh_put u.0 (user_value u.1) us r.0 r.1 d.0 es h.1) (all_fresh_insert (decimal u.0) (user_value u.1) es h.0 all)

pub users_again : (us : List (ℕ × List ℕ)) → IsRising us → AreActors us → as_users (object_of (map user_out us)) ≡ Some us
users_again us rising actors =
    ap users_of (fields_list-fields_of (merged [] (map user_out us)))
    ∙ users_of_into (merged [] (map user_out us)) (merged_fresh us [] actors (distinct us rising) (none_fresh us) tt)
    ∙ users-merged us [] [] actors (distinct us rising) (none_fresh us) ∙ ap Some (insert_all-rising us rising)
