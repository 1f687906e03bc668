-- Entries in order, changed by key and by index.
use Rattle.std.proofs.Common.{◌≡◌, ◌≢◌, ◌≤◌, ℕ, zero, suc, cond, List, [], ◌∷◌, ◌++◌, length, map, take, drop, Option, Some, None, Less, Greater, refl, sym, ap, ◌∙◌, arith}
use Rattle.std.specs.Prelude.{IfSome, slice_get, slice_set}
use Rattle.std.specs.List.{AllByRecursion, insert as insert_at, remove as remove_at}
use Rattle.std.specs.BTreeMap.{insert_entry, is_at}
use Rattle.std.specs.Cmp.Lexicographic.{slice_cmp}
use Rattle.std.specs.Map.{keys_of, remove_entry}
use Rattle.std.specs.Ordering.{nat_cmp, is_eq, ordering_reverse, match_ordering}
use Rattle.std.proofs.lemmas.Cmp.{nat_list_cmp_total, tied_itself}
use Rattle.room_ids.specs.Position.{IsBelow}
use Rattle.room_json.specs.Value.{Value}
use Rattle.room_nodes.specs.Ordered.{AreOrdered}
use Rattle.room_nodes.proofs.Places.{not_below_itself}
use Rattle.room_nodes.proofs.Gets.{some_inj}
use Rattle.room_effect.specs.Beside.{last_by, left_of, right_of}
use Rattle.room_effect.proofs.Local.{Pair}
use Rattle.room_effect.proofs.Members.{tail_ordered}

abbrev AreAbove : List ℕ → List Pair → Type 0
AreAbove k es = AllByRecursion (λ n. slice_cmp nat_cmp k n ≡ Less) (keys_of es)

above_at : (k : List ℕ) (es : List Pair) (n : ℕ) (e : Pair) → AreAbove k es → slice_get es n ≡ Some e → slice_cmp nat_cmp k e.0 ≡ Less
above_at k [] n e h g = cc
above_at k (f ∷ es) zero e h g = ap (λ (z : Pair). slice_cmp nat_cmp k z.0) (sym (some_inj f e g)) ∙ h.0
above_at k (f ∷ es) (suc n) e h g = above_at k es n e h.1 g

flip : (j k : List ℕ) → slice_cmp nat_cmp j k ≡ Less → slice_cmp nat_cmp k j ≡ Greater
flip j k l = nat_list_cmp_total.antisymm k j ∙ ap ordering_reverse l

-- one taken out

pub remove_index : (es : List Pair) (n : ℕ) (e : Pair) → AreOrdered es → slice_get es n ≡ Some e → remove_entry (is_at (slice_cmp nat_cmp e.0)) es ≡ remove_at es n
remove_index [] n e h g = cc
remove_index (f ∷ es) zero e h g =
    let is : f.0 ≡ e.0 = ap (λ (z : Pair). z.0) (some_inj f e g) in
    ap (λ b. cond b es (f ∷ remove_entry (is_at (slice_cmp nat_cmp e.0)) es)) (ap (λ j. is_eq (slice_cmp nat_cmp e.0 j)) is ∙ ap is_eq (tied_itself nat_list_cmp_total e.0))
remove_index (f ∷ es) (suc n) e h g =
    let t = tail_ordered f es h in
    ap (λ o. cond (is_eq o) es (f ∷ remove_entry (is_at (slice_cmp nat_cmp e.0)) es)) (flip f.0 e.0 (above_at f.0 es n e t.0 g))
    ∙ ap (λ zs. f ∷ zs) (remove_index es n e t.1 g)

-- another value in its place

pub set_index : (es : List Pair) (n : ℕ) (e : Pair) (v : Value) → AreOrdered es → slice_get es n ≡ Some e → insert_entry (slice_cmp nat_cmp) es e.0 v ≡ slice_set es n (e.0, v)
set_index [] n e v h g = cc
set_index (f ∷ es) zero e v h g =
    let is : f.0 ≡ e.0 = ap (λ (z : Pair). z.0) (some_inj f e g) in
    ap (λ o. match_ordering o ((e.0, v) ∷ f ∷ es) ((f.0, v) ∷ es) (f ∷ insert_entry (slice_cmp nat_cmp) es e.0 v)) (ap (slice_cmp nat_cmp e.0) is ∙ tied_itself nat_list_cmp_total e.0)
    ∙ ap (λ (j : List ℕ). (j, v) ∷ es) is
set_index (f ∷ es) (suc n) e v h g =
    let t = tail_ordered f es h in
    ap (λ o. match_ordering o ((e.0, v) ∷ f ∷ es) ((f.0, v) ∷ es) (f ∷ insert_entry (slice_cmp nat_cmp) es e.0 v)) (flip f.0 e.0 (above_at f.0 es n e t.0 g))
    ∙ ap (λ zs. f ∷ zs) (set_index es n e v t.1 g)

-- a new one between two others

above_last : (k f : List ℕ) (o : Option (List ℕ)) → slice_cmp nat_cmp k f ≡ Less → IfSome o (λ j. slice_cmp nat_cmp k j ≡ Less) → slice_cmp nat_cmp k (last_by f o) ≡ Less
above_last k f None a b = a
above_last k f (Some j) a b = b

left_above : (k : List ℕ) (es : List Pair) (g : ℕ) → AreAbove k es → IfSome (left_of g es) (λ j. slice_cmp nat_cmp k j ≡ Less)
left_above k [] g h = tt
left_above k (f ∷ es) zero h = tt
left_above k (f ∷ es) (suc g) h = above_last k f.0 (left_of g es) h.0 (left_above k es g h.1)

head_below : (f k : List ℕ) (o : Option (List ℕ)) → IfSome o (λ j. slice_cmp nat_cmp f j ≡ Less) → slice_cmp nat_cmp (last_by f o) k ≡ Less → slice_cmp nat_cmp f k ≡ Less
head_below f k None a l = l
head_below f k (Some j) a l = nat_list_cmp_total.trans f j k a l

last_below : (f k : List ℕ) (o : Option (List ℕ)) → slice_cmp nat_cmp (last_by f o) k ≡ Less → IfSome o (λ j. slice_cmp nat_cmp j k ≡ Less)
last_below f k None l = tt
last_below f k (Some j) l = l

pub insert_index : (es : List Pair) (g : ℕ) (k : List ℕ) (v : Value) → AreOrdered es → g ≤ length es → IfSome (left_of g es) (λ j. IsBelow j k) → IfSome (right_of g es) (λ j. IsBelow k j)
    → insert_entry (slice_cmp nat_cmp) es k v ≡ insert_at es g (k, v)
insert_index [] zero k v h le l r = refl
insert_index [] (suc g) k v h le l r = absurd (omega (arith, le))
insert_index (f ∷ es) zero k v h le l r = ap (λ o. match_ordering o ((k, v) ∷ f ∷ es) ((f.0, v) ∷ es) (f ∷ insert_entry (slice_cmp nat_cmp) es k v)) r
insert_index (f ∷ es) (suc g) k v h le l r =
    let t = tail_ordered f es h in
    let within : g ≤ length es = (let a : suc g ≤ suc (length es) = le in omega (arith, a)) in
    let below = head_below f.0 k (left_of g es) (left_above f.0 es g t.0) l in
    ap (λ o. match_ordering o ((k, v) ∷ f ∷ es) ((f.0, v) ∷ es) (f ∷ insert_entry (slice_cmp nat_cmp) es k v)) (flip f.0 k below)
    ∙ ap (λ zs. f ∷ zs) (insert_index es g k v t.1 within (last_below f.0 k (left_of g es) l) r)

-- and it is new there

pub none_between : (es : List Pair) (g : ℕ) (k : List ℕ) → AreOrdered es → IfSome (left_of g es) (λ j. IsBelow j k) → IfSome (right_of g es) (λ j. IsBelow k j) → g ≤ length es → (n : ℕ) (e : Pair) → slice_get es n ≡ Some e → e.0 ≢ k
none_between [] g k h l r le n e at is = cc
none_between (f ∷ es) zero k h l r le zero e at is = not_below_itself k (ap (slice_cmp nat_cmp k) (sym is ∙ ap (λ (z : Pair). z.0) (sym (some_inj f e at))) ∙ r)
none_between (f ∷ es) zero k h l r le (suc n) e at is =
    let t = tail_ordered f es h in
    not_below_itself k (ap (slice_cmp nat_cmp k) (sym is) ∙ nat_list_cmp_total.trans k f.0 e.0 r (above_at f.0 es n e t.0 at))
none_between (f ∷ es) (suc g) k h l r le zero e at is =
    let t = tail_ordered f es h in
    let below = head_below f.0 k (left_of g es) (left_above f.0 es g t.0) l in
    not_below_itself k (ap (λ j. slice_cmp nat_cmp j k) (sym is ∙ ap (λ (z : Pair). z.0) (sym (some_inj f e at))) ∙ below)
none_between (f ∷ es) (suc g) k h l r le (suc n) e at is =
    let t = tail_ordered f es h in
    let within : g ≤ length es = (let a : suc g ≤ suc (length es) = le in omega (arith, a)) in
    none_between es g k t.1 (last_below f.0 k (left_of g es) l) r within n e at is

-- what is done with entries is done with their values

map_take : {A B : Type 0} (f : A → B) (n : ℕ) (xs : List A) → map f (take n xs) ≡ take n (map f xs)
map_take f zero xs = refl
map_take f (suc n) [] = refl
map_take f (suc n) (x ∷ xs) = ap (λ ys. f x ∷ ys) (map_take f n xs)

map_drop : {A B : Type 0} (f : A → B) (n : ℕ) (xs : List A) → map f (drop n xs) ≡ drop n (map f xs)
map_drop f zero xs = refl
map_drop f (suc n) [] = refl
map_drop f (suc n) (x ∷ xs) = map_drop f n xs

map_append : {A B : Type 0} (f : A → B) (xs ys : List A) → map f (xs ++ ys) ≡ map f xs ++ map f ys
map_append f [] ys = refl
map_append f (x ∷ xs) ys = ap (λ zs. f x ∷ zs) (map_append f xs ys)

pub map_insert : {A B : Type 0} (f : A → B) (xs : List A) (n : ℕ) (y : A) → map f (insert_at xs n y) ≡ insert_at (map f xs) n (f y)
map_insert f xs n y = map_append f (take n xs) (y ∷ drop n xs) ∙ (λ i. map_take f n xs i ++ f y ∷ map_drop f n xs i)

pub map_remove : {A B : Type 0} (f : A → B) (xs : List A) (n : ℕ) → map f (remove_at xs n) ≡ remove_at (map f xs) n
map_remove f xs n = map_append f (take n xs) (drop (suc n) xs) ∙ (λ i. map_take f n xs i ++ map_drop f (suc n) xs i)

pub map_slice_set : {A B : Type 0} (f : A → B) (xs : List A) (n : ℕ) (y : A) → map f (slice_set xs n y) ≡ slice_set (map f xs) n (f y)
map_slice_set f [] n y = refl
map_slice_set f (x ∷ xs) zero y = refl
map_slice_set f (x ∷ xs) (suc n) y = ap (λ zs. f x ∷ zs) (map_slice_set f xs n y)
