-- Lists with an item more, less or in another place, as values.
use Rattle.std.proofs.Common.{◌≡◌, ◌≤◌, ◌<◌, ◌+◌, ℕ, zero, suc, true, false, ◌&&◌, nat_lt, nat_le, cond, List, [], ◌∷◌, ◌++◌, length, map, take, drop, Option, Some, None, is_some, refl, sym, ap, ◌∙◌, append_assoc, arith}
use Rattle.std.proofs.lemmas.Bool.Decides.{nat_tests}
use Rattle.std.specs.List.{insert, remove, slice_get, slice_set}
use Rattle.room_json.specs.Value.{Value, list, values_of}
use Rattle.room_json.proofs.Values.{values_list-values_of}
use Rattle.std.proofs.lemmas.Option.{slice_get_within}
use Rattle.room_nodes.proofs.Fitting.{some_of}
use Rattle.room_model.specs.Notices.{Index, step_into, insert_item, take_item, move_item, move_items}

pub inserts : (i : ℕ) (w : Value) (vs : List Value) → i ≤ length vs → insert_item i w (list (values_of vs)) ≡ Some (list (values_of (insert vs i w)))
inserts i w vs h =
    let t : nat_le i (length vs) ≡ true = grind (arith, nat_tests, h) in
    ap (λ ws. cond (nat_le i (length ws)) (Some (list (values_of (insert ws i w)))) None) (values_list-values_of vs)
    ∙ ap (λ b. cond b (Some (list (values_of (insert vs i w)))) None) t

pub inserts_none : (i : ℕ) (w : Value) (vs : List Value) → length vs < i → insert_item i w (list (values_of vs)) ≡ None
inserts_none i w vs h =
    let t : nat_le i (length vs) ≡ false = grind (arith, nat_tests, h) in
    ap (λ ws. cond (nat_le i (length ws)) (Some (list (values_of (insert ws i w)))) None) (values_list-values_of vs)
    ∙ ap (λ b. cond b (Some (list (values_of (insert vs i w)))) None) t

pub takes : (i : ℕ) (vs : List Value) → i < length vs → take_item i (list (values_of vs)) ≡ Some (list (values_of (remove vs i)))
takes i vs h =
    let t : nat_lt i (length vs) ≡ true = grind (arith, nat_tests, h) in
    ap (λ ws. cond (nat_lt i (length ws)) (Some (list (values_of (remove ws i)))) None) (values_list-values_of vs)
    ∙ ap (λ b. cond b (Some (list (values_of (remove vs i)))) None) t

pub takes_none : (i : ℕ) (vs : List Value) → length vs ≤ i → take_item i (list (values_of vs)) ≡ None
takes_none i vs h =
    let t : nat_lt i (length vs) ≡ false = grind (arith, nat_tests, h) in
    ap (λ ws. cond (nat_lt i (length ws)) (Some (list (values_of (remove ws i)))) None) (values_list-values_of vs)
    ∙ ap (λ b. cond b (Some (list (values_of (remove vs i)))) None) t

abbrev moved_in : ℕ → ℕ → List Value → Option Value
moved_in f t vs =
    cond (nat_lt f (length vs) && nat_lt t (length vs)) (move_item t (list (values_of (remove vs f))) (slice_get vs f)) None

in_list : (f t : ℕ) (vs : List Value) → move_items f t (list (values_of vs)) ≡ moved_in f t vs
in_list f t vs = ap (moved_in f t) (values_list-values_of vs)

pub moves_to : (f t : ℕ) (vs : List Value) (w : Value) → f < length vs → t < length vs → slice_get vs f ≡ Some w
    → move_items f t (list (values_of vs)) ≡ Some (list (values_of (insert (remove vs f) t w)))
moves_to f t vs w h g e =
    let a : nat_lt f (length vs) ≡ true = grind (arith, nat_tests, h) in
    let b : nat_lt t (length vs) ≡ true = grind (arith, nat_tests, g) in
    in_list f t vs
    ∙ ap (λ x. cond (x && nat_lt t (length vs)) (move_item t (list (values_of (remove vs f))) (slice_get vs f)) None) a
    ∙ ap (λ x. cond x (move_item t (list (values_of (remove vs f))) (slice_get vs f)) None) b
    ∙ ap (move_item t (list (values_of (remove vs f)))) e
    ∙ ap (λ ws. Some (list (values_of (insert ws t w)))) (values_list-values_of (remove vs f))

pub moves_none_from : (f t : ℕ) (vs : List Value) → length vs ≤ f → move_items f t (list (values_of vs)) ≡ None
moves_none_from f t vs h =
    let a : nat_lt f (length vs) ≡ false = grind (arith, nat_tests, h) in
    in_list f t vs ∙ ap (λ x. cond (x && nat_lt t (length vs)) (move_item t (list (values_of (remove vs f))) (slice_get vs f)) None) a

pub moves_none_to : (f t : ℕ) (vs : List Value) → f < length vs → length vs ≤ t → move_items f t (list (values_of vs)) ≡ None
moves_none_to f t vs g h =
    let a : nat_lt f (length vs) ≡ true = grind (arith, nat_tests, g) in
    let b : nat_lt t (length vs) ≡ false = grind (arith, nat_tests, h) in
    in_list f t vs
    ∙ ap (λ x. cond (x && nat_lt t (length vs)) (move_item t (list (values_of (remove vs f))) (slice_get vs f)) None) a
    ∙ ap (λ x. cond x (move_item t (list (values_of (remove vs f))) (slice_get vs f)) None) b

pub ruleset insertions = (inserts, inserts_none)

pub ruleset takings = (takes, takes_none)

pub ruleset moves = (moves_to, moves_none_from, moves_none_to)

-- the parts of a list and of its items

next : (i : ℕ) → i + 1 ≡ suc i
next i = omega arith

module _ {X Y : Type 0} (f : X → Y) where
  take_each : (n : ℕ) (xs : List X) → map f (take n xs) ≡ take n (map f xs)
  take_each zero xs = refl
  take_each (suc n) [] = refl
  take_each (suc n) (x ∷ xs) = ap (λ ys. f x ∷ ys) (take_each n xs)

  drop_each : (n : ℕ) (xs : List X) → map f (drop n xs) ≡ drop n (map f xs)
  drop_each zero xs = refl
  drop_each (suc n) [] = refl
  drop_each (suc n) (x ∷ xs) = drop_each n xs

  -- what is put together of them
  module _ (i : ℕ) (xs : List X) (ys : List Y) (all : map f xs ≡ ys) where
    pub built_more : (y : Y) → (map f (take i xs) ++ y ∷ []) ++ map f (drop i xs) ≡ insert ys i y
    built_more y =
        append_assoc (map f (take i xs)) (y ∷ []) (map f (drop i xs))
        ∙ (λ z. take_each i xs z ++ y ∷ drop_each i xs z) ∙ ap (λ zs. insert zs i y) all

    pub built_less : map f (take i xs) ++ map f (drop (i + 1) xs) ≡ remove ys i
    built_less = (λ z. take_each i xs z ++ drop_each (i + 1) xs z) ∙ ap (λ zs. take i zs ++ drop (i + 1) zs) all ∙ ap (λ n. take i ys ++ drop n ys) (next i)

set_parts : {X : Type 0} (i : ℕ) (v : X) (xs : List X) → i < length xs → take i xs ++ v ∷ drop (suc i) xs ≡ slice_set xs i v
set_parts i v [] h = absurd (omega (arith, h))
set_parts zero v (x ∷ xs) h = refl
set_parts (suc i) v (x ∷ xs) h = ap (λ ys. x ∷ ys) (set_parts i v xs (omega (arith, h)))

pub built_set : {X Y : Type 0} (f : X → Y) (i : ℕ) (xs : List X) (ys : List Y) → map f xs ≡ ys → i < length ys → (y : Y)
    → (map f (take i xs) ++ y ∷ []) ++ map f (drop (i + 1) xs) ≡ slice_set ys i y
built_set f i xs ys all h y =
    append_assoc (map f (take i xs)) (y ∷ []) (map f (drop (i + 1) xs))
    ∙ (λ z. take_each f i xs z ++ y ∷ drop_each f (i + 1) xs z)
    ∙ ap (λ zs. take i zs ++ y ∷ drop (i + 1) zs) all
    ∙ ap (λ n. take i ys ++ y ∷ drop n ys) (next i)
    ∙ set_parts i y ys h

-- an index that is there is below the length
pub index_there : (i : ℕ) (vs : List Value) → is_some (step_into (Index i) (list (values_of vs))) ≡ true → i < length vs
index_there i vs e =
    let here : is_some (slice_get vs i) ≡ true = ap (λ ws. is_some (slice_get ws i)) (sym (values_list-values_of vs)) ∙ e in
    let w = some_of (slice_get vs i) here in
    slice_get_within vs i w.0 w.1

pub map_append : {X Y : Type 0} (f : X → Y) (xs ys : List X) → map f (xs ++ ys) ≡ map f xs ++ map f ys
map_append f [] ys = refl
map_append f (x ∷ xs) ys = ap (λ zs. f x ∷ zs) (map_append f xs ys)
