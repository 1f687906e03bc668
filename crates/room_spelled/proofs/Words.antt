-- Numbers, ids and keys that are read are in range.
use Rattle.std.proofs.Common.{◌≡◌, ◌≤◌, ◌&&◌, ℕ, nat_le, Bool, true, false, cond, List, [], ◌∷◌, Option, Some, None}
use Rattle.std.proofs.Common.{IsUtf8, refl, arith}
use Rattle.std.specs.Prelude.{IfSome}
use Rattle.std.specs.Str.{IsAscii}
use Rattle.std.specs.Str.Parse.{digits_value}
use Rattle.std.proofs.lemmas.Bool.Decides.{nat_tests}
use Rattle.std.proofs.lemmas.Str.{IsUtf8-from_ascii}
use Rattle.std.proofs.lemmas.Str.Ascii.{IsAscii-nil, IsAscii-cons}
use Rattle.room_ids.specs.Ids.{is_number, number_in, node_in}
use Rattle.room_ids.specs.Laws.{IsNodeInRange}
use Rattle.room_ids.specs.declared.ids.NodeId.{NodeId}
use Rattle.room_ids.proofs.Spelled.{node_once}
use Rattle.room_script.specs.Words.{at_least, number_from, is_printed, key_in, number_then, id_then, key_then}
use Rattle.room_script.proofs.Goodness.{both}
use Rattle.room_spelled.proofs.Options.{by_some, if_then, if_read}

-- numbers

number_step : (most v : ℕ) (a b : Bool) → nat_le v most ≡ b → IfSome (cond (a && b) (Some v) None) (λ n. n ≤ most)
number_step most v true true t = grind (arith, nat_tests, t)
number_step most v true false t = tt
number_step most v false b t = tt

pub number_within : (most : ℕ) (w : List ℕ) → IfSome (number_in most w) (λ n. n ≤ most)
unfolding number_in
number_within most w = number_step most (digits_value 10 w) (is_number w) _ refl

abbrev pub IsWithin : ℕ → ℕ → ℕ → Type 0
IsWithin least most n = (least ≤ n) × (n ≤ most)

least_step : (least most n : ℕ) (b : Bool) → nat_le least n ≡ b → n ≤ most
    → IfSome (cond b (Some n) None) (IsWithin least most)
least_step least most n true t h = (grind (arith, nat_tests, t), h)
least_step least most n false t h = tt

pub from_within : (least most : ℕ) (w : List ℕ) → IfSome (number_from least most w) (IsWithin least most)
from_within least most w =
    if_then (IsWithin least most) (λ n. n ≤ most) (at_least least) (number_in most w) (number_within most w)
    (λ n h. least_step least most n _ refl h)

-- ids

pub node_within : (w : List ℕ) → IfSome (node_in w) IsNodeInRange
node_within w = by_some IsNodeInRange (node_in w) (λ x e. (node_once w x e).1)

-- keys

printed_low : (b : ℕ) → nat_le b 126 ≡ true → b ≤ 126
printed_low b t = grind (arith, nat_tests, t)

printed_ascii : (w : List ℕ) → is_printed w ≡ true → IsAscii w
printed_ascii [] h = IsAscii-nil
printed_ascii (b ∷ bs) h =
    let parts = both (nat_le 33 b) (nat_le b 126 && is_printed bs) h in
    let more = both (nat_le b 126) (is_printed bs) parts.1 in
    IsAscii-cons b bs (omega (arith, printed_low b more.0)) (printed_ascii bs more.1)

key_step : (w : List ℕ) (b : Bool) → is_printed w ≡ b → IfSome (cond b (Some w) None) IsUtf8
key_step w true t = IsUtf8-from_ascii w (printed_ascii w t)
key_step w false t = tt

pub key_utf8 : (w : List ℕ) → IfSome (key_in w) IsUtf8
key_utf8 [] = tt
key_utf8 (b ∷ bs) = key_step (b ∷ bs) _ refl

-- what stands behind them

pub if_number : {A : Type 0} (P : A → Type 0) (f : ℕ → Option (List ℕ) → Option A) (rest : Option (List ℕ))
    → ((n : ℕ) (r : Option (List ℕ)) → IfSome (f n r) P) → IfSome (number_then f rest) P
if_number P f rest h =
    if_read P (λ n. n ≤ 18446744073709551615) (number_in 18446744073709551615) f rest
    (λ w. number_within 18446744073709551615 w) (λ n r small. h n r)

pub if_id : {A : Type 0} (P : A → Type 0) (f : NodeId → Option (List ℕ) → Option A) (rest : Option (List ℕ))
    → ((x : NodeId) (r : Option (List ℕ)) → IsNodeInRange x → IfSome (f x r) P) → IfSome (id_then f rest) P
if_id P f rest h = if_read P IsNodeInRange node_in f rest node_within h

pub if_key : {A : Type 0} (P : A → Type 0) (f : List ℕ → Option (List ℕ) → Option A) (rest : Option (List ℕ))
    → ((k : List ℕ) (r : Option (List ℕ)) → IsUtf8 k → IfSome (f k r) P) → IfSome (key_then f rest) P
if_key P f rest h = if_read P IsUtf8 key_in f rest key_utf8 h
