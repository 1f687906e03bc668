-- What is read of written ids.
use Rattle.std.proofs.Common.{zero, suc, drop, ◌≡◌, ◌≢◌, ◌<◌, ◌≤◌, ◌+◌, ◌-◌, ◌*◌, ◌&&◌, not, ℕ, Bool, true, false, cond, List, [], ◌∷◌, ◌++◌, length, get_or, codes, Option, Some, None, option_map, option_and_then, nat_eq, nat_le, refl, sym, ap, ◌∙◌, subst, arith}
use Rattle.std.specs.Fmt.{decimal}
use Rattle.std.specs.Char.{digit_value, is_ascii_digit}
use Rattle.std.specs.Str.{all_ascii_digits, bytes_eq}
use Rattle.std.specs.Str.Parse.{digits_value, digits_value_after}
use Rattle.std.proofs.lemmas.Str.{digit_value_digit}
use Rattle.std.proofs.lemmas.Str.Parse.{IsNumeralModel, numerals_by_value, tells_all_ascii_digits}
use Rattle.std.proofs.lemmas.List.{drop_more}
use Rattle.std.proofs.lemmas.Slice.Eq.{bytes_eq-Decides}
use Rattle.std.proofs.lemmas.Bool.Decides.{nat_tests}
use Rattle.std.proofs.lemmas.Fmt.{digits_decimal, digits_value-decimal, decimal-digits_value, decimal_nonempty, first_decimal, decimal_digit}
use Rattle.room_ids.specs.Stamp.{Stamp}
use Rattle.room_ids.specs.Position.{is_some_text}
use Rattle.room_ids.specs.Ids.{is_number, number_in, parts_of, stamp_of_parts, stamp_in, node_in, stamp_text, node_text}
use Rattle.room_ids.specs.Laws.{IsInRange, IsNodeInRange, NumbersReadBack, StampsReadBack, NodesReadBack, StampsAreSpelledOnce, NodesAreSpelledOnce}
use Rattle.room_ids.specs.declared.ids.NodeId.{NodeId}
use Rattle.room_ids.specs.declared.ids.NodeId.TheVariants.{Root, Made}

own : IsNumeralModel (λ ds. all_ascii_digits ds ≡ true) (digits_value 10)
own = numerals_by_value _ tells_all_ascii_digits

both : (a b : Bool) → (a && b) ≡ true → (a ≡ true) × (b ≡ true)
both true b e = (refl, e)
both false b e = cc

-- numbers

leads : (c : ℕ) (cs : List ℕ) → c ≢ 48 → not (nat_eq c 48 && is_some_text cs) ≡ true
leads c cs n = let e : nat_eq c 48 ≡ false = grind (arith, nat_tests) in rw e refl

is_number_from : (ds : List ℕ) → all_ascii_digits ds ≡ true → 0 < length ds → 48 < get_or ds 0 0 → is_number ds ≡ true
is_number_from [] d some lead = absurd (omega arith)
is_number_from (c ∷ cs) d some lead = rw (d, leads c cs (omega arith)) refl

number_spelled : (n : ℕ) → n ≤ 9007199254740991 → is_number (decimal n) ≡ true
number_spelled zero h = ap is_number (decimal_digit 0 (omega arith))
number_spelled (suc n) h =
    is_number_from (decimal (suc n)) (digits_decimal own (suc n) (omega arith)) (decimal_nonempty (suc n) (omega arith)) (first_decimal (suc n) (omega arith) (omega arith))

pub number_again : NumbersReadBack
unfolding number_in
number_again most n fits small =
    let value : digits_value 10 (decimal n) ≡ n = digits_value-decimal own n (omega arith) in
    let within : nat_le n most ≡ true = grind (arith, nat_tests) in
    rw (number_spelled n small, value, within) refl

some_inj : {A : Type 0} {a b : A} → Some a ≡ Some b → a ≡ b
some_inj e = cc

lead_of : (c : ℕ) (cs : List ℕ) → not (nat_eq c 48 && is_some_text cs) ≡ true → c ≡ 48 → length (c ∷ cs) ≡ 1
lead_of c [] h e = refl
lead_of c (d ∷ ds) h e = let t : nat_eq c 48 ≡ true = grind (arith, nat_tests) in let bad : not (nat_eq c 48 && true) ≡ false = rw t refl in cc

spelled_number : (ds : List ℕ) → is_number ds ≡ true → digits_value 10 ds ≤ 9007199254740991 → decimal (digits_value 10 ds) ≡ ds
spelled_number [] h small = cc
spelled_number (c ∷ cs) h small =
    let parts = both (all_ascii_digits (c ∷ cs)) _ h in
    decimal-digits_value own (c ∷ cs) parts.0 (omega arith) (lead_of c cs parts.1) (omega arith)

number_step : (most n : ℕ) (ds : List ℕ) (a b : Bool) → is_number ds ≡ a → nat_le (digits_value 10 ds) most ≡ b → most ≤ 9007199254740991
    → cond (a && b) (Some (digits_value 10 ds)) None ≡ Some n → (decimal n ≡ ds) × (n ≤ most)
number_step most n ds true true s t small e =
    let v : digits_value 10 ds ≡ n = some_inj e in
    let within : digits_value 10 ds ≤ most = grind (arith, nat_tests, t) in
    (ap decimal (sym v) ∙ spelled_number ds s (omega arith), subst (λ (k : ℕ). k ≤ most) v within)
number_step most n ds true false s t small e = cc
number_step most n ds false b s t small e = cc

pub number_once : (most n : ℕ) (ds : List ℕ) → most ≤ 9007199254740991 → number_in most ds ≡ Some n → (decimal n ≡ ds) × (n ≤ most)
unfolding number_in
number_once most n ds small e = number_step most n ds _ _ refl refl small e

-- stamps

no_colon : (c : ℕ) → is_ascii_digit c ≡ true → nat_eq c 58 ≡ false
no_colon c d = let k = tells_all_ascii_digits.parts c [] (rw d refl) in let high : c ≤ 57 = k.0.1 in grind (arith, nat_tests)

parts_again : (ds cs : List ℕ) → all_ascii_digits ds ≡ true → parts_of (ds ++ 58 ∷ cs) ≡ Some (ds, cs)
parts_again [] cs d = refl
parts_again (c ∷ ds) cs d =
    let parts = both (is_ascii_digit c) (all_ascii_digits ds) d in
    rw (no_colon c parts.0, parts_again ds cs parts.1) refl

pub stamp_again : StampsReadBack
unfolding stamp_in stamp_text
stamp_again s h =
    rw (
      parts_again (decimal s.actor) (decimal s.clock) (digits_decimal own s.actor (omega (arith, h.0))),
      number_again 4294967295 s.actor h.0 (omega (arith, h.0)),
      number_again 9007199254740991 s.clock h.1 h.1,
    ) refl

parts_step : (c : ℕ) (cs : List ℕ) (p : List ℕ × List ℕ) (b : Bool) (q : Option (List ℕ × List ℕ)) → nat_eq c 58 ≡ b
    → ((r : List ℕ × List ℕ) → q ≡ Some r → r.0 ++ 58 ∷ r.1 ≡ cs)
    → cond b (Some ([], cs)) (option_map (λ (r : List ℕ × List ℕ). (c ∷ r.0, r.1)) q) ≡ Some p → p.0 ++ 58 ∷ p.1 ≡ c ∷ cs
parts_step c cs p true q t more e = let is : ([], cs) ≡ p = some_inj e in let colon : c ≡ 58 = grind (arith, nat_tests, t) in rw (sym is, colon) refl
parts_step c cs p false None t more e = cc
parts_step c cs p false (Some r) t more e = let is : (c ∷ r.0, r.1) ≡ p = some_inj e in rw (sym is) (ap (λ xs. c ∷ xs) (more r refl))

parts_once : (t : List ℕ) (p : List ℕ × List ℕ) → parts_of t ≡ Some p → p.0 ++ 58 ∷ p.1 ≡ t
parts_once [] p e = cc
parts_once (c ∷ cs) p e = parts_step c cs p _ _ refl (parts_once cs) e

numbers_step : (s : Stamp) (p : List ℕ × List ℕ) (x y : Option ℕ) → number_in 4294967295 p.0 ≡ x → number_in 9007199254740991 p.1 ≡ y
    → option_and_then (λ a. option_map (λ c. record { actor = a; clock = c }) y) x ≡ Some s
    → (decimal s.actor ++ 58 ∷ decimal s.clock ≡ p.0 ++ 58 ∷ p.1) × IsInRange s
numbers_step s p None y d f e = cc
numbers_step s p (Some a) None d f e = cc
numbers_step s p (Some a) (Some c) d f e =
    let first = number_once 4294967295 a p.0 (omega arith) d in
    let last = number_once 9007199254740991 c p.1 (omega arith) f in
    let is : record { actor = a; clock = c } ≡ s = some_inj e in
    subst (λ (s : Stamp). (decimal s.actor ++ 58 ∷ decimal s.clock ≡ p.0 ++ 58 ∷ p.1) × IsInRange s) is (rw (first.0, last.0) refl, (first.1, last.1))

stamp_step : (t : List ℕ) (s : Stamp) (q : Option (List ℕ × List ℕ)) → parts_of t ≡ q → option_and_then stamp_of_parts q ≡ Some s → (decimal s.actor ++ 58 ∷ decimal s.clock ≡ t) × IsInRange s
stamp_step t s None f e = cc
stamp_step t s (Some p) f e =
    let found = numbers_step s p _ _ refl refl e in
    (found.0 ∙ parts_once t p f, found.1)

pub stamp_once : StampsAreSpelledOnce
unfolding stamp_in stamp_text
stamp_once t s e = stamp_step t s _ refl e

-- nodes

no_stamp : stamp_in (codes "root") ≡ None
unfolding stamp_in
no_stamp = refl

not_root : (t : List ℕ) (s : Stamp) (b : Bool) → bytes_eq t (codes "root") ≡ b → stamp_in t ≡ Some s → b ≡ false
not_root t s true h e = let same : t ≡ codes "root" = (bytes_eq-Decides t (codes "root")).0 h in let none : stamp_in t ≡ None = ap stamp_in same ∙ no_stamp in cc
not_root t s false h e = refl

pub root_again : node_in (node_text Root) ≡ Some Root
unfolding node_in node_text
root_again = refl

pub made_again : (s : Stamp) → stamp_in (stamp_text s) ≡ Some s → node_in (node_text (Made s)) ≡ Some (Made s)
unfolding node_in node_text
made_again s e = rw (not_root (stamp_text s) s _ refl e, e) refl

pub ruleset nodes_again = (root_again, made_again)

pub node_again : NodesReadBack
node_again Root h = root_again
node_again (Made s) h = made_again s (stamp_again s h)

node_step : (t : List ℕ) (n : NodeId) (b : Bool) (q : Option Stamp) → bytes_eq t (codes "root") ≡ b → stamp_in t ≡ q → cond b (Some Root) (option_map Made q) ≡ Some n → (node_text n ≡ t) × IsNodeInRange n
unfolding node_text
node_step t n true q h f e =
    let is : Root ≡ n = some_inj e in
    subst (λ (n : NodeId). (node_text n ≡ t) × IsNodeInRange n) is (sym ((bytes_eq-Decides t (codes "root")).0 h), tt)
node_step t n false None h f e = cc
node_step t n false (Some s) h f e = let is : Made s ≡ n = some_inj e in subst (λ (n : NodeId). (node_text n ≡ t) × IsNodeInRange n) is (stamp_once t s f)

pub node_once : NodesAreSpelledOnce
unfolding node_in
node_once t n e = node_step t n _ _ refl refl e

-- the reading loop

le_value_after : (n : ℕ) (ds : List ℕ) → n ≤ digits_value_after 10 n ds
le_value_after n [] = omega arith
le_value_after n (c ∷ cs) = omega (arith, le_value_after (n * 10 + digit_value c) cs)

-- digits of which the first ones are over a number already
pub is_over : (n most v : ℕ) (ds : List ℕ) → digits_value_after 10 n ds ≡ v → most < n → nat_le v most ≡ false
is_over n most v ds e over = let more : n ≤ digits_value_after 10 n ds = le_value_after n ds in grind (arith, nat_tests, e)

pub in_range : (s : Stamp) (actor clock : ℕ) → actor ≡ s.actor → clock ≡ s.clock → actor ≤ 4294967295 → clock ≤ 9007199254740991 → stamp_in (stamp_text s) ≡ Some s
in_range s actor clock a c h k = stamp_again s (omega (arith, a, h), omega (arith, c, k))

over_more : (value most v c : ℕ) (cs ds : List ℕ) → ds ≡ c ∷ cs → digits_value_after 10 value ds ≡ v → all_ascii_digits ds ≡ true → most < value * 10 + (c - 48) → nat_le v most ≡ false
over_more value most v c cs ds is e d over =
    let parts = both (is_ascii_digit c) (all_ascii_digits cs) (ap all_ascii_digits (sym is) ∙ d) in
    let k = tells_all_ascii_digits.parts c [] (rw parts.0 refl) in
    is_over (value * 10 + digit_value c) most v cs (ap (digits_value_after 10 value) (sym is) ∙ e) (omega (arith, over, digit_value_digit c k.0))

pub over_step : (value most : ℕ) (t : List ℕ) (i : ℕ) → i < length t → digits_value_after 10 value (drop i t) ≡ digits_value 10 t → all_ascii_digits (drop i t) ≡ true
    → most < value * 10 + (get_or t i 0 - 48) → nat_le (digits_value 10 t) most ≡ false
over_step value most t i inside e d over = over_more value most (digits_value 10 t) (get_or t i 0) (drop (i + 1) t) (drop i t) (drop_more t i 0 inside) e d over
