-- What a text runs.
use Rattle.std.proofs.Common.{◌≡◌, ◌≤◌, ℕ, Bool, true, false, cond, List, [], ◌++◌, length, Option, Some, None, Result}
use Rattle.std.proofs.Common.{Ok, Err, refl, sym, ap, ◌∙◌, append-nil, length-append, subst, arith}
use Rattle.std.proofs.lemmas.Bool.Decides.{nat_tests}
use Rattle.std.specs.Prelude.{nat_lt}
use Rattle.std.specs.Io.KnownBytes.{Consumes, IsAtEnd}
use Rattle.room_laws.specs.Validity.{AreLines}
use Rattle.room_log.specs.Follows.{IsKey}
use Rattle.room_model.specs.Lines.{Line}
use Rattle.room_script.specs.Grammar.{schedule_in}
use Rattle.room_spelled.proofs.Schedules.{are_lines}
use Rattle.room_top.specs.Commands.{TooLong, as_task, task_in, lines_of}

pub short : (n : ℕ) → nat_lt 16777216 n ≡ false → n ≤ 16777216
short n is = grind (arith, nat_tests, is)

is_key : (n : ℕ) → n ≤ 16777216 → IsKey n
is_key n h = omega (arith, h)

pub no_lines : AreLines []
no_lines = record { spelled = tt; fewer = omega arith }

as_lines : (bs : List ℕ) (r : Result (List (ℕ × Line)) ℕ) → schedule_in bs ≡ r → IsKey (length bs)
    → AreLines (lines_of (as_task r))
as_lines bs (Ok ls) is key = are_lines bs ls key is
as_lines bs (Err k) is key = no_lines

by_length : (long : Bool) (bs : List ℕ) → nat_lt 16777216 (length bs) ≡ long
    → AreLines (lines_of (cond long TooLong (as_task (schedule_in bs))))
by_length true bs is = no_lines
by_length false bs is = as_lines bs (schedule_in bs) refl (is_key (length bs) (short (length bs) is))

-- they are lines of a run
pub task_lines : (bs : List ℕ) → AreLines (lines_of (task_in bs))
task_lines bs = by_length (nat_lt 16777216 (length bs)) bs refl

pub read_lines : (bs : List ℕ) (ls : List (ℕ × Line)) → length bs ≤ 16777216 → schedule_in bs ≡ Ok ls → AreLines ls
read_lines bs ls few is = are_lines bs ls (is_key (length bs) few) is

-- as much of an input as is kept tells what it runs

too_long : (bs : List ℕ) → nat_lt 16777216 (length bs) ≡ true → task_in bs ≡ TooLong
too_long bs is = ap (λ b. cond b TooLong (as_task (schedule_in bs))) is

longer : (input kept rest : List ℕ) → nat_lt 16777216 (length kept) ≡ true → input ≡ kept ++ rest
    → nat_lt 16777216 (length input) ≡ true
longer input kept rest is at = grind (arith, nat_tests, is, ap length at, length-append kept rest)

kept_by : (long : Bool) (input kept rest : List ℕ) → nat_lt 16777216 (length kept) ≡ long → input ≡ kept ++ rest
    → (length kept ≤ 16777216 → rest ≡ []) → task_in kept ≡ task_in input
kept_by true input kept rest is at end = too_long kept is ∙ sym (too_long input (longer input kept rest is at))
kept_by false input kept rest is at end =
    ap task_in (sym (at ∙ ap (λ r. kept ++ r) (end (short (length kept) is)) ∙ append-nil kept))

pub same_task : (left : Option (List ℕ)) (input kept : List ℕ) (now : Option (List ℕ)) → left ≡ Some input
    → Consumes left now kept → (length kept ≤ 16777216 → IsAtEnd now) → task_in kept ≡ task_in input
same_task left input kept now is c end = kept_of now (subst (λ o. Consumes o now kept) is c) end
  where
    kept_of : (o : Option (List ℕ)) → Consumes (Some input) o kept → (length kept ≤ 16777216 → IsAtEnd o)
        → task_in kept ≡ task_in input
    kept_of None c end = absurd c
    kept_of (Some rest) c end = kept_by (nat_lt 16777216 (length kept)) input kept rest refl c end
