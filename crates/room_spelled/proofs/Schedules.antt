-- All lines of a text are sound, and there are no more of them than bytes.
use Rattle.std.proofs.Common.{◌≡◌, ◌≤◌, ◌+◌, ◌==◌, ℕ, suc, Bool, true, false, cond, List, [], ◌∷◌, length, Option}
use Rattle.std.proofs.Common.{Some, None, Result, Ok, Err, subst, arith}
use Rattle.std.specs.Prelude.{IfSome, IfOk, ⊤}
use Rattle.room_log.specs.Follows.{IsKey}
use Rattle.room_model.specs.Lines.{Line}
use Rattle.room_model.specs.Sound.{IsLine}
use Rattle.room_laws.specs.Validity.{AreSpelled, AreLines}
use Rattle.room_script.specs.Grammar.{ScriptLine, with_byte, rows, is_skipped, line_then, lines_from}
use Rattle.room_script.specs.Grammar.{schedule_line, schedule_in, script_line, script_in}
use Rattle.room_wire.proofs.Fields.{ok_inj}
use Rattle.room_spelled.specs.Laws.{IsScriptLine, AreScriptLines}
use Rattle.room_spelled.proofs.Lines.{line_sound, script_line_sound}

-- rows

byte_row : (b : ℕ) (rs : List (List ℕ)) (n : ℕ) → length rs ≤ n → length (with_byte b rs) ≤ n + 1
byte_row b [] n h = omega arith
byte_row b (r ∷ rs) n h = omega (arith, h)

row_step : (e : Bool) (b : ℕ) (rs : List (List ℕ)) (n : ℕ) → length rs ≤ n
    → length (cond e ([] ∷ rs) (with_byte b rs)) ≤ n + 1
row_step true b rs n h = omega (arith, h)
row_step false b rs n h = byte_row b rs n h

few_rows : (bs : List ℕ) → length (rows bs) ≤ length bs
few_rows [] = omega arith
few_rows (b ∷ bs) = omega (arith, row_step (b == 10) b (rows bs) (length bs) (few_rows bs))

-- lines: each of them is P, and there are at most so many

abbrev Each : {A : Type 0} → (A → Type 0) → List (ℕ × A) → Type 0
Each P [] = ⊤
Each P (l ∷ ls) = P l.1 × Each P ls

abbrev AreFew : {A : Type 0} → (A → Type 0) → ℕ → List (ℕ × A) → Type 0
AreFew P n ls = Each P ls × (length ls ≤ n)

one_more : {A : Type 0} (P : A → Type 0) (n k : ℕ) (o : Option A) (more : Result (List (ℕ × A)) ℕ) → IfSome o P
    → IfOk more (AreFew P n) → IfOk (line_then k o more) (AreFew P (suc n))
one_more P n k None more h g = tt
one_more P n k (Some l) (Ok ls) h g = ((h, g.0), omega (arith, g.1))
one_more P n k (Some l) (Err bad) h g = tt

weaker : {A : Type 0} (P : A → Type 0) (n : ℕ) (r : Result (List (ℕ × A)) ℕ) → IfOk r (AreFew P n)
    → IfOk r (AreFew P (suc n))
weaker P n (Ok ls) h = (h.0, omega (arith, h.1))
weaker P n (Err bad) h = tt

line_step : {A : Type 0} (P : A → Type 0) (b : Bool) (n k : ℕ) (o : Option A) (more : Result (List (ℕ × A)) ℕ)
    → IfSome o P → IfOk more (AreFew P n) → IfOk (cond b more (line_then k o more)) (AreFew P (suc n))
line_step P true n k o more h g = weaker P n more g
line_step P false n k o more h g = one_more P n k o more h g

all_sound : {A : Type 0} (P : A → Type 0) (read : List ℕ → Option A) → ((r : List ℕ) → IfSome (read r) P)
    → (k : ℕ) (rs : List (List ℕ)) → IfOk (lines_from read k rs) (AreFew P (length rs))
all_sound P read h k [] = (tt, omega arith)
all_sound P read h k (r ∷ rs) =
    line_step P (is_skipped r) (length rs) k (read r) (lines_from read (k + 1) rs) (h r) (all_sound P read h (k + 1) rs)

of_ok : {X E : Type 0} (P : X → Type 0) (r : Result X E) (x : X) → r ≡ Ok x → IfOk r P → P x
of_ok P (Ok y) x e h = subst P (ok_inj e) h
of_ok P (Err bad) x e h = cc

-- schedules

each_spelled : (ls : List (ℕ × Line)) → Each IsLine ls → AreSpelled ls
each_spelled [] h = tt
each_spelled (l ∷ ls) h = (h.0, each_spelled ls h.1)

facts : (bs : List ℕ) (ls : List (ℕ × Line)) → schedule_in bs ≡ Ok ls → AreFew IsLine (length (rows bs)) ls
facts bs ls e =
    of_ok (AreFew IsLine (length (rows bs))) (schedule_in bs) ls e
    (all_sound IsLine schedule_line line_sound 1 (rows bs))

pub spelled : (bs : List ℕ) (ls : List (ℕ × Line)) → schedule_in bs ≡ Ok ls → AreSpelled ls
spelled bs ls e = each_spelled ls (facts bs ls e).0

pub few : (bs : List ℕ) (ls : List (ℕ × Line)) → schedule_in bs ≡ Ok ls → length ls ≤ length bs
few bs ls e = omega (arith, (facts bs ls e).1, few_rows bs)

pub are_lines : (bs : List ℕ) (ls : List (ℕ × Line)) → IsKey (length bs) → schedule_in bs ≡ Ok ls → AreLines ls
are_lines bs ls short e = record { spelled = spelled bs ls e; fewer = omega (arith, few bs ls e, short) }

-- scripts

each_script : (ls : List (ℕ × ScriptLine)) → Each IsScriptLine ls → AreScriptLines ls
each_script [] h = tt
each_script (l ∷ ls) h = (h.0, each_script ls h.1)

pub scripts_spelled : (bs : List ℕ) (ls : List (ℕ × ScriptLine)) → script_in bs ≡ Ok ls → AreScriptLines ls
scripts_spelled bs ls e =
    each_script ls (of_ok (AreFew IsScriptLine (length (rows bs))) (script_in bs) ls e
    (all_sound IsScriptLine script_line script_line_sound 1 (rows bs))).0

pub ruleset schedules = (spelled, few, are_lines)

pub ruleset scripts = (scripts_spelled)
