-- Rows one after the other, and the lines that they tell.
use Rattle.std.proofs.Common.{◌≡◌, map, ◌<◌, ◌+◌, ℕ, Bool, true, false, cond, List, [], ◌∷◌, ◌++◌, length, Option, Some, None, option_map, Result, Ok, Err, ◌==◌, nat_eq, refl, ap, ◌∙◌, sym, subst, append_assoc, IfOk, IfErr, arith}
use Rattle.room_script.specs.Grammar.{ScriptLine, Calls, Asks, Takes, lines_from, line_then, with_line, is_skipped, rows, with_byte, schedule_line, script_line}
use Rattle.room_script.specs.Rows.{row_of, behind_row}
use Rattle.room_model.specs.Lines as model
use Rattle.room_script.specs.Told.{Told, Scheduled, scripted, told_of, scheduled, said}
use Rattle.room_script.specs.declared.lines.Line.{Line}
use Rattle.room_script.specs.Forms.{as_told, behind_lines, told_from, told_in, told_lines, seen, AreSeen, lines_of, AreScheduled, script_lines_of, AreScripted, IsFaultOf}
use Rattle.room_script.specs.declared.fault.ScriptFault.{ScriptFault}
use Rattle.room_script.specs.declared.fault.ScriptFault.TheVariants.{Memory, BadLine}
use Rattle.room_script.specs.declared.reading.Form.{Form}
use Rattle.room_script.specs.declared.reading.Form.TheVariants.{Schedule, Script}

-- the first row of a text that has one

rows_at : (b : Bool) (c : ℕ) (more r rest : List ℕ) → rows more ≡ r ∷ rows rest → cond b ([] ∷ rows more) (with_byte c (rows more)) ≡ cond b [] (c ∷ r) ∷ rows (cond b more rest)
rows_at true c more r rest e = refl
rows_at false c more r rest e = rw e refl

rows_end : (b : Bool) (c : ℕ) → cond b ([] ∷ []) (with_byte c []) ≡ cond b [] (c ∷ []) ∷ rows (cond b [] [])
rows_end true c = refl
rows_end false c = refl

pub rows_cut : (b : ℕ) (bs : List ℕ) → rows (b ∷ bs) ≡ row_of (b ∷ bs) ∷ rows (behind_row (b ∷ bs))
rows_cut b [] = rows_end (b == 10) b
rows_cut b (c ∷ bs) = rows_at (b == 10) b (c ∷ bs) (row_of (c ∷ bs)) (behind_row (c ∷ bs)) (rows_cut c bs)

shorter_by : (b : Bool) (bs rest : List ℕ) → length rest < length bs + 1 → length (cond b bs rest) < length bs + 1
shorter_by true bs rest h = omega arith
shorter_by false bs rest h = h

pub behind_is_shorter : (b : ℕ) (bs : List ℕ) → length (behind_row (b ∷ bs)) < length bs + 1
behind_is_shorter b [] = shorter_by (b == 10) [] [] (omega arith)
behind_is_shorter b (c ∷ bs) =
    let inner = behind_is_shorter c bs in
    shorter_by (b == 10) (c ∷ bs) (behind_row (c ∷ bs)) (omega (arith, inner))

pub rows_some : (t : List ℕ) → nat_eq (length t) 0 ≡ false → rows t ≡ row_of t ∷ rows (behind_row t)
rows_some [] e = cc
rows_some (b ∷ bs) e = rows_cut b bs

pub less_behind : (t : List ℕ) → nat_eq (length t) 0 ≡ false → length (behind_row t) < length t
less_behind [] e = cc
less_behind (b ∷ bs) e = let h = behind_is_shorter b bs in omega (arith, h)

-- one row more

pub skipped_goes : (form : Form) (k : ℕ) (row : List ℕ) (rs : List (List ℕ)) → is_skipped row ≡ true → told_from form k (row ∷ rs) ≡ told_from form (k + 1) rs
skipped_goes form k row rs e = rw e refl

pub bad_goes : (form : Form) (k : ℕ) (row : List ℕ) (rs : List (List ℕ)) → is_skipped row ≡ false → told_in form row ≡ None → told_from form k (row ∷ rs) ≡ Err k
bad_goes form k row rs e f = rw (e, f) refl

behind_more : (ls : List (ℕ × Told)) (k : ℕ) (x : Told) (more : Result (List (ℕ × Told)) ℕ) → behind_lines ls (with_line k x more) ≡ behind_lines (ls ++ (k, x) ∷ []) more
behind_more ls k x (Ok ms) = ap Ok (sym (append_assoc ls ((k, x) ∷ []) ms))
behind_more ls k x (Err bad) = refl

pub line_goes : (ls : List (ℕ × Told)) (form : Form) (k : ℕ) (row : List ℕ) (rs : List (List ℕ)) (x : Told) → is_skipped row ≡ false → told_in form row ≡ Some x
    → behind_lines ls (told_from form k (row ∷ rs)) ≡ behind_lines (ls ++ (k, x) ∷ []) (told_from form (k + 1) rs)
line_goes ls form k row rs x e f = rw (e, f) (behind_more ls k x (told_from form (k + 1) rs))

-- what a form tells, beside the definition of its texts

told_with : {A : Type 0} (f : A → Told) (k : ℕ) (x : A) (m : Result (List (ℕ × A)) ℕ) → with_line k (f x) (as_told f m) ≡ as_told f (with_line k x m)
told_with f k x (Ok ls) = refl
told_with f k x (Err bad) = refl

told_then : {A : Type 0} (f : A → Told) (b : Bool) (k : ℕ) (o : Option A) (m : Result (List (ℕ × Told)) ℕ) (r : Result (List (ℕ × A)) ℕ) → m ≡ as_told f r → cond b m (line_then k (option_map f o) m) ≡ as_told f (cond b r (line_then k o r))
told_then f true k o m r e = e
told_then f false k None m r e = refl
told_then f false k (Some x) m r e = ap (with_line k (f x)) e ∙ told_with f k x r

pub schedule_told : (k : ℕ) (rs : List (List ℕ)) → told_from Schedule k rs ≡ as_told Scheduled (lines_from schedule_line k rs)
schedule_told k [] = refl
schedule_told k (r ∷ rs) = told_then Scheduled (is_skipped r) k (schedule_line r) _ _ (schedule_told (k + 1) rs)

pub script_told : (k : ℕ) (rs : List (List ℕ)) → told_from Script k rs ≡ as_told scripted (lines_from script_line k rs)
script_told k [] = refl
script_told k (r ∷ rs) = told_then scripted (is_skipped r) k (script_line r) _ _ (script_told (k + 1) rs)

pub fault_back : {A : Type 0} (f : A → Told) (r : Result (List (ℕ × A)) ℕ) (e : ScriptFault) → IsFaultOf (as_told f r) e → IsFaultOf r e
fault_back f r Memory h = tt
fault_back f (Ok ls) (BadLine k) h = cc
fault_back f (Err bad) (BadLine k) h = cc

pub faults_back : {A X : Type 0} (f : A → Told) (r : Result (List (ℕ × A)) ℕ) (t : Result (List (ℕ × Told)) ℕ) (result : Result X ScriptFault) → t ≡ as_told f r
    → IfErr result (IsFaultOf t) → IfErr result (IsFaultOf r)
faults_back f r t (Ok x) e h = h
faults_back f r t (Err fault) e h = fault_back f r fault (subst (λ m. IsFaultOf m fault) e h)

pub fault_goes : (ls : List (ℕ × Told)) (m whole : Result (List (ℕ × Told)) ℕ) (e : ScriptFault) → behind_lines ls m ≡ whole → IsFaultOf m e → IsFaultOf whole e
fault_goes ls m whole Memory e h = tt
fault_goes ls m whole (BadLine k) e h = sym e ∙ ap (behind_lines ls) h

-- back from what is told

head_of : {A : Type 0} {a b : A} {xs ys : List A} → a ∷ xs ≡ b ∷ ys → a ≡ b
head_of e = cc

tail_of : {A : Type 0} {a b : A} {xs ys : List A} → a ∷ xs ≡ b ∷ ys → xs ≡ ys
tail_of e = cc

ok_inj : {A E : Type 0} {a b : A} → ◌≡◌ {A = Result A E} (Ok a) (Ok b) → a ≡ b
ok_inj e = cc

seen_back : {A : Type 0} (f : A → Told) (view : Told → Option A) → ((x : A) → view (f x) ≡ Some x) → (ls : List (ℕ × A)) (s : List (ℕ × Line)) → map (λ (e : ℕ × A). (e.0, f e.1)) ls ≡ told_lines s
    → (ls ≡ seen view s) × AreSeen view s
seen_back f view back [] [] e = (refl, tt)
seen_back f view back [] (x ∷ s) e = cc
seen_back f view back (l ∷ ls) [] e = cc
seen_back f view back (l ∷ ls) (x ∷ s) e =
    let more = seen_back f view back ls s (tail_of e) in
    let number : l.0 ≡ x.0 = ap (λ (p : ℕ × Told). p.0) (head_of e) in
    let told : f l.1 ≡ told_of x.1 = ap (λ (p : ℕ × Told). p.1) (head_of e) in
    let one : view (told_of x.1) ≡ Some l.1 = sym (ap view told) ∙ back l.1 in
    rw one ((λ j. (number j, l.1) ∷ more.0 j), (refl, more.1))

scheduled_back : (l : model.Line) → scheduled (Scheduled l) ≡ Some l
scheduled_back l = refl

said_back : (l : ScriptLine) → said (scripted l) ≡ Some l
said_back (Calls call) = refl
said_back (Asks question) = refl
said_back (Takes n m) = refl

seen_by : {A : Type 0} (f : A → Told) (view : Told → Option A) → ((x : A) → view (f x) ≡ Some x) → (r : Result (List (ℕ × A)) ℕ) (s : List (ℕ × Line)) → as_told f r ≡ Ok (told_lines s)
    → (r ≡ Ok (seen view s)) × AreSeen view s
seen_by f view back (Err bad) s e = cc
seen_by f view back (Ok ls) s e =
    let both = seen_back f view back ls s (ok_inj e) in (ap Ok both.0, both.1)

pub schedule_seen : (r : Result (List (ℕ × model.Line)) ℕ) (t : Result (List (ℕ × Told)) ℕ) (result : Result (List (ℕ × Line)) ScriptFault) → t ≡ as_told Scheduled r
    → IfOk result (λ s. t ≡ Ok (told_lines s)) → IfOk result (λ s. r ≡ Ok (lines_of s)) × IfOk result AreScheduled
schedule_seen r t (Err fault) e h = (h, h)
schedule_seen r t (Ok s) e h = seen_by Scheduled scheduled scheduled_back r s (sym e ∙ h)

pub script_seen : (r : Result (List (ℕ × ScriptLine)) ℕ) (t : Result (List (ℕ × Told)) ℕ) (result : Result (List (ℕ × Line)) ScriptFault) → t ≡ as_told scripted r
    → IfOk result (λ s. t ≡ Ok (told_lines s)) → IfOk result (λ s. r ≡ Ok (script_lines_of s)) × IfOk result AreScripted
script_seen r t (Err fault) e h = (h, h)
script_seen r t (Ok s) e h = seen_by scripted said said_back r s (sym e ∙ h)
