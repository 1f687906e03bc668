-- The lines of a schedule, as they are run.
use Rattle.std.proofs.Common.{◌≡◌, ◌+◌, ℕ, List, [], ◌∷◌, length, Option, Some, None, refl}
use Rattle.std.proofs.Common.{arith}
use Rattle.std.specs.Prelude.{IsSome, IfSome}
use Rattle.room_model.specs.Lines as model
use Rattle.room_model.specs.Sound.{IsLine}
use Rattle.room_laws.specs.Validity.{AreSpelled}
use Rattle.room_script.specs.Forms.{AreScheduled, lines_of, with_seen}
use Rattle.room_script.specs.Told.{line_of}
use Rattle.room_script.specs.declared.lines.Line.{Line}
use Rattle.room_script.specs.declared.lines.Line.TheVariants as line
use Rattle.room_world.specs.Lines.{IsRunnable, AreRunnable}

-- the first of them

pub record First (e : ℕ × Line) (es : List (ℕ × Line)) : Type 0 where
  pub line : model.Line
  pub is : line_of e.1 ≡ Some line
  pub lines_are : lines_of (e ∷ es) ≡ (e.0, line) ∷ lines_of es

first_seen : (k : ℕ) (o : Option model.Line) (ls : List (ℕ × model.Line)) → IsSome o
    → (l : model.Line) × (o ≡ Some l) × (with_seen k o ls ≡ (k, l) ∷ ls)
first_seen k (Some l) ls some = (l, refl, refl)
first_seen k None ls some = absurd cc

pub first_line : (e : ℕ × Line) (es : List (ℕ × Line)) → AreScheduled (e ∷ es) → First e es
first_line e es h =
    let found = first_seen e.0 (line_of e.1) (lines_of es) h.0 in
    record { line = found.0; is = found.1; lines_are = found.2 }

-- how many there are

length_seen : (k : ℕ) (o : Option model.Line) (ls : List (ℕ × model.Line)) → IsSome o
    → length (with_seen k o ls) ≡ length ls + 1
length_seen k (Some l) ls some = omega arith
length_seen k None ls some = absurd cc

pub lines_length : (es : List (ℕ × Line)) → AreScheduled es → length (lines_of es) ≡ length es
lines_length [] h = refl
lines_length (e ∷ es) h =
    let one = length_seen e.0 (line_of e.1) (lines_of es) h.0 in
    let more = lines_length es h.1 in
    omega (arith, one, more)

-- those that a schedule spells are run

runnable : (x : Line) → IfSome (line_of x) IsLine → IsRunnable x
runnable (line.Dial c) h = tt
runnable (line.Edit c e) h = tt
runnable (line.Begin c) h = tt
runnable (line.End c) h = tt
runnable (line.Undo c) h = tt
runnable (line.Redo c) h = tt
runnable (line.Pause c) h = tt
runnable (line.Resume c) h = tt
runnable (line.Clear c) h = tt
runnable (line.Presence c patch in_history) h = tt
runnable (line.Event c j) h = tt
runnable (line.Flush c) h = tt
runnable (line.Resend c) h = tt
runnable (line.Up k) h = tt
runnable (line.Down k) h = tt
runnable (line.Drain n) h = tt
runnable (line.Cut c) h = tt
runnable (line.Gone k) h = tt
runnable line.Stop h = tt
runnable line.Start h = tt
runnable (line.Fuse n how) h = h
runnable line.Compact h = tt
runnable (line.Limit n m) h = h.0
runnable line.Link h = tt
runnable (line.Raw k text) h = tt
runnable (line.Show spot) h = tt
runnable (line.Brief spot) h = tt
runnable (line.Others c) h = tt
runnable (line.History c) h = tt
runnable (line.Notices c) h = tt
runnable (line.Take n m) h = tt

spelled_first : (k : ℕ) (o : Option model.Line) (ls : List (ℕ × model.Line)) → IsSome o → AreSpelled (with_seen k o ls)
    → IfSome o IsLine × AreSpelled ls
spelled_first k (Some l) ls some h = h
spelled_first k None ls some h = absurd cc

pub runnables : (es : List (ℕ × Line)) → AreScheduled es → AreSpelled (lines_of es) → AreRunnable es
runnables [] h spelled = tt
runnables (e ∷ es) h spelled =
    let parts = spelled_first e.0 (line_of e.1) (lines_of es) h.0 spelled in
    (runnable e.1 parts.0, runnables es h.1 parts.1)
