-- A run over a schedule: its report, its log, and what clients issued.
use Rattle.std.specs.Prelude.{◌≡◌, ℕ, ◌==◌, Bool, true, false, ◌&&◌, ◌||◌, not, if◌then◌else◌, List, [], ◌∷◌, ◌++◌}
use Rattle.std.specs.Prelude.{Option, Some, None}
use Rattle.room_log.specs.Log.{State, Entry}
use Rattle.room_model.specs.Account.{Batch, actor}
use Rattle.room_model.specs.World.{World, Stepped, account, opening, step}
use Rattle.room_model.specs.Lines.{Line}

pub record Run : Type 0 where
  pub world : World
  pub log : List Entry  -- since the opening state
  pub issued : List (ℕ × Batch)  -- all batches that clients issued, each with its client, in order
  pub given : List (ℕ × Option ℕ)  -- the actors that connections were given, each with the client that dialled it

-- the run after a step
abbrev pub with_step : Run → Stepped → Run
with_step r out = record {
  world = out.world;
  log = r.log ++ out.entries;
  issued = r.issued ++ out.issues;
  given = r.given ++ out.given;
}

abbrev pub line : Run → ℕ → Line → Run
line r number l = with_step r (step r.world number l)

-- the lines of a schedule, each with its number
abbrev pub run : Run → List (ℕ × Line) → Run
run r [] = r
run r (l ∷ ls) = run (line r l.0 l.1) ls

abbrev pub opened : State → Run
opened s = record { world = opening s; log = []; issued = []; given = [] }

-- each ended by a line feed
abbrev pub text_of_lines : List (List ℕ) → List ℕ
text_of_lines [] = []
text_of_lines (l ∷ ls) = (l ++ 10 ∷ []) ++ text_of_lines ls

-- the report of the lines, from a world on
abbrev pub report_from : World → List (ℕ × Line) → List ℕ
report_from w [] = []
report_from w (l ∷ ls) = text_of_lines (step w l.0 l.1).lines ++ report_from (step w l.0 l.1).world ls

-- the report of a schedule, a function of it and of the opening state
abbrev pub report : State → List (ℕ × Line) → List ℕ
report s ls = report_from (opening s) ls

-- all batches that a client issued, in order
abbrev pub issued_of : ℕ → List (ℕ × Batch) → List Batch
issued_of c [] = []
issued_of c (e ∷ es) = if e.0 == c then e.1 ∷ issued_of c es else issued_of c es

abbrev pub is_owner : ℕ → Option ℕ → Bool
is_owner c None = false
is_owner c (Some d) = d == c

abbrev pub all_given : ℕ → ℕ → List (ℕ × Option ℕ) → Bool
all_given c a [] = true
all_given c a (e ∷ es) = (not (e.0 == a) || is_owner c e.1) && all_given c a es

-- no connection but those that the client dialled itself was ever given its actor
abbrev pub is_undisturbed : Run → ℕ → Bool
is_undisturbed r c = all_given c (actor (account r.world c)) r.given

abbrev pub IsUndisturbed : Run → ℕ → Type 0
IsUndisturbed r c = is_undisturbed r c ≡ true
