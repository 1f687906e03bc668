-- What a stop at any moment of a run leaves.
use Rattle.std.specs.Prelude.{◌≡◌, ℕ, List, [], ◌++◌, Option, Some, None}
use Rattle.room_disk.specs.Model.{Reads, Images}
use Rattle.room_headline.specs.Headline.{Headline}
use Rattle.room_log.specs.Log.{State}
use Rattle.room_model.specs.Lines.{Line}
use Rattle.room_model.specs.World.{opening, state_in}
use Rattle.room_replay.specs.Files.{StandsFor}
use Rattle.room_run.specs.Running.{InOpening, Along, after_lines}
use Rattle.room_words.specs.Words.{Told}
use Rattle.room_top.specs.Commands.{task_of, lines_of, IsInput}

-- The moments of a run of these lines from the state s on, up to its end: those of the opening, and then those of each line that
-- was begun, one after the other. Where nothing was wanting or failed, the disk reads at the end as the state after these lines.
pub record Recovers (images : Images) (seen : Reads) (s : State) (ls : List (ℕ × Line)) (rose : Type 0)
    (from till status : ℕ) : Type 0 where
  pub opened : ℕ
  pub opens : InOpening images (images from) s from opened
  pub done : List (ℕ × Line)
  pub left : List (ℕ × Line)
  pub lines_are : done ++ left ≡ ls
  pub along : Along images (opening s) done opened till
  pub all : status ≡ 0 → left ≡ []
  pub ends : (status ≡ 1 → ⊥) → (rose → ⊥) → StandsFor 0 (state_in (after_lines (opening s) done).host) seen

-- The same of words that spell a command that runs, and the headline of the lines that it runs.

abbrev pub RecoversAs : Option Told → (left : Option (List ℕ)) → Images → Reads → State → (rose : Type 0)
    → (from till status : ℕ) → Type 0
RecoversAs None left images seen s rose from till status = Unit {0}
RecoversAs (Some t) left images seen s rose from till status = (input : List ℕ) → IsInput t left input
    → Recovers images seen s (lines_of (task_of t input)) rose from till status

abbrev pub HeadlineAs : Option Told → (left : Option (List ℕ)) → State → Type 0
HeadlineAs None left s = Unit {0}
HeadlineAs (Some t) left s = (input : List ℕ) → IsInput t left input → Headline s (lines_of (task_of t input))
