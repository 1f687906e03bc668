-- The command that words spell, and what holds of each.
use Rattle.std.proofs.Common.{◌≡◌, inl, ℕ, List, map, Option, Some, None, refl, sym, ap, ◌∙◌, arith}
use Rattle.std.proofs.KnownBytes.{Appends-nil}
use Rattle.std.specs.Prelude.{option_map, option_and_then, String, string_bytes}
use Rattle.std.specs.Global.{Global}
use Rattle.room_disk.specs.Model.{Reads, Images}
use Rattle.room_headline.proofs.Everywhere.{everywhere}
use Rattle.room_laws.specs.Validity.{AreLines}
use Rattle.room_log.specs.Log.{State}
use Rattle.room_log.specs.Follows.{IsValidState}
use Rattle.room_replay.specs.Files.{Files, StandsFor}
use Rattle.room_script.specs.Generator.{schedule_of}
use Rattle.room_words.specs.Telling.{told}
use Rattle.room_words.specs.Words.{Told, Replay, Serve, Client, Show, Gen, Patch, Rooms, command_of}
use Rattle.room_words.specs.declared.command.Command.{Command}
use Rattle.room_top.specs.Commands.{that_runs, command_in, task_of, lines_of}
use Rattle.room_top.specs.Ending.{EndsAs}
use Rattle.room_top.specs.Recovery.{RecoversAs, HeadlineAs}
use Rattle.room_top.proofs.Ending.{ends_short}
use Rattle.room_top.proofs.Recovering.{recovers_none, opens_nothing}
use Rattle.room_top.proofs.Tasks.{task_lines, no_lines}

-- what was read of the words is what they spell
pub command_is : (words : List (String Global)) (found : Option Command) (d e : Command)
    → option_map told found ≡ command_of (map string_bytes words) → found ≡ Some d → d ≡ e
    → command_in words ≡ that_runs (told e)
command_is words found d e read is at =
    ap (option_and_then that_runs) (sym read) ∙ ap (λ o. option_and_then that_runs (option_map told o)) is
    ∙ ap (λ x. that_runs (told x)) at

-- what a command runs is lines of a run
of_command : (t : Told) (input : List ℕ) → AreLines (lines_of (task_of t input))
of_command (Replay folder) input = task_lines input
of_command (Serve folder rooms address turns guarded) input = no_lines
of_command (Client address room) input = no_lines
of_command (Show folder) input = no_lines
of_command (Gen number count) input = task_lines (schedule_of number count)
of_command (Patch folder) input = no_lines
of_command (Rooms file deed) input = no_lines

pub headline_as : (o : Option Told) (left : Option (List ℕ)) (s : State) → IsValidState s → HeadlineAs o left s
headline_as None left s valid = tt
headline_as (Some t) left s valid = λ input known. everywhere s (lines_of (task_of t input)) valid (of_command t input)

-- nothing was done, for want of memory

pub ends_none_as : (o : Option Told) (fs : Files) (rose : Type 0) (left old : Option (List ℕ))
    → EndsAs o fs rose left old old 1
ends_none_as None fs rose left old = tt
ends_none_as (Some t) fs rose left old =
    λ input known. ends_short fs _ _ rose old old 1 (inl refl) (0, Appends-nil old)

pub recovers_none_as : (o : Option Told) (left : Option (List ℕ)) (images : Images) (seen : Reads) (s : State)
    (rose : Type 0) (at : ℕ) → StandsFor 0 s seen → RecoversAs o left images seen s rose at at 1
recovers_none_as None left images seen s rose at stands = tt
recovers_none_as (Some t) left images seen s rose at stands =
    λ input known. recovers_none images seen s (lines_of (task_of t input)) rose at at 1
    (λ e. absurd (omega (arith, e))) (opens_nothing at images s) (λ a b. stands)
