-- A run over the lines of a schedule: what it writes, where it leaves the world, and what a stop leaves of the disk at
-- each moment. Images are those of the disk that was handed in.
use Rattle.std.specs.Prelude.{◌≡◌, ◌≤◌, ◌⊎◌, ℕ, List, [], ◌∷◌, ◌++◌, take, Option, Result, Ok, Err}
use Rattle.std.specs.Io.KnownBytes.{Appends}
use Rattle.room_disk.specs.Model.{Reads, Images, Keeps}
use Rattle.room_log.specs.Log.{State}
use Rattle.room_model.specs.Lines.{Line}
use Rattle.room_model.specs.Run.{report_from, text_of_lines}
use Rattle.room_model.specs.World.{World, opening, state_in, step}
use Rattle.room_moves.specs.Moments.{OfFirst}
use Rattle.room_replay.specs.Files.{StandsFor}
use Rattle.room_store.specs.Consistent.{BeforeOr}
use Rattle.room_world.specs.Trying.{tries}
use Rattle.room_run.specs.Halting.{IsOfDisk, IsOfOpening, IsDone}
use Rattle.room_run.specs.declared.halt.Halt.{Halt}

-- the world after some lines
abbrev pub after_lines : World → List (ℕ × Line) → World
after_lines w [] = w
after_lines w (l ∷ ls) = after_lines (step w l.0 l.1).world ls

-- what the line behind some lines writes
abbrev pub text_behind : World → List (ℕ × Line) → ℕ × Line → List ℕ
text_behind w done l = text_of_lines (step (after_lines w done) l.0 l.1).lines

-- at each moment from the one to the other, each image has R
abbrev pub During : Images → (from till : ℕ) → (Reads → Type 0) → Type 0
During images from till R =
    (m : ℕ) (image : Reads) → from ≤ m → m ≤ till → ((f : ℕ) → images m f (image f)) → R image

-- each image at a moment has R
abbrev pub At : Images → ℕ → (Reads → Type 0) → Type 0
At images m R = (image : Reads) → ((f : ℕ) → images m f (image f)) → R image

-- the opening: an image is one from before it, or stands for the state that the files stand for
pub record InOpening (images : Images) (before : ℕ → List ℕ → Type 0) (s : State) (from till : ℕ) : Type 0 where
  pub later : from ≤ till
  pub each : During images from till (BeforeOr before (StandsFor 0 s))

-- a line: each image stands for the state before it with a first part of what it tries to add
pub record InLine (images : Images) (w : World) (l : ℕ × Line) (from till : ℕ) : Type 0 where
  pub later : from ≤ till
  pub each : During images from till (OfFirst (StandsFor 0) (state_in w.host) (tries w l.0 l.1))

-- lines have their moments one after the other, and none is left out
abbrev pub Along : Images → World → List (ℕ × Line) → (from till : ℕ) → Type 0
Along images w [] from till = from ≡ till
Along images w (l ∷ ls) from till =
    (mid : ℕ) × InLine images w l from mid × Along images (step w l.0 l.1).world ls mid till

-- One line was begun, and perhaps done.
pub record Plays {T : Type 0} (was is : Images) (w v : World) (l : ℕ × Line) (held now : Option (List ℕ))
    (from till : ℕ) (result : Result T Halt) : Type 0 where
  pub keeps : Keeps from was is
  pub in_line : InLine is w l from till
  -- a first part of what it writes was written: all of it where it was done, and nothing where the disk failed
  pub part : ℕ
  pub told : Appends held now (take part (text_of_lines (step w l.0 l.1).lines))
  pub all : (x : T) → result ≡ Ok x → Appends held now (text_of_lines (step w l.0 l.1).lines)
  pub none : (e : Halt) → result ≡ Err e → IsOfDisk e → part ≡ 0
  pub world_is : IsDone result → v ≡ (step w l.0 l.1).world
  pub ends : IsDone result → At is till (StandsFor 0 (state_in v.host))

-- The lines `done` were run, and the others are left.
pub record Ran (images : Images) (w : World) (ls : List (ℕ × Line)) (held now : Option (List ℕ)) (from till : ℕ)
    (v : World) (left : List (ℕ × Line)) : Type 0 where
  pub done : List (ℕ × Line)
  pub lines_are : done ++ left ≡ ls
  pub told : Appends held now (report_from w done)
  pub world_is : v ≡ after_lines w done
  pub along : Along images w done from till
  pub ends : At images till (StandsFor 0 (state_in v.host))

-- The run ended within a line: those before it were run and told, and of what it writes a first part was written, none
-- where the disk failed. Where the sink alone failed the line was done, and each image at the end stands for the state
-- after it.
pub record Halted (fault : Halt) (images : Images) (w : World) (ls : List (ℕ × Line)) (held now : Option (List ℕ))
    (from till : ℕ) : Type 0 where
  pub done : List (ℕ × Line)
  pub line : ℕ × Line
  pub left : List (ℕ × Line)
  pub lines_are : done ++ line ∷ left ≡ ls
  pub part : ℕ
  pub told : Appends held now (report_from w done ++ take part (text_behind w done line))
  pub none : IsOfDisk fault → part ≡ 0
  pub along : Along images w (done ++ line ∷ []) from till
  pub ends : IsDone {T = Halt} (Err fault)
      → At images till (StandsFor 0 (state_in (after_lines w (done ++ line ∷ [])).host))

-- what a run over lines did, by its result
abbrev pub Runs : {T : Type 0} → Result T Halt → Images → World → List (ℕ × Line) → (held now : Option (List ℕ))
    → (from till : ℕ) → World → Type 0
Runs (Ok x) images w ls held now from till v = Ran images w ls held now from till v []
Runs (Err fault) images w ls held now from till v = Halted fault images w ls held now from till

-- A run from the opening on: it opened the room, and then ran over the lines to their end.
pub record Replayed (images : Images) (s : State) (ls : List (ℕ × Line)) (held now : Option (List ℕ)) (from till : ℕ)
    : Type 0 where
  pub opened : ℕ
  pub opens : InOpening images (images from) s from opened
  pub world : World
  pub ran : Ran images (opening s) ls held now opened till world []

-- Or it ended in the opening, which writes nothing, or in a line.

pub record Unopened (images : Images) (s : State) (held now : Option (List ℕ)) (from till : ℕ) : Type 0 where
  pub opens : InOpening images (images from) s from till
  pub told : Appends held now []

pub record Broken (fault : Halt) (images : Images) (s : State) (ls : List (ℕ × Line)) (held now : Option (List ℕ))
    (from till : ℕ) : Type 0 where
  pub opened : ℕ
  pub opens : InOpening images (images from) s from opened
  pub halted : Halted fault images (opening s) ls held now opened till

abbrev pub Replays : {T : Type 0} → Result T Halt → Images → State → List (ℕ × Line) → (held now : Option (List ℕ))
    → (from till : ℕ) → Type 0
Replays (Ok x) images s ls held now from till = Replayed images s ls held now from till
Replays (Err fault) images s ls held now from till =
    (Unopened images s held now from till × IsOfOpening fault) ⊎ Broken fault images s ls held now from till
