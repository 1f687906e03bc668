-- What the disk stands for in a run: at each moment, whatever a stop leaves is the state of a log.
use Rattle.std.specs.Prelude.{◌≡◌, ◌≤◌, ℕ, List, [], ◌∷◌, ◌++◌, Option}
use Rattle.room_disk.specs.Model.{Reads, Images}
use Rattle.room_log.specs.Log.{State, Entry, state_after}
use Rattle.room_log.specs.Follows.{IsValidLog, IsValidState}
use Rattle.room_model.specs.Lines.{Line}
use Rattle.room_model.specs.World.{World, opening}
use Rattle.room_model.specs.Run.{run, opened}
use Rattle.room_laws.specs.Validity.{AreLines}
use Rattle.room_replay.specs.Files.{StandsFor}
use Rattle.room_world.specs.Trying.{tries}
use Rattle.room_run.specs.Running.{Along, At, Broken, Replayed, after_lines}
use Rattle.room_run.specs.declared.halt.Halt.{Halt}

-- what the first of these lines tries to add
abbrev pub next_tries : World → List (ℕ × Line) → List Entry
next_tries w [] = []
next_tries w (l ∷ ls) = tries w l.0 l.1

-- The log after the lines `done`, with a first part of what the next line tries to add: it is valid, and the image
-- stands for the state that it leads to.
pub record Found (s : State) (ls : List (ℕ × Line)) (image : Reads) : Type 0 where
  pub done : List (ℕ × Line)
  pub left : List (ℕ × Line)
  pub lines_are : done ++ left ≡ ls
  pub more : List Entry
  pub rest : List Entry
  pub part : more ++ rest ≡ next_tries (after_lines (opening s) done) left
  pub valid : IsValidLog s ((run (opened s) done).log ++ more)
  pub stands : StandsFor 0 (state_after s ((run (opened s) done).log ++ more)) image

-- So it is at each moment, on a disk with these images: where the lines were run one after the other from the one
-- moment to the other, and where there are none the images at the end stand for the opening state.
abbrev pub EachIsFound : {D : Type 0} → (D → Images) → Type 0
EachIsFound {D} images =
    (s : State) (ls : List (ℕ × Line)) (disk : D) (from till m : ℕ) (image : Reads) → IsValidState s → AreLines ls
    → Along (images disk) (opening s) ls from till → (ls ≡ [] → At (images disk) till (StandsFor 0 s))
    → from ≤ m → m ≤ till → ((f : ℕ) → images disk m f (image f)) → Found s ls image

-- The same of a replay, since it opened the room: where it came to its end, and where it ended within a line.

abbrev pub ReplayIsFound : {D : Type 0} → (D → Images) → Type 0
ReplayIsFound {D} images =
    (s : State) (ls : List (ℕ × Line)) (disk : D) (held now : Option (List ℕ)) (from till m : ℕ) (image : Reads)
    → IsValidState s → AreLines ls → (h : Replayed (images disk) s ls held now from till) → h.opened ≤ m → m ≤ till
    → ((f : ℕ) → images disk m f (image f)) → Found s ls image

abbrev pub BrokenIsFound : {D : Type 0} → (D → Images) → Type 0
BrokenIsFound {D} images =
    (fault : Halt) (s : State) (ls : List (ℕ × Line)) (disk : D) (held now : Option (List ℕ)) (from till m : ℕ)
    (image : Reads) → IsValidState s → AreLines ls → (h : Broken fault (images disk) s ls held now from till)
    → h.opened ≤ m → m ≤ till → ((f : ℕ) → images disk m f (image f)) → Found s ls image
