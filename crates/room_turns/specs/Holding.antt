-- What the disk of a served room holds: at each moment the turns of a first part, each whole; how many calls that took; and
-- the snapshot.
use Rattle.std.specs.Prelude.{◌≡◌, ◌≤◌, ℕ, ◌+◌, if◌then◌else◌, List, [], ◌∷◌, length, take, Some, None}
use Rattle.room_disk.specs.Model.{Reads, Images}
use Rattle.room_log.specs.Log.{State, Entry, state_after, updates_of}
use Rattle.room_bytes.specs.declared.entries.Format.TheVariants.{Two}
use Rattle.room_snapshot.specs.Reading.{snapshot_of}
use Rattle.room_journal.specs.Files.{Held, Holds, reading, last_generation}
use Rattle.room_replay.specs.Files.{StandsFor, held_of}
use Rattle.room_serving.specs.Turns.{has_round}

-- the state after turns, by their entries
abbrev pub after_turns : State → List (List Entry) → State
after_turns s [] = s
after_turns s (es ∷ turns) = after_turns (state_after s es) turns

-- an image stands for the state after the first of these turns, and after so many of them at least
pub record StandsWithin (s : State) (turns : List (List Entry)) (least : ℕ) (image : Reads) : Type 0 where
  pub count : ℕ
  pub enough : least ≤ count
  pub within : count ≤ length turns
  pub stands : StandsFor 0 (after_turns s (take count turns)) image

-- the calls of the disk: four for a turn with these entries, and six for a compaction where one is due
abbrev pub calls_of : State → List Entry → ℕ
calls_of s es = 4 + (if has_round s.count (length (updates_of es)) then 6 else 0)

abbrev pub calls_in : State → List (List Entry) → ℕ
calls_in s [] = 0
calls_in s (es ∷ turns) = calls_of s es + calls_in (state_after s es) turns

-- the file that counts has a snapshot of at least n updates
pub record IsCompacted (seen : Reads) (n : ℕ) : Type 0 where
  pub file : ℕ
  pub generation : ℕ
  pub snapshot : List ℕ
  pub bodies : List (List ℕ)
  pub counts : reading 0 (seen 0) (seen 1) ≡ Holds file Two generation (held_of snapshot bodies None)
  pub state : State
  pub reads : snapshot_of Two snapshot ≡ Some state
  pub enough : n ≤ state.count

-- the file that counts is of the last generation, behind which no compaction makes another
pub record IsLast (seen : Reads) : Type 0 where
  pub file : ℕ
  pub generation : ℕ
  pub held : Held
  pub counts : reading 0 (seen 0) (seen 1) ≡ Holds file Two generation held
  pub last : last_generation ≤ generation

-- it was so at a moment
pub record WasLast (images : Images) (from till : ℕ) : Type 0 where
  pub moment : ℕ
  pub since : from ≤ moment
  pub until : moment ≤ till
  pub image : Reads
  pub left : (f : ℕ) → images moment f (image f)
  pub last : IsLast image
