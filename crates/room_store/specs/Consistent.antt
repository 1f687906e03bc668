-- What holds between the two files of a room, the place where its journal goes on, and a state.
use Rattle.std.specs.Prelude.{◌≡◌, ◌⊎◌, ◌<◌, ◌≤◌, ℕ, ◌+◌, List, [], ◌∷◌, ◌++◌, Some, None}
use Rattle.room_disk.specs.Model.{Reads, Images, Only}
use Rattle.room_log.specs.Log.{State, empty_state}
use Rattle.room_log.specs.Follows.{IsValidState}
use Rattle.room_bytes.specs.declared.entries.Format.{Format}
use Rattle.room_bytes.specs.declared.entries.Format.TheVariants.{One, Two}
use Rattle.room_snapshot.specs.Reading.{snapshot_of}
use Rattle.room_journal.specs.Files.{Says, Closed, Headless, Opens, says, Reading, New, Holds, Damaged, reading}
use Rattle.room_journal.specs.Rest.{Place, room, end_of, IsReadyFile}
use Rattle.room_replay.specs.Files.{Files, Room, opened, taken, held_of, files_read}
use Rattle.room_replay.specs.Files.{New as NewFiles, Damaged as DamagedFiles}

-- what a file says that doesn't count beside one of this generation
abbrev pub IsBelow : ℕ → Says → Type 0
IsBelow g Closed = Unit {0}
IsBelow g Headless = ⊥
IsBelow g (Opens f k h) = k < g

-- the file that counts, and the other one
abbrev pub AreTwo : ℕ → ℕ → ℕ → Type 0
AreTwo base file other = ((file ≡ base) × (other ≡ base + 1)) ⊎ ((file ≡ base + 1) × (other ≡ base))

-- the file that counts holds this state, up to the place's last gate
pub record Holding (f : Format) (seen : Reads) (p : Place) (state : State) : Type 0 where
  pub other : ℕ
  pub two : AreTwo p.base p.file other
  pub snapshot : List ℕ
  pub bodies : List (List ℕ)
  pub is : says (seen p.file) ≡ Opens f p.generation (Some (held_of snapshot bodies None))
  pub below : IsBelow p.generation (says (seen other))
  pub ends : p.end ≡ end_of snapshot bodies
  pub state_is : opened p.file f (held_of snapshot bodies None) ≡ Room state

-- and it is on the disk, and valid
pub record Settled (f : Format) (seen : Reads) (now : ℕ → List ℕ → Type 0) (p : Place) (state : State) : Type 0 where
  pub holds : Holding f seen p state
  pub first : Only (seen p.base) (now p.base)
  pub second : Only (seen (p.base + 1)) (now (p.base + 1))
  pub valid : IsValidState state

-- a new room: both files are closed, and its first one is made in the file of the base
pub record IsNewRoom (seen : Reads) (now : ℕ → List ℕ → Type 0) (p : Place) (state : State) : Type 0 where
  pub file_is : p.file ≡ p.base + 1
  pub generation_is : p.generation ≡ 0
  pub closed : says (seen p.base) ≡ Closed
  pub closed_too : says (seen (p.base + 1)) ≡ Closed
  pub first : Only (seen p.base) (now p.base)
  pub second : Only (seen (p.base + 1)) (now (p.base + 1))
  pub empty : state ≡ empty_state

-- the files stand for this state, and are on the disk so
pub data IsKept (seen : Reads) (now : ℕ → List ℕ → Type 0) (p : Place) (state : State) : Type 0 where
  AsNew : IsNewRoom seen now p state → IsKept seen now p state
  AsHeld : (f : Format) → Settled f seen now p state → IsKept seen now p state

-- the bytes of a file of the next generation that holds this state in its snapshot
pub record IsReadyState (g : ℕ) (state : State) (bytes : List ℕ) : Type 0 where
  pub snapshot : List ℕ
  pub reads : IsValidState state → snapshot_of Two snapshot ≡ Some state
  pub ready : IsReadyFile g snapshot bytes

-- the file that counts is of this generation, its snapshot is the state, and no record follows
pub record IsCompacted (seen : Reads) (p : Place) (g : ℕ) (state : State) : Type 0 where
  pub generation : p.generation ≡ g
  pub snapshot : List ℕ
  pub reads : snapshot_of Two snapshot ≡ Some state
  pub is : says (seen p.file) ≡ room g snapshot []

-- the same file counts, of the same generation
pub record IsSameFile (p q : Place) : Type 0 where
  pub base : q.base ≡ p.base
  pub file : q.file ≡ p.file
  pub generation : q.generation ≡ p.generation

-- the file that counts has this snapshot, and behind these bodies one that leads from the state s to the state t
pub record HasOneMore (seen : Reads) (q : Place) (snapshot : List ℕ) (bodies : List (List ℕ)) (s t : State)
    : Type 0 where
  pub body : List ℕ
  pub leads : taken Two s body ≡ Some t
  pub is : says (seen q.file) ≡ room q.generation snapshot (bodies ++ body ∷ [])

-- of the files that aren't the room's: what was
abbrev pub Elsewhere : ℕ → (ℕ → List ℕ → Type 0) → ℕ → List ℕ → Type 0
Elsewhere base was f c = (f ≡ base → ⊥) → (f ≡ base + 1 → ⊥) → was f c

-- at each moment from one to another each image has R
abbrev pub Since : ℕ → ℕ → Images → (Reads → Type 0) → Type 0
Since from till is R = (m : ℕ) (image : Reads) → from ≤ m → m ≤ till → ((f : ℕ) → is m f (image f)) → R image

-- an image is one of these, or has R
abbrev pub BeforeOr : (ℕ → List ℕ → Type 0) → (Reads → Type 0) → Reads → Type 0
BeforeOr was R image = ((f : ℕ) → was f (image f)) ⊎ R image

-- the files hold a room in the format that is written
abbrev pub IsWritten : Reading → Type 0
IsWritten New = ⊥
IsWritten (Damaged file at) = ⊥
IsWritten (Holds file One g h) = ⊥
IsWritten (Holds file Two g h) = Unit {0}

-- the files of a disk, or of an image of it
abbrev pub AreWritten : ℕ → Reads → Type 0
AreWritten base image = IsWritten (reading base (image base) (image (base + 1)))

abbrev pub IsDamaged : Files → Type 0
IsDamaged NewFiles = ⊥
IsDamaged (Room s) = ⊥
IsDamaged (DamagedFiles file at) = Unit {0}

-- files for which recovery makes no other: they hold a room in the format that is written, or are damaged
abbrev pub IsStill : Reading → Type 0
IsStill r = IsWritten r ⊎ IsDamaged (files_read r)
