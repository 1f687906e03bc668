-- What holds of a host and its disk between two calls.
use Rattle.std.specs.Prelude.{◌≡◌, ℕ, Bool, false, List, Option, Some, None}
use Rattle.room_disk.specs.Model.{Reads}
use Rattle.room_disk.specs.Stops.{Left}
use Rattle.room_log.specs.Log.{State}
use Rattle.room_journal.specs.Appends.{IsClean}
use Rattle.room_replay.specs.Files.{StandsFor}
use Rattle.room_store.specs.Consistent.{AreWritten}
use Rattle.room_store.specs.Stored.{IsOnDisk}
use Rattle.room_server.specs.Hosted.{Hosted, broken_by}

-- each of these images has R
abbrev pub Each : (ℕ → List ℕ → Type 0) → (Reads → Type 0) → Type 0
Each now R = (image : Reads) → ((f : ℕ) → now f (image f)) → R image

-- each stands for the state, in the format that is written
pub record Holds (now : ℕ → List ℕ → Type 0) (s : State) : Type 0 where
  pub stands : Each now (StandsFor 0 s)
  pub written : Each now (AreWritten 0)

-- a server that runs isn't broken, and its files are the first two, which hold its state
pub record Runs (seen : Reads) (now : ℕ → List ℕ → Type 0) (h : Hosted) : Type 0 where
  pub whole : broken_by h ≡ None
  pub base : h.store.place.base ≡ 0
  pub settled : IsOnDisk seen now h.store
  pub holds : Holds now h.store.state

-- the files of a stopped server hold a state
abbrev pub Lies : (ℕ → List ℕ → Type 0) → Type 0
Lies now = (s : State) × Holds now s

abbrev pub IsKept : Reads → (ℕ → List ℕ → Type 0) → Option Hosted → Type 0
IsKept seen now (Some h) = Runs seen now h
IsKept seen now None = Lies now

-- a disk that can stop hasn't, and holds nothing back
pub record Rests {D : Type 0} (seen : D → Reads) (stopped : D → Bool) (leaves : D → Left) (d : D) : Type 0 where
  pub going : stopped d ≡ false
  pub clean : IsClean seen leaves d

-- a call that leaves the files alone, and what is on them
abbrev pub SameFiles : Option Hosted → Option Hosted → Type 0
SameFiles (Some h) (Some n) =
    (n.spent ≡ h.spent) × (n.store.broken ≡ h.store.broken) × (n.store.place ≡ h.store.place)
    × (n.store.state ≡ h.store.state) × (n.store.before ≡ h.store.before)
SameFiles (Some h) None = ⊥
SameFiles None (Some n) = ⊥
SameFiles None None = Unit {0}
