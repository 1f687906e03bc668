-- What is read is valid.
use Rattle.std.specs.Prelude.{◌≡◌, ◌≤◌, ℕ, List, Some, Ok}
use Rattle.room_json.specs.Limits.{max_depth}
use Rattle.room_json.specs.Profile.{IsJson}
use Rattle.room_json.specs.Reading.{value_of_text}
use Rattle.room_json.specs.Value.{Value, depth}
use Rattle.room_log.specs.Log.{State, Entry}
use Rattle.room_log.specs.Follows.{IsSoundEntry, IsValidState}
use Rattle.room_bytes.specs.declared.entries.Format.{Format}
use Rattle.room_bytes.specs.Reading.{entry_of, group_of}
use Rattle.room_snapshot.specs.Reading.{snapshot_of}
use Rattle.room_replay.specs.Files.{Room, files, StandsFor}
use Rattle.room_replay.specs.Follow.{AreSound}

-- the value that a text spells is of the profile, and not too deep
abbrev pub ValuesAreJson : Type 0
ValuesAreJson = (t : List ℕ) (v : Value) → value_of_text t ≡ Ok v → IsJson v × (depth v ≤ max_depth)

-- entries that are read hold real values

abbrev pub EntriesAreSound : Type 0
EntriesAreSound = (f : Format) (bytes : List ℕ) (e : Entry) → entry_of f bytes ≡ Some e → IsSoundEntry e

abbrev pub GroupsAreSound : Type 0
GroupsAreSound = (bytes : List ℕ) (es : List Entry) → group_of bytes ≡ Some es → AreSound es

-- the state that a snapshot is read as is valid
abbrev pub SnapshotsAreValid : Type 0
SnapshotsAreValid = (f : Format) (bytes : List ℕ) (s : State) → snapshot_of f bytes ≡ Some s → IsValidState s

-- and so is the one that two files hold, whatever numbers stand in them
abbrev pub FilesAreValid : Type 0
FilesAreValid = (base : ℕ) (x y : List ℕ) (s : State) → files base x y ≡ Room s → IsValidState s

-- and the one that the files of a disk, or of an image of it, stand for
abbrev pub StandingIsValid : Type 0
StandingIsValid = (base : ℕ) (s : State) (image : ℕ → List ℕ) → StandsFor base s image → IsValidState s
