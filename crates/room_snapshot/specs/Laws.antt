-- What is read of written snapshots, and what is written of read ones.
use Rattle.std.specs.Prelude.{◌≡◌, ℕ, true, List, Some}
use Rattle.room_log.specs.Log.{State}
use Rattle.room_bytes.specs.declared.entries.Format.{Format}
use Rattle.room_snapshot.specs.Bounds.{HasSnapshot, is_within}
use Rattle.room_snapshot.specs.Reading.{snapshot_of}
use Rattle.room_snapshot.specs.Spelling.{snapshot_bytes}

-- bytes that are the snapshot of a state within the bounds, and bytes that are of none

pub record IsSnapshot (f : Format) (bytes : List ℕ) (s : State) : Type 0 where
  pub bounds : HasSnapshot f s
  pub spelled : bytes ≡ snapshot_bytes f s

abbrev pub IsNoSnapshot : Format → List ℕ → Type 0
IsNoSnapshot f bytes = (s : State) → IsSnapshot f bytes s → ⊥

-- the snapshot of a state is read as that state
abbrev pub SnapshotsReadBack : Type 0
SnapshotsReadBack = (f : Format) (s : State) → HasSnapshot f s → snapshot_of f (snapshot_bytes f s) ≡ Some s

-- bytes that are read as a state are its snapshot, and the state is within the bounds
abbrev pub SnapshotsAreSpelledOnce : Type 0
SnapshotsAreSpelledOnce = (f : Format) (bytes : List ℕ) (s : State) → snapshot_of f bytes ≡ Some s
    → (bytes ≡ snapshot_bytes f s) × (is_within f s ≡ true)

-- two states have different snapshots
abbrev pub SnapshotsDiffer : Type 0
SnapshotsDiffer = (f : Format) (r s : State) → HasSnapshot f r → HasSnapshot f s
    → snapshot_bytes f r ≡ snapshot_bytes f s → r ≡ s
