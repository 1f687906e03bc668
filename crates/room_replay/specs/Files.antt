-- What the two files of a room stand for.
use Rattle.std.specs.Prelude.{◌≡◌, ◌⊎◌, ℕ, ◌+◌, if◌then◌else◌, List, [], ◌∷◌, length, Option, Some, None, option_map}
use Rattle.room_disk.specs.declared.disk.Stop.{Stop}
use Rattle.room_disk.specs.declared.disk.Stop.TheVariants.{Old, New as Whole, Torn}
use Rattle.room_log.specs.Log.{State, Entry, empty_state, after}
use Rattle.room_log.specs.Follows.{follows}
use Rattle.room_bytes.specs.declared.entries.Format.{Format}
use Rattle.room_bytes.specs.declared.entries.Format.TheVariants.{One, Two}
use Rattle.room_bytes.specs.Reading.{◌>>=◌, entry_of, group_of}
use Rattle.room_snapshot.specs.Reading.{snapshot_of}
use Rattle.room_journal.specs.Files.{Held, Reading, Holds, reading}
use Rattle.room_journal.specs.Files.{New as NewFiles, Damaged as DamagedFiles}

-- the state after an entry, if it follows, and after entries, if each follows the state after those before it

abbrev pub followed_by : State → Entry → Option State
followed_by s e = if follows s e then Some (after s e) else None

abbrev pub followed : State → List Entry → Option State
followed s [] = Some s
followed s (e ∷ es) = followed_by s e >>= (λ t. followed t es)

-- the entries of a body: in the older format one, in the other a group
abbrev pub entries_in : Format → List ℕ → Option (List Entry)
entries_in One body = option_map (λ e. e ∷ []) (entry_of One body)
entries_in Two body = group_of body

-- the state after a body
abbrev pub taken : Format → State → List ℕ → Option State
taken f s body = entries_in f body >>= followed s

-- New, or a room's state, or where the files are damaged
pub data Files : Type 0 where
  New : Files
  Room : State → Files
  Damaged : (file at : ℕ) → Files

abbrev pub or_damaged : ℕ → ℕ → Option State → (State → Files) → Files
or_damaged file at None go_on = Damaged file at
or_damaged file at (Some s) go_on = go_on s

-- the bodies of a file from this offset on, one after the other, each at its gate; then the break, if there is one
abbrev pub replayed : ℕ → Format → ℕ → State → List (List ℕ) → Option ℕ → Files
replayed file f at s [] None = Room s
replayed file f at s [] (Some broken) = Damaged file broken
replayed file f at s (b ∷ bs) broken =
    or_damaged file at (taken f s b) (λ t. replayed file f (at + (5 + length b)) t bs broken)

abbrev pub held_of : List ℕ → List (List ℕ) → Option ℕ → Held
held_of snapshot bodies broken = record { snapshot = snapshot; bodies = bodies; broken = broken }

-- the snapshot, then the bodies behind it
abbrev pub opened : ℕ → Format → Held → Files
opened file f h =
    or_damaged file 0 (snapshot_of f h.snapshot)
    (λ s. replayed file f (25 + length h.snapshot) s h.bodies h.broken)

abbrev pub files_read : Reading → Files
files_read NewFiles = New
files_read (DamagedFiles file at) = Damaged file at
files_read (Holds file f g h) = opened file f h

abbrev pub files : ℕ → List ℕ → List ℕ → Files
files base x y = files_read (reading base x y)

-- files stand for a state: they hold it, or they are new and it is the empty one
abbrev pub Stands : State → Files → Type 0
Stands s fs = (fs ≡ Room s) ⊎ ((fs ≡ New) × (s ≡ empty_state))

-- the files of a disk, or of an image of it
abbrev pub StandsFor : ℕ → State → (ℕ → List ℕ) → Type 0
StandsFor base s image = Stands s (files base (image base) (image (base + 1)))

-- the state after a stop at the gate of a group, as it is settled
abbrev pub stopped_state : Stop → State → State → State
stopped_state Old s t = s
stopped_state Whole s t = t
stopped_state Torn s t = t
