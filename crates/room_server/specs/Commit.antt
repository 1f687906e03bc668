-- What a call of a server does to the disk, by the entries that it has to put there.
use Rattle.std.specs.Prelude.{◌≡◌, ◌⊎◌, ℕ, Bool, List, [], ◌∷◌, Result, IsErr}
use Rattle.room_disk.specs.Model.{Reads, Images}
use Rattle.room_disk.specs.Stops.{Left}
use Rattle.room_journal.specs.Rest.{Place}
use Rattle.room_log.specs.Log.{State, Entry}
use Rattle.room_replay.specs.Files.{StandsFor}
use Rattle.room_store.specs.Calls.{Commits, CommitsOrStops}

-- With entries the disk goes from the state s to the state t, which has all of them, by one commit; or, where the call
-- fails before its first device call, it isn't touched. Without entries it isn't touched.
abbrev pub Puts : {D T E : Type 0} → (seen : D → Reads) → (moment : D → ℕ) → (images : D → Images) → Place → Place
    → List Entry → (s t : State) → D → D → Result T E → Type 0
Puts seen moment images p q [] s t old new result = new ≡ old
Puts seen moment images p q (e ∷ es) s t old new result =
    ((new ≡ old) × IsErr result) ⊎ Commits seen moment images p q s t old new result

-- the same of a disk that can stop, and has not
abbrev pub Stops : {D T E : Type 0} → (seen : D → Reads) → (moment : D → ℕ) → (stopped : D → Bool) → (leaves : D → Left)
    → ℕ → List Entry → (s t : State) → D → D → Result T E → Type 0
Stops seen moment stopped leaves base [] s t old new result = new ≡ old
Stops seen moment stopped leaves base (e ∷ es) s t old new result =
    ((new ≡ old) × IsErr result) ⊎ CommitsOrStops seen moment stopped leaves base s t old new result

-- each image of a disk at this moment stands for that state
abbrev pub HoldsNow : {D : Type 0} → (moment : D → ℕ) → (images : D → Images) → ℕ → State → D → Type 0
HoldsNow moment images base s d = (image : Reads) → ((f : ℕ) → images d (moment d) f (image f)) → StandsFor base s image
