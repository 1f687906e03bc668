-- A disk that can stop: what a stop leaves, by the way in which it is settled.
use Rattle.std.specs.Prelude.{◌≡◌, ℕ, ◌+◌, Bool, true, false, List, map, take, Result, Ok, Err, IsErrOf, OnOk}
use Rattle.room_disk.specs.declared.disk.DiskFault.{DiskFault}
use Rattle.room_disk.specs.declared.disk.DiskFault.TheVariants.{Failed}
use Rattle.room_disk.specs.declared.disk.Stop.{Stop}
use Rattle.room_disk.specs.declared.disk.Stop.TheVariants.{Old, New, Torn}
use Rattle.room_disk.specs.Model.{written, Reads, Images, StaysBetween}

-- the call was done, or it was the stop
abbrev pub IsDone : {T : Type 0} → Result T DiskFault → Bool → Type 0
IsDone (Ok x) stopped = Unit
IsDone (Err e) stopped = stopped ≡ true

-- each byte replaced by 255
abbrev pub torn_bytes : List ℕ → List ℕ
torn_bytes bytes = map (λ b. 255) bytes

-- a write that was held back: left out, there, or there torn
abbrev pub settled_write : ℕ → List ℕ → Stop → List ℕ → List ℕ
settled_write at bytes Old old = old
settled_write at bytes New old = written at bytes old
settled_write at bytes Torn old = written at (torn_bytes bytes) old

-- a cut that was held back: left out, or there
abbrev pub settled_cut : ℕ → Stop → List ℕ → List ℕ
settled_cut n Old old = old
settled_cut n New old = take n old
settled_cut n Torn old = take n old

-- what a stop leaves of a file, in each way of settling
abbrev pub Left : Type 0
Left = Stop → ℕ → List ℕ

-- one file is changed, in each way of settling
pub record Settles (file : ℕ) (change : Stop → List ℕ → List ℕ) (old new : Left) : Type 0 where
  pub here : (how : Stop) → new how file ≡ change how (old how file)
  pub others : (how : Stop) (f : ℕ) → (f ≡ file → ⊥) → new how f ≡ old how f

-- a call that was done, or was the stop, is held back
abbrev pub Holds : {D T : Type 0} → (D → Bool) → (D → Left) → ℕ → (Stop → List ℕ → List ℕ) → D → D → Result T DiskFault
    → Type 0
Holds stopped leaves file change old new result =
    stopped old ≡ false → IsDone result (stopped new) → Settles file change (leaves old) (leaves new)

-- a sync passes on what is held back of its file, and of no other; one that is the stop passes nothing
pub record Passes {D T : Type 0} (seen : D → Reads) (stopped : D → Bool) (leaves : D → Left) (file : ℕ)
    (old new : D) (result : Result T DiskFault) : Type 0 where
  pub here : OnOk result ((how : Stop) → leaves new how file ≡ seen old file)
  pub others : OnOk result ((how : Stop) (f : ℕ) → (f ≡ file → ⊥) → leaves new how f ≡ leaves old how f)
  pub at_stop : stopped old ≡ false → stopped new ≡ true → (how : Stop) (f : ℕ) → leaves new how f ≡ leaves old how f

-- The call that is the stop answers `Failed`, and the clock counts it. Behind it every call answers `Failed`, and
-- what the stop leaves stays.
pub record MeetsStop {D T : Type 0} (moment : D → ℕ) (stopped : D → Bool) (leaves : D → Left)
    (old new : D) (result : Result T DiskFault) : Type 0 where
  pub fails : stopped new ≡ true → IsErrOf result Failed
  pub counted : stopped old ≡ false → stopped new ≡ true → moment new ≡ moment old + 1
  pub stays : stopped old ≡ true → stopped new ≡ true
  pub left : stopped old ≡ true → (how : Stop) (f : ℕ) → leaves new how f ≡ leaves old how f

-- nothing has changed but counts of faults
pub record Stays {D : Type 0} (seen : D → Reads) (moment : D → ℕ) (images : D → Images) (stopped : D → Bool)
    (leaves : D → Left)
    (old new : D) : Type 0 where
  pub files : StaysBetween (moment old) (moment new) (images old) (images new) (seen old) (seen new)
  pub stop : stopped new ≡ stopped old
  pub left : (how : Stop) (f : ℕ) → leaves new how f ≡ leaves old how f
