-- What adding a record does to a disk: to what a read gives, to what a stop at any moment may leave, and to what a stop
-- within it does leave.
use Rattle.std.specs.Prelude.{◌≡◌, ◌≤◌, ◌<◌, ℕ, ◌+◌, Bool, true, List, [], ◌∷◌, ◌++◌, length, Result, OnOk, IsErr}
use Rattle.room_disk.specs.Model.{Reads, Images, Only, OnFile, Within}
use Rattle.room_disk.specs.Stops.{Left}
use Rattle.room_disk.specs.declared.disk.Stop.{Stop}
use Rattle.room_journal.specs.declared.fault.JournalFault.{JournalFault}
use Rattle.room_journal.specs.Files.{says}
use Rattle.room_journal.specs.Rest.{Place, room, body_of, stopped_bodies, IsAtRest, IsBeforeOrAfter}

-- nothing is held back: a stop leaves what a read gives
abbrev pub IsClean : {D : Type 0} → (D → Reads) → (D → Left) → D → Type 0
IsClean seen leaves d = (how : Stop) (f : ℕ) → leaves d how f ≡ seen d f

pub record Appends {D T : Type 0} (seen : D → Reads) (moment : D → ℕ) (images : D → Images) (p : Place)
    (ready : List ℕ) (old new : D) (result : Result T JournalFault) : Type 0 where
  -- the bodies with the new one
  pub added : (s : List ℕ) (bs : List (List ℕ)) → says (seen old p.file) ≡ room p.generation s bs
      → OnOk result (says (seen new p.file) ≡ room p.generation s (bs ++ body_of ready ∷ []))
  pub rests : OnOk result (IsAtRest (seen new p.file) p.generation (p.end + length ready))
  -- beyond any stop, by four calls
  pub durable : OnOk result (Only (seen new p.file) (images new (moment new) p.file))
  pub counted : OnOk result (moment new ≡ moment old + 4)
  pub others : (f : ℕ) → (f ≡ p.file → ⊥) → seen new f ≡ seen old f
  -- at each moment of the call each image says the bodies before, or with the new one
  pub any_moment : (s : List ℕ) (bs : List (List ℕ)) → says (seen old p.file) ≡ room p.generation s bs
      → Within moment images old new
      (OnFile p.file (IsBeforeOrAfter p.generation s bs (body_of ready)) (images old (moment old)))
  -- however it ends
  pub most : moment new ≤ moment old + 4

-- of a disk that can stop, and has not
pub record AppendsOrStops {D T : Type 0} (seen : D → Reads) (moment : D → ℕ) (stopped : D → Bool) (leaves : D → Left)
    (p : Place) (ready : List ℕ) (old new : D) (result : Result T JournalFault) : Type 0 where
  -- where the first or the second call is the stop, it leaves the bodies before, however it is settled
  pub early : stopped new ≡ true → moment new ≤ moment old + 2 → IsClean seen leaves old
      → (s : List ℕ) (bs : List (List ℕ)) → says (seen old p.file) ≡ room p.generation s bs
      → (how : Stop) → says (leaves new how p.file) ≡ room p.generation s bs
  -- where the third or the fourth is, the new one too, but where what was held back is left out
  pub late : stopped new ≡ true → moment old + 2 < moment new
      → (s : List ℕ) (bs : List (List ℕ)) → says (seen old p.file) ≡ room p.generation s bs
      → (how : Stop) → says (leaves new how p.file) ≡ room p.generation s (stopped_bodies how bs (body_of ready))
  pub others : stopped new ≡ true → (how : Stop) (f : ℕ) → (f ≡ p.file → ⊥) → leaves new how f ≡ leaves old how f
  pub fails : stopped new ≡ true → IsErr result
  -- after Ok nothing is held back, if nothing was
  pub clean : IsClean seen leaves old → OnOk result (IsClean seen leaves new)
