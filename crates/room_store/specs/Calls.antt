-- What the calls of a store do to its disk: to what the files stand for after them, at any moment of them, and after a
-- stop within them.
use Rattle.std.specs.Prelude.{◌≡◌, ◌⊎◌, ◌≤◌, ◌<◌, ℕ, ◌+◌, Bool, true, List, Result, OnOk, IsErr}
use Rattle.room_disk.specs.Model.{Reads, Images, Within, WithinWhole}
use Rattle.room_disk.specs.Stops.{Left}
use Rattle.room_disk.specs.declared.disk.Stop.{Stop}
use Rattle.room_log.specs.Log.{State}
use Rattle.room_bytes.specs.declared.entries.Format.TheVariants.{Two}
use Rattle.room_journal.specs.Files.{last_generation, says}
use Rattle.room_journal.specs.Rest.{Place, room}
use Rattle.room_journal.specs.Appends.{IsClean}
use Rattle.room_replay.specs.Files.{StandsFor, stopped_state}
use Rattle.room_store.specs.Consistent.{Settled, IsCompacted, Elsewhere, AreWritten, IsSameFile, HasOneMore}

-- from the state s to the state t, where the files stood for s
pub record Commits {D T E : Type 0} (seen : D → Reads) (moment : D → ℕ) (images : D → Images) (p q : Place)
    (s t : State) (old new : D) (result : Result T E) : Type 0 where
  -- after Ok the state t is on the disk, by four calls
  pub settled : OnOk result (Settled Two (seen new) (images new (moment new)) q t)
  pub counted : OnOk result (moment new ≡ moment old + 4)
  -- at each moment each image stands for the state before, or for that after
  pub any_moment : WithinWhole moment images old new (λ image. StandsFor p.base s image ⊎ StandsFor p.base t image)
  -- other files stay, and what a stop leaves of them
  pub others : (f : ℕ) → (f ≡ p.base → ⊥) → (f ≡ p.base + 1 → ⊥) → seen new f ≡ seen old f
  pub elsewhere : Within moment images old new (Elsewhere p.base (images old (moment old)))
  -- however it ends
  pub bound : moment new ≤ moment old + 4
  -- at each moment each image holds a room in the format that is written
  pub written : WithinWhole moment images old new (AreWritten p.base)
  -- after Ok the same file counts, of the same generation, and it has the same snapshot and one body more
  pub same : OnOk result (IsSameFile p q)
  pub added : (snapshot : List ℕ) (bodies : List (List ℕ)) → says (seen old p.file) ≡ room p.generation snapshot bodies
      → OnOk result (HasOneMore (seen new) q snapshot bodies s t)

-- of a disk that can stop, and has not
pub record CommitsOrStops {D T E : Type 0} (seen : D → Reads) (moment : D → ℕ) (stopped : D → Bool) (leaves : D → Left)
    (base : ℕ) (s t : State) (old new : D) (result : Result T E) : Type 0 where
  -- where the first or the second call is the stop, it leaves the state before, however it is settled
  pub early : stopped new ≡ true → moment new ≤ moment old + 2 → IsClean seen leaves old
      → (how : Stop) → StandsFor base s (leaves new how)
  -- where the third or the fourth is, the state after, but where what was held back is left out
  pub late : stopped new ≡ true → moment old + 2 < moment new → IsClean seen leaves old
      → (how : Stop) → StandsFor base (stopped_state how s t) (leaves new how)
  pub fails : stopped new ≡ true → IsErr result
  -- after Ok nothing is held back, if nothing was
  pub clean : IsClean seen leaves old → OnOk result (IsClean seen leaves new)
  -- however it ends
  pub bound : moment new ≤ moment old + 4

-- a file of the next generation is made for the state, or at the last generation nothing
pub record Compacts {D T E : Type 0} (seen : D → Reads) (moment : D → ℕ) (images : D → Images) (p q : Place)
    (s : State) (old new : D) (result : Result T E) : Type 0 where
  pub settled : OnOk result (Settled Two (seen new) (images new (moment new)) q s)
  -- by six calls
  pub counted : OnOk result (moment new ≡ moment old + 6)
  -- after Ok the file that counts is of the next generation, with the state in its snapshot, and no record
  pub next : p.generation < last_generation → OnOk result (IsCompacted (seen new) q (p.generation + 1) s)
  pub last : p.generation ≡ last_generation → (f : ℕ) → seen new f ≡ seen old f
  -- at each moment each image stands for that state
  pub any_moment : WithinWhole moment images old new (StandsFor p.base s)
  pub others : (f : ℕ) → (f ≡ p.base → ⊥) → (f ≡ p.base + 1 → ⊥) → seen new f ≡ seen old f
  pub elsewhere : Within moment images old new (Elsewhere p.base (images old (moment old)))
  -- however it ends
  pub bound : moment new ≤ moment old + 6
  -- where the files hold a room in the format that is written, each image does at each moment
  pub written : AreWritten p.base (seen old) → WithinWhole moment images old new (AreWritten p.base)
