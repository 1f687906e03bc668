-- A text that runs no line.
use Rattle.std.specs.Prelude.{◌≡◌, ◌⊎◌, ⊤, ℕ, List, [], take, Option}
use Rattle.std.specs.Io.KnownBytes.{Appends}
use Rattle.room_replay.specs.Files.{Files}
use Rattle.room_top.specs.Commands.{Task, TooLong, BadLine}
use Rattle.room_top.specs.Outcome.{Outcome, outcome_of}
use Rattle.room_top.specs.declared.reporting.Refusal.{Refusal}
use Rattle.room_top.specs.declared.reporting.Refusal.TheVariants as refusal

-- a refusal of a text that is such a one; memory may be wanting for any
abbrev pub IsRefusal : Task → Refusal → Type 0
IsRefusal task refusal.Memory = ⊤
IsRefusal task refusal.TooLong = task ≡ TooLong
IsRefusal task (refusal.BadLine k) = task ≡ BadLine k

-- the outcome with this status, or a first part of its text
pub record Tells (o : Outcome) (old now : Option (List ℕ)) (status : ℕ) : Type 0 where
  pub which : (status ≡ o.status) ⊎ (status ≡ 1) ⊎ (status ≡ 4)
  pub all : (status ≡ 1 → ⊥) → (status ≡ 4 → ⊥) → Appends old now o.text
  pub part : (n : ℕ) × Appends old now (take n o.text)

abbrev pub Refuses : Refusal → Files → (old now : Option (List ℕ)) → ℕ → Type 0
Refuses refusal.Memory fs old now status = (status ≡ 1) × Appends old now []
Refuses refusal.TooLong fs old now status = Tells (outcome_of fs TooLong) old now status
Refuses (refusal.BadLine k) fs old now status = Tells (outcome_of fs (BadLine k)) old now status
