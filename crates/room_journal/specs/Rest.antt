-- A file at rest: whole records up to a closed gate; and what is written behind that gate, or to make a new file.
use Rattle.std.specs.Prelude.{◌≡◌, ◌⊎◌, ◌<◌, ℕ, ◌+◌, ◌-◌, ◌==◌, if◌then◌else◌, List, [], ◌∷◌, ◌++◌, length, take, drop}
use Rattle.std.specs.Prelude.{Some, None}
use Rattle.room_bytes.specs.declared.entries.Format.TheVariants.{Two}
use Rattle.room_disk.specs.declared.disk.Stop.{Stop}
use Rattle.room_disk.specs.declared.disk.Stop.TheVariants.{Old, New, Torn}
use Rattle.room_journal.specs.Records.{size_in, size_of}
use Rattle.room_journal.specs.Files.{Says, Closed, Opens, says, last_generation}

-- what a file of the format that is written says at rest
abbrev pub room : ℕ → List ℕ → List (List ℕ) → Says
room g snapshot bodies = Opens Two g (Some (record { snapshot = snapshot; bodies = bodies; broken = None }))

-- the offset of its last gate
abbrev pub end_of : List ℕ → List (List ℕ) → ℕ
end_of snapshot bodies = 25 + length snapshot + size_of bodies

-- a file at rest, of this generation, with its last gate there
pub record IsAtRest (file : List ℕ) (g end : ℕ) : Type 0 where
  pub snapshot : List ℕ
  pub bodies : List (List ℕ)
  pub is : says file ≡ room g snapshot bodies
  pub end_is : end ≡ end_of snapshot bodies

-- the file that doesn't count
abbrev pub other_of : ℕ → ℕ → ℕ
other_of base file = if file == base then base + 1 else base

-- A record behind its gate: four bytes of length, the body, a closed gate.

abbrev pub body_of : List ℕ → List ℕ
body_of ready = take (length ready - 5) (drop 4 ready)

pub record IsReady (ready : List ℕ) : Type 0 where
  pub a : ℕ
  pub b : ℕ
  pub c : ℕ
  pub d : ℕ
  pub is : ready ≡ a ∷ b ∷ c ∷ d ∷ body_of ready ++ 0 ∷ []
  pub counts : size_in a b c d ≡ length (body_of ready)

-- what a stop within an append may leave: the bodies before, or with the new one
abbrev pub IsBeforeOrAfter : ℕ → List ℕ → List (List ℕ) → List ℕ → List ℕ → Type 0
IsBeforeOrAfter g snapshot bodies b file =
    (says file ≡ room g snapshot bodies) ⊎ (says file ≡ room g snapshot (bodies ++ b ∷ []))

-- the bodies after a stop at the gate of a new one, as it is settled
abbrev pub stopped_bodies : Stop → List (List ℕ) → List ℕ → List (List ℕ)
stopped_bodies Old bodies b = bodies
stopped_bodies New bodies b = bodies ++ b ∷ []
stopped_bodies Torn bodies b = bodies ++ b ∷ []

-- A new file behind its gate: mark, generation, the snapshot with its length, a closed gate.

-- behind an open gate these bytes are a file of this generation, with this snapshot and no record
pub record IsFileOf (g : ℕ) (snapshot bytes : List ℕ) : Type 0 where
  pub sized : length bytes ≡ end_of snapshot []
  pub reads : (gate : ℕ) (rest : List ℕ) → (gate ≡ 0 → ⊥) → says (gate ∷ (bytes ++ rest)) ≡ room g snapshot []

-- what is ready to make a file of the generation after g; there is none after the last
abbrev pub IsReadyFile : ℕ → List ℕ → List ℕ → Type 0
IsReadyFile g snapshot bytes = g < last_generation → IsFileOf (g + 1) snapshot bytes

-- what a stop within a renewal may leave of that file: what it said before; or, where there is a next generation,
-- a closed file, or the new one
abbrev pub IsRenewed : Says → ℕ → List ℕ → List ℕ → Type 0
IsRenewed was g snapshot c =
    (says c ≡ was) ⊎ ((g < last_generation) × ((says c ≡ Closed) ⊎ (says c ≡ room (g + 1) snapshot [])))

-- where a journal goes on: the two files, the one that counts, its generation and its last gate
pub record Place : Type 0 where
  pub base : ℕ
  pub file : ℕ
  pub generation : ℕ
  pub end : ℕ

abbrev pub place_at : ℕ → ℕ → ℕ → ℕ → Place
place_at b f g e = record { base = b; file = f; generation = g; end = e }

-- the place after an append of these bytes
abbrev pub grown : Place → List ℕ → Place
grown p ready = place_at p.base p.file p.generation (p.end + length ready)

-- the place after a renewal with these bytes
abbrev pub renewed : Place → List ℕ → Place
renewed p ready =
    if p.generation == last_generation then p
    else place_at p.base (other_of p.base p.file) (p.generation + 1) (length ready)
