-- What a stop may leave of a file that is made anew, gate last.
use Rattle.std.specs.Prelude.{◌≡◌, ◌⊎◌, ℕ, List, [], ◌∷◌, ◌++◌, drop}
use Rattle.room_disk.specs.Model.{Follows, WrittenInPart}

-- its gate is closed
abbrev pub IsShut : List ℕ → Type 0
IsShut [] = Unit {0}
IsShut (g ∷ rest) = g ≡ 0

-- it is open, with these bytes behind its gate
pub record IsOpenWith (bytes file : List ℕ) : Type 0 where
  pub gate : ℕ
  pub open_gate : gate ≡ 0 → ⊥
  pub rest : List ℕ
  pub is : file ≡ gate ∷ (bytes ++ rest)

-- as before; or, where no closed gate stood there, as before but for its gate
abbrev pub IsShutting : List ℕ → (List ℕ → Type 0) → List ℕ → Type 0
IsShutting file was c = was c ⊎ ((file ≡ 0 ∷ drop 1 file → ⊥) × Follows (WrittenInPart 0 1) was c)

-- that, or closed, or the new one whole
abbrev pub IsFreshening : List ℕ → (List ℕ → Type 0) → List ℕ → List ℕ → Type 0
IsFreshening file was bytes c = IsShutting file was c ⊎ (IsShut c ⊎ IsOpenWith bytes c)
