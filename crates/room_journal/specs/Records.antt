-- Records behind one another in a file, up to a gate that is closed.
use Rattle.std.specs.Prelude.{zero, suc, ℕ, ◌+◌, ◌==◌, Bool, false, nat_le, if◌then◌else◌}
use Rattle.std.specs.Prelude.{List, [], ◌∷◌, ◌++◌, length, take, Option, Some, None}
use Rattle.std.specs.Int.{w32, from_be_bytes}

-- the bodies of whole records in order, and the gate where they stop without one that is closed
pub record Records : Type 0 where
  pub bodies : List (List ℕ)
  pub broken : Option ℕ

-- a closed gate
abbrev pub ended : Records
ended = record { bodies = []; broken = None }

-- no whole record and no closed gate at this offset
abbrev pub breaks : ℕ → Records
breaks at = record { bodies = []; broken = Some at }

abbrev pub one_more : List ℕ → Records → Records
one_more body r = record { bodies = body ∷ r.bodies; broken = r.broken }

-- the length of a body, the highest byte first
abbrev pub size_in : ℕ → ℕ → ℕ → ℕ → ℕ
size_in a b c d = from_be_bytes w32 (a ∷ b ∷ c ∷ d ∷ [])

-- The records from this offset on: a gate, four bytes of length, the body; a gate of 0 is closed, any other is open.
-- The second number says how many bytes of a body are still to be passed.
abbrev pub records : ℕ → ℕ → List ℕ → Records
records at (suc k) (x ∷ rest) = records (at + 1) k rest
records at (suc k) [] = breaks at
records at zero (g ∷ a ∷ b ∷ c ∷ d ∷ rest) =
    if g == 0 then ended else (if nat_le (size_in a b c d) (length rest)
    then one_more (take (size_in a b c d) rest) (records (at + 5) (size_in a b c d) rest) else breaks at)
records at zero (g ∷ rest) = if g == 0 then ended else breaks at
records at zero [] = breaks at

abbrev pub is_closed : List ℕ → Bool
is_closed (g ∷ rest) = g == 0
is_closed [] = false

-- whole records before others
abbrev pub behind : List (List ℕ) → Records → Records
behind bodies r = record { bodies = bodies ++ r.bodies; broken = r.broken }

-- the bytes that these bodies take with their gates and lengths
abbrev pub size_of : List (List ℕ) → ℕ
size_of [] = 0
size_of (b ∷ bs) = 5 + length b + size_of bs
