-- How a line begins.
use Rattle.std.specs.Prelude.{ℕ, ◌∷◌, ◌++◌, List, decimal, Option, Some, None}

-- the name, and the mark behind it
abbrev pub head : List ℕ → Option ℕ → List ℕ
head name None = name
head name (Some c) = name ++ 32 ∷ decimal c
