-- A text is cut at its line feeds, one row after the other.
use Rattle.std.specs.Prelude.{ℕ, ◌==◌, if◌then◌else◌, List, [], ◌∷◌}

-- what stands before the first line feed
abbrev pub row_of : List ℕ → List ℕ
row_of [] = []
row_of (b ∷ bs) = if b == 10 then [] else b ∷ row_of bs

-- what stands behind it
abbrev pub behind_row : List ℕ → List ℕ
behind_row [] = []
behind_row (b ∷ bs) = if b == 10 then bs else behind_row bs
