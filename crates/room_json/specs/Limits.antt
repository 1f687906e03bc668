-- The least and the greatest whole number, and how deep a value that is read may be.
use Rattle.std.specs.Prelude.{ℕ, ℤ, negsuc}

-- 2^53 - 1
abbrev pub max_whole : ℕ
max_whole = 9007199254740991

-- -(2^53 - 1)
abbrev pub min_whole : ℤ
min_whole = negsuc 9007199254740990

abbrev pub max_depth : ℕ
max_depth = 60
