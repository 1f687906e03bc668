-- The greatest actor, and the greatest length of a position.
use Rattle.std.specs.Prelude.{ℕ}

-- 2^32 - 1
abbrev pub max_actor : ℕ
max_actor = 4294967295

abbrev pub max_position : ℕ
max_position = 4096
