-- Numbers drawn by a linear congruential generator, the same as the generator of schedules.
use Rattle.std.specs.Prelude.{ℕ, ◌+◌, ◌*◌, ◌/◌, ◌%◌}

-- the state after a draw
abbrev pub drawn : ℕ → ℕ
drawn s = (s * 6364136223846793005 + 1442695040888963407) % 18446744073709551616

-- the byte that it gives
abbrev pub byte_of : ℕ → ℕ
byte_of s = (drawn s / 8589934592) % 256
