-- Sources and sinks in memory, some of whose calls fail.
use Rattle.std.specs.Prelude.{ℕ, ◌+◌, ◌-◌, ◌^◌, ◌==◌, Bool, false, ◌||◌, if◌then◌else◌, List, [], ◌∷◌, ◌++◌, drop, min}

-- counts end at 2^64 - 1
abbrev pub next : ℕ → ℕ
next n = min (n + 1) (2 ^ 64 - 1)

abbrev pub is_among : ℕ → List ℕ → Bool
is_among n [] = false
is_among n (k ∷ ks) = (k == n) || is_among n ks

-- the calls so far, the numbers of those that are to fail, and the faults so far
pub record Calls : Type 0 where
  pub calls : ℕ
  pub fails : List ℕ
  pub faults : ℕ

-- no call yet
abbrev pub no_calls : List ℕ → Calls
no_calls ks = record { calls = 0; fails = ks; faults = 0 }

-- whether the next call is to fail
abbrev pub is_to_fail : Calls → Bool
is_to_fail c = is_among (next c.calls) c.fails

-- after a call
abbrev pub called : Calls → Calls
called c = record { calls = next c.calls; fails = c.fails; faults = if is_to_fail c then next c.faults else c.faults }

pub record Reading : Type 0 where
  pub left : List ℕ
  pub calls : Calls

pub record Writing : Type 0 where
  pub written : List ℕ
  pub calls : Calls

-- after a read into a buffer of n bytes
abbrev pub after_read : Reading → ℕ → Reading
after_read s n = record { left = if is_to_fail s.calls then s.left else drop n s.left; calls = called s.calls }

-- after a write of a piece that was taken
abbrev pub after_write : Writing → List ℕ → Writing
after_write s piece = record { written = s.written ++ piece; calls = called s.calls }

-- after a write that was not
abbrev pub after_refusal : Writing → Writing
after_refusal s = record { written = s.written; calls = called s.calls }
