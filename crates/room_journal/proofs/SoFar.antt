-- What a reader of records has done.
use Rattle.std.proofs.Common.{◌≡◌, ◌+◌, ◌≤◌, ℕ, List, length, drop}
use Rattle.room_journal.specs.Records.{records, behind, size_of}

pub record IsSoFar (bytes : List ℕ) (start at : ℕ) (bodies : List (List ℕ)) : Type 0 where
  pub left : behind bodies (records at 0 (drop at bytes)) ≡ records start 0 (drop start bytes)
  pub sizes : at ≡ start + size_of bodies
  pub within : at ≤ length bytes
