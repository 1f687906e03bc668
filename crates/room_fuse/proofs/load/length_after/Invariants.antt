use Rattle.std.proofs.Common.{◌≡◌, ◌<◌, ◌^◌, ℕ, List, length, drop}
use Rattle.room_fuse.specs.Held.{applied, StaysBelow}
use Rattle.room_fuse.proofs.load.length_after.Given as goal

abbrev pub invariant-loop-call : goal.invariant-loop-call
invariant-loop-call l = record {
  below : StaysBelow (drop l.call-index l.held);
  length_so : (old : List ℕ) → length old ≡ l.len → (so : List ℕ) × (length so ≡ l.length) × (applied so l.file (drop l.call-index l.held) ≡ applied old l.file l.held);
  bound : l.len < 2 ^ 62 → l.length < 2 ^ 62;
}
