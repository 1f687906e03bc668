use Rattle.std.proofs.Common.{◌≡◌, ◌≤◌, ℕ, length, true}
use Rattle.room_disk.specs.Model.{Only}
use Rattle.room_fuse.specs.Held.{Others, StaysBelow, torn}
use Rattle.room_fuse.specs.Passing.{Passed}
use Rattle.room_fuse.proofs.pass.pass_whole.Given as goal

abbrev pub invariant-loop-held : goal.invariant-loop-held
invariant-loop-held g l = let d = g.D.Disk in record {
  passed : d.tells ≡ true → Passed d.seen d.moment d.images l.initial.disk l.initial.held.items l.disk l.held.items;
  no_more : length l.held.items ≤ length l.initial.held.items;
  below : StaysBelow l.initial.held.items → StaysBelow l.held.items;
  still_torn : torn l.initial.held.items ≡ l.initial.held.items → torn l.held.items ≡ l.held.items;
  durable : d.tells ≡ true → (f : ℕ) → Others f l.held.items → (Others f l.initial.held.items → ⊥) → Only (d.seen l.disk f) (d.images l.disk (d.moment l.disk) f);
  came : d.came l.initial.disk l.disk;
  later : d.faults l.initial.disk ≤ d.faults l.disk;
  inner_later : d.inner_faults l.initial.disk ≤ d.inner_faults l.disk;
}

abbrev pub decreases-loop-held : goal.decreases-loop-held
decreases-loop-held g l = length l.held.items
