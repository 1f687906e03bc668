use Rattle.std.proofs.Common.{◌≡◌, ◌≤◌, length, true}
use Rattle.room_fuse.specs.Held.{Rest}
use Rattle.room_fuse.specs.Passing.{Passed, Spares}
use Rattle.room_fuse.proofs.pass.pass_each.Given as goal

abbrev pub invariant-loop : goal.invariant-loop
invariant-loop g l = let d = g.D.Disk in record {
  passed : d.tells ≡ true → Passed d.seen d.moment d.images l.initial.disk l.initial.held.items l.disk l.held.items;
  spares : d.tells ≡ true → Spares d.seen d.moment d.images l.file l.initial.disk l.disk;
  rest : Rest l.file l.initial.held.items l.held.items;
  came : d.came l.initial.disk l.disk;
  later : d.faults l.initial.disk ≤ d.faults l.disk;
  inner_later : d.inner_faults l.initial.disk ≤ d.inner_faults l.disk;
}

abbrev pub decreases-loop : goal.decreases-loop
decreases-loop g l = length l.held.items
