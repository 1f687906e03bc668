use Rattle.std.proofs.Common.{◌≡◌, ◌≤◌, true}
use Rattle.room_host.specs.Rests.{IsKept, Rests}
use Rattle.room_world.specs.Seen.{world_on}
use Rattle.room_world.proofs.Drains.{Drains, Tries}
use Rattle.room_world.proofs.world.World.drain.Given as goal

abbrev pub invariant-loop-left : goal.invariant-loop-left
invariant-loop-left g l =
    let d = g.D.Disk in
    let s = g.D.Stopping in
    let first = world_on d.seen s.armed s.way l.initial.self l.initial.disk in
    let now = world_on d.seen s.armed s.way l.self l.disk in
    record {
      kept : d.tells ≡ true → IsKept (d.seen l.disk) (d.images l.disk (d.moment l.disk)) l.self.hosting.server;
      rests : d.tells ≡ true → d.stops ≡ true → Rests d.seen d.stopped d.leaves l.disk;
      does : d.tells ≡ true → d.stops ≡ true → Drains first l.number l.n l.lines now l.left;
      tries : d.tells ≡ true → d.stops ≡ true → Tries d.moment d.images l.initial.disk first l.number l.n l.disk now l.left;
      opened : l.self.opened ≡ l.initial.self.opened;
      went : s.went l.initial.disk l.disk;
      faults : d.faults l.initial.disk ≤ d.faults l.disk;
      inner_faults : d.inner_faults l.initial.disk ≤ d.inner_faults l.disk;
    }

abbrev pub decreases-loop-left : goal.decreases-loop-left
decreases-loop-left g l = l.left
