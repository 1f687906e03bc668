use Rattle.std.proofs.Common.{subst, sym}
use Rattle.room_fuse.proofs.Mirroring.{mirrored_steps}
use Rattle.room_fuse.proofs.disk.FusedDisk.cut.Goals as goal

pub returns-clause-came : goal.returns-clause-came
returns-clause-came g c =
    let d = g.D.Disk in let old = c.args.self.now in
    let new = c.hold.new.self in (
      subst (λ i. d.came old.inner i) (sym c.hold.ensures.inner) (g.met.D.Disk.came_same old.inner),
      c.hold.ensures.counts,
      λ told. mirrored_steps d.images d.moment d.seen c.args.file _ old.past.items new.past.items old.inner new.inner old.held.items new.held.items c.hold.ensures.inner (c.hold.ensures.steps told),
    )
