use Rattle.room_fuse.specs.Laws.{mirrored_same}
use Rattle.room_fuse.proofs.settle.FusedStopping.arm.Goals as goal

pub returns-clause-went : goal.returns-clause-went
returns-clause-went g c =
    let d = g.D.Disk in let old = c.args.self.now in
    (g.met.D.Disk.came_same old.inner, λ told. mirrored_same d.images d.moment old.past.items old.inner old.held.items)
