use Rattle.std.proofs.Common.{length, reverse, refl}
use Rattle.room_fuse.specs.Laws.{counts_same}
use Rattle.room_fuse.proofs.Mirroring.{left_same, stood, fuse_stays, mirrored_stays}
use Rattle.room_fuse.proofs.disk.FusedDisk.read.Goals as goal

pub returns-in_err-admit-clause-came : goal.returns-in_err-admit-clause-came
returns-in_err-admit-clause-came g c = let d = g.D.Disk in let old = c.args.self.now in stood d.images d.moment d.came g.met.D.Disk.came_same d.tells old.fired old.armed old.how old.past.items old.past.items old.inner old.held.items old.held.items refl refl

pub returns-clause-stays : goal.returns-clause-stays
returns-clause-stays g c told =
    let d = g.D.Disk in let old = c.args.self.now in
    let stays = c.read_over.ensures.stays told in
    record {
      files = fuse_stays d.images d.moment d.seen old.inner c.read_over.new.disk old.held.items stays.files old.past.items;
      stop = refl;
      left = λ how f. left_same how (d.seen old.inner) (d.seen c.read_over.new.disk) (reverse old.held.items) f (stays.files.seen f);
    }

pub returns-clause-came : goal.returns-clause-came
returns-clause-came g c =
    let d = g.D.Disk in let old = c.args.self.now in (
      c.read_over.ensures.came,
      counts_same old.fired old.armed (length old.past.items) old.how,
      λ told. mirrored_stays d.images d.moment d.seen old.inner c.read_over.new.disk old.held.items (c.read_over.ensures.stays told).files old.past.items,
    )
