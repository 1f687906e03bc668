use Rattle.room_fuse.proofs.Rests.{content_applied}
use Rattle.room_fuse.proofs.load.load.Goals as goal

pub returns-clause-bytes : goal.returns-clause-bytes
returns-clause-bytes g c told =
    cc (c.in_ok-apply_all.ensures.ok, c.in_ok-bytes.ensures.bytes told, content_applied (g.D.Disk.seen c.args.disk.now) c.args.held.now c.args.file)
