use Rattle.std.proofs.Common.{◌∙◌, ap, sym, length}
use Rattle.room_fuse.proofs.Rests.{content_applied}
use Rattle.room_fuse.proofs.load.length_of.Goals as goal

pub returns-clause-length : goal.returns-clause-length
returns-clause-length g c told =
    let seen = g.D.Disk.seen c.args.disk.now in
    c.length_after.ensures.length (seen c.args.file) (sym (c.in_ok-len.ensures.length told)) ∙ ap length (sym (content_applied seen c.args.held.now c.args.file))
