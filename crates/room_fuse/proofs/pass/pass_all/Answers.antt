use Rattle.room_fuse.proofs.Passing.{passed_then, synced}
use Rattle.room_fuse.proofs.pass.pass_all.Goals as goal

pub returns-clause-passed : goal.returns-clause-passed
returns-clause-passed g c told =
    let d = g.D.Disk in
    let so = c.in_ok-pass_each.ensures.passed told in
    passed_then d.seen d.moment d.images c.args.disk.now c.pass_each.new.disk c.sync.new.self c.args.held.now.items c.pass_each.new.held.items c.pass_each.new.held.items so
    (synced d.seen d.moment d.images c.args.file c.pass_each.new.held.items c.pass_each.new.disk c.sync.new.self (c.sync.ensures.steps told) so.fits)
