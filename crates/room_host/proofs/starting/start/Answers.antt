use Rattle.room_host.proofs.Keeping.{lies_none}
use Rattle.room_host.proofs.starting.start.Goals as goal

pub begin-requires-clause-kept : goal.begin-requires-clause-kept
begin-requires-clause-kept g c told =
    let d = g.D.Disk in
    let old = c.args.disk.now in
    lies_none (d.seen old) (d.images old (d.moment old)) c.args.server.now c.in-None.is (c.requires.kept told)
