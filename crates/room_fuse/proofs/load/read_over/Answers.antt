use Rattle.std.proofs.Common.{◌+◌, ◌≤◌, ℕ, List, length, reverse, subst, rules}
use Rattle.room_fuse.specs.Held.{Others}
use Rattle.room_fuse.proofs.Lists.{content_skip, others_reverse}
use Rattle.room_fuse.proofs.load.read_over.Goals as goal

pub read-requires : goal.read-requires
read-requires g c told =
    let none : Others c.args.file c.args.held.now = search rules in
    subst (λ (l : List ℕ). c.args.at + length c.args.into.now ≤ length l) (content_skip (g.D.Disk.seen c.args.disk.now) (reverse c.args.held.now) c.args.file (others_reverse c.args.file c.args.held.now none)) (c.requires told)

pub returns-then-is_spared-clause-bytes : goal.returns-then-is_spared-clause-bytes
returns-then-is_spared-clause-bytes g c told =
    let none : Others c.args.file c.args.held.now = search rules in
    rw (content_skip (g.D.Disk.seen c.args.disk.now) (reverse c.args.held.now) c.args.file (others_reverse c.args.file c.args.held.now none)) (c.read.ensures.bytes told)
