use Rattle.std.proofs.Common.{arith}
use Rattle.room_overlay.proofs.Batches.{last_taken}
use Rattle.room_overlay.proofs.own.before.Goals as goal

pub returns-else-i-eq0 : goal.returns-else-i-eq0
returns-else-i-eq0 c = last_taken c.args.i c.args.or 0 c.args.lasts.now (grind (arith, c.if-i-eq0.false)) c.requires
