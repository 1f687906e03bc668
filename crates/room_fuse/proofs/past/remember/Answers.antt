use Rattle.std.proofs.Common.{ap, rules}
use Rattle.room_fuse.proofs.past.remember.Goals as goal

pub returns-clause-ok : goal.returns-clause-ok
returns-clause-ok g c = record { added = record { inner = c.of.result; held = c.of-2.result }; inner_is = c.of.ensures; held_is = ap (λ v. v.items) c.of-2.ensures; behind = search rules }
