use Rattle.std.proofs.Common.{◌≡◌, ◌++◌, map}
use Rattle.std.specs.Vec.Iter.{into_iter_items}
use Rattle.room_world.specs.Sending.{mail_to}
use Rattle.room_world.proofs.sending.mails_of.Given as goal

abbrev pub invariant-loop-out : goal.invariant-loop-out
invariant-loop-out l = l.mails ++ map mail_to (into_iter_items l.out-iterator) ≡ map mail_to l.fn.outs
