use Rattle.std.proofs.Common.{◌≡◌, true}
use Rattle.std.specs.Vec.Iter.{into_iter_items}
use Rattle.room_model.specs.World.{deliver}
use Rattle.room_queues.specs.Seen.{outs_in, AreMail}
use Rattle.room_queues.proofs.queues.deliver_all.Given as goal

abbrev pub invariant-loop-k : goal.invariant-loop-k
invariant-loop-k g l =
    (deliver l.queues (outs_in (into_iter_items l.k-iterator)) ≡ deliver l.initial.queues (outs_in l.fn.sends.items))
    × (g.D.Disk.tells ≡ true → g.D.Disk.stops ≡ true → AreMail (into_iter_items l.k-iterator))
