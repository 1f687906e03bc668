use Rattle.std.proofs.Common.{◌≡◌, ◌++◌, map}
use Rattle.std.specs.Vec.Iter.{into_iter_items}
use Rattle.room_msg.specs.Frame.{client_frame_in}
use Rattle.room_queues.proofs.conn.push_all.Given as goal

abbrev pub invariant-loop-text : goal.invariant-loop-text
invariant-loop-text l =
    l.queue.items ++ map client_frame_in (into_iter_items l.text-iterator)
    ≡ l.initial.queue.items ++ map client_frame_in l.fn.texts
