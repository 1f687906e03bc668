use Rattle.std.proofs.Common.{◌++◌, take, length-append, length-take, arith}
use Rattle.std.proofs.KnownBytes.{Consumes-trans}
use Rattle.room_top.proofs.input.read_to_end.Goals as goal

-- what was read and not kept is taken too
pub returns-then-is_err-clause-takes : goal.returns-then-is_err-clause-takes
returns-then-is_err-clause-takes g c =
    let kept = c.loop-buffer.bytes.items in
    let read = take c.in-Ok.count c.read.new.into in (
      kept ++ read,
      omega (
        arith,
        length-append kept read,
        length-take c.in-Ok.count c.read.new.into,
        length-take c.min-room.result c.loop-buffer.buffer,
        c.read.auto.into,
        c.min-room.ensures,
      ),
      Consumes-trans _ _ _ _ _ c.loop-buffer.invariant.0 c.in-Ok.ensures.bytes.0,
    )
