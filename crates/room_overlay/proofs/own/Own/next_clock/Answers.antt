use Rattle.std.proofs.Common.{arith}
use Rattle.room_overlay.proofs.Keeping.{next_seen, told_last}
use Rattle.room_overlay.proofs.own.Own.next_clock.Goals as goal

pub overflow_add-result : goal.overflow_add-result
overflow_add-result c =
    record { fits = omega (arith, told_last _ _ _ _ _ _ c.self.invariant.0, c.self.invariant.0.bound) }

pub overflow_add-result-2 : goal.overflow_add-result-2
overflow_add-result-2 c =
    record {
      fits = omega (
        arith,
        told_last _ _ _ _ _ _ c.self.invariant.0,
        c.self.invariant.0.bound,
        c.as_slice.type_inv.1,
      );
    }

pub returns : goal.returns
returns c = rw c.as_slice.ensures (next_seen _ _ _ _ _ _ c.self.invariant.0 _ c.self.view_is)
