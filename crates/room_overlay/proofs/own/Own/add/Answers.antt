use Rattle.std.proofs.Common.{arith}
use Rattle.room_overlay.proofs.Keeping.{added_seen}
use Rattle.room_overlay.proofs.own.Own.add.Goals as goal

pub invariant_of-self-2 : goal.invariant_of-self-2
invariant_of-self-2 g c = (
  (added_seen _ _ _ _ _ _ c.self.invariant.0 _ c.self.view_is c.args.ops.now _ _ c.requires
      c.in_ok-append_stepped.ensures.ok.0 c.reserve.ensures.items).0,
  λ e. omega (arith, c.in_ok-reserve.ensures.ok),
)

pub returns-clause-ok : goal.returns-clause-ok
returns-clause-ok g c = (
  (added_seen _ _ _ _ _ _ c.self.invariant.0 _ c.self.view_is c.args.ops.now _ _ c.requires
      c.in_ok-append_stepped.ensures.ok.0 c.reserve.ensures.items).1,
  c.in_ok-append_stepped.ensures.ok.1,
)
