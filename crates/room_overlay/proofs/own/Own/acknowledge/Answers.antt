use Rattle.std.proofs.Common.{arith}
use Rattle.room_overlay.proofs.Keeping.{acknowledged_seen, fits_seen}
use Rattle.room_overlay.proofs.own.Own.acknowledge.Goals as goal

pub skip-requires : goal.skip-requires
skip-requires c = fits_seen _ _ _ _ _ _ c.self.invariant.0 _ c.self.view_is c.args.c c.requires.issued

pub invariant_of-self : goal.invariant_of-self
invariant_of-self c = (
  (acknowledged_seen _ _ _ _ _ _ c.self.invariant.0 _ c.self.view_is c.args.c c.requires.within c.requires.issued _ _
      c.forget.ensures.items c.skip.ensures).0,
  λ e. omega (arith, c.self.invariant.1 e, c.forget.ensures.len, c.forget.ensures.capacity),
)

pub returns : goal.returns
returns c =
    (acknowledged_seen _ _ _ _ _ _ c.self.invariant.0 _ c.self.view_is c.args.c c.requires.within c.requires.issued _ _
    c.forget.ensures.items c.skip.ensures).1
