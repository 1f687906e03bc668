use Rattle.std.proofs.Common.{◌∙◌, ◌-◌, drop, ap}
use Rattle.room_log.specs.Log.{bodies_of}
use Rattle.room_overlay.proofs.Keeping.{beyond_seen, fits_seen}
use Rattle.room_overlay.proofs.own.Own.beyond.Goals as goal

pub behind-requires : goal.behind-requires
behind-requires c =
    rw c.as_slice.ensures (fits_seen _ _ _ _ _ _ c.self.invariant.0 _ c.self.view_is c.args.c c.requires.issued)

pub returns : goal.returns
returns c =
    ap bodies_of c.behind.ensures
    ∙ ap (λ xs. bodies_of (drop (c.args.c - c.self.inside.told) xs)) c.as_slice.ensures
    ∙ beyond_seen _ _ _ _ _ _ c.self.invariant.0 _ c.self.view_is c.args.c c.requires.within c.requires.issued
