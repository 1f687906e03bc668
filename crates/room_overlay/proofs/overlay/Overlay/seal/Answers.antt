use Rattle.std.proofs.Common.{◌∙◌, ap, subst, sym}
use Rattle.std.specs.Option.{option_map}
use Rattle.room_overlay.specs.Kept.{IsShown}
use Rattle.room_overlay.specs.Own.{own_bodies}
use Rattle.room_overlay.proofs.Showing.{sealed_bodies}
use Rattle.room_overlay.proofs.overlay.Overlay.seal.Goals as goal

pub invariant_of-self : goal.invariant_of-self
invariant_of-self g c =
    let o = c.self.inside in
    let t = g.T.Tree.nodes in (
      subst (IsShown (t o.confirmed) (option_map t o.shown)) (sym (ap own_bodies c.seal.ensures ∙ sealed_bodies o.own))
          c.self.invariant.0,
      c.self.invariant.1,
    )
