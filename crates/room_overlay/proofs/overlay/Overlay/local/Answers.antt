use Rattle.room_log.specs.Log.{bodies_of}
use Rattle.room_overlay.specs.Own.{own_bodies}
use Rattle.room_overlay.proofs.Showing.{added_shown}
use Rattle.room_overlay.proofs.overlay.Overlay.local.Goals as goal

pub invariant_of-self-2 : goal.invariant_of-self-2
invariant_of-self-2 g c =
    let o = c.self.inside in
    let t = g.T.Tree.nodes in (
      added_shown c.add-done.result (t o.confirmed) (t c.in_ok-shown.shown) (t c.add-done.new.t) o.own
          c.add-done.new.self (bodies_of c.args.ops.now)
          (c.in_ok-shown.ensures.ok (own_bodies o.own) c.self.invariant.0)
          c.add-done.ensures.ok c.add-done.ensures.err,
      c.self.invariant.1,
    )
