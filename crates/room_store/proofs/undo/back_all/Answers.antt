use Rattle.std.proofs.Common.{◌∙◌}
use Rattle.room_store.proofs.Undone.{can_back, back_can, back_gone}
use Rattle.room_store.proofs.undo.back_all.Goals as goal

pub back-requires : goal.back-requires
back-requires g c =
    let t = g.T.Tree in
    let l = c.loop-one in
    can_back l.steps.items c.pop.new.self.items c.in-Some.one (t.nodes l.t) (t.spare l.t) c.in-Some.ensures.items l.invariant.0

pub loop-one-preserved : goal.loop-one-preserved
loop-one-preserved g c =
    let t = g.T.Tree in
    let l = c.loop-one in
    let all = l.steps.items in
    let rest = c.pop.new.self.items in
    let one = c.in-Some.one in
    let u = t.nodes l.t in
    let v = t.nodes c.back.new.t in (
      back_can all rest one u v (t.spare l.t) (t.spare c.back.new.t) c.in-Some.ensures.items c.back.ensures.nodes
          c.back.ensures.sum l.invariant.0,
      back_gone all rest one u v _ c.in-Some.ensures.items c.back.ensures.nodes l.invariant.1,
      c.back.ensures.sum ∙ l.invariant.2,
    )
