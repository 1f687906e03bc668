use Rattle.std.proofs.Common.{◌+◌}
use Rattle.std.specs.FinMap.{len}
use Rattle.room_nodes.specs.Shape.{Nodes}
use Rattle.room_overlay.specs.Together.{LeadBack}
use Rattle.room_overlay.proofs.Leading.{can_pop, lead_back}
use Rattle.room_overlay.proofs.together.back_all.Goals as goal

pub back-requires : goal.back-requires
back-requires g c =
    let t = g.T.Tree in
    let l = c.loop-one in
    let h = l.invariant.0 in
    can_pop h.0 l.edits.items c.pop.new.self.items c.in-Some.one (t.nodes l.t) (t.spare l.t) c.in-Some.ensures.items h.1

pub loop-one-preserved : goal.loop-one-preserved
loop-one-preserved g c =
    let t = g.T.Tree in
    let l = c.loop-one in
    let h = l.invariant.0 in
    let back : (s : Nodes) → LeadBack s l.edits.items (t.nodes l.t) (len (t.nodes l.t) + t.spare l.t)
    → LeadBack s c.pop.new.self.items (t.nodes c.back.new.t) (len (t.nodes c.back.new.t) + t.spare c.back.new.t) =
    λ s k. lead_back s l.edits.items c.pop.new.self.items c.in-Some.one (t.nodes l.t) (t.spare l.t)
    (t.nodes c.back.new.t) (t.spare c.back.new.t) c.in-Some.ensures.items c.back.ensures.nodes c.back.ensures.sum k in
    ((h.0, back h.0 h.1), λ s k. back s (l.invariant.1 s k))
