use Rattle.std.proofs.Common.{sym, ap, ◌∙◌}
use Rattle.std.specs.Option.{option_copied}
use Rattle.room_foot.proofs.Climbing.{hit_itself, hit_root, hit_up, climbs}
use Rattle.room_foot.proofs.below.is_hit.Goals as goal

pub returns-then-same_id : goal.returns-then-same_id
returns-then-same_id g c =
    let t = g.T.Tree.nodes c.args.t.now in
    let there = sym c.node.ensures ∙ ap option_copied c.in-Some.is in
    sym (hit_itself t (g.met.T.Tree.formed c.args.t.now) c.args.top.now c.loop-node.at c.in-Some.node.now there (sym c.same_id.ensures ∙ c.if-same_id.true)) ∙ c.loop-node.invariant

pub returns-then-same_id-2 : goal.returns-then-same_id-2
returns-then-same_id-2 g c =
    let t = g.T.Tree.nodes c.args.t.now in
    let there = sym c.node.ensures ∙ ap option_copied c.in-Some.is in
    sym (hit_root t (g.met.T.Tree.formed c.args.t.now) c.args.top.now c.loop-node.at c.in-Some.node.now there (sym c.same_id.ensures ∙ c.if-same_id.false) (sym c.same_id-in-Some.ensures ∙ c.if-same_id-2.true)) ∙ c.loop-node.invariant

pub loop-node-smaller : goal.loop-node-smaller
loop-node-smaller g c =
    let t = g.T.Tree.nodes c.args.t.now in
    let there = sym c.node.ensures ∙ ap option_copied c.in-Some.is in
    climbs t (g.met.T.Tree.formed c.args.t.now) c.args.top.now c.loop-node.at c.in-Some.node.now there (sym c.same_id-in-Some.ensures ∙ c.if-same_id-2.false)

pub loop-node-preserved : goal.loop-node-preserved
loop-node-preserved g c =
    let t = g.T.Tree.nodes c.args.t.now in
    let there = sym c.node.ensures ∙ ap option_copied c.in-Some.is in
    hit_up t (g.met.T.Tree.formed c.args.t.now) c.args.top.now c.loop-node.at c.in-Some.node.now there (sym c.same_id-in-Some.ensures ∙ c.if-same_id-2.false) (sym c.same_id.ensures ∙ c.if-same_id.false) ∙ c.loop-node.invariant
