use Rattle.std.proofs.Common.{◌≡◌, ◌+◌, ◌∷◌, drop, arith, sym, ap, ◌∙◌}
use Rattle.std.proofs.lemmas.List.{drop_more}
use Rattle.room_back.proofs.Lists.{taken_more}
use Rattle.room_back.proofs.batches.reversals.Goals as goal

pub loop-op-preserved : goal.loop-op-preserved
loop-op-preserved g c =
    let l = c.loop-op in
    let i = l.op-index in
    let all = c.args.ops.now in
    let op = c.op-item.result in
    let here : drop i all ≡ op ∷ drop (i + 1) all =
    drop_more all i op (omega arith) ∙ ap (λ o. o ∷ drop (i + 1) all) (sym c.op-item.is) in
    taken_more (g.T.Tree.nodes l.t) op (drop (i + 1) all) (drop i all) here (g.T.Tree.nodes c.step.new.t) _ _
    l.each.items c.push.new.self.items c.in_ok-step.ensures.ok c.in_ok-reverse.ensures.changes
    c.in_ok-push.ensures.items l.invariant
