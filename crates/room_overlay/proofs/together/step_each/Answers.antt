use Rattle.std.proofs.Common.{◌≡◌, ◌+◌, ◌∷◌, drop, length, arith, ap, sym, ◌∙◌}
use Rattle.std.proofs.lemmas.List.{drop_more}
use Rattle.room_overlay.proofs.Leading.{fold_more, lead_step}
use Rattle.room_overlay.proofs.together.step_each.Goals as goal

pub loop-op-preserved : goal.loop-op-preserved
loop-op-preserved g c =
    let t = g.T.Tree in
    let l = c.loop-op in
    let i = l.op-index in
    let all = c.args.ops.now in
    let op = c.op-item.result in
    let here : drop i all ≡ op ∷ drop (i + 1) all =
    drop_more all i op (omega arith) ∙ ap (λ o. o ∷ drop (i + 1) all) (sym c.op-item.is) in (
      fold_more (drop i all) (drop (i + 1) all) op here (t.nodes l.t) (t.nodes c.step.new.t) _ c.in_ok-step.ensures.ok
          l.invariant.0,
      omega (arith, ap length here, c.keep.ensures.len, c.keep.ensures.capacity, l.invariant.1),
      rw c.keep.ensures.items
          (lead_step (t.nodes c.args.t.now) l.edits.items (t.nodes l.t) (t.spare l.t) op.body (t.nodes c.step.new.t)
          c.in_ok-step.field-0 (t.spare c.step.new.t) l.invariant.2 c.in_ok-step.ensures.edits
          c.in_ok-step.ensures.spare c.step.ensures.sum),
    )
