use Rattle.std.proofs.Common.{◌≡◌, ◌+◌, ◌∷◌, ◌∙◌, drop, arith, ap, sym}
use Rattle.std.proofs.lemmas.List.{drop_more}
use Rattle.room_nodes.specs.Cells.{cells_all, writes_all}
use Rattle.room_log.specs.Log.{bodies_of}
use Rattle.room_overlay.proofs.Gathering.{cells_more, written_more}
use Rattle.room_overlay.proofs.touching.touched_by.Goals as goal

pub loop-op-preserved : goal.loop-op-preserved
loop-op-preserved g c =
    let t = g.T.Tree.nodes in
    let l = c.loop-op in
    let i = l.op-index in
    let all = c.args.ops.now in
    let op = c.op-item.result in
    let here : drop i all ≡ op ∷ drop (i + 1) all =
    drop_more all i op (omega arith) ∙ ap (λ o. o ∷ drop (i + 1) all) (sym c.op-item.is) in (
      written_more (drop i all) (drop (i + 1) all) op here (t l.copy) (t c.touch.new.t) c.in_ok-touch.ensures.tree
          l.touched.written c.touch.new.touched.written (writes_all (t c.args.t.now) (bodies_of all))
          c.in_ok-touch.ensures.written l.invariant.0,
      cells_more (drop i all) (drop (i + 1) all) op here (t l.copy) (t c.touch.new.t) c.in_ok-touch.ensures.tree
          l.touched.all c.touch.new.touched.all (cells_all (t c.args.t.now) (bodies_of all))
          c.in_ok-touch.ensures.all l.invariant.1,
    )
