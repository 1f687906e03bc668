use Rattle.std.proofs.Common.{◌≡◌, ◌∷◌, ◌∙◌, ◌+◌, drop, ap, sym, arith}
use Rattle.std.proofs.lemmas.List.{drop_more}
use Rattle.std.proofs.lemmas.Result.{err_from_is_err_and}
use Rattle.room_client.proofs.Receipts.{short, so_far_more}
use Rattle.room_client.proofs.client.Client.receive_all.Goals as goal

pub returns-in_err-add-clause-err : goal.returns-in_err-add-clause-err
returns-in_err-add-clause-err g c =
    let i = c.loop-msg.msg-index in
    let ms = c.args.msgs.now in
    let m = c.msg-item.result in
    let here : drop i ms ≡ m ∷ drop (i + 1) ms =
    drop_more ms i m (omega (arith, c.loop-msg-test.true)) ∙ ap (λ y. y ∷ drop (i + 1) ms) (sym c.msg-item.is) in
    let p = err_from_is_err_and c.from_residual-in_err-add.result c.from_residual-in_err-add.ensures.1 in
    short c.from_residual-in_err-add.result p.0 c.args.self.now ms c.loop-msg.so_far c.loop-msg.self m (drop
    (i + 1) ms) (drop i ms)
    c.receive.new.self c.in_ok-more.more p.1 p.2 here c.loop-msg.invariant c.in_ok-more.ensures.ok

pub loop-msg-preserved : goal.loop-msg-preserved
loop-msg-preserved g c =
    let i = c.loop-msg.msg-index in
    let ms = c.args.msgs.now in
    let m = c.msg-item.result in
    let here : drop i ms ≡ m ∷ drop (i + 1) ms =
    drop_more ms i m (omega (arith, c.loop-msg-test.true)) ∙ ap (λ y. y ∷ drop (i + 1) ms) (sym c.msg-item.is) in
    so_far_more c.args.self.now ms c.loop-msg.so_far c.loop-msg.self m (drop (i + 1) ms) (drop i ms) c.receive.new.self
    c.in_ok-more.more c.add.new.so_far here c.loop-msg.invariant c.in_ok-more.ensures.ok c.in_ok-add.ensures
