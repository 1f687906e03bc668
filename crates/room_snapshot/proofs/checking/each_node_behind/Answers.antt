use Rattle.std.proofs.Common.{◌≡◌, ◌+◌, ◌∷◌, drop, true, Some, sym, ap, ◌∙◌, subst}
use Rattle.std.proofs.lemmas.List.{drop_more, drop_all}
use Rattle.std.proofs.lemmas.Result.{err_from_is_err_and}
use Rattle.room_snapshot.specs.Bounds.{is_shallow_at, is_shallow_there, AreCountedAt, IsCountedThere}
use Rattle.room_snapshot.specs.Reading.{behind_if}
use Rattle.room_snapshot.specs.Spelling.{bytes_at, bytes_there}
use Rattle.room_bytes.specs.Reading.{Fails}
use Rattle.room_snapshot.proofs.Behind.{step_is, stop_is, done_is, all_more}
use Rattle.room_snapshot.proofs.checking.each_node_behind.Goals as goal

pub returns-in_err-rest-clause-value : goal.returns-in_err-rest-clause-value
returns-in_err-rest-clause-value g c =
    let p = err_from_is_err_and c.from_residual.result c.from_residual.ensures.1 in
    let t = g.T.Tree.nodes c.args.t.now in
    let all = c.args.ids.now in
    let l = c.loop-id in
    let x = c.id-item.result in
    let here : drop l.id-index all ≡ x ∷ drop (l.id-index + 1) all = drop_more all l.id-index x c.loop-id-test.true
    ∙ ap (λ y. y ∷ drop (l.id-index + 1) all) (sym c.id-item.is) in
    let fault = c.in_err-rest.field-0.0 in
    let one : Fails fault (behind_if (is_shallow_at t x) (bytes_at t x) l.rest.now) =
    subst (λ o. Fails fault (behind_if (is_shallow_there o) (bytes_there x o) l.rest.now)) c.node.ensures
    c.in_err-rest.ensures.value in
    rw (p.1, p.2) (stop_is fault (is_shallow_at t) (bytes_at t) x (drop (l.id-index + 1) all)
    (drop l.id-index all) l.rest.now _ here one l.invariant.value)

pub loop-id-preserved : goal.loop-id-preserved
loop-id-preserved g c =
    let t = g.T.Tree.nodes c.args.t.now in
    let all = c.args.ids.now in
    let l = c.loop-id in
    let x = c.id-item.result in
    let here : drop l.id-index all ≡ x ∷ drop (l.id-index + 1) all = drop_more all l.id-index x c.loop-id-test.true
    ∙ ap (λ y. y ∷ drop (l.id-index + 1) all) (sym c.id-item.is) in
    let value = subst (λ o. behind_if (is_shallow_there o) (bytes_there x o) l.rest.now ≡ Some c.in_ok-rest.rest.now)
    c.node.ensures c.in_ok-rest.ensures.value in
    record {
      value = step_is (is_shallow_at t) (bytes_at t) x (drop (l.id-index + 1) all)
          (drop l.id-index all) l.rest.now c.in_ok-rest.rest.now _ here value l.invariant.value;
      shallow = all_more (is_shallow_at t) x (drop (l.id-index + 1) all) (drop l.id-index all) _ here
          (subst (λ o. is_shallow_there o ≡ true) c.node.ensures c.in_ok-rest.ensures.shallow) l.invariant.shallow;
      counted = λ more. l.invariant.counted
          (subst (AreCountedAt t) (sym here)
          (subst (IsCountedThere x) c.node.ensures c.in_ok-rest.ensures.counted, more));
    }

pub returns-clause-value : goal.returns-clause-value
returns-clause-value g c =
    let t = g.T.Tree.nodes c.args.t.now in
    let l = c.loop-id in
    done_is (is_shallow_at t) (bytes_at t) (drop l.id-index c.args.ids.now) l.rest.now _
    (drop_all l.id-index c.args.ids.now c.loop-id-test.false) l.invariant.value
