use Rattle.std.proofs.Common.{◌≡◌, ◌+◌, ◌∷◌, drop, map, sym, ap, ◌∙◌, subst}
use Rattle.std.proofs.lemmas.List.{drop_more, drop_all}
use Rattle.std.proofs.lemmas.Result.{err_from_is_err_and}
use Rattle.room_log.specs.Follows.{AreValidSessions}
use Rattle.room_snapshot.specs.Bounds.{kept, is_session, AreNamed}
use Rattle.room_snapshot.specs.Spelling.{session_bytes}
use Rattle.room_snapshot.proofs.Behind.{step_is, stop_is, done_is}
use Rattle.room_snapshot.proofs.checking.each_session_behind.Goals as goal

pub returns-in_err-rest-clause-value : goal.returns-in_err-rest-clause-value
returns-in_err-rest-clause-value c =
    let p = err_from_is_err_and c.from_residual.result c.from_residual.ensures.1 in
    let all = c.args.sessions.now in
    let l = c.loop-session in
    let x = c.session-item.result in
    let here : drop l.session-index all ≡ x ∷ drop (l.session-index + 1) all =
    drop_more all l.session-index x c.loop-session-test.true
    ∙ ap (λ y. y ∷ drop (l.session-index + 1) all) (sym c.session-item.is) in
    rw (p.1, p.2) (stop_is c.in_err-rest.field-0.0 (is_session c.args.f) (session_bytes c.args.f) (kept x)
    (map kept (drop (l.session-index + 1) all)) (map kept (drop l.session-index all)) l.rest.now _
    (ap (map kept) here) c.in_err-rest.ensures.value l.invariant.value)

pub loop-session-preserved : goal.loop-session-preserved
loop-session-preserved c =
    let all = c.args.sessions.now in
    let l = c.loop-session in
    let x = c.session-item.result in
    let here : drop l.session-index all ≡ x ∷ drop (l.session-index + 1) all =
    drop_more all l.session-index x c.loop-session-test.true
    ∙ ap (λ y. y ∷ drop (l.session-index + 1) all) (sym c.session-item.is) in
    let left : map kept (drop l.session-index all) ≡ kept x ∷ map kept (drop (l.session-index + 1) all) =
    ap (map kept) here in
    record {
      value = step_is (is_session c.args.f) (session_bytes c.args.f) (kept x)
          (map kept (drop (l.session-index + 1) all))
          (map kept (drop l.session-index all)) l.rest.now c.in_ok-rest.rest.now _
          left c.in_ok-rest.ensures.value l.invariant.value;
      valid = λ more. l.invariant.valid (subst AreValidSessions (sym left) (c.in_ok-rest.ensures.valid, more));
      named = λ more. l.invariant.named (subst (AreNamed c.args.f) (sym left) (c.in_ok-rest.ensures.named, more));
    }

pub returns-clause-value : goal.returns-clause-value
returns-clause-value c =
    let l = c.loop-session in
    done_is (is_session c.args.f) (session_bytes c.args.f)
    (map kept (drop l.session-index c.args.sessions.now)) l.rest.now _
    (ap (map kept) (drop_all l.session-index c.args.sessions.now c.loop-session-test.false)) l.invariant.value
