use Rattle.std.proofs.Common.{rules}
use Rattle.room_model.specs.Server.{shut, greet}
use Rattle.room_arrivals.specs.Serving.{server_of}
use Rattle.room_arrivals.proofs.Same.{answers_so, unknown_closes, many_closes}
use Rattle.room_arrivals.proofs.greeting.greet.Goals as goal

pub returns-then-not-has_session-clause-serves : goal.returns-then-not-has_session-clause-serves
returns-then-not-has_session-clause-serves g c =
    let s = c.args.store.now in
    answers_so c.shut.result c.args.setting.now s c.args.draft.now c.shut.new.draft
    (λ x. shut x c.args.conn c.args.link.now 4401 c.in_ok-text-in-Some.text)
    (λ x. greet x c.args.conn c.args.link.now c.args.hello.now c.args.hello.now.resume)
    (unknown_closes (server_of s c.args.setting.now c.args.draft.now.links) c.args.conn c.args.link.now c.args.hello.now
    c.args.hello.now.resume c.in-Some.session c.in_ok-text-in-Some.text c.in-Some.is (search rules)
    c.in_ok-text-in-Some.ensures) (c.shut.ensures.answers s c.args.setting.now)

pub returns-then-count-limits-clause-serves : goal.returns-then-count-limits-clause-serves
returns-then-count-limits-clause-serves g c =
    let s = c.args.store.now in
    answers_so c.shut-then-count-limits.result c.args.setting.now s c.args.draft.now c.shut-then-count-limits.new.draft
    (λ x. shut x c.args.conn c.args.link.now 4406 c.in_ok-text-in-None.text)
    (λ x. greet x c.args.conn c.args.link.now c.args.hello.now c.args.hello.now.resume)
    (many_closes (server_of s c.args.setting.now c.args.draft.now.links) c.args.conn c.args.link.now c.args.hello.now
    c.args.hello.now.resume c.in_ok-text-in-None.text c.in-None.is (search rules) (search rules))
    (c.shut-then-count-limits.ensures.answers s c.args.setting.now)
