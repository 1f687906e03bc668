use Rattle.std.proofs.Common.{◌∙◌, sym, ap}
use Rattle.std.specs.Prelude.{option_map}
use Rattle.room_access.specs.View.{decision_of}
use Rattle.room_model.specs.Access.{barred}
use Rattle.room_model.specs.Server.{shut, admit}
use Rattle.room_arrivals.specs.Serving.{server_of}
use Rattle.room_arrivals.proofs.Same.{answers_so, bars}
use Rattle.room_arrivals.proofs.greeting.admit.Goals as goal

pub returns-in_ok-text-in-Some-clause-serves : goal.returns-in_ok-text-in-Some-clause-serves
returns-in_ok-text-in-Some-clause-serves g c =
    let s = c.args.store.now in
    let decision = option_map decision_of c.args.decision in
    answers_so c.shut.result c.args.setting.now s c.args.draft.now c.shut.new.draft
    (λ x. shut x c.args.conn c.args.link.now 4403 c.in_ok-text-in-Some.text)
    (λ x. admit x c.args.conn c.args.link.now c.args.hello.now decision)
    (bars (server_of s c.args.setting.now c.args.draft.now.links) c.args.conn c.args.link.now c.args.hello.now decision
    (decision_of c.in-Some.bar) c.in_ok-text-in-Some.text
    (ap (barred decision) (sym c.requires.alone) ∙ sym c.barred.ensures
    ∙ ap (option_map decision_of) c.in-Some.is) c.in_ok-text-in-Some.ensures)
    (c.shut.ensures.answers s c.args.setting.now)
