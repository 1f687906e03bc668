use Rattle.std.proofs.Common.{rules}
use Rattle.room_msg.specs.declared.reason.Reason.TheVariants as reason
use Rattle.room_model.specs.Server.{bad_frame, hello, only_hello}
use Rattle.room_arrivals.specs.Serving.{server_of}
use Rattle.room_arrivals.proofs.Same.{answers_so, no_hello_closes, other_room_closes}
use Rattle.room_arrivals.proofs.greeting.greeted.Goals as goal

pub returns-in_default-clause-serves : goal.returns-in_default-clause-serves
returns-in_default-clause-serves g c =
    let s = c.args.store.now in
    answers_so c.bad_frame.result c.args.setting.now s c.args.draft.now c.bad_frame.new.draft
    (λ x. bad_frame x c.args.conn c.args.link.now reason.Hello)
    (λ x. hello x c.args.conn c.args.link.now (only_hello c.args.msgs.now))
    (no_hello_closes (server_of s c.args.setting.now c.args.draft.now.links) c.args.conn c.args.link.now
    (only_hello c.args.msgs.now) (search rules)) (c.bad_frame.ensures.answers s c.args.setting.now)

pub returns-then-ne-clause-serves : goal.returns-then-ne-clause-serves
returns-then-ne-clause-serves g c =
    let s = c.args.store.now in
    answers_so c.bad_frame-then-ne.result c.args.setting.now s c.args.draft.now c.bad_frame-then-ne.new.draft
    (λ x. bad_frame x c.args.conn c.args.link.now reason.Room)
    (λ x. hello x c.args.conn c.args.link.now (only_hello c.args.msgs.now))
    (other_room_closes (server_of s c.args.setting.now c.args.draft.now.links) c.args.conn c.args.link.now
    (only_hello c.args.msgs.now) c.in-Some.hello.now (search rules) (search rules))
    (c.bad_frame-then-ne.ensures.answers s c.args.setting.now)
