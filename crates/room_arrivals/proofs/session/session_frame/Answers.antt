use Rattle.std.proofs.Common.{rules}
use Rattle.room_msg.specs.declared.reason.Reason.TheVariants as reason
use Rattle.room_model.specs.Server.{bad_frame, session_frame}
use Rattle.room_arrivals.specs.Serving.{server_of}
use Rattle.room_arrivals.proofs.Same.{answers_so, hello_closes}
use Rattle.room_arrivals.proofs.session.session_frame.Goals as goal

pub returns-then-has_hello-clause-serves : goal.returns-then-has_hello-clause-serves
returns-then-has_hello-clause-serves g c =
    let s = c.args.store.now in
    answers_so c.bad_frame.result c.args.setting.now s c.args.draft.now c.bad_frame.new.draft
    (λ x. bad_frame x c.args.conn c.args.link.now reason.Hello)
    (λ x. session_frame x c.args.conn c.args.link.now c.args.actor c.args.msgs.now)
    (hello_closes (server_of s c.args.setting.now c.args.draft.now.links) c.args.conn c.args.link.now c.args.actor
    c.args.msgs.now (search rules)) (c.bad_frame.ensures.answers s c.args.setting.now)
