use Rattle.std.proofs.Common.{rules}
use Rattle.room_msg.specs.Frame.{client_frame_in}
use Rattle.room_model.specs.Server.{bad_frame, frame_at}
use Rattle.room_arrivals.specs.Serving.{server_of}
use Rattle.room_arrivals.proofs.Same.{answers_so, bad_closes}
use Rattle.room_arrivals.proofs.arriving.frame_of.Goals as goal

pub returns-in-Err-Bad-clause-serves : goal.returns-in-Err-Bad-clause-serves
returns-in-Err-Bad-clause-serves g c =
    let s = c.args.store.now in
    answers_so c.bad_frame.result c.args.setting.now s c.args.draft.now c.bad_frame.new.draft
    (λ x. bad_frame x c.args.conn c.args.link.now c.in-Err-Bad.reason)
    (λ x. frame_at x c.args.conn c.args.link.now (client_frame_in c.args.text.now))
    (bad_closes (server_of s c.args.setting.now c.args.draft.now.links) c.args.conn c.args.link.now
    (client_frame_in c.args.text.now) c.in-Err-Bad.reason (search rules))
    (c.bad_frame.ensures.answers s c.args.setting.now)
