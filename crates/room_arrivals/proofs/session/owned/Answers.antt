use Rattle.std.proofs.Common.{rules}
use Rattle.room_model.specs.Server.{shut, owned, foreign_in, all_ops_in}
use Rattle.room_arrivals.specs.Serving.{server_of}
use Rattle.room_arrivals.proofs.Same.{answers_so, foreign_closes}
use Rattle.room_arrivals.proofs.session.owned.Goals as goal

pub returns-in-Some-clause-serves : goal.returns-in-Some-clause-serves
returns-in-Some-clause-serves g c =
    let s = c.args.store.now in
    answers_so c.shut.result c.args.setting.now s c.args.draft.now c.shut.new.draft
    (λ x. shut x c.args.conn c.args.link.now 4404 c.in_ok-text-in-Some.text)
    (λ x. owned x c.args.conn c.args.link.now c.args.actor c.args.msgs.now
    (foreign_in c.args.actor (all_ops_in c.args.msgs.now)))
    (foreign_closes (server_of s c.args.setting.now c.args.draft.now.links) c.args.conn c.args.link.now c.args.actor
    c.args.msgs.now (foreign_in c.args.actor (all_ops_in c.args.msgs.now)) c.in-Some.got c.in_ok-text-in-Some.text
    (search rules) (search rules)) (c.shut.ensures.answers s c.args.setting.now)
