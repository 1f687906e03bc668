use Rattle.std.proofs.Common.{sym, ap, ◌∙◌}
use Rattle.std.proofs.lemmas.Result.{IfOk-weaker}
use Rattle.room_notice.specs.Notices.{notices_in}
use Rattle.room_notice.proofs.Changes.{told_live, told_none, live_not_void}
use Rattle.room_notice.proofs.telling.notices_of.Goals as goal

pub told-requires : goal.told-requires
told-requires g c = live_not_void (g.T.Tree.nodes c.args.t.now) (g.met.T.Tree.formed c.args.t.now) c.args.op.now.body c.in-Some.body (sym c.in_ok-body.ensures ∙ c.in-Some.is)

pub returns-in-Some : goal.returns-in-Some
returns-in-Some g c =
    IfOk-weaker c.told.result _ _ (λ ns e. e ∙ told_live (g.T.Tree.nodes c.args.t.now) (g.met.T.Tree.formed c.args.t.now) c.args.op.now.body c.in-Some.body (sym c.in_ok-body.ensures ∙ c.in-Some.is)) c.told.ensures

pub returns-in-None : goal.returns-in-None
returns-in-None g c = ap notices_in c.new.ensures ∙ told_none (g.T.Tree.nodes c.args.t.now) c.args.op.now.body (sym c.in_ok-body.ensures ∙ c.in-None.is)
