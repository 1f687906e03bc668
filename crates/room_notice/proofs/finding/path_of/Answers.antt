use Rattle.std.proofs.Common.{◌∙◌}
use Rattle.std.proofs.lemmas.Result.{IfOk-weaker}
use Rattle.room_notice.proofs.Paths.{path_whole}
use Rattle.room_notice.proofs.finding.path_of.Goals as goal

pub returns : goal.returns
returns g c = IfOk-weaker c.path_to.result _ _ (λ p e. e ∙ path_whole (g.T.Tree.nodes c.args.t.now) c.args.id.now) c.path_to.ensures
