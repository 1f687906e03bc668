use Rattle.std.proofs.Common.{sym, ◌∙◌}
use Rattle.room_notice.proofs.Ranking.{index_rank}
use Rattle.room_notice.proofs.finding.index_of.Goals as goal

pub returns : goal.returns
returns g c =
    c.rank.ensures ∙ sym (index_rank (g.T.Tree.nodes c.args.t.now) (g.met.T.Tree.formed c.args.t.now) c.args.id.now c.args.node.now c.requires.there c.requires.made)
