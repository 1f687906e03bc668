use Rattle.std.proofs.Common.{◌≡◌, ◌+◌, length}
use Rattle.std.specs.Option.{option_copied}
use Rattle.room_nodes.specs.Shape.{children}
use Rattle.room_notice.specs.Ranks.{rank}
use Rattle.room_notice.proofs.Ranking.{behind, left}
use Rattle.room_notice.proofs.finding.rank.Given as goal

-- what is counted and what is left to count
abbrev pub invariant-loop-child : goal.invariant-loop-child
invariant-loop-child g l =
    l.count + left (g.T.Tree.nodes l.t) l.parent l.key (option_copied l.skipped) (option_copied l.last)
    ≡ rank (g.T.Tree.nodes l.t) l.parent l.key (option_copied l.skipped)

abbrev pub decreases-loop-child : goal.decreases-loop-child
decreases-loop-child g l = length (behind (option_copied l.last) (children (g.T.Tree.nodes l.t) l.parent))
