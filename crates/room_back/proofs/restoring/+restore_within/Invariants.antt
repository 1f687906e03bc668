use Rattle.std.proofs.Common.{◌≡◌, ◌-◌, ◌++◌, length}
use Rattle.std.specs.Option.{option_copied}
use Rattle.room_nodes.specs.Shape.{children}
use Rattle.room_back.proofs.Lists.{below_restored}
use Rattle.room_back.proofs.Walking.{rest_of}
use Rattle.room_back.proofs.restoring.+restore_within.Given as goal

abbrev pub decreases-restore_within : goal.decreases-restore_within
decreases-restore_within g l = l.levels

-- what is below the children that are left comes behind
abbrev pub invariant-loop-child : goal.invariant-loop-child
invariant-loop-child g l =
    let t = g.T.Tree.nodes l.t in
    l.back ++ below_restored (l.levels - 1) t (rest_of (option_copied l.key) (children t l.id))
    ≡ l.initial.back ++ below_restored (l.levels - 1) t (children t l.id)

abbrev pub decreases-loop-child : goal.decreases-loop-child
decreases-loop-child g l = length (rest_of (option_copied l.key) (children (g.T.Tree.nodes l.t) l.id))
