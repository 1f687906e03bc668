use Rattle.std.proofs.Common.{◌≤◌, ◌-◌, length}
use Rattle.std.specs.Option.{option_copied}
use Rattle.room_nodes.specs.Shape.{children}
use Rattle.room_list.specs.Listing.{end}
use Rattle.room_list.proofs.Walked.{Walk}
use Rattle.room_list.proofs.walking.look.Given as goal

abbrev pub invariant-loop-child : goal.invariant-loop-child
invariant-loop-child g l =
    (l.count ≤ end)
    × Walk (g.T.Tree.nodes l.t) l.list (option_copied l.key) l.index l.gap l.count l.item (option_copied l.left) (option_copied l.right)

abbrev pub decreases-loop-child : goal.decreases-loop-child
decreases-loop-child g l = length (children (g.T.Tree.nodes l.t) l.list) - l.count
