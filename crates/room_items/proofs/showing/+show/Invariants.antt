use Rattle.std.proofs.Common.{◌≡◌, ◌+◌, ◌*◌, ◌++◌, map, drop}
use Rattle.room_json.specs.View.{members_view}
use Rattle.room_items.specs.View.{view_within}
use Rattle.room_items.proofs.showing.+show.Given as goal

abbrev pub decreases-view_node : goal.decreases-view_node
decreases-view_node g l = 2 * l.levels

abbrev pub decreases-views : goal.decreases-views
decreases-views g l = 2 * l.levels + 1

abbrev pub invariant-views-loop-kid : goal.invariant-views-loop-kid
invariant-views-loop-kid g l =
    members_view l.shown ++ map (λ e. (e.0, view_within l.levels (g.T.Tree.nodes l.t) e.1)) (drop l.kid-index l.below)
    ≡ map (λ e. (e.0, view_within l.levels (g.T.Tree.nodes l.t) e.1)) l.below
