use Rattle.std.proofs.Common.{◌≡◌, ◌≤◌, drop, length}
use Rattle.room_links.specs.Links.{as_map}
use Rattle.room_links.proofs.links.copy_into.Given as goal

abbrev pub invariant-loop-at : goal.invariant-loop-at
invariant-loop-at l = (l.copy ≡ as_map (drop l.at l.map.entries)) × (l.at ≤ length l.map.entries)

abbrev pub decreases-loop-at : goal.decreases-loop-at
decreases-loop-at l = l.at
