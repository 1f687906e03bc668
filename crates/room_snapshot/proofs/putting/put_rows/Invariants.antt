use Rattle.std.proofs.Common.{◌≡◌, ◌≤◌, length, map}
use Rattle.std.specs.Vec.Iter.{into_iter_items}
use Rattle.room_snapshot.specs.Bounds.{rowed}
use Rattle.room_snapshot.specs.Reading.{put_nodes}
use Rattle.room_snapshot.proofs.putting.put_rows.Given as goal

abbrev pub invariant-loop-row : goal.invariant-loop-row
invariant-loop-row g l =
    (put_nodes (g.T.Tree.nodes l.t) (map rowed (into_iter_items l.row-iterator))
    ≡ put_nodes (g.T.Tree.nodes l.fn.t) (map rowed l.fn.rows))
    × (length (into_iter_items l.row-iterator) ≤ g.T.Tree.spare l.t)
