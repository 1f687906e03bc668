use Rattle.std.proofs.Common.{◌≡◌, ◌++◌, drop}
use Rattle.room_nodes.specs.Cells.{cells_all, writes_all}
use Rattle.room_log.specs.Log.{bodies_of}
use Rattle.room_overlay.proofs.touching.touched_by.Given as goal

-- what is left is touched on the copy
abbrev pub invariant-loop-op : goal.invariant-loop-op
invariant-loop-op g l = let t = g.T.Tree in
    (l.touched.written ++ writes_all (t.nodes l.copy) (bodies_of (drop l.op-index l.ops))
    ≡ writes_all (t.nodes l.t) (bodies_of l.ops))
    × (l.touched.all ++ cells_all (t.nodes l.copy) (bodies_of (drop l.op-index l.ops))
    ≡ cells_all (t.nodes l.t) (bodies_of l.ops))
