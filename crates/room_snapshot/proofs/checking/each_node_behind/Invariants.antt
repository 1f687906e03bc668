use Rattle.std.proofs.Common.{◌≡◌, drop}
use Rattle.std.specs.List.{flat_map}
use Rattle.room_snapshot.specs.Bounds.{all_by, is_shallow_at, AreCountedAt}
use Rattle.room_snapshot.specs.Reading.{behind_if}
use Rattle.room_snapshot.specs.Spelling.{bytes_at}
use Rattle.room_snapshot.proofs.checking.each_node_behind.Given as goal

abbrev pub invariant-loop-id : goal.invariant-loop-id
invariant-loop-id g l = record {
  value : behind_if (all_by (is_shallow_at (g.T.Tree.nodes l.t)) (drop l.id-index l.ids))
      (flat_map (bytes_at (g.T.Tree.nodes l.t)) (drop l.id-index l.ids)) l.rest
      ≡ behind_if (all_by (is_shallow_at (g.T.Tree.nodes l.t)) l.ids)
      (flat_map (bytes_at (g.T.Tree.nodes l.t)) l.ids) l.bytes;
  shallow : all_by (is_shallow_at (g.T.Tree.nodes l.t)) (drop l.id-index l.ids)
      ≡ all_by (is_shallow_at (g.T.Tree.nodes l.t)) l.ids;
  counted : AreCountedAt (g.T.Tree.nodes l.t) (drop l.id-index l.ids) → AreCountedAt (g.T.Tree.nodes l.t) l.ids;
}
