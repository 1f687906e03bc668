use Rattle.std.proofs.Common.{◌≡◌, ◌++◌, drop}
use Rattle.std.specs.List.{flat_map}
use Rattle.room_snapshot.specs.Bounds.{AreCountedAt}
use Rattle.room_snapshot.specs.Spelling.{bytes_at}
use Rattle.room_snapshot.proofs.writing.put_each_node.Given as goal

abbrev pub invariant-loop-id : goal.invariant-loop-id
invariant-loop-id g l = record {
  bytes : l.out.items ++ flat_map (bytes_at (g.T.Tree.nodes l.t)) (drop l.id-index l.ids)
      ≡ l.initial.out.items ++ flat_map (bytes_at (g.T.Tree.nodes l.t)) l.ids;
  counted : AreCountedAt (g.T.Tree.nodes l.t) (drop l.id-index l.ids) → AreCountedAt (g.T.Tree.nodes l.t) l.ids;
}
