use Rattle.std.proofs.Common.{◌≡◌, map, true}
use Rattle.std.specs.Vec.Iter.{into_iter_items}
use Rattle.room_bytes.specs.Bounds.{logged, all_written}
use Rattle.room_snapshot.specs.Bounds.{state_of}
use Rattle.room_replay.specs.Files.{followed}
use Rattle.room_replay.proofs.opening.follow_all.Given as goal

abbrev pub invariant-loop-entry : goal.invariant-loop-entry
invariant-loop-entry g l = record {
  left : followed (state_of l.state.count l.state.sessions (g.T.Tree.nodes l.state.tree)) (map logged (into_iter_items l.entry-iterator))
      ≡ followed (state_of l.fn.state.count l.fn.state.sessions (g.T.Tree.nodes l.fn.state.tree)) (map logged l.fn.entries);
  written : all_written (map logged (into_iter_items l.entry-iterator)) ≡ true;
}
