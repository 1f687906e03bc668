use Rattle.std.proofs.Common.{◌≡◌, ◌<◌, ◌^◌, ◌+◌, drop}
use Rattle.room_log.specs.Follows.{IsValidState}
use Rattle.room_snapshot.specs.Bounds.{state_of}
use Rattle.room_journal.specs.Records.{size_of}
use Rattle.room_replay.specs.Files.{replayed}
use Rattle.room_replay.proofs.opening.replay.Given as goal

abbrev pub invariant-loop-body : goal.invariant-loop-body
invariant-loop-body g l = record {
  left : replayed l.file l.f l.at (state_of l.state.count l.state.sessions (g.T.Tree.nodes l.state.tree)) (drop l.body-index l.bodies) l.broken
      ≡ replayed l.file l.f l.start (state_of l.fn.state.count l.fn.state.sessions (g.T.Tree.nodes l.fn.state.tree)) l.bodies l.broken;
  sized : l.at + size_of (drop l.body-index l.bodies) ≡ l.start + size_of l.bodies;
  valid : IsValidState (state_of l.state.count l.state.sessions (g.T.Tree.nodes l.state.tree));
  small : l.at < 2 ^ 62;
}
