use Rattle.std.proofs.Common.{rules}
use Rattle.room_snapshot.specs.Bounds.{state_of}
use Rattle.room_replay.proofs.Valid.{taken_valid}
use Rattle.room_replay.proofs.opening.take.Goals as goal

pub returns-clause-valid : goal.returns-clause-valid
returns-clause-valid g c valid =
    taken_valid c.follow_all.result (λ s. state_of s.count s.sessions (g.T.Tree.nodes s.tree)) _ _ c.valid_after.ensures (search rules) valid c.follow_all.ensures
