use Rattle.std.proofs.Common.{⊎_elim}
use Rattle.room_replay.proofs.Kept.{void_same, kept_same, moved_same}
use Rattle.room_replay.proofs.stepping.is_settled.Goals as goal

pub returns-in-Moved : goal.returns-in-Moved
returns-in-Moved g c = moved_same _ _ _ _ _ c.in_ok-key.ensures c.in-Moved.is c.is_at.ensures

pub returns-in-Same : goal.returns-in-Same
returns-in-Same g c = ⊎_elim (kept_same _ _ _ c.in_ok-key.ensures) (void_same _ _ _ c.in_ok-key.ensures) c.in-Same.is
