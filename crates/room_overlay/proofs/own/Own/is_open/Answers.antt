use Rattle.room_overlay.proofs.Keeping.{open_is_seen}
use Rattle.room_overlay.proofs.own.Own.is_open.Goals as goal

pub returns : goal.returns
returns c = open_is_seen _ _ _ _ _ _ c.self.invariant.0 _ c.self.view_is
