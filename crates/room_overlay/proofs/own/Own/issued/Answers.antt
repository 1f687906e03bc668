use Rattle.std.proofs.Common.{◌∙◌}
use Rattle.room_overlay.proofs.Batches.{issued_count}
use Rattle.room_overlay.proofs.own.Own.issued.Goals as goal

pub returns : goal.returns
returns c = c.len.ensures ∙ c.self.inside.lasts.ok.0 ∙ issued_count _ _ _ _ _ _ c.self.invariant.0 _ c.self.view_is
