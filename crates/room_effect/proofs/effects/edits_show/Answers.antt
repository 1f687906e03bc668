use Rattle.room_effect.proofs.Named.{edits}
use Rattle.room_effect.proofs.effects.edits_show.Goals as goal

pub returns : goal.returns
returns c = edits
