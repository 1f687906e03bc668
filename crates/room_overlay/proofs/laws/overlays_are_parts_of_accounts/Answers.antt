use Rattle.room_overlay.proofs.Parts.{is_part}
use Rattle.room_overlay.proofs.laws.overlays_are_parts_of_accounts.Goals as goal

pub returns : goal.returns
returns c = is_part
