use Rattle.room_items.proofs.SoundItems.{items_sound, items_shallow}
use Rattle.room_items.proofs.laws.items_are_sound.Goals as goal

pub returns-clause-sound : goal.returns-clause-sound
returns-clause-sound c = items_sound

pub returns-clause-shallow : goal.returns-clause-shallow
returns-clause-shallow c = items_shallow
