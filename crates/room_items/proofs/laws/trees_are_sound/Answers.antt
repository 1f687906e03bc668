use Rattle.room_items.proofs.SoundTrees.{trees_formed, trees_sound, trees_shallow}
use Rattle.room_items.proofs.laws.trees_are_sound.Goals as goal

pub returns-clause-formed : goal.returns-clause-formed
returns-clause-formed c = trees_formed

pub returns-clause-sound : goal.returns-clause-sound
returns-clause-sound c = trees_sound

pub returns-clause-shallow : goal.returns-clause-shallow
returns-clause-shallow c = trees_shallow
