use Rattle.room_props.proofs.AlwaysSound.{sound-insert_entry}
use Rattle.room_props.proofs.live.Parts.set.Goals as goal

pub invariant_of-self-2 : goal.invariant_of-self-2
invariant_of-self-2 c = rw c.in_ok-insert.ensures.entries (sound-insert_entry c.self.inside.entries.entries c.args.name c.args.part c.self.invariant c.sound.ensures c.sound-2.ensures)
