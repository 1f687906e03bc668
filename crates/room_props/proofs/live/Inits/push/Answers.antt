use Rattle.room_props.proofs.AlwaysSound.{sound-push}
use Rattle.room_props.proofs.live.Inits.push.Goals as goal

pub invariant_of-self-2 : goal.invariant_of-self-2
invariant_of-self-2 c = rw c.in_ok-push.ensures.items (sound-push c.self.inside.items.items c.args.item c.self.invariant c.sound.ensures)
