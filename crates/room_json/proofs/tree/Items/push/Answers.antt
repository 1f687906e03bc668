use Rattle.room_json.proofs.AlwaysJson.{json-push}
use Rattle.room_json.proofs.tree.Items.push.Goals as goal

pub invariant_of-self-2 : goal.invariant_of-self-2
invariant_of-self-2 c = rw c.in_ok-push.ensures.items (json-push c.self.inside.items.items c.args.item c.self.invariant c.sound.ensures)
