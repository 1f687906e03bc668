use Rattle.room_json.proofs.AlwaysJson.{json-insert_entry}
use Rattle.room_json.proofs.tree.Members.set.Goals as goal

pub invariant_of-self-2 : goal.invariant_of-self-2
invariant_of-self-2 c =
    rw c.in_ok-insert.ensures.entries (json-insert_entry c.self.inside.entries.entries c.args.name c.args.value c.self.invariant c.sound.ensures c.sound-2.ensures)
