use Rattle.room_links.proofs.Maps.{strict_set}
use Rattle.room_links.proofs.links.Links.set.Goals as goal

pub invariant_of-self-2 : goal.invariant_of-self-2
invariant_of-self-2 c =
    strict_set c.insert_sorted.result c.self.inside.map.entries c.insert_sorted.new.self.entries c.self.invariant
    c.insert_sorted.ensures.sorted c.insert_sorted.ensures.err c.insert_sorted.ensures.unique
