use Rattle.room_links.proofs.Maps.{strict_none}
use Rattle.room_links.proofs.links.Links.new.Goals as goal

pub invariant_of-result : goal.invariant_of-result
invariant_of-result c = strict_none c.new.result.entries c.new.ensures.empty
