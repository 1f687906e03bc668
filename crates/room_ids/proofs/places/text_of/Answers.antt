use Rattle.room_ids.proofs.Makings.{utf8}
use Rattle.room_ids.proofs.places.text_of.Goals as goal

pub unreachable-requires : goal.unreachable-requires
unreachable-requires c = c.in-Err.ensures.cases.0 (utf8 c.args.made.now c.requires)
