use Rattle.std.proofs.Common.{sym, ap, ◌∙◌, subst}
use Rattle.room_ids.specs.Position.{after as after_of}
use Rattle.room_ids.proofs.Orders.{Good, good-after, is_pos-spelled}
use Rattle.room_ids.proofs.places.after.Goals as goal

pub position-requires : goal.position-requires
position-requires c = subst Good (sym (c.as_slice.ensures.value ∙ c.in_ok-made.ensures ∙ ap after_of c.as_bytes.ensures.bytes)) (good-after c.x.inside.text (is_pos-spelled c.x.inside.text c.x.invariant))
