use Rattle.std.proofs.Common.{sym, ap, ◌∙◌, subst}
use Rattle.room_ids.specs.Position.{above as above_of}
use Rattle.room_ids.proofs.Orders.{Good, good-above, is_pos-spelled}
use Rattle.room_ids.proofs.places.between_last.Goals as goal

pub position-requires : goal.position-requires
position-requires c = subst Good (sym (c.as_slice.ensures.value ∙ c.in_ok-made.ensures ∙ ap above_of c.as_bytes.ensures.bytes)) (good-above c.x.inside.text (is_pos-spelled c.x.inside.text c.x.invariant))
