use Rattle.std.proofs.Common.{sym, ap, ◌∙◌, subst}
use Rattle.room_ids.specs.Position.{before as before_of}
use Rattle.room_ids.proofs.Orders.{Good, is_pos-spelled}
use Rattle.room_ids.proofs.Makings.{good-before, is_pos-some}
use Rattle.room_ids.proofs.places.before.Goals as goal

pub position-requires : goal.position-requires
position-requires c = subst Good (sym (c.as_slice.ensures.value ∙ c.in_ok-made.ensures ∙ ap before_of c.as_bytes.ensures.bytes)) (good-before c.x.inside.text (is_pos-spelled c.x.inside.text c.x.invariant) (is_pos-some c.x.inside.text c.x.invariant))
