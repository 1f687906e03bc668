use Rattle.std.proofs.Common.{sym, ◌∙◌, subst}
use Rattle.room_ids.specs.Position.{amid}
use Rattle.room_ids.proofs.Orders.{Good, good-amid, is_pos-spelled}
use Rattle.room_ids.proofs.places.between_two.Goals as goal

pub position-requires : goal.position-requires
position-requires c =
    subst Good (sym (c.as_slice.ensures.value ∙ c.in_ok-made.ensures ∙ (λ i. amid (c.as_bytes.ensures.bytes i) (c.as_bytes-2.ensures.bytes i))))
    (good-amid c.x.inside.text c.y.inside.text (is_pos-spelled c.x.inside.text c.x.invariant) (is_pos-spelled c.y.inside.text c.y.invariant) (rw (c.x.view_is, c.y.view_is) c.requires))
