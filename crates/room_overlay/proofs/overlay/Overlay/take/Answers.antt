use Rattle.std.proofs.Common.{◌∙◌, ap, sym}
use Rattle.room_log.specs.Log.{bodies_of}
use Rattle.room_overlay.proofs.Showing.{none_beyond}
use Rattle.room_overlay.proofs.overlay.Overlay.take.Goals as goal

pub step_both-requires-clause-rest : goal.step_both-requires-clause-rest
step_both-requires-clause-rest g c = λ none.
    c.beyond-rest.ensures
    ∙ none_beyond c.self.inside.own c.args.told
    (sym c.ops.ensures.bodies ∙ ap bodies_of (sym c.as_slice.ensures) ∙ none)
