use Rattle.std.proofs.Common.{IsSome, refl, subst, sym}
use Rattle.std.proofs.lemmas.Result.{IfOk-weaker}
use Rattle.room_model.specs.Lines as model
use Rattle.room_props.specs.Edits.{edit_of}
use Rattle.room_slots.proofs.Called.{acted_in}
use Rattle.room_slots.proofs.slots.Slots.edit.Goals as goal

pub returns : goal.returns
returns g c =
    let q = c.edit.new.self in
    IfOk-weaker c.edit.result _ _ (λ t acts. acted_in c.self.inside.slots.entries _ _ c.args.line c.args.c
    (model.Edits (edit_of c.args.e.now))
    c.in-Some.slot.now q t c.self.view_is (sym c.in-Some.ensures.value)
    ((c.get_mut.follows.holds q).3 (subst IsSome c.in-Some.ensures.value refl)).0 acts) c.edit.ensures
