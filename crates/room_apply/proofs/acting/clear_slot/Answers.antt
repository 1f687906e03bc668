-- What is left to prove of `acting::clear_slot`.
use Rattle.std.proofs.Common.{[], ◌∷◌, Option, Some, None, true, false, refl, sym, ap, ◌∙◌, subst}
use Rattle.std.specs.FinMap.{get}
use Rattle.room_json.specs.Value.{nothing}
use Rattle.room_nodes.specs.Primitives.{CanHold, fields_in}
use Rattle.room_nodes.specs.Shape.{Nodes}
use Rattle.room_nodes.specs.Steps.{changed, on_fields, without_field}
use Rattle.room_nodes.specs.declared.turns.Turn.{Turn}
use Rattle.room_nodes.proofs.StepForm.{can_clear}
use Rattle.room_apply.specs.Edits.{some_turn, turned_all}
use Rattle.room_apply.specs.Ways.{object_in}
use Rattle.room_apply.specs.Within.{FieldsOf, AreFieldsIn}
use Rattle.room_apply.proofs.Clearing.{nothing_cleared, owner_left, slot_here, some_cleared}
use Rattle.room_apply.proofs.Naming.{cleared_in}
use Rattle.room_apply.proofs.acting.clear_slot.Goals as goal

pub returns-in_ok-names-in-Some-clause-within : goal.returns-in_ok-names-in-Some-clause-within
returns-in_ok-names-in-Some-clause-within g c = λ cs node slot.
    let t = g.T.Tree.nodes c.cut_at.new.t in
    let x = c.args.id.now in
    let k = c.args.key.now in
    let gs = fields_in (get t x) in
    let h = some_cleared k c.in-Some.fields (get t x) (sym c.in-Some.is ∙ c.in_ok-fields.ensures) in (
      (
        subst (CanHold t x) (sym h.1) (can_clear t (g.met.T.Tree.formed c.cut_at.new.t) x k h.0),
        subst (λ (ns : FieldsOf). AreFieldsIn cs ns x c.in-Some.fields gs) (sym c.in_ok-names-in-Some.ensures)
            (subst (λ (fs : FieldsOf). AreFieldsIn cs ((k, nothing) ∷ []) x fs gs) (sym h.1)
            (cleared_in cs x k nothing gs node slot)),
      ),
      tt,
    )

pub returns-in-None-clause-ok : goal.returns-in-None-clause-ok
returns-in-None-clause-ok g c =
    let t = g.T.Tree.nodes c.cut_at.new.t in
    ap (λ (o : Option Turn). turned_all t (some_turn o)) c.no_fields.ensures
    ∙ nothing_cleared t c.args.id.now c.args.key.now (sym c.in-None.is ∙ c.in_ok-fields.ensures)
    ∙ ap (λ (v : Nodes). changed v c.args.id.now (on_fields (without_field c.args.key.now))) c.in_ok-cut_at.ensures.ok

pub returns-in_ok-names-in-Some-clause-object : goal.returns-in_ok-names-in-Some-clause-object
returns-in_ok-names-in-Some-clause-object g c =
    let t = g.T.Tree.nodes c.args.t.now in
    let u = g.T.Tree.nodes c.cut_at.new.t in
    owner_left t u c.args.id.now c.args.key.now (Some c.in-Some.fields) true
    (slot_here t (g.met.T.Tree.formed c.args.t.now) c.args.id.now c.args.key.now u c.in_ok-cut_at.ensures.ok)
    (sym c.in-Some.is ∙ c.in_ok-fields.ensures) refl

pub returns-in-None-clause-object : goal.returns-in-None-clause-object
returns-in-None-clause-object g c =
    let t = g.T.Tree.nodes c.args.t.now in
    let u = g.T.Tree.nodes c.cut_at.new.t in
    ap object_in c.no_fields.ensures
    ∙ owner_left t u c.args.id.now c.args.key.now None false
    (slot_here t (g.met.T.Tree.formed c.args.t.now) c.args.id.now c.args.key.now u c.in_ok-cut_at.ensures.ok)
    (sym c.in-None.is ∙ c.in_ok-fields.ensures) refl
