-- What is left to prove of `acting::update`.
use Rattle.std.proofs.Common.{◌≡◌, true, not, sym, ap, ◌∙◌, subst}
use Rattle.std.specs.FinMap.{get}
use Rattle.room_nodes.specs.Shape.{Nodes}
use Rattle.room_nodes.specs.Steps.{without_children, holds_object, with_fields}
use Rattle.room_nodes.specs.Primitives.{CanHold, fields_in}
use Rattle.room_nodes.specs.declared.nodes.Body.TheVariants.{Update}
use Rattle.room_nodes.proofs.StepForm.{can_update}
use Rattle.room_apply.specs.Within.{FieldsOf, AreFieldsIn, cells}
use Rattle.room_apply.proofs.Creating.{object_after}
use Rattle.room_apply.proofs.Naming.{update_in}
use Rattle.room_apply.proofs.acting.update.Goals as goal

pub fields_with-requires : goal.fields_with-requires
fields_with-requires g c =
    let t = g.T.Tree.nodes c.args.t.now in
    let is = c.in_ok-cut_names.ensures.ok ∙ ap (without_children t c.args.id.now) c.as_map.ensures in
    subst (λ (u : Nodes). holds_object (get u c.args.id.now) ≡ true) (sym is)
    (object_after t (g.met.T.Tree.formed c.args.t.now) c.args.id.now c.args.fields c.requires)

pub returns-clause-within : goal.returns-clause-within
returns-clause-within g c =
    let t = g.T.Tree.nodes c.args.t.now in
    let u = g.T.Tree.nodes c.cut_names.new.t in
    let x = c.args.id.now in
    let fs = c.args.fields in
    let is = c.in_ok-cut_names.ensures.ok ∙ ap (without_children t x) c.as_map.ensures in (
      (
        subst (CanHold u x) (sym c.in_ok-all.ensures)
            (subst (λ (v : Nodes). CanHold v x (with_fields fs (fields_in (get v x)))) (sym is)
            (can_update t (g.met.T.Tree.formed c.args.t.now) x fs c.requires)),
        subst (λ (hs : FieldsOf). AreFieldsIn (cells t (Update x fs)) fs x hs (fields_in (get u x)))
            (sym c.in_ok-all.ensures)
            (update_in t x fs (fields_in (get u x)) (ap not c.requires)),
      ),
      tt,
    )
