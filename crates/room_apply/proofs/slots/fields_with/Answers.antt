-- What is left to prove of `slots::fields_with`.
use Rattle.std.proofs.Common.{rules, ap, ◌∙◌, ◌≡◌}
use Rattle.std.specs.FinMap.{get}
use Rattle.room_nodes.specs.Steps.{with_fields}
use Rattle.room_nodes.specs.Primitives.{fields_in}
use Rattle.room_apply.proofs.Removing.{merged_fields}
use Rattle.room_apply.proofs.slots.fields_with.Goals as goal

pub returns : goal.returns
returns g c =
    let is : c.in_ok-all-in-Object.all ≡ fields_in (get (g.T.Tree.nodes c.args.t.now) c.args.id.now) = search rules in
    c.in_ok-merge-in-Object.ensures.ok ∙ merged_fields c.args.patch.now _ ∙ ap (with_fields c.args.patch.now) is
