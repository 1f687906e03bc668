use Rattle.std.proofs.Common.{rules, ◌≡◌, false, is_some, sym, ap, ◌∙◌}
use Rattle.std.specs.FinMap.{get}
use Rattle.room_nodes.specs.Steps.{without}
use Rattle.room_tree.proofs.Placing.{if_ok, create_settled}
use Rattle.room_tree.proofs.settling.settle_create.Goals as goal

pub returns : goal.returns
returns g c =
    let t = g.T.Tree.nodes c.args.t.now in
    let fresh : is_some (get t c.args.node.now) ≡ false = search rules in
    if_ok c.place.result (λ s e kind. e ∙ create_settled t c.args.node.now c.args.parent.now c.args.key.now c.args.replaces.now _
    (ap (without t) c.as_ref.ensures.value ∙ c.replaced_child-replaced.ensures.without) fresh (sym c.if-not-has_room_at.ensures) (sym c.if-not-is_list_at.ensures) kind) c.place.ensures
