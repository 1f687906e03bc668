use Rattle.std.proofs.Common.{ℕ, List, ◌-◌, ◌++◌, [], ◌∷◌, flat_map, arith, sym, ap, ◌∙◌, append_assoc}
use Rattle.std.proofs.lemmas.Result.{on_ok_weaker}
use Rattle.room_ids.specs.declared.ids.NodeId.{NodeId}
use Rattle.room_nodes.specs.Shape.{children}
use Rattle.room_nodes.specs.Preorder.{preorder_within}
use Rattle.room_items.proofs.Levels.{within_more}
use Rattle.room_items.proofs.order.+push.Goals as goal

pub push_node-returns : goal.push_node-returns
push_node-returns g t c =
    let tree = g.T.Tree.nodes c.args.t.now in
    let n = c.args.levels in
    let below = c.as_slice.ensures ∙ c.in_ok-below.ensures in
    let each : List (List ℕ × NodeId) → List NodeId = λ kids. flat_map (λ e. preorder_within (n - 1) tree e.1) kids in
    on_ok_weaker c.push_each.result (λ e.
    e ∙ ap (λ kids. c.push.new.self ++ each kids) below
    ∙ ap (λ ids. ids ++ each (children tree c.args.id.now)) c.in_ok-push.ensures.ok
    ∙ append_assoc c.args.ids.now (c.args.id.now ∷ []) (each (children tree c.args.id.now))
    ∙ ap (λ ids. c.args.ids.now ++ ids) (sym (within_more n tree c.args.id.now (λ z. omega (arith, c.if-levels-eq0.false, z))))) c.push_each.ensures
