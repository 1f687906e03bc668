use Rattle.std.proofs.Common.{ℕ, List, ◌-◌, ◌++◌, [], ◌∷◌, flat_map, map, arith, sym, ap, ◌∙◌, append_assoc}
use Rattle.std.proofs.lemmas.Result.{on_ok_weaker}
use Rattle.room_ids.specs.declared.ids.NodeId.{NodeId}
use Rattle.room_nodes.specs.Shape.{children}
use Rattle.room_nodes.specs.Preorder.{preorder_within}
use Rattle.room_items.proofs.Levels.{within_more}
use Rattle.room_snapshot.proofs.Walking.{flat_of}
use Rattle.room_snapshot.proofs.order.+push.Goals as goal

pub push_node-returns : goal.push_node-returns
push_node-returns g t c =
    let tree = g.T.Tree.nodes c.args.t.now in
    let n = c.args.levels in
    let id = c.args.id.now in
    let below = c.as_slice.ensures ∙ c.in_ok-below.ensures in
    let each : List NodeId → List NodeId = flat_map (preorder_within (n - 1) tree) in
    on_ok_weaker c.push_each.result (λ e.
    e ∙ ap (λ kids. c.push.new.self ++ each kids) below
    ∙ ap (λ ids. ids ++ each (map (λ (e : List ℕ × NodeId). e.1) (children tree id))) c.in_ok-push.ensures.ok
    ∙ append_assoc c.args.ids.now (id ∷ []) (each (map (λ (e : List ℕ × NodeId). e.1) (children tree id)))
    ∙ ap (λ ids. c.args.ids.now ++ id ∷ ids) (flat_of (preorder_within (n - 1) tree) (children tree id))
    ∙ ap (λ ids. c.args.ids.now ++ ids) (sym (within_more n tree id (λ z. omega (arith, c.if-levels-eq0.false, z)))))
    c.push_each.ensures
