use Rattle.std.proofs.Common.{List, ◌-◌, ◌++◌, [], ◌∷◌, ℕ, flat_map, arith, sym, ap, ◌∙◌, append_assoc, append-nil}
use Rattle.std.specs.Option.{option_copied}
use Rattle.room_ids.specs.declared.ids.NodeId.{NodeId}
use Rattle.room_nodes.specs.Preorder.{preorder_within}
use Rattle.room_nodes.specs.Shape.{children}
use Rattle.room_foot.proofs.Levels.{child_there, child_less, child_pushed, none_next, within_none, within_more}
use Rattle.room_foot.proofs.below.+push_below.Goals as goal

pub returns-then-levels-eq0 : goal.returns-then-levels-eq0
returns-then-levels-eq0 g m c =
    let tree = g.T.Tree.nodes c.args.t.now in
    let id = c.args.id.now in
    c.in_ok-push.ensures ∙ ap (λ xs. c.args.ids.now.items ++ xs) (sym (ap (λ n. preorder_within n tree id) c.if-levels-eq0.true ∙ within_none tree id))

pub node_there-node-requires : goal.node_there-node-requires
node_there-node-requires g m c = child_there (g.T.Tree.nodes c.args.t.now) c.args.id.now (option_copied c.loop-child.key) c.in-Some.child c.in-Some.ensures

pub loop-child-smaller : goal.loop-child-smaller
loop-child-smaller g m c = child_less (g.T.Tree.nodes c.args.t.now) c.args.id.now (option_copied c.loop-child.key) c.in-Some.child c.in-Some.ensures c.node_there-node.result.now c.node_there-node.ensures

pub loop-child-preserved : goal.loop-child-preserved
loop-child-preserved g m c =
    let tree = g.T.Tree.nodes c.args.t.now in
    child_pushed tree c.args.id.now (option_copied c.loop-child.key) c.in-Some.child c.in-Some.ensures (λ x. preorder_within (c.args.levels - 1) tree x) c.node_there-node.result.now c.node_there-node.ensures
    c.loop-child.ids.items c.push_below.new.ids.items _ c.in_ok-push_below.ensures c.loop-child.invariant

pub returns : goal.returns
returns g m c =
    let tree = g.T.Tree.nodes c.args.t.now in
    let id = c.args.id.now in
    let n = c.args.levels in
    let l = c.loop-child in
    let flat : List (List ℕ × NodeId) → List NodeId = flat_map (λ (e : List ℕ × NodeId). preorder_within (n - 1) tree e.1) in
    sym (append-nil l.ids.items)
    ∙ ap (λ es. l.ids.items ++ flat es) (sym (none_next tree id (option_copied l.key) (sym c.in_default.is ∙ c.next_child.ensures)))
    ∙ l.invariant
    ∙ ap (λ xs. xs ++ flat (children tree id)) c.in_ok-push.ensures
    ∙ append_assoc c.args.ids.now.items (id ∷ []) (flat (children tree id))
    ∙ ap (λ xs. c.args.ids.now.items ++ xs) (sym (within_more n tree id (λ z. omega (arith, c.if-levels-eq0.false, z))))
