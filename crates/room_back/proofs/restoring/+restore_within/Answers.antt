use Rattle.std.proofs.Common.{◌-◌, ◌++◌, arith, sym, ap, ◌∙◌, append_assoc, append-nil}
use Rattle.std.specs.Option.{option_copied}
use Rattle.std.specs.FinMap.{get}
use Rattle.room_nodes.specs.Reversal.{creation}
use Rattle.room_nodes.specs.Shape.{children}
use Rattle.room_back.specs.Back.{as_changes}
use Rattle.room_back.proofs.Lists.{below_restored, child_restored, within_none, within_more}
use Rattle.room_back.proofs.Walking.{child_there, child_less, none_next}
use Rattle.room_back.proofs.restoring.+restore_within.Goals as goal

pub returns-then-levels-eq0 : goal.returns-then-levels-eq0
returns-then-levels-eq0 g m c =
    let tree = g.T.Tree.nodes c.args.t.now in
    let id = c.args.id.now in
    c.in_ok-create_again.ensures
    ∙ ap (λ o. c.args.back.now ++ as_changes (creation id o)) c.node.ensures
    ∙ ap (λ xs. c.args.back.now ++ xs) (within_none c.args.levels tree id c.if-levels-eq0.true)

pub node_there-node-requires : goal.node_there-node-requires
node_there-node-requires g m c =
    child_there (g.T.Tree.nodes c.args.t.now) c.args.id.now (option_copied c.loop-child.key) c.in-Some.child
    c.in-Some.ensures

pub loop-child-smaller : goal.loop-child-smaller
loop-child-smaller g m c =
    child_less (g.T.Tree.nodes c.args.t.now) c.args.id.now (option_copied c.loop-child.key) c.in-Some.child
    c.in-Some.ensures c.node_there-node.result.now c.node_there-node.ensures

pub loop-child-preserved : goal.loop-child-preserved
loop-child-preserved g m c =
    child_restored (g.T.Tree.nodes c.args.t.now) c.args.id.now (option_copied c.loop-child.key) c.in-Some.child
    c.in-Some.ensures c.node_there-node.result.now c.node_there-node.ensures (c.args.levels - 1)
    c.loop-child.back c.restore_within.new.back _ c.in_ok-restore_within.ensures c.loop-child.invariant

pub returns : goal.returns
returns g m c =
    let tree = g.T.Tree.nodes c.args.t.now in
    let id = c.args.id.now in
    let n = c.args.levels in
    let l = c.loop-child in
    let below = below_restored (n - 1) tree in
    let made = c.in_ok-create_again.ensures ∙ ap (λ o. c.args.back.now ++ as_changes (creation id o)) c.node.ensures in
    sym (append-nil l.back)
    ∙ ap (λ es. l.back ++ below es)
    (sym (none_next tree id (option_copied l.key) (sym c.in_default.is ∙ c.next_child.ensures)))
    ∙ l.invariant
    ∙ ap (λ xs. xs ++ below (children tree id)) made
    ∙ append_assoc c.args.back.now (as_changes (creation id (get tree id))) (below (children tree id))
    ∙ ap (λ xs. c.args.back.now ++ xs) (sym (within_more n tree id (λ z. omega (arith, c.if-levels-eq0.false, z))))
