use Rattle.std.proofs.Common.{arith}
use Rattle.std.specs.Option.{option_copied}
use Rattle.room_effect.proofs.Neighbours.{neighbours}
use Rattle.room_list.proofs.Walked.{child_there, walk_begin, walk_more, walk_less, walk_end}
use Rattle.room_list.proofs.walking.look.Goals as goal

pub loop-child-init : goal.loop-child-init
loop-child-init g c = (omega arith, walk_begin (g.T.Tree.nodes c.args.t.now) c.args.list.now c.args.index c.args.gap)

pub node_there-node-requires : goal.node_there-node-requires
node_there-node-requires g c =
    child_there (g.T.Tree.nodes c.args.t.now) c.args.list.now (option_copied c.loop-child.key) c.loop-child.invariant.1.0 c.in-Some.child c.in-Some.ensures

pub loop-child-smaller : goal.loop-child-smaller
loop-child-smaller g c =
    let l = c.loop-child in
    let less = walk_less (g.T.Tree.nodes c.args.t.now) c.args.list.now (option_copied l.key) c.args.index c.args.gap l.count l.item (option_copied l.left) (option_copied l.right) l.invariant.1
    c.in-Some.child c.in-Some.ensures c.node_there-node.result.now c.node_there-node.ensures in
    omega (arith, less, c.in_ok-count.ensures.sum)

pub loop-child-preserved : goal.loop-child-preserved
loop-child-preserved g c =
    let l = c.loop-child in (
      c.in_ok-count.ensures.few,
      walk_more (g.T.Tree.nodes c.args.t.now) c.args.list.now (option_copied l.key) c.args.index c.args.gap l.count l.item (option_copied l.left) (option_copied l.right) l.invariant.1
          c.in-Some.child c.in-Some.ensures c.node_there-node.result.now c.node_there-node.ensures
          c.in_ok-count.count _ _ _ c.in_ok-count.ensures.sum c.either_id-item.ensures c.either-left.ensures c.either-right.ensures,
    )

pub returns-clause-count : goal.returns-clause-count
returns-clause-count g c =
    let l = c.loop-child in
    let knows = walk_end (g.T.Tree.nodes c.args.t.now) c.args.list.now (option_copied l.key) c.args.index c.args.gap l.count l.item (option_copied l.left) (option_copied l.right) l.invariant.1
    c.next_child.result c.in_default.is c.next_child.ensures in
    knows.count

pub returns-clause-item : goal.returns-clause-item
returns-clause-item g c =
    let l = c.loop-child in
    let knows = walk_end (g.T.Tree.nodes c.args.t.now) c.args.list.now (option_copied l.key) c.args.index c.args.gap l.count l.item (option_copied l.left) (option_copied l.right) l.invariant.1
    c.next_child.result c.in_default.is c.next_child.ensures in
    knows.item

pub returns-clause-left : goal.returns-clause-left
returns-clause-left g c =
    let l = c.loop-child in
    let knows = walk_end (g.T.Tree.nodes c.args.t.now) c.args.list.now (option_copied l.key) c.args.index c.args.gap l.count l.item (option_copied l.left) (option_copied l.right) l.invariant.1
    c.next_child.result c.in_default.is c.next_child.ensures in
    knows.left

pub returns-clause-right : goal.returns-clause-right
returns-clause-right g c =
    let l = c.loop-child in
    let knows = walk_end (g.T.Tree.nodes c.args.t.now) c.args.list.now (option_copied l.key) c.args.index c.args.gap l.count l.item (option_copied l.left) (option_copied l.right) l.invariant.1
    c.next_child.result c.in_default.is c.next_child.ensures in
    knows.right

pub returns-clause-beside : goal.returns-clause-beside
returns-clause-beside g c =
    let l = c.loop-child in
    let knows = walk_end (g.T.Tree.nodes c.args.t.now) c.args.list.now (option_copied l.key) c.args.index c.args.gap l.count l.item (option_copied l.left) (option_copied l.right) l.invariant.1
    c.next_child.result c.in_default.is c.next_child.ensures in
    neighbours (g.T.Tree.nodes c.args.t.now) (g.met.T.Tree.formed c.args.t.now) c.args.list.now c.args.gap c.requires (option_copied l.left) (option_copied l.right) knows.left knows.right

pub returns-clause-few : goal.returns-clause-few
returns-clause-few g c = c.loop-child.invariant.0
