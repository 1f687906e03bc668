use Rattle.std.proofs.Common.{arith}
use Rattle.std.specs.Option.{option_copied}
use Rattle.room_list.proofs.Walked.{child_there, part_begin, clearing_more, clearing_less, clearing_end, longer}
use Rattle.room_list.proofs.walking.deletes.Goals as goal

pub loop-child-init : goal.loop-child-init
loop-child-init g c = (part_begin (g.T.Tree.nodes c.args.t.now) c.args.list.now, c.new-bodies.ensures)

pub node_there-node-requires : goal.node_there-node-requires
node_there-node-requires g c =
    child_there (g.T.Tree.nodes c.args.t.now) c.args.list.now (option_copied c.loop-child.key) c.loop-child.invariant.0 c.in-Some.child c.in-Some.ensures

pub loop-child-smaller : goal.loop-child-smaller
loop-child-smaller g c =
    let l = c.loop-child in
    let less = clearing_less (g.T.Tree.nodes c.args.t.now) c.args.list.now (option_copied l.key) l.bodies l.invariant
    c.in-Some.child c.in-Some.ensures c.node_there-node.result.now c.node_there-node.ensures in
    omega (arith, less, longer l.bodies c.push.new.self c.in-Some.child c.in_ok-push.ensures.ok)

pub loop-child-preserved : goal.loop-child-preserved
loop-child-preserved g c =
    let l = c.loop-child in
    clearing_more (g.T.Tree.nodes c.args.t.now) c.args.list.now (option_copied l.key) l.bodies l.invariant
    c.in-Some.child c.in-Some.ensures c.node_there-node.result.now c.node_there-node.ensures c.push.new.self c.in_ok-push.ensures.ok

pub returns : goal.returns
returns g c =
    let l = c.loop-child in
    clearing_end (g.T.Tree.nodes c.args.t.now) c.args.list.now (option_copied l.key) l.bodies l.invariant c.next_child.result c.in_default.is c.next_child.ensures
