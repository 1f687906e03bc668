use Rattle.std.proofs.Common.{◌≡◌, ◌<◌, ◌+◌, sym, ap, ◌∙◌, arith}
use Rattle.std.specs.Option.{option_copied}
use Rattle.std.specs.FinMap.{len}
use Rattle.room_tree.proofs.Parts.{next_there, next_less, next_free, next_len, next_hand, no_child, from_hand}
use Rattle.room_tree.proofs.copies.copy_children.Goals as goal

pub node_there-node-requires : goal.node_there-node-requires
node_there-node-requires g c =
    next_there (g.T.Tree.nodes c.args.t.now) (g.T.Tree.nodes c.loop-child.copy) (g.met.T.Tree.formed c.args.t.now) (g.met.T.Tree.formed c.loop-child.copy) c.args.x.now (option_copied c.loop-child.key) c.loop-child.todo.items c.loop-child.invariant.hand c.in-Some.child c.in-Some.ensures

pub put_copy-requires-clause-free : goal.put_copy-requires-clause-free
put_copy-requires-clause-free g c =
    next_free (g.T.Tree.nodes c.args.t.now) (g.T.Tree.nodes c.loop-child.copy) (g.met.T.Tree.formed c.args.t.now) (g.met.T.Tree.formed c.loop-child.copy) c.args.x.now (option_copied c.loop-child.key) c.loop-child.todo.items c.loop-child.invariant.hand c.in-Some.child c.in-Some.ensures c.node_there-node.result.now c.node_there-node.ensures

pub put_copy-requires-clause-room : goal.put_copy-requires-clause-room
put_copy-requires-clause-room g c =
    let less = next_less (g.T.Tree.nodes c.args.t.now) (g.T.Tree.nodes c.loop-child.copy) (g.met.T.Tree.formed c.args.t.now) (g.met.T.Tree.formed c.loop-child.copy) c.args.x.now (option_copied c.loop-child.key) c.loop-child.todo.items c.loop-child.invariant.hand c.in-Some.child c.in-Some.ensures in
    omega (arith, less, c.loop-child.invariant.room)

pub loop-child-smaller : goal.loop-child-smaller
loop-child-smaller g c =
    let t = g.T.Tree.nodes c.args.t.now in
    let u = g.T.Tree.nodes c.loop-child.copy in
    let less : len u < len t = next_less t u (g.met.T.Tree.formed c.args.t.now) (g.met.T.Tree.formed c.loop-child.copy) c.args.x.now (option_copied c.loop-child.key) c.loop-child.todo.items c.loop-child.invariant.hand c.in-Some.child c.in-Some.ensures in
    let more : len (g.T.Tree.nodes c.put_copy.new.copy) ≡ len u + 1 =
    ap len c.in_ok-put_copy.ensures.nodes ∙ next_len t u (g.met.T.Tree.formed c.args.t.now) (g.met.T.Tree.formed c.loop-child.copy) c.args.x.now (option_copied c.loop-child.key) c.loop-child.todo.items c.loop-child.invariant.hand c.in-Some.child c.in-Some.ensures c.node_there-node.result.now c.node_there-node.ensures in
    omega (arith, less, more)

pub loop-child-preserved : goal.loop-child-preserved
loop-child-preserved g c =
    let t = g.T.Tree.nodes c.args.t.now in
    let u = g.T.Tree.nodes c.loop-child.copy in
    let more : len (g.T.Tree.nodes c.put_copy.new.copy) ≡ len u + 1 =
    ap len c.in_ok-put_copy.ensures.nodes ∙ next_len t u (g.met.T.Tree.formed c.args.t.now) (g.met.T.Tree.formed c.loop-child.copy) c.args.x.now (option_copied c.loop-child.key) c.loop-child.todo.items c.loop-child.invariant.hand c.in-Some.child c.in-Some.ensures c.node_there-node.result.now c.node_there-node.ensures in
    record {
      hand = next_hand t u (g.met.T.Tree.formed c.args.t.now) (g.met.T.Tree.formed c.loop-child.copy) c.args.x.now (option_copied c.loop-child.key) c.loop-child.todo.items c.loop-child.invariant.hand c.in-Some.child c.in-Some.ensures c.node_there-node.result.now c.node_there-node.ensures _ _ c.in_ok-put_copy.ensures.nodes c.in_ok-push.ensures.items;
      room = omega (arith, more, c.in_ok-put_copy.ensures.spare, c.loop-child.invariant.room);
      size = omega (arith, more, c.in_ok-push.ensures.len, c.loop-child.invariant.size);
    }

pub returns-clause-copying : goal.returns-clause-copying
returns-clause-copying g c =
    from_hand (g.T.Tree.nodes c.args.t.now) (g.met.T.Tree.formed c.args.t.now) (g.T.Tree.nodes c.loop-child.copy) (g.met.T.Tree.formed c.loop-child.copy) c.args.x.now (option_copied c.loop-child.key) c.loop-child.todo.items (no_child _ (sym c.in_default.is ∙ c.next_child.ensures)) c.loop-child.invariant.hand
