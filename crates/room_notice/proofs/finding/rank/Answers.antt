use Rattle.std.proofs.Common.{sym, ap, ◌∙◌, arith}
use Rattle.std.specs.Option.{option_copied}
use Rattle.room_nodes.proofs.Gets.{some_none}
use Rattle.room_notice.proofs.Ranking.{fewer, kid_is, kid_there, left_none, left_step, left_stop, none_next, rank_bound}
use Rattle.room_notice.proofs.finding.rank.Goals as goal

pub unreachable-requires : goal.unreachable-requires
unreachable-requires g c =
    let k = kid_there (g.T.Tree.nodes c.args.t.now) c.args.parent.now (option_copied c.loop-child.last) c.in-Some.child (sym c.in-Some.is ∙ c.next_child.ensures) in
    some_none k.0 (sym k.1 ∙ sym c.node.ensures ∙ ap option_copied c.in-None.is)

pub returns-then-not-is_below : goal.returns-then-not-is_below
returns-then-not-is_below g c =
    let t = g.T.Tree.nodes c.args.t.now in
    let last = option_copied c.loop-child.last in
    let there = sym c.node.ensures ∙ ap option_copied c.in-Some-node.is in
    let is = kid_is t c.args.parent.now last c.in-Some.child c.in-Some-node.node.now (sym c.in-Some.is ∙ c.next_child.ensures) there in
    let none = left_stop t c.args.parent.now c.args.key.now (option_copied c.args.skipped) last (c.in-Some-node.node.now.key, c.in-Some.child) is (sym c.is_below.ensures ∙ c.if-not-is_below.true) in
    omega (arith, c.loop-child.invariant, none)

pub overflow_add-count : goal.overflow_add-count
overflow_add-count g c =
    let t = g.T.Tree.nodes c.args.t.now in
    let p = c.args.parent.now in
    let o = option_copied c.args.skipped in
    let last = option_copied c.loop-child.last in
    let there = sym c.node.ensures ∙ ap option_copied c.in-Some-node.is in
    let is = kid_is t p last c.in-Some.child c.in-Some-node.node.now (sym c.in-Some.is ∙ c.next_child.ensures) there in
    let more = left_step t p c.args.key.now o last (c.in-Some-node.node.now.key, c.in-Some.child) is (sym c.is_below.ensures ∙ c.if-not-is_below.false) in
    let bound = rank_bound t p c.args.key.now o in
    omega (arith, c.loop-child.invariant, more, bound, c.weight-count.ensures, c.count.ensures)

pub loop-child-smaller : goal.loop-child-smaller
loop-child-smaller g c =
    let t = g.T.Tree.nodes c.args.t.now in
    let p = c.args.parent.now in
    let last = option_copied c.loop-child.last in
    let there = sym c.node.ensures ∙ ap option_copied c.in-Some-node.is in
    let is = kid_is t p last c.in-Some.child c.in-Some-node.node.now (sym c.in-Some.is ∙ c.next_child.ensures) there in
    omega (arith, fewer t p c.args.key.now (option_copied c.args.skipped) last (c.in-Some-node.node.now.key, c.in-Some.child) is)

pub loop-child-preserved : goal.loop-child-preserved
loop-child-preserved g c =
    let t = g.T.Tree.nodes c.args.t.now in
    let p = c.args.parent.now in
    let o = option_copied c.args.skipped in
    let last = option_copied c.loop-child.last in
    let there = sym c.node.ensures ∙ ap option_copied c.in-Some-node.is in
    let is = kid_is t p last c.in-Some.child c.in-Some-node.node.now (sym c.in-Some.is ∙ c.next_child.ensures) there in
    let more = left_step t p c.args.key.now o last (c.in-Some-node.node.now.key, c.in-Some.child) is (sym c.is_below.ensures ∙ c.if-not-is_below.false) in
    omega (arith, c.loop-child.invariant, more, c.weight-count.ensures)

pub returns : goal.returns
returns g c =
    let t = g.T.Tree.nodes c.args.t.now in
    let last = option_copied c.loop-child.last in
    let none = left_none t c.args.parent.now c.args.key.now (option_copied c.args.skipped) last (none_next t c.args.parent.now last (sym c.in_default.is ∙ c.next_child.ensures)) in
    omega (arith, c.loop-child.invariant, none)
