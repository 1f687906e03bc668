use Rattle.std.proofs.Common.{◌++◌, option_map, sym, ap, ◌∙◌, append-nil}
use Rattle.std.specs.Option.{option_copied}
use Rattle.room_nodes.proofs.Gets.{some_none}
use Rattle.room_nodes.proofs.Childs.{kid_there, kid_step, none_left}
use Rattle.room_items.proofs.kids.kids.Goals as goal

pub unreachable-requires : goal.unreachable-requires
unreachable-requires g c =
    let l = c.loop-next in
    let k = kid_there (g.T.Tree.nodes c.args.t.now) c.args.id.now l.found l.invariant.0 c.in-Some.child l.invariant.1 (sym c.in-Some.is ∙ l.invariant.2) in
    some_none k.0 (sym k.1 ∙ sym c.node.ensures ∙ ap option_copied c.in-None.is)

pub loop-next-preserved : goal.loop-next-preserved
loop-next-preserved g c =
    let l = c.loop-next in
    let there = sym c.node.ensures ∙ ap option_copied c.in-Some-node.is in
    let s = kid_step (g.T.Tree.nodes c.args.t.now) c.args.id.now l.found l.invariant.0 c.in-Some.child c.in_ok-key-in-Some-node.key c.in-Some-node.node.now l.invariant.1 (sym c.in-Some.is ∙ l.invariant.2) there c.in_ok-key-in-Some-node.ensures in (
      s.0,
      s.1 ∙ ap (λ xs. xs ++ s.0) (sym c.in_ok-push.ensures.ok),
      c.next_child-next-in-Some.ensures ∙ ap (option_map (λ e. e.1)) s.2,
    )

pub returns : goal.returns
returns g c =
    let l = c.loop-next in
    let left = none_left l.invariant.0 (sym c.in_default.is ∙ l.invariant.2) in
    sym (l.invariant.1 ∙ ap (λ r. l.found ++ r) left ∙ append-nil l.found)
