use Rattle.std.proofs.Common.{◌++◌, ◌∷◌, [], ℕ, List, map, option_map, refl, sym, ap, ◌∙◌, append-nil}
use Rattle.std.proofs.lemmas.List.{map_push}
use Rattle.std.specs.Option.{option_copied}
use Rattle.room_ids.specs.declared.ids.NodeId.{NodeId}
use Rattle.room_nodes.proofs.Gets.{some_none}
use Rattle.room_nodes.proofs.Childs.{kid_there, kid_step, none_left}
use Rattle.room_snapshot.proofs.order.kids.Goals as goal

pub unreachable-requires : goal.unreachable-requires
unreachable-requires g c =
    let i = c.loop-next.invariant in
    let k = kid_there (g.T.Tree.nodes c.args.t.now) c.args.id.now i.0 i.1 c.in-Some.child i.2 (sym c.in-Some.is
    ∙ i.4) in
    some_none k.0 (sym k.1 ∙ sym c.node.ensures ∙ ap option_copied c.in_default-node.is)

pub loop-next-preserved : goal.loop-next-preserved
loop-next-preserved g c =
    let i = c.loop-next.invariant in
    let child = c.in-Some.child in
    let n = c.in-Some-node.node.now in
    let there = sym c.node.ensures ∙ ap option_copied c.in-Some-node.is in
    let s = kid_step (g.T.Tree.nodes c.args.t.now) c.args.id.now i.0 i.1 child n.key n i.2 (sym c.in-Some.is
    ∙ i.4) there refl in (
      i.0 ++ (n.key, child) ∷ [],
      s.0,
      s.1,
      c.in_ok-push.ensures.ok ∙ ap (λ (xs : List NodeId). xs ++ child ∷ []) i.3
          ∙ sym (map_push (λ (e : List ℕ × NodeId). e.1) i.0 (n.key, child)),
      c.next_child-next-in-Some.ensures ∙ ap (option_map (λ e. e.1)) s.2,
    )

pub returns : goal.returns
returns g c =
    let i = c.loop-next.invariant in
    let left = none_left i.1 (sym c.in_default.is ∙ i.4) in
    i.3 ∙ ap (map (λ (e : List ℕ × NodeId). e.1)) (sym (i.2 ∙ ap (λ r. i.0 ++ r) left ∙ append-nil i.0))
