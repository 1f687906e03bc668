use Rattle.std.proofs.Common.{◌≡◌, IsSome, IfSome, true, subst, sym}
use Rattle.std.specs.Option.{option_copied}
use Rattle.room_ids.specs.Position.{is_pos, IsBelow}
use Rattle.room_nodes.specs.Steps.{without}
use Rattle.room_tree.proofs.Placing.{pos_above, key_above, no_place, not_so}
use Rattle.room_tree.proofs.settling.place.Goals as goal

pub move_between-requires-clause-pos : goal.move_between-requires-clause-pos
move_between-requires-clause-pos g c =
    subst (λ o. IfSome o (λ k. is_pos k ≡ true)) (sym c.next_key.ensures)
    (pos_above (g.T.Tree.nodes c.args.t.now) (g.met.T.Tree.formed c.args.t.now) c.args.list.now (option_copied c.args.replaced) c.requires.under c.requires.list c.args.key.now)

pub move_between-requires-clause-below : goal.move_between-requires-clause-below
move_between-requires-clause-below g c =
    let is : c.in-Some.x ≡ c.args.key.now = subst (λ o. IfSome o (λ x. x ≡ c.args.key.now)) c.in-Some.is c.in_ok-x.ensures.value in
    subst (λ y. IfSome (option_copied c.next_key.result) (λ k. IsBelow y k)) (sym is)
    (subst (λ o. IfSome o (λ k. IsBelow c.args.key.now k)) (sym c.next_key.ensures)
    (key_above (g.T.Tree.nodes c.args.t.now) (g.met.T.Tree.formed c.args.t.now) c.args.list.now (option_copied c.args.replaced) c.requires.under c.requires.list c.args.key.now))

pub returns : goal.returns
returns g c = no_place (without (g.T.Tree.nodes c.args.t.now) (option_copied c.args.replaced)) c.args.list.now c.args.own.now c.args.key.now (not_so _ (λ h. subst IsSome c.in-None.is (c.in_ok-x.ensures.exact.1 h)))
