use Rattle.std.proofs.Common.{◌≡◌, IfOk, subst}
use Rattle.room_tree.proofs.Placing.{key_settled}
use Rattle.room_tree.proofs.settling.settle_key.Goals as goal

pub returns-in-Some : goal.returns-in-Some
returns-in-Some g c = subst (λ v. IfOk c.place.result (λ s. s ≡ v)) (key_settled (g.T.Tree.nodes c.args.t.now) c.args.node.now c.args.key.now c.in-Some.list c.in-Some.ensures) c.place.ensures
