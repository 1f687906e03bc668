use Rattle.std.proofs.Common.{Some, sym, ap, ◌∙◌, refl}
use Rattle.room_tree.proofs.Placing.{live_is}
use Rattle.room_tree.specs.declared.settling.Settled.TheVariants.{Same, Moved, Void}
use Rattle.room_tree.proofs.living.live.Goals as goal

pub returns-in_ok-copy-in-Same : goal.returns-in_ok-copy-in-Same
returns-in_ok-copy-in-Same g c =
    live_is (g.T.Tree.nodes c.args.t.now) c.args.body.now Same _ (sym c.in-Same.is ∙ c.in_ok-settle_body.ensures) (ap Some c.in_ok-copy-in-Same.ensures)

pub returns-in_ok-moved-in-Moved : goal.returns-in_ok-moved-in-Moved
returns-in_ok-moved-in-Moved g c =
    live_is (g.T.Tree.nodes c.args.t.now) c.args.body.now (Moved c.in-Moved.key) _ (sym c.in-Moved.is ∙ c.in_ok-settle_body.ensures) (ap Some c.in_ok-moved-in-Moved.ensures)

pub returns-in-Void : goal.returns-in-Void
returns-in-Void g c = live_is (g.T.Tree.nodes c.args.t.now) c.args.body.now Void _ (sym c.in-Void.is ∙ c.in_ok-settle_body.ensures) refl
