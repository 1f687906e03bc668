use Rattle.std.proofs.Common.{sym, ap, ◌∙◌}
use Rattle.room_tree.specs.Settlement.{settlement}
use Rattle.room_tree.proofs.Placing.{if_ok}
use Rattle.room_tree.proofs.settling.settle_body.Goals as goal

pub returns-in-Create : goal.returns-in-Create
returns-in-Create g c = if_ok c.settle_create.result (λ s e. e c.in-Create.kind ∙ sym (ap (settlement (g.T.Tree.nodes c.args.t.now)) c.in-Create.is)) c.settle_create.ensures
