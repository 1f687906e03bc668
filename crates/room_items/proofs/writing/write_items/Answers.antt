use Rattle.room_items.proofs.Spells.{written_again}
use Rattle.room_items.proofs.writing.write_items.Goals as goal

pub returns-clause-again : goal.returns-clause-again
returns-clause-again g c =
    written_again (g.T.Tree.nodes c.args.t.now) c.in_ok-items.items c.as_slice.result.now c.in_ok-ids.ids (g.met.T.Tree.formed c.args.t.now) (g.met.T.Tree.sound c.args.t.now)
    c.in_ok-ids.ensures c.as_slice.ensures c.in_ok-items.ensures
