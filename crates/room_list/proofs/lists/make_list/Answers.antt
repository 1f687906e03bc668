use Rattle.room_props.specs.Edits.{clocks_of, edit_of, made_of}
use Rattle.room_effect.proofs.Shows.{shows}
use Rattle.room_list.proofs.lists.make_list.Goals as goal

pub returns-clause-effect : goal.returns-clause-effect
returns-clause-effect g c =
    shows made_of (g.T.Tree.nodes c.args.t.now) (clocks_of c.args.c.now) (edit_of c.args.e.now) (g.met.T.Tree.formed c.args.t.now) (g.met.T.Tree.sound c.args.t.now) c.sound.ensures c.make_of.result c.make_of.ensures.ok
