use Rattle.std.proofs.Common.{◌≡◌, subst, IfOk}
use Rattle.room_log.specs.Log.{bodies_of, ops_from}
use Rattle.room_model.specs.Edits.{Clocks}
use Rattle.room_props.specs.Edits.{clocks_of, edit_of}
use Rattle.room_editor.proofs.Edited.{runs_ok, node_ok}
use Rattle.room_editor.proofs.editor.Editor.made.Goals as goal

pub returns-in-Some-clause-runs : goal.returns-in-Some-clause-runs
returns-in-Some-clause-runs g c =
    subst (λ (k : Clocks). IfOk c.make.result (λ m. m.ops ≡ ops_from k.actor k.op (bodies_of m.ops)))
    c.clocks-clocks.ensures.clocks
    (runs_ok (g.T.Tree.nodes c.in-Some.t.now) (clocks_of c.clocks-clocks.result) (edit_of c.args.e.now) c.make.result
    c.make.ensures.ok)

pub returns-in-Some-clause-node : goal.returns-in-Some-clause-node
returns-in-Some-clause-node g c =
    node_ok (g.T.Tree.nodes c.in-Some.t.now) c.clocks-clocks.result (edit_of c.args.e.now) c.make.result
    c.make.ensures.ok c.clocks-clocks.ensures.room
