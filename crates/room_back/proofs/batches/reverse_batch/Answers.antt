use Rattle.std.proofs.Common.{ap, ◌∙◌}
use Rattle.std.proofs.lemmas.Result.{IfOk-weaker}
use Rattle.room_log.specs.Log.{bodies_of}
use Rattle.room_model.specs.Calls.{changes_back}
use Rattle.room_nodes.proofs.Soundness.{all_ops}
use Rattle.room_back.proofs.Leading.{leads_back, sound_bodies}
use Rattle.room_back.proofs.batches.reverse_batch.Goals as goal

pub returns-clause-back : goal.returns-clause-back
returns-clause-back g c =
    let tree = g.T.Tree.nodes c.args.t in
    let ops = c.args.ops.now in
    let each = c.in_ok-each.ensures ∙ ap (λ os. changes_back tree (bodies_of os)) c.as_slice.ensures in
    IfOk-weaker c.join_last_first.result _ _ (λ v e.
    leads_back tree (bodies_of ops) v (g.met.T.Tree.formed c.args.t) (g.met.T.Tree.sound c.args.t)
    (sound_bodies ops (all_ops ops c.sound.ensures)) (e ∙ each)) c.join_last_first.ensures
