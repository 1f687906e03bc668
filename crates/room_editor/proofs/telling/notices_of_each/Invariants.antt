use Rattle.std.proofs.Common.{◌≡◌, ◌++◌, drop}
use Rattle.room_log.specs.Log.{bodies_of}
use Rattle.room_model.specs.Notices.{notices_of_all}
use Rattle.room_notice.specs.Notices.{notices_in}
use Rattle.room_editor.proofs.telling.notices_of_each.Given as goal

abbrev pub invariant-loop-op : goal.invariant-loop-op
invariant-loop-op g l =
    notices_in l.notices ++ notices_of_all (g.T.Tree.nodes l.t) (bodies_of (drop l.op-index l.ops))
    ≡ notices_of_all (g.T.Tree.nodes l.initial.t) (bodies_of l.ops)
