use Rattle.std.proofs.Common.{sym, ap, ◌∙◌, subst}
use Rattle.room_bytes.specs.Reading.{Fails}
use Rattle.room_nodes.proofs.Gets.{some_none}
use Rattle.room_snapshot.specs.Bounds.{state_of}
use Rattle.room_snapshot.specs.Reading.{snapshot_of}
use Rattle.room_snapshot.proofs.Again.{snapshots_again}
use Rattle.room_snapshot.proofs.Once.{snapshots_once}
use Rattle.room_snapshot.proofs.snapshot.read_snapshot.Goals as goal

pub returns-in-Ok-clause-found : goal.returns-in-Ok-clause-found
returns-in-Ok-clause-found g c =
    let s = c.in-Ok.snapshot in
    let once = snapshots_once c.args.f c.args.b.now (state_of s.count s.sessions (g.T.Tree.nodes s.tree)) in
    record { bounds = c.in-Ok.ensures.bounds; spelled = (once c.in-Ok.ensures.value).0 }

pub returns-in-Err-NoValue-clause-none : goal.returns-in-Err-NoValue-clause-none
returns-in-Err-NoValue-clause-none g c =
    let nothing = subst (λ e. Fails e (snapshot_of c.args.f c.args.b.now)) c.in-Err-NoValue.field-0-is
    c.in-Err-NoValue.ensures.value in
    λ _ s is. some_none s (sym (snapshots_again c.args.f s is.bounds) ∙ ap (snapshot_of c.args.f) (sym is.spelled)
    ∙ nothing)
