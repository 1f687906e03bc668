use Rattle.std.proofs.Common.{inl, refl, subst, ap, ◌∙◌, arith}
use Rattle.std.proofs.KnownBytes.{Appends-nil}
use Rattle.room_edge.specs.Causes.{Rose}
use Rattle.room_host.specs.Seen.{room_files}
use Rattle.room_top.specs.Commands.{Task, task_in}
use Rattle.room_top.specs.Ending.{Ends}
use Rattle.room_top.specs.Outcome.{outcome_of}
use Rattle.room_top.proofs.Ending.{ends_short, ends_wider}
use Rattle.room_top.proofs.Recovering.{recovers_none, opens_nothing}
use Rattle.room_top.proofs.commands.replay.Goals as goal

pub returns-in-Ok-clause-ends : goal.returns-in-Ok-clause-ends
returns-in-Ok-clause-ends g c told input left =
    let fs = room_files (g.D.Disk.seen c.args.disk.now.inner) in
    subst (λ (t : Task). Ends fs t (outcome_of fs t) (Rose (g.S.Source.faults c.args.source.now)
    (g.S.Source.faults c.read_all.new.source)) (g.K.Sink.written c.args.sink.now)
    (g.K.Sink.written c.report.new.sink) c.report.result) (ap task_in c.as_slice.ensures.value ∙ c.in-Ok.ensures.task input left)
    (ends_wider fs _ _ _ _ _ c.report.result (c.report.ensures.ends told))

pub returns-in-Err-Memory-clause-ends : goal.returns-in-Err-Memory-clause-ends
returns-in-Err-Memory-clause-ends g c told input left = ends_short _ _ _ _ _ _ 1 (inl refl) (0, Appends-nil _)

pub returns-in-Err-Memory-clause-recovers : goal.returns-in-Err-Memory-clause-recovers
returns-in-Err-Memory-clause-recovers g c told input left s stands =
    let d = g.D.Disk in
    let was = c.args.disk.now.inner in
    recovers_none (d.images was) (d.seen was) s _ _ _ _ 1 (λ e. absurd (omega (arith, e)))
    (opens_nothing _ (d.images was) s) (λ a b. stands)

pub returns-in-Err-Failed-clause-recovers : goal.returns-in-Err-Failed-clause-recovers
returns-in-Err-Failed-clause-recovers g c told input left s stands =
    let d = g.D.Disk in
    let was = c.args.disk.now.inner in
    recovers_none (d.images was) (d.seen was) s _ _ _ _ c.told.result (λ e. absurd (omega (arith, e, c.told.ensures.which)))
    (opens_nothing _ (d.images was) s) (λ a b. stands)
