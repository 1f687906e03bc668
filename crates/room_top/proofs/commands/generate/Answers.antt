use Rattle.std.proofs.Common.{ℕ, List, inl, refl, subst, ◌∙◌, arith}
use Rattle.std.proofs.KnownBytes.{Appends-nil}
use Rattle.room_edge.specs.Causes.{Rose}
use Rattle.room_top.specs.Commands.{task_in, lines_of}
use Rattle.room_top.specs.Recovery.{Recovers}
use Rattle.room_top.proofs.Ending.{ends_short}
use Rattle.room_top.proofs.Recovering.{recovers_none, opens_nothing}
use Rattle.room_top.proofs.commands.generate.Goals as goal

pub returns-in-Ok-clause-recovers : goal.returns-in-Ok-clause-recovers
returns-in-Ok-clause-recovers g c told s stands =
    let d = g.D.Disk in
    let was = c.args.disk.now.inner in
    let now = c.report.new.disk.inner in
    subst (λ (bs : List ℕ). Recovers (d.images now) (d.seen now) s (lines_of (task_in bs))
    (Rose (d.faults was) (d.faults now)) (d.moment was) (d.moment now) c.report.result) (c.as_slice.ensures ∙ c.in-Ok.ensures)
    (c.report.ensures.recovers told s stands)

pub returns-in-Err-clause-ends : goal.returns-in-Err-clause-ends
returns-in-Err-clause-ends g c told = ends_short _ _ _ _ _ _ 1 (inl refl) (0, Appends-nil _)

pub returns-in-Err-clause-recovers : goal.returns-in-Err-clause-recovers
returns-in-Err-clause-recovers g c told s stands =
    let d = g.D.Disk in
    let was = c.args.disk.now.inner in
    recovers_none (d.images was) (d.seen was) s _ _ _ _ 1 (λ e. absurd (omega (arith, e)))
    (opens_nothing _ (d.images was) s) (λ a b. stands)
