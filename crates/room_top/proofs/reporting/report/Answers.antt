use Rattle.std.proofs.Common.{ℕ, List, subst, sym, ap, arith, rules}
use Rattle.room_host.specs.Seen.{room_files}
use Rattle.room_edge.specs.Causes.{Rose}
use Rattle.room_model.specs.Lines.{Line}
use Rattle.room_script.specs.Forms.{lines_of as told_lines}
use Rattle.room_script.specs.declared.lines.Line as told_line
use Rattle.room_top.specs.Commands.{lines_of}
use Rattle.room_top.specs.Recovery.{Recovers}
use Rattle.room_top.proofs.Recovering.{recovers_none, opens_nothing}
use Rattle.room_top.proofs.Refusing.{which_refused, ends_refused, own_refused, short_refused}
use Rattle.room_top.proofs.reporting.report.Goals as goal

pub returns-in-Ok-clause-recovers : goal.returns-in-Ok-clause-recovers
returns-in-Ok-clause-recovers g c told s stands =
    let d = g.D.Disk in
    let was = c.args.disk.now.inner in
    let now = c.play.new.disk.inner in
    subst (λ (ls : List (ℕ × Line)). Recovers (d.images now) (d.seen now) s ls (Rose (d.faults was) (d.faults now))
    (d.moment was) (d.moment now) c.play.result) (sym (ap lines_of c.in-Ok.ensures.task))
    (subst (λ (ls : List (ℕ × told_line.Line)). Recovers (d.images now) (d.seen now) s (told_lines ls)
    (Rose (d.faults was) (d.faults now)) (d.moment was) (d.moment now) c.play.result) c.as_slice.ensures
    (c.play.ensures.recovers told s stands))

pub returns-in-Err-clause-which : goal.returns-in-Err-clause-which
returns-in-Err-clause-which g c =
    let h = which_refused c.in-Err.refusal _ _ _ _ (c.refuse.ensures.refuses (room_files (g.D.Disk.seen c.args.disk.now.inner))) in
    search (h, rules)

pub returns-in-Err-clause-ends : goal.returns-in-Err-clause-ends
returns-in-Err-clause-ends g c told =
    ends_refused c.in-Err.refusal _ _ _ _ _ c.in-Err.ensures.refusal (c.refuse.ensures.refuses _)

pub returns-in-Err-clause-refused : goal.returns-in-Err-clause-refused
returns-in-Err-clause-refused g c own fs =
    own_refused c.in-Err.refusal fs _ _ _ _ c.in-Err.ensures.refusal (c.refuse.ensures.refuses fs) own

pub returns-in-Err-clause-short : goal.returns-in-Err-clause-short
returns-in-Err-clause-short g c own =
    short_refused c.in-Err.refusal _ _ _ _ _ c.in-Err.ensures.refusal
    (c.refuse.ensures.refuses (room_files (g.D.Disk.seen c.args.disk.now.inner))) own

pub returns-in-Err-clause-recovers : goal.returns-in-Err-clause-recovers
returns-in-Err-clause-recovers g c told s stands =
    let d = g.D.Disk in
    let was = c.args.disk.now.inner in
    recovers_none (d.images was) (d.seen was) s _ _ _ _ c.refuse.result
    (λ e. absurd (omega (
      arith,
      e,
      which_refused c.in-Err.refusal _ _ _ _
          (c.refuse.ensures.refuses (room_files (d.seen was))),
    )))
    (opens_nothing _ (d.images was) s) (λ a b. stands)

pub returns-in-Err-clause-disk_fault : goal.returns-in-Err-clause-disk_fault
returns-in-Err-clause-disk_fault g c five =
    omega (
      arith,
      five,
      which_refused c.in-Err.refusal _ _ _ _
          (c.refuse.ensures.refuses (room_files (g.D.Disk.seen c.args.disk.now.inner))),
    )
