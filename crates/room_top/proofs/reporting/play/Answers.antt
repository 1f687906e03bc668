use Rattle.std.proofs.Common.{inl, inr, refl, sym, ap, subst, arith, Err}
use Rattle.room_run.specs.Halting.{IsDone, IsOfDisk, IsWhole}
use Rattle.room_run.specs.declared.halt.Halt.{Halt}
use Rattle.room_top.proofs.Ending.{ends_played, ends_short, ends_stop, ends_damaged, begun_text, first_text}
use Rattle.room_top.proofs.Ending.{damage_found}
use Rattle.room_top.proofs.Recovering.{recovers_done, recovers_halted}
use Rattle.room_top.proofs.reporting.play.Goals as goal

pub returns-in-Ok-clause-ends : goal.returns-in-Ok-clause-ends
returns-in-Ok-clause-ends g c told =
    let found = c.in-Ok.ensures.stood told in
    ends_played _ _ found.0 _ _ _ _ _ found.1 (c.in-Ok.ensures.replays told refl found.0 found.1)

pub returns-in-Ok-clause-recovers : goal.returns-in-Ok-clause-recovers
returns-in-Ok-clause-recovers g c told s stands =
    recovers_done _ _ s _ _ _ _ _ _ (λ f. g.met.D.Disk.seen_is_image c.replay.new.disk.inner f told)
    (c.in-Ok.ensures.replays told refl s stands)

pub returns-in-Err-Memory-clause-ends : goal.returns-in-Err-Memory-clause-ends
returns-in-Err-Memory-clause-ends g c told =
    ends_short _ _ _ _ _ _ 1 (inl refl)
    (begun_text c.in-Err-Memory.field-0 _ (g.D.Disk.images c.replay.new.disk.inner) _ _ _ _ _
    (c.in-Err-Memory.ensures.files told) (c.in-Err-Memory.ensures.replays told refl))

pub returns-in-Err-Memory-clause-recovers : goal.returns-in-Err-Memory-clause-recovers
returns-in-Err-Memory-clause-recovers g c told s stands =
    recovers_halted _ _ s _ _ c.in-Err-Memory.field-0 _ _ 1 _ _ (λ e. omega (arith, e)) (λ a b. absurd (a refl))
    (λ f. g.met.D.Disk.seen_is_image c.replay.new.disk.inner f told)
    (c.in-Err-Memory.ensures.replays told refl s stands)

pub returns-in-Err-Sink-clause-ends : goal.returns-in-Err-Sink-clause-ends
returns-in-Err-Sink-clause-ends g c told =
    ends_short _ _ _ _ _ _ 4 (inr refl)
    (begun_text c.in-Err-Sink.field-0 _ (g.D.Disk.images c.replay.new.disk.inner) _ _ _ _ _
    (c.in-Err-Sink.ensures.files told) (c.in-Err-Sink.ensures.replays told refl))

pub returns-in-Err-Sink-clause-recovers : goal.returns-in-Err-Sink-clause-recovers
returns-in-Err-Sink-clause-recovers g c told s stands =
    recovers_halted _ _ s _ _ c.in-Err-Sink.field-0 _ _ 4 _ _ (λ e. omega (arith, e))
    (λ a b. subst (λ (h : Halt). IsDone {T = Unit {0}} (Err h)) (sym c.in-Err-Sink.field-0-is) tt)
    (λ f. g.met.D.Disk.seen_is_image c.replay.new.disk.inner f told)
    (c.in-Err-Sink.ensures.replays told refl s stands)

pub returns-in-Err-Disk-clause-ends : goal.returns-in-Err-Disk-clause-ends
returns-in-Err-Disk-clause-ends g c told =
    ends_stop _ _ _ _ _ _ _ c.told.result
    (first_text c.in-Err-Disk.field-0 _ (g.D.Disk.images c.replay.new.disk.inner) _ _ _ _ _
    (subst IsOfDisk (sym c.in-Err-Disk.field-0-is) tt) (c.in-Err-Disk.ensures.files told)
    (c.in-Err-Disk.ensures.replays told refl))
    c.told.ensures.which c.told.ensures.all c.told.ensures.part

pub returns-in-Err-Disk-clause-recovers : goal.returns-in-Err-Disk-clause-recovers
returns-in-Err-Disk-clause-recovers g c told s stands =
    recovers_halted _ _ s _ _ c.in-Err-Disk.field-0 _ _ c.told.result _ _
    (λ e. omega (arith, e, c.told.ensures.which))
    (λ a b. absurd (b (c.in-Err-Disk.ensures.causes.disk (ap Err c.in-Err-Disk.field-0-is))))
    (λ f. g.met.D.Disk.seen_is_image c.replay.new.disk.inner f told)
    (c.in-Err-Disk.ensures.replays told refl s stands)

pub returns-in-Err-Damaged-clause-ends : goal.returns-in-Err-Damaged-clause-ends
returns-in-Err-Damaged-clause-ends g c told =
    let found = damage_found c.in-Err-Damaged.field-0 _ c.in-Err-Damaged.file c.in-Err-Damaged.at _ _
    c.in-Err-Damaged.field-0-is (c.in-Err-Damaged.ensures.files told) (c.in-Err-Damaged.ensures.whole told) in
    ends_damaged _ _ _ c.in-Err-Damaged.file c.in-Err-Damaged.at _ _ _ c.tell_damage.result found.0 found.1
    c.tell_damage.ensures.which c.tell_damage.ensures.all c.tell_damage.ensures.part

pub returns-in-Err-Damaged-clause-recovers : goal.returns-in-Err-Damaged-clause-recovers
returns-in-Err-Damaged-clause-recovers g c told s stands =
    absurd (subst IsWhole c.in-Err-Damaged.field-0-is (c.in-Err-Damaged.ensures.whole told s stands))
