use Rattle.std.proofs.Common.{inl, inr, [], refl, ap, subst, arith, Err}
use Rattle.std.proofs.KnownBytes.{Appends-nil}
use Rattle.room_log.specs.Log.{State}
use Rattle.room_replay.specs.Files.{StandsFor}
use Rattle.room_top.proofs.Ending.{ends_shown, ends_short, ends_stop, none_first}
use Rattle.room_top.proofs.Recovering.{recovers_none, opens_within, stands_for_one}
use Rattle.room_top.proofs.showing.show.Goals as goal

pub returns-in-Ok-clause-ends : goal.returns-in-Ok-clause-ends
returns-in-Ok-clause-ends g c told =
    ends_shown _ _ _ _ c.tell_room.result (c.in-Ok.ensures.state told) c.tell_room.ensures.which
    c.tell_room.ensures.all c.tell_room.ensures.part

pub returns-in-Ok-clause-recovers : goal.returns-in-Ok-clause-recovers
returns-in-Ok-clause-recovers g c told s stands =
    let d = g.D.Disk in
    let now = c.recover.new.disk in
    recovers_none (d.images now) (d.seen now) s [] _ _ _ c.tell_room.result (λ z. refl)
    (opens_within _ _ _ (d.images now) s (c.in-Ok.ensures.any_moment told s stands))
    (λ a b. subst (λ (t : State). StandsFor 0 t (d.seen now))
    (stands_for_one _ s _ (c.in-Ok.ensures.state told) stands)
    (c.in-Ok.ensures.held told (d.seen now) (λ f. g.met.D.Disk.seen_is_image now f told)))

pub returns-in-Err-Disk-clause-ends : goal.returns-in-Err-Disk-clause-ends
returns-in-Err-Disk-clause-ends g c told =
    ends_stop _ [] _ _ _ _ _ c.told.result (none_first _ [] _ _ (Appends-nil _)) c.told.ensures.which
    c.told.ensures.all c.told.ensures.part

pub returns-in-Err-Disk-clause-recovers : goal.returns-in-Err-Disk-clause-recovers
returns-in-Err-Disk-clause-recovers g c told s stands =
    let d = g.D.Disk in
    let now = c.recover.new.disk in
    recovers_none (d.images now) (d.seen now) s [] _ _ _ c.told.result (λ z. refl)
    (opens_within _ _ _ (d.images now) s (c.in-Err-Disk.ensures.any_moment told s stands))
    (λ a b. absurd (b (c.in-Err-Disk.ensures.cause.failed (ap Err c.in-Err-Disk.field-0-is))))

pub returns-in-Err : goal.returns-in-Err
returns-in-Err g c =
    let d = g.D.Disk in
    let now = c.recover.new.disk in
    record {
      which = inr (inl refl);
      ends = λ told. ends_short _ _ _ _ _ _ 1 (inl refl) (0, Appends-nil _);
      recovers = λ told s stands. recovers_none (d.images now) (d.seen now) s [] _ _ _ 1 (λ z. refl)
          (opens_within _ _ _ (d.images now) s (c.in-Err.ensures.any_moment told s stands)) (λ a b. absurd (a refl));
      made = λ told zero. absurd (omega (arith, zero));
      sink_fault = λ e. omega (arith, e);
      disk_fault = λ e. omega (arith, e);
    }
