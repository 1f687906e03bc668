use Rattle.std.proofs.Common.{Option, subst, sym}
use Rattle.room_edge.specs.Causes.{Rose}
use Rattle.room_host.specs.Seen.{room_files}
use Rattle.room_valid.proofs.Files.{standing_valid}
use Rattle.room_words.specs.Words.{Told}
use Rattle.room_top.specs.Commands.{command_in}
use Rattle.room_top.specs.Ending.{EndsAs, IsOutcome}
use Rattle.room_top.specs.Recovery.{RecoversAs}
use Rattle.room_top.proofs.Commanding.{command_is, headline_as, ends_none_as, recovers_none_as}
use Rattle.room_top.proofs.Ending.{ends_wider}
use Rattle.room_top.proofs.top.run.Goals as goal

pub returns-in-Ok-Some-Replay-clause-recovers : goal.returns-in-Ok-Some-Replay-clause-recovers
returns-in-Ok-Some-Replay-clause-recovers g c told s stands =
    let d = g.D.Disk in
    let was = c.args.disk.now.inner in
    let now = c.replay.new.disk.inner in
    let w = c.in-Ok-Some-Replay in
    subst (λ (o : Option Told). RecoversAs o (g.S.Source.left c.args.source.now) (d.images now) (d.seen now) s
    (Rose (d.faults was) (d.faults now)) (d.moment was) (d.moment now) c.replay.result)
    (sym (command_is c.args.words.now w.field-0 w.field-0-0 _ w.ensures w.field-0-is w.field-0-0-is))
    (λ input known. c.replay.ensures.recovers told input (known tt) s stands)

pub returns-in-Ok-Some-Replay-clause-headline : goal.returns-in-Ok-Some-Replay-clause-headline
returns-in-Ok-Some-Replay-clause-headline g c told s stands =
    headline_as (command_in c.args.words.now) _ s (standing_valid 0 s (g.D.Disk.seen c.args.disk.now.inner) stands)

pub returns-in-Ok-Some-Gen-clause-ends : goal.returns-in-Ok-Some-Gen-clause-ends
returns-in-Ok-Some-Gen-clause-ends g c told =
    let fs = room_files (g.D.Disk.seen c.args.disk.now.inner) in
    let w = c.in-Ok-Some-Gen in
    subst (λ (o : Option Told). EndsAs o fs (Rose (g.S.Source.faults c.args.source.now)
    (g.S.Source.faults c.args.source.now)) (g.S.Source.left c.args.source.now) (g.K.Sink.written c.args.sink.now)
    (g.K.Sink.written c.generate.new.sink) c.generate.result)
    (sym (command_is c.args.words.now w.field-0 w.field-0-0 _ w.ensures w.field-0-is w.field-0-0-is))
    (λ input known. ends_wider fs _ _ _ _ _ c.generate.result (c.generate.ensures.ends told))

pub returns-in-Ok-Some-Gen-clause-refused : goal.returns-in-Ok-Some-Gen-clause-refused
returns-in-Ok-Some-Gen-clause-refused g c own fs =
    let w = c.in-Ok-Some-Gen in
    subst (λ (o : Option Told). IsOutcome o fs (g.S.Source.left c.args.source.now)
    (g.K.Sink.written c.args.sink.now) (g.K.Sink.written c.generate.new.sink) c.generate.result)
    (sym (command_is c.args.words.now w.field-0 w.field-0-0 _ w.ensures w.field-0-is w.field-0-0-is))
    (λ input known. c.generate.ensures.refused own fs)

pub returns-in-Ok-Some-Gen-clause-recovers : goal.returns-in-Ok-Some-Gen-clause-recovers
returns-in-Ok-Some-Gen-clause-recovers g c told s stands =
    let d = g.D.Disk in
    let was = c.args.disk.now.inner in
    let now = c.generate.new.disk.inner in
    let w = c.in-Ok-Some-Gen in
    subst (λ (o : Option Told). RecoversAs o (g.S.Source.left c.args.source.now) (d.images now) (d.seen now) s
    (Rose (d.faults was) (d.faults now)) (d.moment was) (d.moment now) c.generate.result)
    (sym (command_is c.args.words.now w.field-0 w.field-0-0 _ w.ensures w.field-0-is w.field-0-0-is))
    (λ input known. c.generate.ensures.recovers told s stands)

pub returns-in-Ok-Some-Gen-clause-headline : goal.returns-in-Ok-Some-Gen-clause-headline
returns-in-Ok-Some-Gen-clause-headline g c told s stands =
    headline_as (command_in c.args.words.now) _ s (standing_valid 0 s (g.D.Disk.seen c.args.disk.now.inner) stands)

pub returns-in-Ok-Some-Show-clause-ends : goal.returns-in-Ok-Some-Show-clause-ends
returns-in-Ok-Some-Show-clause-ends g c told =
    let fs = room_files (g.D.Disk.seen c.args.disk.now.inner) in
    let w = c.in-Ok-Some-Show in
    subst (λ (o : Option Told). EndsAs o fs (Rose (g.S.Source.faults c.args.source.now)
    (g.S.Source.faults c.args.source.now)) (g.S.Source.left c.args.source.now) (g.K.Sink.written c.args.sink.now)
    (g.K.Sink.written c.show.new.sink) c.show.result)
    (sym (command_is c.args.words.now w.field-0 w.field-0-0 _ w.ensures w.field-0-is w.field-0-0-is))
    (λ input known. ends_wider fs _ _ _ _ _ c.show.result (c.show.ensures.ends told))

pub returns-in-Ok-Some-Show-clause-recovers : goal.returns-in-Ok-Some-Show-clause-recovers
returns-in-Ok-Some-Show-clause-recovers g c told s stands =
    let d = g.D.Disk in
    let was = c.args.disk.now.inner in
    let now = c.show.new.disk in
    let w = c.in-Ok-Some-Show in
    subst (λ (o : Option Told). RecoversAs o (g.S.Source.left c.args.source.now) (d.images now) (d.seen now) s
    (Rose (d.faults was) (d.faults now)) (d.moment was) (d.moment now) c.show.result)
    (sym (command_is c.args.words.now w.field-0 w.field-0-0 _ w.ensures w.field-0-is w.field-0-0-is))
    (λ input known. c.show.ensures.recovers told s stands)

pub returns-in-Ok-Some-Show-clause-headline : goal.returns-in-Ok-Some-Show-clause-headline
returns-in-Ok-Some-Show-clause-headline g c told s stands =
    headline_as (command_in c.args.words.now) _ s (standing_valid 0 s (g.D.Disk.seen c.args.disk.now.inner) stands)

pub returns-in-Err-clause-ends : goal.returns-in-Err-clause-ends
returns-in-Err-clause-ends g c told = ends_none_as (command_in c.args.words.now) _ _ _ _

pub returns-in-Err-clause-recovers : goal.returns-in-Err-clause-recovers
returns-in-Err-clause-recovers g c told s stands =
    let d = g.D.Disk in
    let was = c.args.disk.now.inner in
    recovers_none_as (command_in c.args.words.now) _ (d.images was) (d.seen was) s _ _ stands

pub returns-in-Err-clause-headline : goal.returns-in-Err-clause-headline
returns-in-Err-clause-headline g c told s stands =
    headline_as (command_in c.args.words.now) _ s (standing_valid 0 s (g.D.Disk.seen c.args.disk.now.inner) stands)
