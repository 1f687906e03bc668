use Rattle.std.proofs.Common.{subst, Err}
use Rattle.room_moves.proofs.Moments.{holds_within}
use Rattle.room_world.specs.Seen.{world_on}
use Rattle.room_run.specs.Halting.{IsDone}
use Rattle.room_run.specs.declared.halt.Halt.{Halt}
use Rattle.room_run.proofs.Halts.{not_done}
use Rattle.room_run.proofs.Played.{TriesIn, fails, stands_at, tells}
use Rattle.room_run.proofs.playing.play.Goals as goal

pub returns-in-Ok-clause-plays : goal.returns-in-Ok-clause-plays
returns-in-Ok-clause-plays g c told can l is =
    let d = g.D.Disk in
    let s = g.D.Stopping in
    let k = g.K.Sink in
    let old = c.args.disk.now in
    let new = c.step.new.disk in
    let w = world_on d.seen s.armed s.way c.args.world.now old in
    let v = world_on d.seen s.armed s.way c.step.new.self new in
    let run = holds_within (TriesIn w (c.args.number, l)) (d.moment old) (d.moment new) (d.images old) (d.images new)
    (s.inner_moment old) (s.inner_moment new) (s.inner_images old) (s.inner_images new)
    (g.met.D.Stopping.mirrors old new told c.step.ensures.went) (c.step.ensures.images told can l is) in
    tells (s.inner_images old) (s.inner_images new) w v (c.args.number, l) (k.written c.args.sink.now)
    (k.written c.tell.new.sink) (s.inner_moment old) (s.inner_moment new) c.tell.result c.in-Ok.lines run
    (c.in-Ok.ensures.does told can l is)
    (stands_at (d.seen new) (d.images new (d.moment new)) (s.inner_images new) (s.inner_moment new)
    c.step.new.self.hosting.server (λ f. g.met.D.Disk.seen_is_image new f told)
    (λ f x. g.met.D.Stopping.inner_is_image new f x told) (c.in-Ok.ensures.kept told))
    c.tell.ensures.ok c.tell.ensures.err c.tell.ensures.apart

pub returns-in-Err-clause-plays : goal.returns-in-Err-clause-plays
returns-in-Err-clause-plays g c told can l is =
    let d = g.D.Disk in
    let s = g.D.Stopping in
    let k = g.K.Sink in
    let old = c.args.disk.now in
    let new = c.step.new.disk in
    let w = world_on d.seen s.armed s.way c.args.world.now old in
    let v = world_on d.seen s.armed s.way c.step.new.self new in
    let run = holds_within (TriesIn w (c.args.number, l)) (d.moment old) (d.moment new) (d.images old) (d.images new)
    (s.inner_moment old) (s.inner_moment new) (s.inner_images old) (s.inner_images new)
    (g.met.D.Stopping.mirrors old new told c.step.ensures.went) (c.step.ensures.images told can l is) in
    fails (Unit {0}) (s.inner_images old) (s.inner_images new) w v (c.args.number, l) (k.written c.args.sink.now)
    (s.inner_moment old) (s.inner_moment new) c.halt_of.result
    (λ done. not_done (Unit {0}) c.in-Err.fault
    (subst (λ (e : Halt). IsDone {T = Unit {0}} (Err e)) c.halt_of.ensures done)) run
