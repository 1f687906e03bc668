use Rattle.std.proofs.Common.{◌≡◌, ◌∙◌, ◌-◌, sym, subst, arith, List, ℕ, Option, Some, true}
use Rattle.std.proofs.Math.Nat.{le_trans}
use Rattle.room_world.specs.Moving.{Moves}
use Rattle.room_world.specs.Seen.{world_on}
use Rattle.room_world.specs.Trying.{drain_tries}
use Rattle.room_world.proofs.Drains.{Drains, next_read, ends, goes_on, runs_out, tries_on, tries_last}
use Rattle.room_world.proofs.Moments.{staying_line}
use Rattle.room_world.proofs.world.World.drain.Goals as goal

pub once-requires-clause-read : goal.once-requires-clause-read
once-requires-clause-read g c told can =
    let d = g.D.Disk in
    let s = g.D.Stopping in
    let l = c.loop-left in
    next_read (world_on d.seen s.armed s.way c.args.self.now c.args.disk.now)
    (world_on d.seen s.armed s.way l.self l.disk) c.args.number c.args.n l.left l.lines (l.invariant.does told can)
    c.loop-left-test.true

pub returns-in_err-more-clause-images : goal.returns-in_err-more-clause-images
returns-in_err-more-clause-images g c told can =
    let d = g.D.Disk in
    let s = g.D.Stopping in
    let l = c.loop-left in
    tries_last d.moment d.images c.args.disk.now l.disk c.once.new.disk
    (world_on d.seen s.armed s.way c.args.self.now c.args.disk.now) (world_on d.seen s.armed s.way l.self l.disk)
    c.args.number c.args.n l.left (l.invariant.tries told can) c.loop-left-test.true (c.once.ensures.images told can)

pub returns-in_default-clause-does : goal.returns-in_default-clause-does
returns-in_default-clause-does g c told can =
    let d = g.D.Disk in
    let s = g.D.Stopping in
    let l = c.loop-left in
    let v = world_on d.seen s.armed s.way l.self l.disk in
    let u = world_on d.seen s.armed s.way c.once.new.self c.once.new.disk in
    ends (world_on d.seen s.armed s.way c.args.self.now c.args.disk.now) v u c.args.number c.args.n l.left l.lines
    (l.invariant.does told can)
    (subst (λ (o : Option (List (List ℕ))). Moves v c.args.number u o) c.in_default.is (c.in_ok-more.ensures.moves told can))

pub returns-in_default-clause-images : goal.returns-in_default-clause-images
returns-in_default-clause-images g c told can =
    let d = g.D.Disk in
    let s = g.D.Stopping in
    let l = c.loop-left in
    tries_last d.moment d.images c.args.disk.now l.disk c.once.new.disk
    (world_on d.seen s.armed s.way c.args.self.now c.args.disk.now) (world_on d.seen s.armed s.way l.self l.disk)
    c.args.number c.args.n l.left (l.invariant.tries told can) c.loop-left-test.true (c.once.ensures.images told can)

pub returns-in_err-append-clause-images : goal.returns-in_err-append-clause-images
returns-in_err-append-clause-images g c told can =
    let d = g.D.Disk in
    let s = g.D.Stopping in
    let l = c.loop-left in
    tries_last d.moment d.images c.args.disk.now l.disk c.once.new.disk
    (world_on d.seen s.armed s.way c.args.self.now c.args.disk.now) (world_on d.seen s.armed s.way l.self l.disk)
    c.args.number c.args.n l.left (l.invariant.tries told can) c.loop-left-test.true (c.once.ensures.images told can)

pub loop-left-preserved : goal.loop-left-preserved
loop-left-preserved g c =
    let d = g.D.Disk in
    let s = g.D.Stopping in
    let l = c.loop-left in
    let i = l.invariant in
    let w = world_on d.seen s.armed s.way c.args.self.now c.args.disk.now in
    let v = world_on d.seen s.armed s.way l.self l.disk in
    let u = world_on d.seen s.armed s.way c.once.new.self c.once.new.disk in
    let made = c.in_ok-more.ensures in
    let moved : d.tells ≡ true → d.stops ≡ true → Moves v c.args.number u (Some c.in-Some.more) =
    λ told can. subst (λ (o : Option (List (List ℕ))). Moves v c.args.number u o) c.in-Some.is (made.moves told can) in
    record {
      kept = λ told. made.kept told;
      rests = λ told can. made.rests told can;
      does = λ told can. subst (λ (ls : List (List ℕ)). Drains w c.args.number c.args.n ls u (l.left - 1))
          (sym c.in_ok-append.ensures)
          (goes_on w v u c.args.number c.args.n l.left l.lines c.in-Some.more (i.does told can) c.loop-left-test.true
          (moved told can));
      tries = λ told can. tries_on d.moment d.images c.args.disk.now l.disk c.once.new.disk w v u c.args.number c.args.n
          l.left c.in-Some.more (i.tries told can) c.loop-left-test.true (made.images told can) (moved told can);
      opened = made.opened ∙ i.opened;
      went = g.met.D.Stopping.went_then c.args.disk.now l.disk c.once.new.disk i.went made.went;
      faults = le_trans i.faults made.cause.later;
      inner_faults = le_trans i.inner_faults made.cause.inner_later;
    }

pub returns-clause-does : goal.returns-clause-does
returns-clause-does g c told can =
    let d = g.D.Disk in
    let s = g.D.Stopping in
    let l = c.loop-left in
    let w = world_on d.seen s.armed s.way c.args.self.now c.args.disk.now in
    let v = world_on d.seen s.armed s.way l.self l.disk in
    runs_out w v c.args.number c.args.n l.lines
    (subst (λ (k : ℕ). Drains w c.args.number c.args.n l.lines v k) (omega (arith, c.loop-left-test.false))
    (l.invariant.does told can))

pub returns-clause-images : goal.returns-clause-images
returns-clause-images g c told can =
    let d = g.D.Disk in
    let s = g.D.Stopping in
    let l = c.loop-left in
    let v = world_on d.seen s.armed s.way l.self l.disk in
    l.invariant.tries told can l.disk
    (staying_line d.seen d.moment d.images l.self (drain_tries v c.args.number l.left) l.disk
    (λ f. g.met.D.Disk.seen_is_image l.disk f told) (l.invariant.kept told))
