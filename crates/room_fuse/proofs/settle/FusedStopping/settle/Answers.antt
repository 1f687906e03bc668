use Rattle.std.proofs.Common.{◌∙◌, refl, subst}
use Rattle.room_fuse.specs.Held.{Others}
use Rattle.room_fuse.specs.Mirrors.{settled_by}
use Rattle.room_fuse.specs.Past.{LeftNow}
use Rattle.room_fuse.proofs.Mirroring.{on_err, mirrored_still, mirrored_marked}
use Rattle.room_fuse.proofs.Settling.{reads_ready, fits_ready, below_ready, left_ready, again, widen, within_marked, bare_only}
use Rattle.room_fuse.proofs.settle.FusedStopping.settle.Goals as goal

pub returns-in_err-remember-clause-went : goal.returns-in_err-remember-clause-went
returns-in_err-remember-clause-went g c =
    let d = g.D.Disk in let old = c.args.self.now in
    (g.met.D.Disk.came_same old.inner, λ told. mirrored_still d.images d.moment old.past.items c.remember.new.past.items old.inner old.held.items old.held.items c.in_err-remember.ensures.err refl)

pub pass_whole-requires : goal.pass_whole-requires
pass_whole-requires g c told = let old = c.args.self.now in fits_ready (settled_by old.fired old.how) old.held.items c.prepare.new.held.items c.prepare.ensures (g.D.Disk.seen old.inner) (old.fits told)

pub invariant_of-self-in-Break-branch-2 : goal.invariant_of-self-in-Break-branch-2
invariant_of-self-in-Break-branch-2 g c = let old = c.args.self.now in record {
  fits = λ told. (c.pass_whole.ensures.passed told).fits;
  below = c.pass_whole.ensures.below (below_ready (settled_by old.fired old.how) old.held.items c.prepare.new.held.items c.prepare.ensures old.below);
}

pub returns-in_err-pass_whole-clause-again : goal.returns-in_err-pass_whole-clause-again
returns-in_err-pass_whole-clause-again g c told =
    let d = g.D.Disk in let old = c.args.self.now in
    on_err c.from_residual-in_err-pass_whole.result _ (again (settled_by old.fired old.how) old.held.items c.prepare.new.held.items c.pass_whole.new.held.items
    (d.seen old.inner) (d.seen c.pass_whole.new.disk) c.prepare.ensures c.pass_whole.ensures.no_more c.pass_whole.ensures.torn (c.pass_whole.ensures.passed told).reads)

pub returns-in_err-pass_whole-clause-within : goal.returns-in_err-pass_whole-clause-within
returns-in_err-pass_whole-clause-within g c told =
    let d = g.D.Disk in let old = c.args.self.now in
    within_marked d.images d.moment old.past.items c.remember.new.past.items old.inner c.pass_whole.new.disk old.held.items c.pass_whole.new.held.items c.in_ok-remember.ensures.ok
    (λ f e left. left_ready (settled_by old.fired old.how) old.held.items c.prepare.new.held.items c.prepare.ensures (d.images old.inner (d.moment old.inner)) f e ((c.pass_whole.ensures.passed told).images_left f e left))

pub returns-in_err-pass_whole-clause-went : goal.returns-in_err-pass_whole-clause-went
returns-in_err-pass_whole-clause-went g c =
    let d = g.D.Disk in let old = c.args.self.now in (
      c.pass_whole.ensures.came,
      λ told. mirrored_marked d.images d.moment old.past.items c.remember.new.past.items old.inner c.pass_whole.new.disk old.held.items c.pass_whole.new.held.items c.in_ok-remember.ensures.ok
          (widen (d.moment old.inner) (d.moment c.pass_whole.new.disk) (d.images old.inner) (d.images c.pass_whole.new.disk) (LeftNow d.images d.moment old.inner c.prepare.new.held.items) (LeftNow d.images d.moment old.inner old.held.items)
          (c.pass_whole.ensures.passed told).within (left_ready (settled_by old.fired old.how) old.held.items c.prepare.new.held.items c.prepare.ensures (d.images old.inner (d.moment old.inner)))),
    )

pub returns-clause-within : goal.returns-clause-within
returns-clause-within g c told =
    let d = g.D.Disk in let old = c.args.self.now in
    within_marked d.images d.moment old.past.items c.remember.new.past.items old.inner c.pass_whole.new.disk old.held.items c.pass_whole.new.held.items c.in_ok-remember.ensures.ok
    (λ f e left. left_ready (settled_by old.fired old.how) old.held.items c.prepare.new.held.items c.prepare.ensures (d.images old.inner (d.moment old.inner)) f e ((c.pass_whole.ensures.passed told).images_left f e left))

pub returns-clause-went : goal.returns-clause-went
returns-clause-went g c =
    let d = g.D.Disk in let old = c.args.self.now in (
      c.pass_whole.ensures.came,
      λ told. mirrored_marked d.images d.moment old.past.items c.remember.new.past.items old.inner c.pass_whole.new.disk old.held.items c.pass_whole.new.held.items c.in_ok-remember.ensures.ok
          (widen (d.moment old.inner) (d.moment c.pass_whole.new.disk) (d.images old.inner) (d.images c.pass_whole.new.disk) (LeftNow d.images d.moment old.inner c.prepare.new.held.items) (LeftNow d.images d.moment old.inner old.held.items)
          (c.pass_whole.ensures.passed told).within (left_ready (settled_by old.fired old.how) old.held.items c.prepare.new.held.items c.prepare.ensures (d.images old.inner (d.moment old.inner)))),
    )

pub returns-clause-left : goal.returns-clause-left
returns-clause-left g c told f =
    let d = g.D.Disk in let old = c.args.self.now in
    (c.pass_whole.ensures.passed told).reads f ∙ reads_ready (settled_by old.fired old.how) old.held.items c.prepare.new.held.items c.prepare.ensures (d.seen old.inner) f

pub returns-clause-durable : goal.returns-clause-durable
returns-clause-durable g c told f some =
    let d = g.D.Disk in let old = c.args.self.now in
    bare_only d.images d.moment d.seen c.remember.new.past.items c.pass_whole.new.disk c.pass_whole.new.held.items f c.in_ok-pass_whole.ensures.empty
    (c.in_ok-pass_whole.ensures.durable told f (λ none. some (subst (Others f) c.prepare.ensures none)))
