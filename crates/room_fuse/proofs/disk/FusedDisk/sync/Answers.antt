use Rattle.std.proofs.Common.{refl, reverse, length, sym, ◌∙◌}
use Rattle.room_fuse.proofs.Lists.{others_reverse, content_skip}
use Rattle.room_fuse.proofs.Rests.{rest_below}
use Rattle.room_fuse.proofs.Holding.{steps_sync, size_marked}
use Rattle.room_fuse.proofs.Mirroring.{stood, counts_on, on_both, always, synced_only, mirrored_marked, mirrored_held, left_others, left_none}
use Rattle.room_fuse.proofs.disk.FusedDisk.sync.Goals as goal

pub returns-in_err-admit-clause-came : goal.returns-in_err-admit-clause-came
returns-in_err-admit-clause-came g c = let d = g.D.Disk in let old = c.args.self.now in stood d.images d.moment d.came g.met.D.Disk.came_same d.tells old.fired old.armed old.how old.past.items old.past.items old.inner old.held.items old.held.items refl refl

pub returns-in_err-remember-clause-came : goal.returns-in_err-remember-clause-came
returns-in_err-remember-clause-came g c =
    let d = g.D.Disk in let old = c.args.self.now in
    stood d.images d.moment d.came g.met.D.Disk.came_same d.tells old.fired old.armed old.how old.past.items c.remember.new.past.items old.inner old.held.items old.held.items c.in_err-remember.ensures.err refl

pub returns-in_err-count_down-clause-steps : goal.returns-in_err-count_down-clause-steps
returns-in_err-count_down-clause-steps g c told =
    let d = g.D.Disk in let old = c.args.self.now in
    steps_sync d.images d.moment d.seen c.args.file old.past.items c.remember.new.past.items old.inner old.inner old.held.items old.held.items c.in_ok-remember.ensures.ok (λ f. refl) (λ f e left. left)

pub returns-in_err-count_down-clause-came : goal.returns-in_err-count_down-clause-came
returns-in_err-count_down-clause-came g c =
    let d = g.D.Disk in let old = c.args.self.now in
    let marked = c.in_ok-remember.ensures.ok in (
      g.met.D.Disk.came_same old.inner,
      counts_on old.fired old.armed c.count_down.new.armed (length old.past.items) (length c.remember.new.past.items) c.count_down.new.fired old.how c.in_ok-admit.ensures.ok.0 (size_marked old.past.items c.remember.new.past.items old.inner old.held.items marked) c.count_down.ensures.counted,
      λ told. mirrored_held d.images d.moment old.past.items c.remember.new.past.items old.inner old.held.items old.held.items marked,
    )

pub invariant_of-self-2 : goal.invariant_of-self-2
invariant_of-self-2 g c = record {
  fits = λ told. (c.pass_all.ensures.passed told).fits;
  below = rest_below c.args.file c.args.self.now.held.items c.pass_all.new.held.items c.pass_all.ensures.rest c.args.self.now.below;
}

pub returns-clause-durable : goal.returns-clause-durable
returns-clause-durable g c told =
    let d = g.D.Disk in let old = c.args.self.now in
    on_both c.pass_all.result _ _ _ c.pass_all.ensures.none (c.pass_all.ensures.durable told)
    (synced_only d.images d.moment d.seen c.remember.new.past.items old.inner c.pass_all.new.disk old.held.items c.pass_all.new.held.items c.args.file (c.pass_all.ensures.passed told).reads)

pub returns-clause-steps : goal.returns-clause-steps
returns-clause-steps g c told =
    let d = g.D.Disk in let old = c.args.self.now in
    let passed = c.pass_all.ensures.passed told in
    steps_sync d.images d.moment d.seen c.args.file old.past.items c.remember.new.past.items old.inner c.pass_all.new.disk old.held.items c.pass_all.new.held.items c.in_ok-remember.ensures.ok passed.reads passed.images_left

pub returns-clause-passed : goal.returns-clause-passed
returns-clause-passed g c told stops =
    let d = g.D.Disk in let old = c.args.self.now in
    let left = c.pass_all.new.held.items in let later = d.seen c.pass_all.new.disk in
    let reads = (c.pass_all.ensures.passed told).reads in
    record {
      here = on_both c.pass_all.result _ _ _ c.pass_all.ensures.none c.pass_all.ensures.none
          (λ none again how. left_none how later left c.args.file none ∙ sym (content_skip later (reverse left) c.args.file (others_reverse c.args.file left none)) ∙ reads c.args.file);
      others = always c.pass_all.result _ (λ how f other. left_others how (d.seen old.inner) later old.held.items left c.args.file f other ((c.pass_all.ensures.spares told).reads f other) (reads f) c.pass_all.ensures.rest);
      at_stop = λ calm fired. absurd (cc (fired, c.in_ok-count_down.ensures.ok.0));
    }

pub returns-clause-came : goal.returns-clause-came
returns-clause-came g c =
    let d = g.D.Disk in let old = c.args.self.now in
    let marked = c.in_ok-remember.ensures.ok in (
      c.pass_all.ensures.came,
      counts_on old.fired old.armed c.count_down.new.armed (length old.past.items) (length c.remember.new.past.items) c.count_down.new.fired old.how c.in_ok-admit.ensures.ok.0 (size_marked old.past.items c.remember.new.past.items old.inner old.held.items marked) c.count_down.ensures.counted,
      λ told. mirrored_marked d.images d.moment old.past.items c.remember.new.past.items old.inner c.pass_all.new.disk old.held.items c.pass_all.new.held.items marked (c.pass_all.ensures.passed told).within,
    )
