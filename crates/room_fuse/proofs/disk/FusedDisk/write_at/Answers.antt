use Rattle.std.proofs.Common.{◌≡◌, refl, subst, sym, rules}
use Rattle.room_disk.specs.Changes.{ChangedInPart}
use Rattle.room_disk.specs.declared.change.FileChange.TheVariants.{Write}
use Rattle.room_fuse.specs.Past.{StepsThrough}
use Rattle.room_fuse.proofs.Mirroring.{stood, mirrored_steps}
use Rattle.room_fuse.proofs.disk.FusedDisk.write_at.Goals as goal

pub returns-in_err-admit-clause-came : goal.returns-in_err-admit-clause-came
returns-in_err-admit-clause-came g c = let d = g.D.Disk in let old = c.args.self.now in stood d.images d.moment d.came g.met.D.Disk.came_same d.tells old.fired old.armed old.how old.past.items old.past.items old.inner old.held.items old.held.items refl refl

pub returns-then-is_past_bound-clause-came : goal.returns-then-is_past_bound-clause-came
returns-then-is_past_bound-clause-came g c = let d = g.D.Disk in let old = c.args.self.now in stood d.images d.moment d.came g.met.D.Disk.came_same d.tells old.fired old.armed old.how old.past.items old.past.items old.inner old.held.items old.held.items refl refl

pub returns-in_err-change-clause-came : goal.returns-in_err-change-clause-came
returns-in_err-change-clause-came g c = let d = g.D.Disk in let old = c.args.self.now in stood d.images d.moment d.came g.met.D.Disk.came_same d.tells old.fired old.armed old.how old.past.items old.past.items old.inner old.held.items old.held.items refl refl

pub returns-clause-steps : goal.returns-clause-steps
returns-clause-steps g c told =
    let d = g.D.Disk in let old = c.args.self.now in let new = c.hold.new.self in
    let copied : c.in_ok-change.change ≡ Write c.args.at c.args.bytes.now = search rules in
    subst (λ x. StepsThrough d.seen d.moment d.images c.args.file (ChangedInPart x) old.past.items old.inner old.held.items new.past.items new.inner new.held.items) copied (c.hold.ensures.steps told)

pub returns-clause-came : goal.returns-clause-came
returns-clause-came g c =
    let d = g.D.Disk in let old = c.args.self.now in
    let new = c.hold.new.self in (
      subst (λ i. d.came old.inner i) (sym c.hold.ensures.inner) (g.met.D.Disk.came_same old.inner),
      c.hold.ensures.counts,
      λ told. mirrored_steps d.images d.moment d.seen c.args.file _ old.past.items new.past.items old.inner new.inner old.held.items new.held.items c.hold.ensures.inner (c.hold.ensures.steps told),
    )
