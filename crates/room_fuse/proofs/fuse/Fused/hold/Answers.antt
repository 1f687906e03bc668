use Rattle.std.proofs.Common.{◌≡◌, ◌++◌, ◌∷◌, [], refl, ap, subst, ◌∙◌}
use Rattle.room_disk.specs.Changes.{ChangedInPart}
use Rattle.room_disk.specs.Parts.{change_undone}
use Rattle.room_fuse.specs.Past.{IsMarked}
use Rattle.room_fuse.specs.declared.held.Held.{Held}
use Rattle.room_fuse.proofs.Holding.{fits_more, below_more, steps_still, steps_more}
use Rattle.room_fuse.proofs.fuse.Fused.hold.Goals as goal

pub returns-in_err-admit-clause-steps : goal.returns-in_err-admit-clause-steps
returns-in_err-admit-clause-steps g c told =
    let d = g.D.Disk in let old = c.args.self.now in
    steps_still d.images d.moment d.seen c.args.file (ChangedInPart c.args.change) (change_undone c.args.change) old.past.items old.past.items old.inner old.held.items old.held.items refl refl

pub returns-in_err-reserve-clause-steps : goal.returns-in_err-reserve-clause-steps
returns-in_err-reserve-clause-steps g c told =
    let d = g.D.Disk in let old = c.args.self.now in
    steps_still d.images d.moment d.seen c.args.file (ChangedInPart c.args.change) (change_undone c.args.change) old.past.items old.past.items old.inner old.held.items c.reserve.new.self.items refl c.reserve.ensures.items

pub returns-in_err-remember-clause-steps : goal.returns-in_err-remember-clause-steps
returns-in_err-remember-clause-steps g c told =
    let d = g.D.Disk in let old = c.args.self.now in
    steps_still d.images d.moment d.seen c.args.file (ChangedInPart c.args.change) (change_undone c.args.change) old.past.items c.remember.new.past.items old.inner old.held.items c.reserve.new.self.items c.in_err-remember.ensures.err c.reserve.ensures.items

pub invariant_of-self-2 : goal.invariant_of-self-2
invariant_of-self-2 g c =
    let old = c.args.self.now in
    let call : Held = record { file = c.args.file; change = c.args.change } in
    let longer : c.add.new.calls.items ≡ old.held.items ++ call ∷ [] = c.add.ensures ∙ ap (λ l. l ++ call ∷ []) c.reserve.ensures.items in
    record {
      fits = λ told. fits_more (g.D.Disk.seen old.inner) old.held.items c.add.new.calls.items call longer (c.requires.place told) (old.fits told);
      below = below_more old.held.items c.add.new.calls.items call longer c.requires.reach old.below;
    }

pub returns-clause-steps : goal.returns-clause-steps
returns-clause-steps g c told =
    let d = g.D.Disk in let old = c.args.self.now in
    let call : Held = record { file = c.args.file; change = c.args.change } in
    let longer : c.add.new.calls.items ≡ old.held.items ++ call ∷ [] = c.add.ensures ∙ ap (λ l. l ++ call ∷ []) c.reserve.ensures.items in
    let marked : IsMarked old.past.items old.inner old.held.items c.remember.new.past.items = subst (λ l. IsMarked old.past.items old.inner l c.remember.new.past.items) c.reserve.ensures.items c.in_ok-remember.ensures.ok in
    steps_more d.images d.moment d.seen call old.past.items c.remember.new.past.items old.inner old.held.items c.add.new.calls.items marked longer (c.requires.place told)
