use Rattle.std.proofs.Common.{◌∙◌, ◌<◌, ℕ, sym, subst}
use Rattle.room_disk.specs.Model.{Only, RunsBetween, OnFile}
use Rattle.room_disk.proofs.Moments.{narrow}
use Rattle.room_journal.specs.Files.{says, last_generation}
use Rattle.room_journal.specs.Rest.{Place, IsRenewed}
use Rattle.room_journal.proofs.Onward.{below_last}
use Rattle.room_journal.proofs.Renewing.{renewed}
use Rattle.room_journal.proofs.journal.Journal.renew.Goals as goal

pub returns-in_err-make_anew-clause-any_moment : goal.returns-in_err-make_anew-clause-any_moment
returns-in_err-make_anew-clause-any_moment g c told s o is ready =
    let d = g.D.Disk in
    let was = c.args.disk.now in
    let more : c.args.self.now.generation < last_generation =
    subst (λ (p : Place). p.generation < last_generation) c.self.view_is (below_last _ c.self.ranges.1.1.0.1 c.if-self.false) in
    subst (λ (f : ℕ). Only (d.seen was f) (d.images was (d.moment was) f)
    → RunsBetween (d.moment was) (d.moment c.make_anew.new.disk) (d.images was) (d.images c.make_anew.new.disk)
    (OnFile f (IsRenewed (says (d.seen was f)) c.args.self.now.generation s) (d.images was (d.moment was))))
    (c.other-other.ensures ∙ sym is)
    (λ only. narrow _ _ _ _ _ _ _ (c.make_anew.ensures.any_moment told) (renewed _ _ _ s _ more ready only))

pub returns-clause-any_moment : goal.returns-clause-any_moment
returns-clause-any_moment g c told s o is ready =
    let d = g.D.Disk in
    let was = c.args.disk.now in
    let more : c.args.self.now.generation < last_generation =
    subst (λ (p : Place). p.generation < last_generation) c.self.view_is (below_last _ c.self.ranges.1.1.0.1 c.if-self.false) in
    subst (λ (f : ℕ). Only (d.seen was f) (d.images was (d.moment was) f)
    → RunsBetween (d.moment was) (d.moment c.make_anew.new.disk) (d.images was) (d.images c.make_anew.new.disk)
    (OnFile f (IsRenewed (says (d.seen was f)) c.args.self.now.generation s) (d.images was (d.moment was))))
    (c.other-other.ensures ∙ sym is)
    (λ only. narrow _ _ _ _ _ _ _ (c.make_anew.ensures.any_moment told) (renewed _ _ _ s _ more ready only))
