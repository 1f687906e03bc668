use Rattle.std.proofs.Common.{◌<◌, ◌^◌, ◌+◌, ◌∙◌, rules, subst, sym}
use Rattle.room_journal.specs.Rest.{Place}
use Rattle.room_store.specs.Calls.{Commits, CommitsOrStops}
use Rattle.room_store.proofs.Adding.{commits_by, stops_by, none_is_ok}
use Rattle.room_store.proofs.kept.Kept.append.Goals as goal

pub invariant_of-self : goal.invariant_of-self
invariant_of-self g c =
    let based : c.args.self.now.journal.base + 1 < 2 ^ 32 = search rules in
    record {
      small = λ none. none_is_ok c.append-answer.result _ c.append-answer.ensures.small (sym c.cause_in-self.ensures ∙ none);
      based = λ none. subst (λ (p : Place). p.base + 1 < 2 ^ 32)
          (sym (none_is_ok c.append-answer.result _ c.append-answer.ensures.place (sym c.cause_in-self.ensures ∙ none))) based;
    }

pub returns-clause-commits : goal.returns-clause-commits
returns-clause-commits g c told whole s t st follows valid =
    let e = c.append-answer.ensures in
    subst (λ r. Commits g.D.Disk.seen g.D.Disk.moment g.D.Disk.images c.args.self.now.journal c.append-answer.new.self s t c.args.disk.now c.append-answer.new.disk r) (sym c.told.ensures)
    (commits_by g.D.Disk.seen g.D.Disk.moment g.D.Disk.images c.args.self.now.journal c.append-answer.new.self s t c.args.ready.now _ _ _ e.place (e.appends told) st follows valid)

pub returns-clause-stop : goal.returns-clause-stop
returns-clause-stop g c told stops still whole s t st follows =
    subst (λ r. CommitsOrStops g.D.Disk.seen g.D.Disk.moment g.D.Disk.stopped g.D.Disk.leaves c.args.self.now.journal.base s t c.args.disk.now c.append-answer.new.disk r) (sym c.told.ensures)
    (stops_by g.D.Disk.seen g.D.Disk.moment g.D.Disk.images g.D.Disk.stopped g.D.Disk.leaves c.args.self.now.journal s t c.args.ready.now _ _ _ (c.append-answer.ensures.stop told stops still) st follows (c.append-answer.ensures.appends told).most)
