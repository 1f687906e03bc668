use Rattle.std.proofs.Common.{subst}
use Rattle.room_journal.specs.Rest.{Place, IsAtRest}
use Rattle.room_journal.specs.Appends.{Appends}
use Rattle.room_journal.proofs.journal.Journal.append.Goals as goal

pub returns-then-is_ok-clause-appends : goal.returns-then-is_ok-clause-appends
returns-then-is_ok-clause-appends g c told =
    let d = g.D.Disk in
    subst (λ (p : Place). IsAtRest (d.seen c.args.disk.now p.file) p.generation p.end
    → Appends d.seen d.moment d.images p c.args.ready.now c.args.disk.now c.put_record-result.new.disk c.put_record-result.result)
    c.self.view_is (λ rests. c.put_record-result.ensures.appends told _ _ rests) (c.requires.rests told)

pub returns-else-is_ok-clause-appends : goal.returns-else-is_ok-clause-appends
returns-else-is_ok-clause-appends g c told =
    let d = g.D.Disk in
    subst (λ (p : Place). IsAtRest (d.seen c.args.disk.now p.file) p.generation p.end
    → Appends d.seen d.moment d.images p c.args.ready.now c.args.disk.now c.put_record-result.new.disk c.put_record-result.result)
    c.self.view_is (λ rests. c.put_record-result.ensures.appends told _ _ rests) (c.requires.rests told)
