use Rattle.std.proofs.Common.{sym, subst}
use Rattle.room_disk.proofs.Moments.{stepped, followed, write_undone}
use Rattle.room_journal.proofs.down.put_down.Goals as goal

pub returns-in_err-write_at-clause-within : goal.returns-in_err-write_at-clause-within
returns-in_err-write_at-clause-within g c told = stepped _ _ _ _ _ _ _ _ (write_undone _ _) (c.write_at.ensures.steps told)

pub returns-clause-within : goal.returns-clause-within
returns-clause-within g c told =
    let write = c.write_at.ensures.steps told in
    followed _ _ _ _ _ _ _ _ _ _ (stepped _ _ _ _ _ _ _ _ (write_undone _ _) write) (stepped _ _ _ _ _ _ _ _ (λ d i. d) (c.sync.ensures.steps told))
    (λ e torn. torn) (λ e same. write.by_step e (subst (g.D.Disk.images c.write_at.new.self (g.D.Disk.moment c.write_at.new.self) c.args.file) (sym same.2) same.1))
