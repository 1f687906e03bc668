use Rattle.std.proofs.Common.{◌≡◌, subst}
use Rattle.std.specs.Prelude.{Ok}
use Rattle.room_notice.specs.Notices.{notices_in}
use Rattle.room_overlay.specs.Over.{Over, update}
use Rattle.room_editor.proofs.Pending.{update_keeps}
use Rattle.room_editor.proofs.Taken.{update_notices}
use Rattle.room_editor.proofs.taking.update_over.Goals as goal

pub returns-clause-kept : goal.returns-clause-kept
returns-clause-kept g c =
    update_keeps c.args.over.now c.update.new.self c.args.seq c.args.ops.now c.last_issued.ensures.runs
    (subst (λ (o : Over). update o c.args.seq c.args.ops.now ≡ Ok c.update.new.self) c.in_ok-notices.ensures.same
    c.in_ok-update.ensures.ok)

pub returns-clause-notices : goal.returns-clause-notices
returns-clause-notices g c =
    update_notices c.args.over.now c.update.new.self c.args.seq c.args.ops.now (notices_in c.in_ok-notices.notices)
    c.last_issued.ensures.runs
    (subst (λ (o : Over). update o c.args.seq c.args.ops.now ≡ Ok c.update.new.self) c.in_ok-notices.ensures.same
    c.in_ok-update.ensures.ok)
    c.in_ok-notices.ensures.notices
