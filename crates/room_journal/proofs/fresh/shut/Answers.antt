use Rattle.std.proofs.Common.{inl, inr}
use Rattle.room_disk.proofs.Moments.{rested, rested_then, as_before}
use Rattle.room_journal.proofs.Freshened.{on_file}
use Rattle.room_journal.proofs.fresh.shut.Goals as goal

pub returns-in_err-is_shut-clause-within : goal.returns-in_err-is_shut-clause-within
returns-in_err-is_shut-clause-within g c told = rested _ _ _ _ _ _ _ _ (c.is_shut.ensures.stays told).files (λ e left. inl left)

pub returns-then-branch-clause-within : goal.returns-then-branch-clause-within
returns-then-branch-clause-within g c told =
    let stays = (c.is_shut.ensures.stays told).files in
    rested_then _ _ _ _ _ _ _ _ _ _ _ stays (on_file _ _ _ _ _ (c.sync_twice.ensures.within told)) (λ e left. inl left) (λ e left. inl (as_before _ _ _ _ _ _ stays _ e left))

pub returns-else-branch-clause-within : goal.returns-else-branch-clause-within
returns-else-branch-clause-within g c told =
    let stays = (c.is_shut.ensures.stays told).files in
    rested_then _ _ _ _ _ _ _ _ _ _ _ stays (c.put_down.ensures.within told) (λ e left. inl left)
    (λ e left. inr (λ is. let yes = (c.in_ok-is_shut.ensures.shut told).1 is in cc (yes, c.if-branch.false), (left.0, as_before _ _ _ _ _ _ stays _ left.0 left.1, left.2)))
