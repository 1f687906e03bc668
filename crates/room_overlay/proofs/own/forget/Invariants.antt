use Rattle.std.proofs.Common.{◌≡◌, ◌-◌, ◌≤◌, drop, length}
use Rattle.room_overlay.specs.Kept.{above}
use Rattle.room_overlay.proofs.own.forget.Given as goal

abbrev pub invariant-loop-gone : goal.invariant-loop-gone
invariant-loop-gone l =
    (above l.c (drop l.gone l.lasts.items) ≡ above l.c l.lasts.items) × (l.gone ≤ length l.lasts.items)

abbrev pub decreases-loop-gone : goal.decreases-loop-gone
decreases-loop-gone l = length l.lasts.items - l.gone
