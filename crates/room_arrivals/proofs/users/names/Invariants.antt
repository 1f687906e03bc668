use Rattle.std.proofs.Common.{◌≡◌, ◌≤◌, drop, length}
use Rattle.std.specs.FinMap.{entries}
use Rattle.room_arrivals.specs.Names.{users_from, as_named}
use Rattle.room_arrivals.proofs.users.names.Given as goal

abbrev pub invariant-loop-place : goal.invariant-loop-place
invariant-loop-place g l =
    (as_named l.names.entries ≡ as_named (users_from l.store.state.sessions l.conn (drop l.place (entries l.links))))
    × (l.place ≤ length (entries l.links))

abbrev pub decreases-loop-place : goal.decreases-loop-place
decreases-loop-place g l = l.place
