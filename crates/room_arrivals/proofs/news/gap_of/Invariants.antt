use Rattle.std.proofs.Common.{◌≡◌, ◌+◌, drop}
use Rattle.room_log.specs.Taking.{gap_in, rest_beyond}
use Rattle.room_arrivals.proofs.news.gap_of.Given as goal

abbrev pub invariant-loop-op : goal.invariant-loop-op
invariant-loop-op l =
    gap_in l.expected (rest_beyond l.last (drop l.op-index l.ops)) ≡ gap_in (l.last + 1) (rest_beyond l.last l.ops)
