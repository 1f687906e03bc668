use Rattle.std.proofs.Common.{◌≡◌, drop}
use Rattle.room_log.specs.Taking.{rest_beyond}
use Rattle.room_arrivals.proofs.news.is_any_new.Given as goal

abbrev pub invariant-loop-op : goal.invariant-loop-op
invariant-loop-op l = rest_beyond l.last (drop l.op-index l.ops) ≡ rest_beyond l.last l.ops
