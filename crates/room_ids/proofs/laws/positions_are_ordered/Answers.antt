use Rattle.room_ids.proofs.Makings.{after_above, before_below, between_between}
use Rattle.room_ids.proofs.laws.positions_are_ordered.Goals as goal

pub returns-clause-after : goal.returns-clause-after
returns-clause-after c = after_above

pub returns-clause-before : goal.returns-clause-before
returns-clause-before c = before_below

pub returns-clause-between : goal.returns-clause-between
returns-clause-between c = between_between
