use Rattle.room_ids.proofs.Makings.{made_positions, made_short, lowest_last}
use Rattle.room_ids.proofs.laws.positions_are_made.Goals as goal

pub returns-clause-positions : goal.returns-clause-positions
returns-clause-positions c = made_positions

pub returns-clause-short : goal.returns-clause-short
returns-clause-short c = made_short

pub returns-clause-lowest : goal.returns-clause-lowest
returns-clause-lowest c = lowest_last
