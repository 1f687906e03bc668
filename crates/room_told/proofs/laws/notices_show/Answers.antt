use Rattle.room_told.proofs.Told.{all_show, one_shows}
use Rattle.room_told.proofs.laws.notices_show.Goals as goal

pub returns-clause-one : goal.returns-clause-one
returns-clause-one c = one_shows

pub returns-clause-all : goal.returns-clause-all
returns-clause-all c = all_show
