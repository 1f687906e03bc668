use Rattle.room_told.proofs.Screens as screens
use Rattle.room_told.proofs.accounts.screens_follow.Goals as goal

pub returns-clause-follow : goal.returns-clause-follow
returns-clause-follow c = screens.screens_follow

pub returns-clause-stay : goal.returns-clause-stay
returns-clause-stay c = screens.screens_stay
