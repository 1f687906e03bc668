use Rattle.room_store.proofs.Finding.{ok_is}
use Rattle.room_store.proofs.starting.begin.Goals as goal

pub returns-in-Ok-clause-settled : goal.returns-in-Ok-clause-settled
returns-in-Ok-clause-settled g c told kept = ok_is c.make_file.result _ _ (c.make_file.ensures.compacts told kept).settled c.in-Ok.is

pub returns-in-Ok-clause-any_moment : goal.returns-in-Ok-clause-any_moment
returns-in-Ok-clause-any_moment g c told kept = (c.make_file.ensures.compacts told kept).any_moment

pub returns-in-Ok-clause-others : goal.returns-in-Ok-clause-others
returns-in-Ok-clause-others g c told kept = (c.make_file.ensures.compacts told kept).others

pub returns-in-Err-clause-any_moment : goal.returns-in-Err-clause-any_moment
returns-in-Err-clause-any_moment g c told kept = (c.make_file.ensures.compacts told kept).any_moment

pub returns-in-Err-clause-others : goal.returns-in-Err-clause-others
returns-in-Err-clause-others g c told kept = (c.make_file.ensures.compacts told kept).others

pub returns-in-Ok-clause-elsewhere : goal.returns-in-Ok-clause-elsewhere
returns-in-Ok-clause-elsewhere g c told kept = (c.make_file.ensures.compacts told kept).elsewhere

pub returns-in-Err-clause-elsewhere : goal.returns-in-Err-clause-elsewhere
returns-in-Err-clause-elsewhere g c told kept = (c.make_file.ensures.compacts told kept).elsewhere
