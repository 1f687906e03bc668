use Rattle.std.proofs.Common.{rules, refl}
use Rattle.room_replay.proofs.Kept.{at_key, at_create, at_none}
use Rattle.room_replay.proofs.stepping.is_at.Goals as goal

pub returns-in-SetKey : goal.returns-in-SetKey
returns-in-SetKey c = at_key _ _ _ _ _ c.in-SetKey.is (search rules)

pub returns-in-Create : goal.returns-in-Create
returns-in-Create c = at_create _ _ _ _ _ _ _ _ c.in-Create.is (search rules)

pub returns-in-Update : goal.returns-in-Update
returns-in-Update c = at_none _ _ _ c.in-Update.is refl

pub returns-in-Delete : goal.returns-in-Delete
returns-in-Delete c = at_none _ _ _ c.in-Delete.is refl

pub returns-in-DeleteKey : goal.returns-in-DeleteKey
returns-in-DeleteKey c = at_none _ _ _ c.in-DeleteKey.is refl
