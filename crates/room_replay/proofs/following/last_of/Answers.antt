use Rattle.std.proofs.Common.{rules, refl, ◌-◌}
use Rattle.std.specs.Prelude.{slice_get}
use Rattle.room_replay.proofs.Actors.{last_there}
use Rattle.room_replay.proofs.following.last_of.Goals as goal

pub returns-in-Some : goal.returns-in-Some
returns-in-Some c =
    last_there c.args.sessions.now c.args.actor (slice_get c.args.sessions.now (c.args.actor - 1)) _ (search rules) refl (search rules)

pub returns-in-None : goal.returns-in-None
returns-in-None c =
    last_there c.args.sessions.now c.args.actor (slice_get c.args.sessions.now (c.args.actor - 1)) _ (search rules) refl (search rules)
