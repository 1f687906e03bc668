-- What the types of the program stand for in the model.
use Rattle.std.specs.Prelude.{map}
use Rattle.room_model.specs.Access as model
use Rattle.room_access.specs.declared.access.Level.{Level}
use Rattle.room_access.specs.declared.access.Level.TheVariants.{Nothing, Read, Presence, Write}
use Rattle.room_access.specs.declared.access.Pass.{Pass}
use Rattle.room_access.specs.declared.access.Rule.{Rule}
use Rattle.room_access.specs.declared.access.Access.{Access}
use Rattle.room_access.specs.declared.access.Decision.{Decision}

abbrev pub level_of : Level → model.Level
level_of Nothing = model.Nothing
level_of Read = model.Read
level_of Presence = model.Presence
level_of Write = model.Write

abbrev pub pass_of : Pass → model.Pass
pass_of p = record { word = p.word; group = p.group }

abbrev pub rule_of : Rule → model.Rule
rule_of r = record { room = r.room; group = r.group; level = level_of r.level }

abbrev pub access_of : Access → model.Access
access_of a = record { passes = map pass_of a.passes; policy = map rule_of a.policy }

abbrev pub decision_of : Decision → model.Decision
decision_of d = record { level = level_of d.level; row = d.row }
