use Rattle.std.proofs.Common.{rules}
use Rattle.room_script.specs.Told.{told_of}
use Rattle.room_world.specs.Kinds.{IsTaken}
use Rattle.room_world.proofs.Telling.{untold}
use Rattle.room_world.proofs.world.World.asked.Goals as goal

pub returns-in_default : goal.returns-in_default
returns-in_default g c l is =
    let taken : IsTaken (told_of c.args.line.now) = search rules in
    absurd (untold (told_of c.args.line.now) l taken is)
