use Rattle.room_top.specs.Commands.{command_in}
use Rattle.room_top.proofs.Commanding.{ends_none_as}
use Rattle.room.proofs.command.run_on.Goals as goal

pub returns-in-Err-clause-ends : goal.returns-in-Err-clause-ends
returns-in-Err-clause-ends g c wanted = ends_none_as (command_in c.args.words.now) _ _ _ _
