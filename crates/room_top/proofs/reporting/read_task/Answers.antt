use Rattle.room_top.proofs.Tasks.{read_lines}
use Rattle.room_top.proofs.reporting.read_task.Goals as goal

pub returns-in-Ok-clause-lines : goal.returns-in-Ok-clause-lines
returns-in-Ok-clause-lines c = read_lines c.args.input.now _ c.if-input-gt16777216.false c.in-Ok.ensures.ok
