use Rattle.std.proofs.Common.{rules, ◌∙◌, ◌<◌, length}
use Rattle.room_editor.proofs.Pending.{last_clock_is}
use Rattle.room_editor.proofs.putting.last_clock.Goals as goal

pub returns-in-Some-clause-clock : goal.returns-in-Some-clause-clock
returns-in-Some-clause-clock c = λ a run.
    let long : 0 < length c.args.ops.now = search rules in
    c.clock.ensures.value
    ∙ last_clock_is a c.args.«or» c.args.ops.now c.in-Some.op.now run long c.in-Some.ensures.value
