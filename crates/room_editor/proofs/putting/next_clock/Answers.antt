use Rattle.room_editor.proofs.Pending.{opened_clock}
use Rattle.room_editor.proofs.putting.next_clock.Goals as goal

pub returns-clause-clock : goal.returns-clause-clock
returns-clause-clock g c =
    opened_clock c.args.over.now c.opened.result.now c.last_issued.result c.last_clock.result c.opened.ensures
    c.last_issued.ensures.last c.last_clock.ensures.clock
