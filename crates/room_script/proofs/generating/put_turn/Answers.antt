use Rattle.room_script.proofs.Spelled.{turn_speaks}
use Rattle.room_script.proofs.generating.put_turn.Goals as goal

pub returns-else-i-eq3-clause-state : goal.returns-else-i-eq3-clause-state
returns-else-i-eq3-clause-state c =
    rw (turn_speaks c.args.i c.args.s c.if-i-eq1.false c.if-i-eq2.false c.if-i-eq3.false) c.speaks.ensures.state
