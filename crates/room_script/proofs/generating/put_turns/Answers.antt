use Rattle.std.proofs.Common.{◌∙◌, arith, string_bytes}
use Rattle.room_script.proofs.Spelled.{turn_goes}
use Rattle.room_script.proofs.generating.put_turns.Goals as goal

pub loop-done-preserved : goal.loop-done-preserved
loop-done-preserved c =
    let l = c.loop-done in
    rw (c.in_ok-put_after_turn.ensures, c.in_ok-s.ensures.lines, c.in_ok-s.ensures.state)
    (turn_goes (string_bytes l.out) c.args.count l.done l.s (omega arith) ∙ l.invariant)
