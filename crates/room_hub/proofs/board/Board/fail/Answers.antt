use Rattle.room_hub.proofs.Numbers.{kept_failed}
use Rattle.room_hub.proofs.board.Board.fail.Goals as goal

pub invariant_of-self-inside-2 : goal.invariant_of-self-inside-2
invariant_of-self-inside-2 c =
    (kept_failed c.self.inside.last _ _ _ _ _ c.add.ensures c.reserve.ensures.items c.self.inside.kept, tt)
