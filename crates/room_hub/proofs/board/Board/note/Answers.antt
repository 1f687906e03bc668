use Rattle.room_hub.proofs.Numbers.{kept_noted}
use Rattle.room_hub.proofs.board.Board.note.Goals as goal

pub invariant_of-self-inside-2 : goal.invariant_of-self-inside-2
invariant_of-self-inside-2 c =
    (rw c.in_ok-push.ensures.ok (rw c.add.ensures (rw c.reserve.ensures.items (rw c.in_ok-copy.ensures (kept_noted _ _ _ _ c.args.deed c.requires c.self.inside.kept)))), tt)
