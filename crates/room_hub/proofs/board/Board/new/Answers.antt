use Rattle.std.proofs.Common.{ap, ◌∙◌}
use Rattle.room_hub.specs.Happening.{opened_in}
use Rattle.room_hub.specs.Memory.{greatest}
use Rattle.room_hub.proofs.Numbers.{kept_first}
use Rattle.room_hub.proofs.board.Board.new.Goals as goal

pub invariant_of-result : goal.invariant_of-result
invariant_of-result c =
    let last = c.greatest_of-last.ensures ∙ ap (λ l. greatest (opened_in l)) c.as_slice.ensures in
    (rw c.new-2.ensures (rw c.new.ensures.items (kept_first c.args.events c.greatest_of-last.result c.requires last)), tt)
