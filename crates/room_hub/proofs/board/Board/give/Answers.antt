use Rattle.std.proofs.Common.{◌≡◌, true, drop, sym, subst}
use Rattle.room_hub.specs.Happening.{are_new, numbers, opens}
use Rattle.room_hub.specs.Memory.{Board, first_of}
use Rattle.room_hub.proofs.Numbers.{gave_as, gave_new}
use Rattle.room_hub.proofs.board.Board.give.Goals as goal

pub invariant_of-self-inside-2 : goal.invariant_of-self-inside-2
invariant_of-self-inside-2 c =
    let first = subst (λ l. c.in_ok-event.event ≡ first_of (drop c.self.inside.at l)) c.as_slice.ensures c.in_ok-event.ensures in
    let rest = subst (λ l. drop c.passed-self-inside.result l ≡ drop 1 (drop c.self.inside.at l)) c.as_slice-2.ensures c.passed-self-inside.ensures in
    (gave_as c.self.inside.last _ _ _ _ _ _ _ _ c.add.ensures c.reserve.ensures.items c.in_ok-copy.ensures first rest c.self.inside.kept, tt)

pub returns-clause-fresh : goal.returns-clause-fresh
returns-clause-fresh c =
    let first = subst (λ l. c.in_ok-event.event ≡ first_of (drop c.self.inside.at l)) c.as_slice.ensures c.in_ok-event.ensures in
    subst (λ (b : Board). are_new (numbers b.happened) (opens c.in_ok-event.event) ≡ true) c.self.view_is
    (subst (λ e. are_new (numbers c.self.inside.happened.items) (opens e) ≡ true) (sym first) (gave_new c.self.inside.last _ _ _ c.self.inside.kept))
