use Rattle.std.proofs.Common.{◌≡◌, ◌∷◌, [], true, sym, subst}
use Rattle.room_hub.specs.Happening.{are_new, numbers}
use Rattle.room_hub.specs.Memory.{Board}
use Rattle.room_hub.proofs.Numbers.{dialled_as, dialled_new}
use Rattle.room_hub.proofs.board.Board.dial.Goals as goal

pub invariant_of-self-inside-2 : goal.invariant_of-self-inside-2
invariant_of-self-inside-2 c =
    (dialled_as c.self.inside.last c.in-Some.number _ _ _ _ _ _ c.add.ensures c.reserve.ensures.items c.in-Some.ensures c.in_ok-push.ensures.ok c.self.inside.kept, tt)

pub returns-clause-fresh : goal.returns-clause-fresh
returns-clause-fresh c =
    subst (λ (b : Board). are_new (numbers b.happened) (c.in-Some.number ∷ []) ≡ true) c.self.view_is
    (subst (λ n. are_new (numbers c.self.inside.happened.items) (n ∷ []) ≡ true) (sym c.in-Some.ensures) (dialled_new c.self.inside.last _ _ _ c.self.inside.kept))
