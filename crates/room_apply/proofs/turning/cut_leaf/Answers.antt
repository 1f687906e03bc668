-- What is left to prove of `turning::cut_leaf`.
use Rattle.std.proofs.Common.{◌≡◌, ◌++◌, [], ◌∷◌, List, sym, ap, ◌∙◌, subst}
use Rattle.std.specs.FinMap.{get}
use Rattle.room_apply.specs.Within.{ArePuts}
use Rattle.room_apply.proofs.Lists.{puts_after}
use Rattle.room_apply.proofs.UndoMore.{undo_more, undo_at}
use Rattle.room_nodes.specs.declared.turns.Turn.{Turn}
use Rattle.room_nodes.specs.declared.turns.Turn.TheVariants.{Cut}
use Rattle.room_apply.proofs.turning.cut_leaf.Goals as goal

noted : (ds es fs : List Turn) (r q : Turn) → ds ≡ es → r ≡ q → fs ≡ ds ++ r ∷ [] → fs ≡ es ++ q ∷ []
noted ds es fs r q a b c = c ∙ ap (λ xs. xs ++ r ∷ []) a ∙ ap (λ d. es ++ d ∷ []) b

pub returns-clause-puts : goal.returns-clause-puts
returns-clause-puts g c = λ h.
    subst ArePuts (sym (noted _ _ _ _ _ c.make_room.ensures.items c.turn-back.ensures.result c.keep.ensures.items))
    (puts_after c.args.done.now.items c.args.id (get (g.T.Tree.nodes c.args.t.now) c.args.id) c.requires.there h)

pub returns-clause-undo : goal.returns-clause-undo
returns-clause-undo g c = λ s a u.
    undo_at s _ _ a _ _ _ _ c.turn-back.ensures.nodes c.turn-back.ensures.spare
    (noted _ _ _ _ _ c.make_room.ensures.items c.turn-back.ensures.result c.keep.ensures.items)
    (undo_more s (g.T.Tree.nodes c.args.t.now) a (g.T.Tree.spare c.args.t.now) c.args.done.now.items (Cut c.args.id)
    (g.met.T.Tree.formed c.args.t.now) c.requires tt u)
