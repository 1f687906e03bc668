-- Operations that are settled as they are taken lead to the same tree.
use Rattle.std.proofs.Common.{◌≡◌, cond, List, [], ◌∷◌, ◌++◌, refl, sym, ap, ◌∙◌, subst}
use Rattle.room_nodes.specs.declared.nodes.Body.{Body}
use Rattle.room_nodes.specs.Shape.{Nodes, IsFormed}
use Rattle.room_nodes.specs.Steps.{fold, step, effect, is_void, settled_body, settle_all}
use Rattle.room_nodes.proofs.Steps.{formed-step, formed-fold}
use Rattle.room_nodes.proofs.Settling.{settled-settled, void_settled}
use Rattle.room_log.specs.Log.{Update, tree_after}
use Rattle.room_laws.specs.Undoing.{bodies_after}

pub settled_step : (t : Nodes) → IsFormed t → (b : Body) → step t (settled_body t b) ≡ step t b
unfolding step
settled_step t f b =
    ap (λ v. cond v t (effect t (settled_body t (settled_body t b)))) (void_settled t f b)
    ∙ ap (λ d. cond (is_void t b) t (effect t d)) (settled-settled t f b)

pub fold_settled : (t : Nodes) → IsFormed t → (bs : List Body) → fold t (settle_all t bs) ≡ fold t bs
fold_settled t f [] = refl
fold_settled t f (b ∷ bs) = fold_settled (step t (settled_body t b)) (formed-step t f (settled_body t b)) bs ∙ ap (λ u. fold u bs) (settled_step t f b)

pub fold-append : (t : Nodes) (cs bs : List Body) → fold t (cs ++ bs) ≡ fold (fold t cs) bs
fold-append t [] bs = refl
fold-append t (c ∷ cs) bs = fold-append (step t c) cs bs

pub tree_is : (t : Nodes) (us : List Update) → tree_after t us ≡ fold t (bodies_after us)
tree_is t [] = refl
tree_is t (u ∷ us) = tree_is (fold t u.bodies) us ∙ sym (fold-append t u.bodies (bodies_after us))

pub formed_after : (t : Nodes) → IsFormed t → (us : List Update) → IsFormed (tree_after t us)
formed_after t f us = subst IsFormed (sym (tree_is t us)) (formed-fold t f (bodies_after us))
