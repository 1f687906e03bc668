-- Operations settled one after the other do what the operations do, and settle to themselves.
use Rattle.std.proofs.Common.{◌≡◌, cond, List, [], ◌∷◌, refl, ap, ◌∙◌}
use Rattle.room_nodes.specs.declared.nodes.Body.{Body}
use Rattle.room_nodes.specs.Shape.{Nodes, IsFormed}
use Rattle.room_nodes.specs.Steps.{fold, step, effect, is_void, settled_body, settle_all}
use Rattle.room_nodes.proofs.Steps.{formed-step}
use Rattle.room_nodes.proofs.Settling.{settled-settled, void_settled}
use Rattle.room_steps.specs.Laws.{SettlesOnce}

settled_step : (t : Nodes) → IsFormed t → (b : Body) → step t (settled_body t b) ≡ step t b
unfolding step
settled_step t f b =
    ap (λ v. cond v t (effect t (settled_body t (settled_body t b)))) (void_settled t f b)
    ∙ ap (λ d. cond (is_void t b) t (effect t d)) (settled-settled t f b)

fold_settled : (t : Nodes) (bs : List Body) → IsFormed t → fold t (settle_all t bs) ≡ fold t bs
fold_settled t [] f = refl
fold_settled t (b ∷ bs) f = fold_settled (step t (settled_body t b)) bs (formed-step t f (settled_body t b)) ∙ ap (λ u. fold u bs) (settled_step t f b)

settled_again : (t : Nodes) (bs : List Body) → IsFormed t → settle_all t (settle_all t bs) ≡ settle_all t bs
settled_again t [] f = refl
settled_again t (b ∷ bs) f =
    let c = settled_body t b in
    ap (λ d. d ∷ settle_all (step t d) (settle_all (step t c) bs)) (settled-settled t f b) ∙ ap (λ cs. c ∷ cs) (settled_again (step t c) bs (formed-step t f c))

pub settles_once : SettlesOnce
settles_once = record { fold = fold_settled; again = settled_again }
