-- The laws of notices.
use Rattle.std.proofs.Common.{◌≡◌, Bool, true, false, cond, List, [], ◌∷◌, ◌++◌, Option, Some, None, refl, sym, ap, ◌∙◌, subst}
use Rattle.room_json.specs.Value.{Value}
use Rattle.room_nodes.specs.declared.nodes.Body.{Body}
use Rattle.room_nodes.specs.Ordered.{IsOrderedTree, AreOrderedBodies}
use Rattle.room_nodes.specs.Shape.{Nodes, IsFormed}
use Rattle.room_nodes.specs.Steps.{effect, fold, is_void, settled_body, step}
use Rattle.room_nodes.proofs.Settling.{void_settled}
use Rattle.room_nodes.proofs.Steps.{formed-step}
use Rattle.room_steps.proofs.OrderedSteps.{ordered_step}
use Rattle.room_steps.proofs.Restoring.{step_acts, step_void}
use Rattle.room_items.specs.View.{view}
use Rattle.room_model.specs.Notices.{Notice, applied, apply_all, apply_while, body_notices, notices_of, notices_of_all, or_stays}
use Rattle.room_told.proofs.Showing.{Shows, shows_body}

one_by : (t : Nodes) → IsFormed t → IsOrderedTree t → (b : Body) (v : Bool) → is_void t b ≡ v → Shows t (step t b) (cond v [] (body_notices t (step t b) (settled_body t b)))
one_by t f ordered b true e = subst (λ (u : Nodes). Shows t u []) (sym (step_void t b e)) refl
one_by t f ordered b false e =
    let c = settled_body t b in
    let acts : step t b ≡ effect t c = step_acts t b e in
    subst (λ (u : Nodes). Shows t u (body_notices t u c)) (sym acts)
    (shows_body t f ordered c (void_settled t f b ∙ e) (subst IsFormed acts (formed-step t f b)))

-- of one operation
pub one_shows : (t : Nodes) (b : Body) → IsFormed t → IsOrderedTree t → apply_all (notices_of t b) (view t) ≡ (view (step t b), true)
one_shows t b f ordered = one_by t f ordered b (is_void t b) refl

-- notices behind others

not_all : (v w : Value) → ◌≡◌ {A = Value × Bool} (v, false) (w, true) → ⊥
not_all v w e = false_true (ap (λ (p : Value × Bool). p.1) e)
  where
    false_true : false ≡ true → ⊥
    false_true e = cc

stopped : (ns : List Notice) (v : Value) → apply_while false ns v ≡ (v, false)
stopped [] v = refl
stopped (n ∷ ns) v = refl

more_by : (ns ms : List Notice) (v w : Value) (o : Option Value) → apply_while (or_stays v o).1 ns (or_stays v o).0 ≡ (w, true) → ((y : Value) → apply_all ns y ≡ (w, true) → apply_all (ns ++ ms) y ≡ apply_all ms w)
    → apply_while (or_stays v o).1 (ns ++ ms) (or_stays v o).0 ≡ apply_all ms w
more_by ns ms v w None e more = absurd (not_all v w (sym (stopped ns v) ∙ e))
more_by ns ms v w (Some y) e more = more y e

pub then_more : (ns ms : List Notice) (v w : Value) → apply_all ns v ≡ (w, true) → apply_all (ns ++ ms) v ≡ apply_all ms w
then_more [] ms v w e = ap (λ (p : Value × Bool). apply_all ms p.0) e
then_more (n ∷ ns) ms v w e = more_by ns ms v w (applied n v) e (λ y h. then_more ns ms y w h)

-- of operations in order
pub all_show : (t : Nodes) (bs : List Body) → IsFormed t → IsOrderedTree t → AreOrderedBodies bs → apply_all (notices_of_all t bs) (view t) ≡ (view (fold t bs), true)
all_show t [] f ordered h = refl
all_show t (b ∷ bs) f ordered h =
    then_more (notices_of t b) (notices_of_all (step t b) bs) (view t) (view (step t b)) (one_shows t b f ordered)
    ∙ all_show (step t b) bs (formed-step t f b) (ordered_step t b ordered h.0) h.1
