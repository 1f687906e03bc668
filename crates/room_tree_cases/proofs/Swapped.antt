-- Of two operations that are apart the first is taken back first.
use Rattle.std.proofs.Common.{◌≡◌, ℕ, Bool, true, false, not, List, [], ◌∷◌, refl, sym, ap, ◌∙◌, subst}
use Rattle.std.specs.FinMap.{get}
use Rattle.room_ids.specs.declared.ids.NodeId.{NodeId}
use Rattle.room_nodes.specs.Cells.{Agrees, IsApart, SameSlot, cells_all, meets, overlaps_some, reads, writes}
use Rattle.room_nodes.specs.Cells.{writes_all}
use Rattle.room_nodes.specs.Shape.{Nodes, IsFormed}
use Rattle.room_nodes.specs.Steps.{step}
use Rattle.room_nodes.specs.declared.cells.Cell.{Cell}
use Rattle.room_nodes.specs.declared.cells.Cell.TheVariants.{Node as NodeOf, Slot, All}
use Rattle.room_nodes.specs.declared.nodes.Body.{Body}
use Rattle.room_nodes.proofs.Fitting.{both, not_true}
use Rattle.room_nodes.proofs.Steps.{formed-step, neither}
use Rattle.room_steps.proofs.Agreement.{framed}
use Rattle.room_steps.proofs.Alike.{Alike}
use Rattle.room_steps.proofs.Changing.{Kept}
use Rattle.room_steps.proofs.Commuting.{agrees_kept, agrees_off, framed_fold, kept_fold}
use Rattle.room_steps.proofs.Covering.{Agrees-append, covered-append, on_node, on_slot}
use Rattle.room_steps.proofs.SameCells.{same_on_cells}
use Rattle.room_steps.proofs.Touching.{Framed}
use Rattle.room_apply.specs.Ways.{IsWithCells}
use Rattle.room_apply.specs.Within.{cells}
use Rattle.room_tree_cases.proofs.Agreeing.{agrees_back, agrees_then}

module _ (t : Nodes) (f : IsFormed t) (a b : Body) (apart : IsApart t (a ∷ []) (b ∷ [])) where
  abbrev one : Nodes
  one = step t a

  abbrev both_done : Nodes
  both_done = step one b

  abbrev other : Nodes
  other = step t b

  off_b : meets (writes_all t (a ∷ [])) (cells_all t (b ∷ [])) ≡ false
  off_b = not_true _ (both (not (meets (writes_all t (a ∷ [])) (cells_all t (b ∷ [])))) _ apart).0

  off_a : meets (writes_all t (b ∷ [])) (cells_all t (a ∷ [])) ≡ false
  off_a = not_true _ (both (not (meets (writes_all t (a ∷ [])) (cells_all t (b ∷ [])))) _ apart).1

  b_stays : Agrees t one (cells_all t (b ∷ []))
  b_stays = agrees_off t one (writes_all t (a ∷ [])) (framed_fold t f (a ∷ [])) (cells_all t (b ∷ [])) off_b

  kept : Kept t one other both_done × (writes_all t (b ∷ []) ≡ writes_all one (b ∷ []))
  kept = kept_fold t one f (formed-step t f a) (b ∷ []) b_stays

  a_stays : Agrees one both_done (cells_all t (a ∷ []))
  a_stays = agrees_off one both_done (writes_all t (b ∷ []))
      (subst (Framed one both_done) (sym kept.1) (framed_fold one (formed-step t f a) (b ∷ []))) (cells_all t (a ∷ []))
      off_a

  a_apart : Agrees t other (cells_all t (a ∷ []))
  a_apart = agrees_off t other (writes_all t (b ∷ [])) (framed_fold t f (b ∷ [])) (cells_all t (a ∷ [])) off_a

  -- the cells of the first are behind both as it left them
  pub first_stays : Agrees one both_done (cells t a)
  first_stays = (Agrees-append one both_done (cells t a) [] a_stays).0

  off : (c : Cell) → overlaps_some c (cells t a) ≡ false → overlaps_some c (writes t a) ≡ false
  off c e = (neither (overlaps_some c (reads t a)) _ (sym (covered-append c (reads t a) (writes t a)) ∙ e)).1

  -- the first went back
  module _ (v : Nodes) (h : IsWithCells (cells t a) t both_done v) where
    on_cells : Agrees other v (cells t a)
    on_cells = agrees_then other t v (cells t a)
        (agrees_back t other (cells t a) (Agrees-append t other (cells t a) [] a_apart).0) h.cells

    node_by : (q : NodeId) (c : Bool) → overlaps_some (NodeOf q) (cells t a) ≡ c → Alike (get other q) (get v q)
    node_by q true e = on_node other v q (cells t a) on_cells e
    node_by q false e = kept.0.node q ((framed t f a).node q (off (NodeOf q) e)) ∙ h.elsewhere (NodeOf q) e

    slot_by : (q : NodeId) (k : List ℕ) (c : Bool) → overlaps_some (Slot q k) (cells t a) ≡ c → SameSlot other v q k
    slot_by q k true e = on_slot other v q k (cells t a) on_cells e
    slot_by q k false e =
        let s = kept.0.slot q k ((framed t f a).slot q k (off (Slot q k) e)) in
        let r = h.elsewhere (Slot q k) e in
        (s.0 ∙ r.0, s.1 ∙ r.1)

    as_other : (ds : List Cell) → Agrees other v ds
    as_other [] = tt
    as_other (NodeOf x ∷ ds) = (node_by x _ refl, as_other ds)
    as_other (Slot x k ∷ ds) = (slot_by x k _ refl, as_other ds)
    as_other (All x ∷ ds) = (λ k. slot_by x k _ refl, as_other ds)

    -- then the cells of the second are as it left them
    pub second_stays : Agrees both_done v (cells one b)
    second_stays =
        let same = same_on_cells.cells t one (b ∷ []) f (formed-step t f a) b_stays in
        let there = agrees_kept t one other both_done kept.0 (cells_all one (b ∷ []))
        (subst (Agrees t one) (sym same) b_stays) in
        agrees_then both_done other v (cells one b)
        (agrees_back other both_done (cells one b) (Agrees-append other both_done (cells one b) [] there).0)
        (as_other (cells one b))

-- the same of trees that a body made

pub first_fits : (t u v : Nodes) → IsFormed t → (a b : Body) → IsApart t (a ∷ []) (b ∷ []) → u ≡ step t a
    → v ≡ step u b → Agrees u v (cells t a)
first_fits t u v f a b apart made more =
    let all : v ≡ step (step t a) b = more ∙ ap (λ (x : Nodes). step x b) made in
    subst (λ (x : Nodes). Agrees x v (cells t a)) (sym made)
    (subst (λ (y : Nodes). Agrees (step t a) y (cells t a)) (sym all) (first_stays t f a b apart))

pub second_fits : (t u v w : Nodes) → IsFormed t → (a b : Body) → IsApart t (a ∷ []) (b ∷ []) → u ≡ step t a
    → v ≡ step u b → IsWithCells (cells t a) t v w → Agrees v w (cells u b)
second_fits t u v w f a b apart made more h =
    let all : v ≡ step (step t a) b = more ∙ ap (λ (x : Nodes). step x b) made in
    let led : IsWithCells (cells t a) t (step (step t a) b) w =
    subst (λ (x : Nodes). IsWithCells (cells t a) t x w) all h in
    subst (λ (x : Nodes). Agrees v w (cells x b)) (sym made)
    (subst (λ (y : Nodes). Agrees y w (cells (step t a) b)) (sym all) (second_stays t f a b apart w led))
