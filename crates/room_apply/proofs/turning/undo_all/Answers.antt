-- What is left to prove of `turning::undo_all`.
use Rattle.std.proofs.Common.{◌≡◌, ◌++◌, [], ◌∷◌, List, ℕ, sym, ap, ◌∙◌, subst, append_assoc}
use Rattle.room_nodes.specs.Shape.{Nodes}
use Rattle.room_nodes.specs.Turns.{turned, reverse, CanTurn}
use Rattle.room_apply.specs.Edits.{turned_all, reverse_all, CanTurnAll, places, HasPlace, places_all, HasPlaces}
use Rattle.room_apply.proofs.Lasts.{turned_last, places_last, can_last, place_last, reverse_last}
use Rattle.room_nodes.specs.declared.turns.Turn.{Turn}
use Rattle.room_apply.proofs.turning.undo_all.Goals as goal

-- the step of the loop, over plain values
module _ (t : Nodes) (s : ℕ) (es fs gs : List Turn) (c : Turn) (e : es ≡ fs ++ c ∷ []) where
  can_step : CanTurnAll t es → CanTurn t c × CanTurnAll (turned t c) fs
  can_step h = can_last t fs c (subst (CanTurnAll t) e h)

  place_step : HasPlaces s es → HasPlace s c × HasPlaces (places s c) fs
  place_step h = place_last s fs c (subst (HasPlaces s) e h)

  nodes_step : (u : Nodes) → u ≡ turned t c → turned_all u fs ≡ turned_all t es
  nodes_step u is = ap (λ (v : Nodes). turned_all v fs) is ∙ sym (turned_last t fs c) ∙ ap (turned_all t) (sym e)

  spare_step : (r : ℕ) → r ≡ places s c → places_all r fs ≡ places_all s es
  spare_step r is = ap (λ n. places_all n fs) is ∙ sym (places_last s fs c) ∙ ap (places_all s) (sym e)

  to_step : (u : Nodes) (r : Turn) (hs : List Turn) → u ≡ turned t c → r ≡ reverse t c → hs ≡ gs ++ r ∷ []
      → hs ++ reverse_all u fs ≡ gs ++ reverse_all t es
  to_step u r hs is was more =
      ap (λ xs. xs ++ reverse_all u fs) more
      ∙ append_assoc gs (r ∷ []) (reverse_all u fs)
      ∙ ap (λ d. gs ++ d ∷ reverse_all u fs) was
      ∙ ap (λ (v : Nodes). gs ++ reverse t c ∷ reverse_all v fs) is
      ∙ ap (λ xs. gs ++ xs) (sym (reverse_last t fs c) ∙ ap (reverse_all t) (sym e))

pub turn-requires-clause-can : goal.turn-requires-clause-can
turn-requires-clause-can g c =
    (can_step _ 0 c.loop-change.done.items c.pop.new.self.items [] c.in-Some.change c.in-Some.ensures.items
    c.loop-change.invariant.can).0

pub turn-requires-clause-place : goal.turn-requires-clause-place
turn-requires-clause-place g c =
    (place_step (g.T.Tree.nodes c.loop-change.t) _ c.loop-change.done.items c.pop.new.self.items [] c.in-Some.change
    c.in-Some.ensures.items c.loop-change.invariant.place).0

pub loop-change-preserved : goal.loop-change-preserved
loop-change-preserved g c =
    let t = g.T.Tree.nodes c.loop-change.t in
    let s = g.T.Tree.spare c.loop-change.t in
    let es = c.loop-change.done.items in
    let fs = c.pop.new.self.items in
    let d = c.in-Some.change in
    let e = c.in-Some.ensures.items in
    record {
      can = subst (λ (u : Nodes). CanTurnAll u fs) (sym c.turn.ensures.nodes)
          (can_step t s es fs [] d e c.loop-change.invariant.can).1;
      place = subst (λ n. HasPlaces n fs) (sym c.turn.ensures.spare)
          (place_step t s es fs [] d e c.loop-change.invariant.place).1;
      nodes = nodes_step t s es fs [] d e _ c.turn.ensures.nodes ∙ c.loop-change.invariant.nodes;
      spare = spare_step t s es fs [] d e _ c.turn.ensures.spare ∙ c.loop-change.invariant.spare;
    }
