-- What is left to prove of `turning::turn_all`.
use Rattle.std.proofs.Common.{◌≡◌, ◌++◌, [], ◌∷◌, List, ℕ, sym, ap, ◌∙◌, subst, arith, append_assoc}
use Rattle.room_nodes.specs.Shape.{Nodes}
use Rattle.room_nodes.specs.Turns.{turned, reverse, CanTurn}
use Rattle.room_apply.specs.Edits.{turned_all, reverse_all, CanTurnAll, places, HasPlace, places_all, HasPlaces}
use Rattle.room_apply.proofs.Lasts.{turned_last, places_last, can_last, place_last, reverse_last}
use Rattle.room_nodes.specs.declared.turns.Turn.{Turn}
use Rattle.room_apply.proofs.turning.turn_all.Goals as goal

-- the step of the loop, over plain values
module _ (t : Nodes) (s : ℕ) (es fs gs : List Turn) (c : Turn) (e : es ≡ fs ++ c ∷ []) where
  can_step : CanTurnAll t es → CanTurn t c × CanTurnAll (turned t c) fs
  can_step h = can_last t fs c (subst (CanTurnAll t) e h)

  place_step : HasPlaces s es → HasPlace s c × HasPlaces (places s c) fs
  place_step h = place_last s fs c (subst (HasPlaces s) e h)

  nodes_step : (u : Nodes) → u ≡ turned t c → turned_all u fs ≡ turned_all t es
  nodes_step u is = ap (λ (v : Nodes). turned_all v fs) is ∙ sym (turned_last t fs c) ∙ ap (turned_all t) (sym e)

  spare_step : (r : ℕ) → r ≡ places s c → places_all r fs ≡ places_all s es
  spare_step r is = ap (λ n. places_all n fs) is ∙ sym (places_last s fs c) ∙ ap (places_all s) (sym e)

  to_step : (u : Nodes) (r : Turn) (hs : List Turn) → u ≡ turned t c → r ≡ reverse t c → hs ≡ gs ++ r ∷ []
      → hs ++ reverse_all u fs ≡ gs ++ reverse_all t es
  to_step u r hs is was more =
      ap (λ xs. xs ++ reverse_all u fs) more
      ∙ append_assoc gs (r ∷ []) (reverse_all u fs)
      ∙ ap (λ d. gs ++ d ∷ reverse_all u fs) was
      ∙ ap (λ (v : Nodes). gs ++ reverse t c ∷ reverse_all v fs) is
      ∙ ap (λ xs. gs ++ xs) (sym (reverse_last t fs c) ∙ ap (reverse_all t) (sym e))

pub turn-again-requires-clause-can : goal.turn-again-requires-clause-can
turn-again-requires-clause-can g c =
    (can_step _ 0 c.loop-change.from.items c.pop.new.self.items [] c.in-Some.change c.in-Some.ensures.items
    c.loop-change.invariant.can).0

pub turn-again-requires-clause-place : goal.turn-again-requires-clause-place
turn-again-requires-clause-place g c =
    (place_step (g.T.Tree.nodes c.loop-change.t) _ c.loop-change.from.items c.pop.new.self.items [] c.in-Some.change
    c.in-Some.ensures.items c.loop-change.invariant.place).0

pub loop-change-preserved : goal.loop-change-preserved
loop-change-preserved g c =
    let t = g.T.Tree.nodes c.loop-change.t in
    let s = g.T.Tree.spare c.loop-change.t in
    let es = c.loop-change.from.items in
    let fs = c.pop.new.self.items in
    let d = c.in-Some.change in
    let e = c.in-Some.ensures.items in
    record {
      can = subst (λ (u : Nodes). CanTurnAll u fs) (sym c.turn-again.ensures.nodes)
          (can_step t s es fs [] d e c.loop-change.invariant.can).1;
      place = subst (λ n. HasPlaces n fs) (sym c.turn-again.ensures.spare)
          (place_step t s es fs [] d e c.loop-change.invariant.place).1;
      nodes = nodes_step t s es fs [] d e _ c.turn-again.ensures.nodes ∙ c.loop-change.invariant.nodes;
      spare = spare_step t s es fs [] d e _ c.turn-again.ensures.spare ∙ c.loop-change.invariant.spare;
      to = to_step t s es fs c.loop-change.to.items d e _ _ _ c.turn-again.ensures.nodes c.turn-again.ensures.result
          c.keep.ensures.items ∙ c.loop-change.invariant.to;
      room = omega (
        arith,
        c.in-Some.ensures.cases,
        c.keep.ensures.len,
        c.keep.ensures.capacity,
        c.loop-change.invariant.room,
      );
      len = omega (arith, c.in-Some.ensures.cases, c.keep.ensures.len, c.loop-change.invariant.len);
      from_capacity = c.pop.ensures.capacity ∙ c.loop-change.invariant.from_capacity;
      to_capacity = omega (arith, c.keep.ensures.capacity, c.loop-change.invariant.to_capacity);
    }
