-- Changes within some cells, on two trees that agree on them.
use Rattle.std.proofs.Common.{◌≡◌, List, [], ◌∷◌, ◌++◌, refl, sym, subst}
use Rattle.std.specs.FinMap.{get}
use Rattle.room_ids.specs.declared.ids.NodeId.{NodeId}
use Rattle.room_nodes.specs.Cells.{Agrees}
use Rattle.room_nodes.specs.Primitives.{fields_in}
use Rattle.room_nodes.specs.Shape.{Nodes, IsFormed}
use Rattle.room_nodes.specs.Turns.{turned, reverse}
use Rattle.room_nodes.specs.declared.cells.Cell.{Cell}
use Rattle.room_nodes.specs.declared.cells.Cell.TheVariants.{Node as NodeOf, Slot, All}
use Rattle.room_nodes.specs.declared.turns.Turn.{Turn}
use Rattle.room_nodes.specs.declared.turns.Turn.TheVariants.{Put, Cut, Fields, Key}
use Rattle.room_nodes.proofs.Again.{again}
use Rattle.room_steps.proofs.Touching.{Framed, framed_then}
use Rattle.room_apply.specs.Edits.{turned_all, reverse_all}
use Rattle.room_apply.specs.Within.{FieldsOf, RunsIn, AreMoves}
use Rattle.room_apply.proofs.AgainAll.{again_all}
use Rattle.room_apply.proofs.Framed.{framed_turn}
use Rattle.room_apply.proofs.Inserting.{Stays}
use Rattle.room_apply.proofs.Lists.{append_runs, runs_can}
use Rattle.room_apply.proofs.OneTurn.{SameFields, turn_too, fields_after, reverse_within}

pub agrees_stay : (t u t2 u2 : Nodes) → Stays t u t2 u2 → (cs : List Cell) → Agrees t u cs → Agrees t2 u2 cs
agrees_stay t u t2 u2 s [] h = tt
agrees_stay t u t2 u2 s (NodeOf x ∷ cs) h = (s.node x h.0, agrees_stay t u t2 u2 s cs h.1)
agrees_stay t u t2 u2 s (Slot x j ∷ cs) h = (s.slot x j h.0, agrees_stay t u t2 u2 s cs h.1)
agrees_stay t u t2 u2 s (All x ∷ cs) h = (λ j. s.slot x j (h.0 j), agrees_stay t u t2 u2 s cs h.1)

-- of each change of fields, both trees have the same fields of the object
abbrev pub AllSame : Nodes → Nodes → List Turn → Type 0
AllSame t u [] = Unit {0}
AllSame t u (c ∷ es) = SameFields t u c × AllSame t u es

pub same_moves : (t u : Nodes) (es : List Turn) → AreMoves es → AllSame t u es
same_moves t u [] h = tt
same_moves t u (Put x n ∷ es) h = (tt, same_moves t u es h.1)
same_moves t u (Cut x ∷ es) h = (tt, same_moves t u es h.1)
same_moves t u (Fields x fs ∷ es) h = absurd h.0
same_moves t u (Key x k ∷ es) h = (tt, same_moves t u es h.1)

pub same_append : (t u : Nodes) (es ds : List Turn) → AllSame t u es → AllSame t u ds → AllSame t u (es ++ ds)
same_append t u [] ds h k = k
same_append t u (e ∷ es) ds h k = (h.0, same_append t u es ds h.1 k)

same_at : (t u t2 u2 : Nodes) → ((q : NodeId) → fields_in (get t q) ≡ fields_in (get u q)
    → fields_in (get t2 q) ≡ fields_in (get u2 q))
    → (c : Turn) → SameFields t u c → SameFields t2 u2 c
same_at t u t2 u2 h (Put x n) s = tt
same_at t u t2 u2 h (Cut x) s = tt
same_at t u t2 u2 h (Fields x fs) s = h x s
same_at t u t2 u2 h (Key x k) s = tt

module _ (cs : List Cell) (ns : FieldsOf) where
  -- outside the cells the tree is as it was
  pub framed_all : (t : Nodes) → IsFormed t → (es : List Turn) → RunsIn cs ns t es → Framed t (turned_all t es) cs
  framed_all t f [] h = record { node = λ q off. refl; slot = λ q k off. (refl, refl) }
  framed_all t f (e ∷ es) h =
      let u = turned_all t es in
      framed_then t u (turned u e) cs (framed_all t f es h.1)
      (framed_turn cs ns u (again_all t f es (runs_can cs ns t es h.1)).formed e h.0.0 h.0.1)

  pub record AreToo (t u : Nodes) (es : List Turn) : Type 0 where
    pub runs : RunsIn cs ns u es
    pub agrees : Agrees (turned_all t es) (turned_all u es) cs
    pub fields : (q : NodeId) → fields_in (get t q) ≡ fields_in (get u q)
        → fields_in (get (turned_all t es) q) ≡ fields_in (get (turned_all u es) q)

  pub turns_too : (t u : Nodes) → IsFormed t → IsFormed u → Agrees t u cs → (es : List Turn) → RunsIn cs ns t es
      → AllSame t u es → AreToo t u es
  turns_too t u f g h [] runs same = record { runs = tt; agrees = h; fields = λ q e. e }
  turns_too t u f g h (c ∷ es) runs same =
      let r = turns_too t u f g h es runs.1 same.1 in
      let a = turned_all t es in
      let b = turned_all u es in
      let fa = (again_all t f es (runs_can cs ns t es runs.1)).formed in
      let fb = (again_all u g es (runs_can cs ns u es r.runs)).formed in
      let one = turn_too cs ns a b fa fb r.agrees c runs.0.0 runs.0.1 (same_at t u a b r.fields c same.0) in
      record {
        runs = ((one.can, one.within), r.runs);
        agrees = agrees_stay a b (turned a c) (turned b c) one.stays cs r.agrees;
        fields = λ q e. fields_after a b q (r.fields q e) c runs.0.0 one.can;
      }

  -- the changes that take them back run within the cells too
  pub reverse_runs : (t : Nodes) → IsFormed t → (es : List Turn) → RunsIn cs ns t es
      → RunsIn cs ns (turned_all t es) (reverse_all t es)
  reverse_runs t f [] h = tt
  reverse_runs t f (c ∷ es) h =
      let u = turned_all t es in
      let a = again u (again_all t f es (runs_can cs ns t es h.1)).formed c h.0.0 in
      append_runs cs ns (turned u c) (reverse_all t es) (reverse u c ∷ [])
      (subst (λ (v : Nodes). RunsIn cs ns v (reverse_all t es)) (sym a.back) (reverse_runs t f es h.1))
      ((a.can, reverse_within cs ns u c h.0.0 h.0.1), tt)
