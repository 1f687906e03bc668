-- Changes that are taken back can be made again.
use Rattle.std.proofs.Common.{◌≡◌, List, [], ◌∷◌, refl, sym, ap, ◌∙◌, subst}
use Rattle.room_nodes.specs.Shape.{Nodes, IsFormed}
use Rattle.room_nodes.specs.Turns.{turned, reverse}
use Rattle.room_nodes.proofs.Again.{again}
use Rattle.room_apply.specs.Edits.{turned_all, reverse_all, CanTurnAll}
use Rattle.room_apply.proofs.Lasts.{turned_last, last_can, reverse_last}
use Rattle.room_nodes.specs.declared.turns.Turn.{Turn}

pub record AreAgain (t : Nodes) (cs : List Turn) : Type 0 where
  pub formed : IsFormed (turned_all t cs)
  pub back : turned_all (turned_all t cs) (reverse_all t cs) ≡ t
  pub can : CanTurnAll (turned_all t cs) (reverse_all t cs)
  pub same : reverse_all (turned_all t cs) (reverse_all t cs) ≡ cs

pub again_all : (t : Nodes) → IsFormed t → (cs : List Turn) → CanTurnAll t cs → AreAgain t cs
again_all t f [] h = record { formed = f; back = refl; can = tt; same = refl }
again_all t f (c ∷ cs) h =
    let r = again_all t f cs h.1 in
    let u = turned_all t cs in
    let a = again u r.formed c h.0 in
    let rs = reverse_all t cs in
    let d = reverse u c in
    record {
      formed = a.formed;
      back = turned_last (turned u c) rs d ∙ ap (λ (v : Nodes). turned_all v rs) a.back ∙ r.back;
      can = last_can (turned u c) rs d a.can (subst (λ (v : Nodes). CanTurnAll v rs) (sym a.back) r.can);
      same = reverse_last (turned u c) rs d ∙ ap (λ (v : Nodes). reverse (turned u c) d ∷ reverse_all v rs) a.back
          ∙ ap (λ e. e ∷ reverse_all u rs) a.same ∙ ap (λ es. c ∷ es) r.same;
    }
