use Rattle.std.proofs.Common.{[], ◌∷◌, sym, ◌∙◌, subst}
use Rattle.room_nodes.specs.Cells.{Agrees, IsApart}
use Rattle.room_nodes.specs.Shape.{Nodes}
use Rattle.room_apply.specs.Ways.{IsWithCells}
use Rattle.room_apply.specs.Within.{cells}
use Rattle.room_tree_cases.proofs.Fitted.{fits, may_fit}
use Rattle.room_tree_cases.proofs.Swapped.{first_fits, second_fits}
use Rattle.room_tree_cases.proofs.pairs.first_first.Goals as goal

pub fitted_back-requires : goal.fitted_back-requires
fitted_back-requires g c =
    let t = g.T.Tree in
    let start = t.nodes c.args.t.now in
    let a = c.args.a.now.body in
    let b = c.args.b.now.body in
    let apart : IsApart start (a ∷ []) (b ∷ []) = sym c.apart.ensures ∙ c.if-not-apart.false in
    may_fit start (t.nodes c.step.new.t) (t.nodes c.step-2.new.t) a c.in_ok-first.first c.in_ok-first.ensures.edits
    (first_fits start (t.nodes c.step.new.t) (t.nodes c.step-2.new.t) (g.met.T.Tree.formed c.args.t.now) a b apart
    c.in_ok-first.ensures.ok c.in_ok-second.ensures.ok)

pub fitted_back-requires-2 : goal.fitted_back-requires-2
fitted_back-requires-2 g c =
    let t = g.T.Tree in
    let start = t.nodes c.args.t.now in
    let u = t.nodes c.step.new.t in
    let v = t.nodes c.step-2.new.t in
    let w = t.nodes c.fitted_back.new.t in
    let a = c.args.a.now.body in
    let b = c.args.b.now.body in
    let e = c.in_ok-first.first in
    let formed = g.met.T.Tree.formed c.args.t.now in
    let apart : IsApart start (a ∷ []) (b ∷ []) = sym c.apart.ensures ∙ c.if-not-apart.false in
    let stays : Agrees u v (cells start a) =
    first_fits start u v formed a b apart c.in_ok-first.ensures.ok c.in_ok-second.ensures.ok in
    let led : IsWithCells (cells start a) start v w =
    subst (λ (x : Nodes). IsWithCells (cells start a) x v w) c.in_ok-first.ensures.edits.before
    (c.in_ok-fitted_back.ensures (cells start a) u (fits start u v a e c.in_ok-first.ensures.edits stays)) in
    may_fit u v w b c.in_ok-second.second c.in_ok-second.ensures.edits
    (second_fits start u v w formed a b apart c.in_ok-first.ensures.ok c.in_ok-second.ensures.ok led)
