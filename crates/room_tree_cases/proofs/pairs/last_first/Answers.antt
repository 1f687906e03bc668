use Rattle.std.proofs.Common.{◌≡◌, sym, ◌∙◌, subst}
use Rattle.room_nodes.specs.Cells.{Agrees}
use Rattle.room_nodes.specs.Shape.{Nodes}
use Rattle.room_apply.specs.Within.{cells}
use Rattle.room_tree_cases.proofs.Agreeing.{agrees_self}
use Rattle.room_tree_cases.proofs.Fitted.{may_fit}
use Rattle.room_tree_cases.proofs.pairs.last_first.Goals as goal

pub fitted_back-requires : goal.fitted_back-requires
fitted_back-requires g c =
    let t = g.T.Tree in
    let start = t.nodes c.args.t.now in
    let u = t.nodes c.step.new.t in
    let a = c.args.a.now.body in
    let same : t.nodes c.back.new.t ≡ u = c.back.ensures.nodes ∙ c.in_ok-second.ensures.edits.before in
    may_fit start u (t.nodes c.back.new.t) a c.in_ok-first.first c.in_ok-first.ensures.edits
    (subst (λ (v : Nodes). Agrees u v (cells start a)) (sym same) (agrees_self u (cells start a)))
