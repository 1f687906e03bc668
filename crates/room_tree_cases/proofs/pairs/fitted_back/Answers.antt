use Rattle.std.proofs.Common.{◌≡◌, ◌≤◌, sym, subst, arith}
use Rattle.room_nodes.specs.Shape.{Nodes}
use Rattle.room_apply.specs.Ways.{CanGoBack, GoesBack, IsWithCells, before, nodes_of}
use Rattle.room_tree_cases.proofs.Fitted.{can_back, leads_back, meets_self}
use Rattle.room_tree_cases.proofs.pairs.fitted_back.Goals as goal

pub back-requires : goal.back-requires
back-requires g c =
    let t = g.T.Tree in
    let v = t.nodes c.args.t.now in
    let d = t.spare c.reserve.new.self in
    let e = c.fit.new.e in
    let cs = c.requires.0 in
    let u = c.requires.1.0 in
    let m = c.requires.1.1 in
    let goes : GoesBack cs v e = c.in_ok-fit.ensures.goes cs u m.goes m.agrees in
    let le : nodes_of e ≤ d = omega (arith, c.nodes.ensures, c.in_ok-reserve.ensures.ok) in
    subst (λ (w : Nodes). CanGoBack w d e) (sym c.reserve.ensures.same)
    (can_back cs u v d c.args.e.now e (g.met.T.Tree.formed c.args.t.now) m goes c.in_ok-fit.ensures.turned.0
    c.in_ok-fit.ensures.count le)

pub returns : goal.returns
returns g c = λ cs u m.
    let t = g.T.Tree in
    let v = t.nodes c.args.t.now in
    let w = t.nodes c.reserve.new.self in
    let e = c.fit.new.e in
    let new = t.nodes c.back.new.t in
    let same : w ≡ v = c.reserve.ensures.same in
    let goes : GoesBack cs v e = c.in_ok-fit.ensures.goes cs u m.goes m.agrees in
    let led : IsWithCells cs (before w e) w new =
    c.back.ensures.cells cs w (subst (λ (x : Nodes). GoesBack cs x e) (sym same) goes) (meets_self cs w e) in
    leads_back cs u v new c.args.e.now e (c.in_ok-fit.ensures.before cs u m.goes m.agrees)
    (subst (λ (x : Nodes). IsWithCells cs (before x e) x new) same led)
