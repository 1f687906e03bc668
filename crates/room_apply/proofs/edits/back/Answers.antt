-- What is left to prove of `edits::back`.
use Rattle.std.proofs.Common.{◌≡◌, ◌+◌, ap, ◌∙◌, sym, subst}
use Rattle.std.specs.FinMap.{len}
use Rattle.room_nodes.specs.Shape.{Nodes}
use Rattle.room_apply.specs.Edits.{places_all, puts_in, cuts_in, some_turn, turned_all}
use Rattle.room_apply.specs.Ways.{Way, CanGoForth, GoesForth, IsWithCells, after, backs, before}
use Rattle.room_apply.specs.Ways.{forths}
use Rattle.room_apply.specs.Ways.{nodes_of, object_of}
use Rattle.room_apply.proofs.Going.{back_again, back_can, back_cells, back_count, back_goes, back_sum, back_turned}
use Rattle.room_apply.proofs.Going.{object_still}
use Rattle.room_apply.proofs.edits.back.Goals as goal

pub returns-clause-cells : goal.returns-clause-cells
returns-clause-cells g c = λ cs u goes meets.
    let t = g.T.Tree.nodes c.args.t.now in
    subst (λ (v : Nodes). IsWithCells cs (before u c.args.e.now) t v) (sym c.go_back.ensures.nodes)
    (back_cells t (g.met.T.Tree.formed c.args.t.now)
    (g.T.Tree.spare c.args.t.now) c.args.e.now c.requires cs u goes meets)

pub returns-clause-goes : goal.returns-clause-goes
returns-clause-goes g c = λ cs u goes meets.
    let t = g.T.Tree.nodes c.args.t.now in
    subst (λ (v : Nodes). GoesForth cs v c.go_back.new.e) (sym c.go_back.ensures.nodes)
    (subst (GoesForth cs (before t c.args.e.now)) (sym c.go_back.ensures.edits)
    (back_goes t (g.met.T.Tree.formed c.args.t.now)
    (g.T.Tree.spare c.args.t.now) c.args.e.now c.requires cs u goes meets))

pub returns-clause-can : goal.returns-clause-can
returns-clause-can g c =
    let t = g.T.Tree.nodes c.args.t.now in
    let d = g.T.Tree.spare c.args.t.now in
    let e = c.go_back.new.e in
    subst (λ (v : Nodes). CanGoForth v (g.T.Tree.spare c.go_back.new.t) e) (sym c.go_back.ensures.nodes)
    (subst (λ n. CanGoForth (before t c.args.e.now) n e) (sym c.go_back.ensures.spare)
    (subst (CanGoForth (before t c.args.e.now) (places_all d (backs c.args.e.now))) (sym c.go_back.ensures.edits)
    (back_can t (g.met.T.Tree.formed c.args.t.now) d c.args.e.now c.requires)))

pub returns-clause-again : goal.returns-clause-again
returns-clause-again g c =
    let t = g.T.Tree.nodes c.args.t.now in
    ap (λ (v : Nodes). after v c.go_back.new.e) c.go_back.ensures.nodes
    ∙ ap (after (before t c.args.e.now)) c.go_back.ensures.edits
    ∙ (back_again t (g.met.T.Tree.formed c.args.t.now) (g.T.Tree.spare c.args.t.now) c.args.e.now c.requires).1

pub returns-clause-sum : goal.returns-clause-sum
returns-clause-sum g c =
    let t = g.T.Tree.nodes c.args.t.now in
    let d = g.T.Tree.spare c.args.t.now in
    ap (λ n. n + g.T.Tree.spare c.go_back.new.t) (ap len c.go_back.ensures.nodes)
    ∙ ap (λ n. len (before t c.args.e.now) + n) c.go_back.ensures.spare
    ∙ back_sum t (g.met.T.Tree.formed c.args.t.now) d c.args.e.now c.requires

pub returns-clause-turned : goal.returns-clause-turned
returns-clause-turned g c =
    subst (λ (w : Way). (puts_in (forths w) ≡ cuts_in (backs c.args.e.now))
    × (cuts_in (forths w) ≡ puts_in (backs c.args.e.now))) (sym c.go_back.ensures.edits)
    (back_turned (g.T.Tree.nodes c.args.t.now) (g.met.T.Tree.formed c.args.t.now)
    (g.T.Tree.spare c.args.t.now) c.args.e.now c.requires)

pub returns-clause-count : goal.returns-clause-count
returns-clause-count g c =
    ap nodes_of c.go_back.ensures.edits
    ∙ back_count (g.T.Tree.nodes c.args.t.now) (g.met.T.Tree.formed c.args.t.now)
    (g.T.Tree.spare c.args.t.now) c.args.e.now c.requires

pub returns-clause-object : goal.returns-clause-object
returns-clause-object g c =
    ap object_of c.go_back.ensures.edits
    ∙ object_still (turned_all (g.T.Tree.nodes c.args.t.now) (some_turn c.args.e.now.last)) c.args.e.now.fields
