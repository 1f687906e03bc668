-- What is left to prove of `edits::forth`.
use Rattle.std.proofs.Common.{◌≡◌, ◌+◌, ap, ◌∙◌, sym, subst}
use Rattle.std.specs.FinMap.{len}
use Rattle.room_nodes.specs.Shape.{Nodes}
use Rattle.room_apply.specs.Edits.{places_all, puts_in, cuts_in, turned_all}
use Rattle.room_apply.specs.Ways.{Way, CanGoBack, GoesBack, IsWithCells, after, backs, before}
use Rattle.room_apply.specs.Ways.{forths}
use Rattle.room_apply.specs.Ways.{nodes_of, object_of}
use Rattle.room_apply.proofs.Going.{forth_again, forth_can, forth_cells, forth_count, forth_goes, forth_sum}
use Rattle.room_apply.proofs.Going.{forth_turned}
use Rattle.room_apply.proofs.Going.{object_still}
use Rattle.room_apply.proofs.edits.forth.Goals as goal

pub returns-clause-cells : goal.returns-clause-cells
returns-clause-cells g c = λ cs u goes meets.
    let t = g.T.Tree.nodes c.args.t.now in
    subst (λ (v : Nodes). IsWithCells cs (after u c.args.e.now) t v) (sym c.go_forth.ensures.nodes)
    (forth_cells t (g.met.T.Tree.formed c.args.t.now)
    (g.T.Tree.spare c.args.t.now) c.args.e.now c.requires cs u goes meets)

pub returns-clause-goes : goal.returns-clause-goes
returns-clause-goes g c = λ cs u goes meets.
    let t = g.T.Tree.nodes c.args.t.now in
    subst (λ (v : Nodes). GoesBack cs v c.go_forth.new.e) (sym c.go_forth.ensures.nodes)
    (subst (GoesBack cs (after t c.args.e.now)) (sym c.go_forth.ensures.edits)
    (forth_goes t (g.met.T.Tree.formed c.args.t.now)
    (g.T.Tree.spare c.args.t.now) c.args.e.now c.requires cs u goes meets))

pub returns-clause-can : goal.returns-clause-can
returns-clause-can g c =
    let t = g.T.Tree.nodes c.args.t.now in
    let d = g.T.Tree.spare c.args.t.now in
    let e = c.go_forth.new.e in
    subst (λ (v : Nodes). CanGoBack v (g.T.Tree.spare c.go_forth.new.t) e) (sym c.go_forth.ensures.nodes)
    (subst (λ n. CanGoBack (after t c.args.e.now) n e) (sym c.go_forth.ensures.spare)
    (subst (CanGoBack (after t c.args.e.now) (places_all d (forths c.args.e.now))) (sym c.go_forth.ensures.edits)
    (forth_can t (g.met.T.Tree.formed c.args.t.now) d c.args.e.now c.requires)))

pub returns-clause-again : goal.returns-clause-again
returns-clause-again g c =
    let t = g.T.Tree.nodes c.args.t.now in
    ap (λ (v : Nodes). before v c.go_forth.new.e) c.go_forth.ensures.nodes
    ∙ ap (before (after t c.args.e.now)) c.go_forth.ensures.edits
    ∙ (forth_again t (g.met.T.Tree.formed c.args.t.now) (g.T.Tree.spare c.args.t.now) c.args.e.now c.requires).1

pub returns-clause-sum : goal.returns-clause-sum
returns-clause-sum g c =
    let t = g.T.Tree.nodes c.args.t.now in
    let d = g.T.Tree.spare c.args.t.now in
    ap (λ n. n + g.T.Tree.spare c.go_forth.new.t) (ap len c.go_forth.ensures.nodes)
    ∙ ap (λ n. len (after t c.args.e.now) + n) c.go_forth.ensures.spare
    ∙ forth_sum t (g.met.T.Tree.formed c.args.t.now) d c.args.e.now c.requires

pub returns-clause-turned : goal.returns-clause-turned
returns-clause-turned g c =
    subst (λ (w : Way). (puts_in (backs w) ≡ cuts_in (forths c.args.e.now))
    × (cuts_in (backs w) ≡ puts_in (forths c.args.e.now))) (sym c.go_forth.ensures.edits)
    (forth_turned (g.T.Tree.nodes c.args.t.now) (g.met.T.Tree.formed c.args.t.now)
    (g.T.Tree.spare c.args.t.now) c.args.e.now c.requires)

pub returns-clause-count : goal.returns-clause-count
returns-clause-count g c =
    ap nodes_of c.go_forth.ensures.edits
    ∙ forth_count (g.T.Tree.nodes c.args.t.now) (g.met.T.Tree.formed c.args.t.now)
    (g.T.Tree.spare c.args.t.now) c.args.e.now c.requires

pub returns-clause-object : goal.returns-clause-object
returns-clause-object g c =
    ap object_of c.go_forth.ensures.edits
    ∙ object_still (turned_all (g.T.Tree.nodes c.args.t.now) c.args.e.now.undone) c.args.e.now.fields
