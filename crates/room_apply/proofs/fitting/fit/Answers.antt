-- What is left to prove of `fitting::fit`.
use Rattle.std.proofs.Common.{◌≡◌, ap, ◌∙◌, sym, subst}
use Rattle.room_nodes.specs.Cells.{Agrees}
use Rattle.room_apply.specs.Edits.{puts_in, cuts_in}
use Rattle.room_apply.specs.Ways.{Way, GoesBack, backs, before, object_of}
use Rattle.room_apply.proofs.Refitting.{before_fit, fit_object, fit_turned, goes_fit}
use Rattle.room_apply.proofs.Settled.{on_ok}
use Rattle.room_apply.proofs.fitting.fit.Goals as goal

pub returns-clause-goes : goal.returns-clause-goes
returns-clause-goes g c =
    let t = g.T.Tree.nodes c.args.t.now in
    on_ok c.refit.result (λ is cs u goes agree.
    subst (GoesBack cs t) (sym is) (goes_fit cs u t c.args.e.now goes (g.met.T.Tree.formed c.args.t.now) agree))
    c.refit.ensures.ok

pub returns-clause-before : goal.returns-clause-before
returns-clause-before g c =
    let t = g.T.Tree.nodes c.args.t.now in
    on_ok c.refit.result (λ is cs u goes agree.
    subst (λ (w : Way). Agrees (before u c.args.e.now) (before t w) cs) (sym is)
    (before_fit cs u t c.args.e.now goes (g.met.T.Tree.formed c.args.t.now) agree)) c.refit.ensures.ok

pub returns-clause-turned : goal.returns-clause-turned
returns-clause-turned g c =
    let t = g.T.Tree.nodes c.args.t.now in
    on_ok c.refit.result (λ is.
    subst (λ (w : Way). (puts_in (backs w) ≡ puts_in (backs c.args.e.now))
    × (cuts_in (backs w) ≡ cuts_in (backs c.args.e.now))) (sym is)
    (fit_turned t c.args.e.now)) c.refit.ensures.ok

pub returns-clause-object : goal.returns-clause-object
returns-clause-object g c =
    on_ok c.refit.result (λ is. ap object_of is
    ∙ fit_object (g.T.Tree.nodes c.args.t.now) c.args.e.now) c.refit.ensures.ok
