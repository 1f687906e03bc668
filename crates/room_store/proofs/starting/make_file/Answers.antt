use Rattle.std.proofs.Common.{subst, sym, List, ℕ}
use Rattle.room_snapshot.specs.Bounds.{state_of}
use Rattle.room_store.specs.Consistent.{IsReadyState}
use Rattle.room_store.proofs.Adding.{untouched, made_told}
use Rattle.room_store.proofs.starting.make_file.Goals as goal

pub returns-in_err-ready-clause-compacts : goal.returns-in_err-ready-clause-compacts
returns-in_err-ready-clause-compacts g c told kept =
    untouched g.D.Disk.seen g.D.Disk.moment g.D.Disk.images c.args.journal.now _ c.args.disk.now _ c.from_residual.ensures.0 kept

pub returns-clause-compacts : goal.returns-clause-compacts
returns-clause-compacts g c told kept =
    let j = c.args.journal.now in
    let s = state_of c.args.state.now.count c.args.state.now.sessions (g.T.Tree.nodes c.args.state.now.tree) in
    let ready : IsReadyState j.generation s c.as_slice.result.now = subst (λ (l : List ℕ). IsReadyState j.generation s l) (sym c.as_slice.ensures) c.in_ok-ready.ensures.ready in
    made_told g.D.Disk.seen g.D.Disk.moment g.D.Disk.images j c.renew.new.journal s _ _ c.renew.result c.told.result c.told.ensures (c.renew.ensures.compacts told s kept ready)
