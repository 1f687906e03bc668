use Rattle.std.proofs.Common.{◌∙◌, inr, subst, sym, List, ℕ}
use Rattle.std.specs.Prelude.{IsErrOf}
use Rattle.room_snapshot.specs.Bounds.{state_of}
use Rattle.room_store.specs.Consistent.{AsHeld, IsReadyState}
use Rattle.room_bytes.specs.declared.entries.Format.TheVariants.{Two}
use Rattle.room_store.specs.Calls.{Compacts}
use Rattle.room_store.specs.declared.fault.StoreFault.TheVariants.{Memory}
use Rattle.room_store.proofs.Adding.{untouched, compacts_told, none_is_ok, full_before, full_breaks}
use Rattle.room_store.proofs.kept.Kept.compact.Goals as goal

pub returns-in_err-ready-clause-compacts : goal.returns-in_err-ready-clause-compacts
returns-in_err-ready-clause-compacts g c told whole =
    untouched g.D.Disk.seen g.D.Disk.moment g.D.Disk.images c.args.self.now.journal _ c.args.disk.now _ c.from_residual.ensures.0 (AsHeld Two (c.requires told whole))

pub returns-clause-compacts : goal.returns-clause-compacts
returns-clause-compacts g c told whole =
    let j = c.args.self.now.journal in
    let s = state_of c.args.state.now.count c.args.state.now.sessions (g.T.Tree.nodes c.args.state.now.tree) in
    let ready : IsReadyState j.generation s c.as_slice.result.now = subst (λ (l : List ℕ). IsReadyState j.generation s l) (sym c.as_slice.ensures) c.in_ok-ready.ensures.ready in
    subst (λ r. Compacts g.D.Disk.seen g.D.Disk.moment g.D.Disk.images j c.renew-answer.new.journal s c.args.disk.now c.renew-answer.new.disk r) (sym c.told.ensures)
    (compacts_told g.D.Disk.seen g.D.Disk.moment g.D.Disk.images j c.renew-answer.new.journal s _ _ c.renew-answer.result (c.renew-answer.ensures.compacts told s (AsHeld Two (c.requires told whole)) ready))

pub returns-clause-settled : goal.returns-clause-settled
returns-clause-settled g c told whole none =
    let j = c.args.self.now.journal in
    let s = state_of c.args.state.now.count c.args.state.now.sessions (g.T.Tree.nodes c.args.state.now.tree) in
    let ready : IsReadyState j.generation s c.as_slice.result.now = subst (λ (l : List ℕ). IsReadyState j.generation s l) (sym c.as_slice.ensures) c.in_ok-ready.ensures.ready in
    none_is_ok c.renew-answer.result _ (c.renew-answer.ensures.compacts told s (AsHeld Two (c.requires told whole)) ready).settled (sym c.cause_in-self.ensures ∙ none)

pub returns-clause-memory : goal.returns-clause-memory
returns-clause-memory g c full none =
    absurd (full_breaks c.renew-answer.result (subst (λ r. IsErrOf r Memory) c.told.ensures full) (sym c.cause_in-self.ensures ∙ none))

pub returns-clause-short : goal.returns-clause-short
returns-clause-short g c full = inr (c.renew-answer.ensures.cause.memory (full_before c.renew-answer.result (subst (λ r. IsErrOf r Memory) c.told.ensures full)))
