use Rattle.std.proofs.Common.{◌≡◌, inl, inr, ◌∙◌, ◌+◌, ap, sym, subst, refl, ℕ}
use Rattle.room_bytes.specs.declared.entries.Format.{Format}
use Rattle.room_bytes.specs.declared.entries.Format.TheVariants.{Two}
use Rattle.room_log.specs.Log.{State, empty_state}
use Rattle.room_log.specs.Follows.{IsValidState}
use Rattle.room_snapshot.specs.Bounds.{state_of}
use Rattle.room_replay.specs.Files.{Files, Room, Stands, files, files_read}
use Rattle.room_replay.specs.Faults.{IsFault as IsReplayFault}
use Rattle.room_store.specs.declared.fault.StoreFault.{StoreFault}
use Rattle.room_store.specs.Consistent.{Settled, IsKept, AsHeld}
use Rattle.room_store.specs.Faults.{IsFault}
use Rattle.room_store.proofs.Finding.{never_new, never_one, nothing_elsewhere, elsewhere_as, found_new, found_at, kept_new, held_found, held_files, empty_is, opened_same, one_state, all_stand, moved, whole_as, nothing_done, image_stands, as_fault}
use Rattle.room_store.proofs.starting.resume.Goals as goal

pub returns-in_default-clause-state : goal.returns-in_default-clause-state
returns-in_default-clause-state g c told =
    let seen = g.D.Disk.seen c.args.disk.now in
    let now = g.D.Disk.images c.args.disk.now (g.D.Disk.moment c.args.disk.now) in
    let base = c.args.base in
    let fs : Files = files base (seen base) (seen (base + 1)) in
    let is_new = found_new _ base c.args.found (c.requires.found told) c.in_default.is in
    let s0 : State = state_of 0 c.new.result (g.T.Tree.nodes c.args.empty) in
    let bare : s0 ≡ empty_state = empty_is c.new.result (g.T.Tree.nodes c.args.empty) c.new.ensures c.requires.empty in
    let stands : Stands s0 fs = inr (ap files_read is_new, bare) in
    all_stand c.begin.result (λ s. state_of s.state.count s.state.sessions (g.T.Tree.nodes s.state.tree)) s0 fs stands c.begin.ensures.state

pub returns-in_default-clause-settled : goal.returns-in_default-clause-settled
returns-in_default-clause-settled g c told =
    let seen = g.D.Disk.seen c.args.disk.now in
    let now = g.D.Disk.images c.args.disk.now (g.D.Disk.moment c.args.disk.now) in
    let base = c.args.base in
    let fs : Files = files base (seen base) (seen (base + 1)) in
    let is_new = found_new _ base c.args.found (c.requires.found told) c.in_default.is in
    let s0 : State = state_of 0 c.new.result (g.T.Tree.nodes c.args.empty) in
    let bare : s0 ≡ empty_state = empty_is c.new.result (g.T.Tree.nodes c.args.empty) c.new.ensures c.requires.empty in
    let stands : Stands s0 fs = inr (ap files_read is_new, bare) in
    let kept : IsKept seen now c.args.found.journal s0 = subst (λ (s : State). IsKept seen now c.args.found.journal s) (sym bare)
    (kept_new base seen now c.args.found.journal is_new (c.requires.shape.new_place c.in_default.is) (c.requires.first told) (c.requires.second told)) in
    moved c.begin.result (λ s. state_of s.state.count s.state.sessions (g.T.Tree.nodes s.state.tree)) s0
    (λ x s. Settled Two (g.D.Disk.seen c.begin.new.disk) (g.D.Disk.images c.begin.new.disk (g.D.Disk.moment c.begin.new.disk)) x.kept.journal s) c.begin.ensures.state (c.begin.ensures.settled told kept)

pub returns-in_default-clause-any_moment : goal.returns-in_default-clause-any_moment
returns-in_default-clause-any_moment g c told s is =
    let seen = g.D.Disk.seen c.args.disk.now in
    let now = g.D.Disk.images c.args.disk.now (g.D.Disk.moment c.args.disk.now) in
    let base = c.args.base in
    let fs : Files = files base (seen base) (seen (base + 1)) in
    let is_new = found_new _ base c.args.found (c.requires.found told) c.in_default.is in
    let s0 : State = state_of 0 c.new.result (g.T.Tree.nodes c.args.empty) in
    let bare : s0 ≡ empty_state = empty_is c.new.result (g.T.Tree.nodes c.args.empty) c.new.ensures c.requires.empty in
    let stands : Stands s0 fs = inr (ap files_read is_new, bare) in
    let kept : IsKept seen now c.args.found.journal s0 = subst (λ (s : State). IsKept seen now c.args.found.journal s) (sym bare)
    (kept_new base seen now c.args.found.journal is_new (c.requires.shape.new_place c.in_default.is) (c.requires.first told) (c.requires.second told)) in
    whole_as c.args.found.journal.base base s0 s _ _ _ _ c.requires.shape.base_is (one_state s0 s fs stands is) (c.begin.ensures.any_moment told kept)

pub returns-in_default-clause-others : goal.returns-in_default-clause-others
returns-in_default-clause-others g c told =
    let seen = g.D.Disk.seen c.args.disk.now in
    let now = g.D.Disk.images c.args.disk.now (g.D.Disk.moment c.args.disk.now) in
    let base = c.args.base in
    let fs : Files = files base (seen base) (seen (base + 1)) in
    let is_new = found_new _ base c.args.found (c.requires.found told) c.in_default.is in
    let s0 : State = state_of 0 c.new.result (g.T.Tree.nodes c.args.empty) in
    let bare : s0 ≡ empty_state = empty_is c.new.result (g.T.Tree.nodes c.args.empty) c.new.ensures c.requires.empty in
    let stands : Stands s0 fs = inr (ap files_read is_new, bare) in
    let kept : IsKept seen now c.args.found.journal s0 = subst (λ (s : State). IsKept seen now c.args.found.journal s) (sym bare)
    (kept_new base seen now c.args.found.journal is_new (c.requires.shape.new_place c.in_default.is) (c.requires.first told) (c.requires.second told)) in
    λ f one another. c.begin.ensures.others told kept f (λ e. one (e ∙ c.requires.shape.base_is)) (λ e. another (e ∙ ap (λ (n : ℕ). n + 1) c.requires.shape.base_is))

pub returns-in-Err-clause-any_moment : goal.returns-in-Err-clause-any_moment
returns-in-Err-clause-any_moment g c told s is =
    let seen = g.D.Disk.seen c.args.disk.now in
    let now = g.D.Disk.images c.args.disk.now (g.D.Disk.moment c.args.disk.now) in
    let base = c.args.base in
    let fs : Files = files base (seen base) (seen (base + 1)) in
    nothing_done _ _ _ (image_stands base s seen now is (c.requires.first told) (c.requires.second told))

pub returns-in-Err-clause-fault : goal.returns-in-Err-clause-fault
returns-in-Err-clause-fault g c told =
    let seen = g.D.Disk.seen c.args.disk.now in
    let now = g.D.Disk.images c.args.disk.now (g.D.Disk.moment c.args.disk.now) in
    let base = c.args.base in
    let fs : Files = files base (seen base) (seen (base + 1)) in
    let at = found_at _ base c.args.found c.in-Some.snapshot (c.requires.found told) c.in-Some.is in
    let opens = opened_same c.args.found.file c.args.found.format _ c.in-Some.snapshot _ c.args.found.bodies c.args.found.broken _ c.as_slice.ensures c.as_slice-2.ensures refl in
    let same = held_files base seen c.args.found c.in-Some.snapshot _ at opens in
    inr (subst (λ (x : StoreFault). IsFault fs x) (sym c.as_store.ensures) (as_fault c.in-Err.fault fs (subst (λ (l : Files). IsReplayFault l c.in-Err.fault) (sym same) c.in-Err.ensures.fault)))

pub returns-in-One-clause-state : goal.returns-in-One-clause-state
returns-in-One-clause-state g c told =
    let seen = g.D.Disk.seen c.args.disk.now in
    let now = g.D.Disk.images c.args.disk.now (g.D.Disk.moment c.args.disk.now) in
    let base = c.args.base in
    let fs : Files = files base (seen base) (seen (base + 1)) in
    let at = found_at _ base c.args.found c.in-Some.snapshot (c.requires.found told) c.in-Some.is in
    let s0 : State = state_of c.in-Ok.state.count c.in-Ok.state.sessions (g.T.Tree.nodes c.in-Ok.state.tree) in
    let opens = opened_same c.args.found.file c.args.found.format _ c.in-Some.snapshot _ c.args.found.bodies c.args.found.broken (Room s0) c.as_slice.ensures c.as_slice-2.ensures c.in-Ok.ensures.state in
    let stands : Stands s0 fs = inl (held_files base seen c.args.found c.in-Some.snapshot (Room s0) at opens) in
    all_stand c.begin-in-One.result (λ s. state_of s.state.count s.state.sessions (g.T.Tree.nodes s.state.tree)) s0 fs stands c.begin-in-One.ensures.state

pub returns-in-One-clause-settled : goal.returns-in-One-clause-settled
returns-in-One-clause-settled g c told =
    let seen = g.D.Disk.seen c.args.disk.now in
    let now = g.D.Disk.images c.args.disk.now (g.D.Disk.moment c.args.disk.now) in
    let base = c.args.base in
    let fs : Files = files base (seen base) (seen (base + 1)) in
    let at = found_at _ base c.args.found c.in-Some.snapshot (c.requires.found told) c.in-Some.is in
    let s0 : State = state_of c.in-Ok.state.count c.in-Ok.state.sessions (g.T.Tree.nodes c.in-Ok.state.tree) in
    let opens = opened_same c.args.found.file c.args.found.format _ c.in-Some.snapshot _ c.args.found.bodies c.args.found.broken (Room s0) c.as_slice.ensures c.as_slice-2.ensures c.in-Ok.ensures.state in
    let stands : Stands s0 fs = inl (held_files base seen c.args.found c.in-Some.snapshot (Room s0) at opens) in
    let settled : Settled c.args.found.format seen now c.args.found.journal s0 =
    held_found base seen now c.args.found c.in-Some.snapshot s0 at opens c.in-Ok.ensures.valid (c.requires.first told) (c.requires.second told) in
    let kept : IsKept seen now c.args.found.journal s0 = AsHeld c.args.found.format settled in
    moved c.begin-in-One.result (λ s. state_of s.state.count s.state.sessions (g.T.Tree.nodes s.state.tree)) s0
    (λ x s. Settled Two (g.D.Disk.seen c.begin-in-One.new.disk) (g.D.Disk.images c.begin-in-One.new.disk (g.D.Disk.moment c.begin-in-One.new.disk)) x.kept.journal s) c.begin-in-One.ensures.state (c.begin-in-One.ensures.settled told kept)

pub returns-in-One-clause-any_moment : goal.returns-in-One-clause-any_moment
returns-in-One-clause-any_moment g c told s is =
    let seen = g.D.Disk.seen c.args.disk.now in
    let now = g.D.Disk.images c.args.disk.now (g.D.Disk.moment c.args.disk.now) in
    let base = c.args.base in
    let fs : Files = files base (seen base) (seen (base + 1)) in
    let at = found_at _ base c.args.found c.in-Some.snapshot (c.requires.found told) c.in-Some.is in
    let s0 : State = state_of c.in-Ok.state.count c.in-Ok.state.sessions (g.T.Tree.nodes c.in-Ok.state.tree) in
    let opens = opened_same c.args.found.file c.args.found.format _ c.in-Some.snapshot _ c.args.found.bodies c.args.found.broken (Room s0) c.as_slice.ensures c.as_slice-2.ensures c.in-Ok.ensures.state in
    let stands : Stands s0 fs = inl (held_files base seen c.args.found c.in-Some.snapshot (Room s0) at opens) in
    let settled : Settled c.args.found.format seen now c.args.found.journal s0 =
    held_found base seen now c.args.found c.in-Some.snapshot s0 at opens c.in-Ok.ensures.valid (c.requires.first told) (c.requires.second told) in
    let kept : IsKept seen now c.args.found.journal s0 = AsHeld c.args.found.format settled in
    whole_as c.args.found.journal.base base s0 s _ _ _ _ c.requires.shape.base_is (one_state s0 s fs stands is) (c.begin-in-One.ensures.any_moment told kept)

pub returns-in-One-clause-others : goal.returns-in-One-clause-others
returns-in-One-clause-others g c told =
    let seen = g.D.Disk.seen c.args.disk.now in
    let now = g.D.Disk.images c.args.disk.now (g.D.Disk.moment c.args.disk.now) in
    let base = c.args.base in
    let fs : Files = files base (seen base) (seen (base + 1)) in
    let at = found_at _ base c.args.found c.in-Some.snapshot (c.requires.found told) c.in-Some.is in
    let s0 : State = state_of c.in-Ok.state.count c.in-Ok.state.sessions (g.T.Tree.nodes c.in-Ok.state.tree) in
    let opens = opened_same c.args.found.file c.args.found.format _ c.in-Some.snapshot _ c.args.found.bodies c.args.found.broken (Room s0) c.as_slice.ensures c.as_slice-2.ensures c.in-Ok.ensures.state in
    let stands : Stands s0 fs = inl (held_files base seen c.args.found c.in-Some.snapshot (Room s0) at opens) in
    let settled : Settled c.args.found.format seen now c.args.found.journal s0 =
    held_found base seen now c.args.found c.in-Some.snapshot s0 at opens c.in-Ok.ensures.valid (c.requires.first told) (c.requires.second told) in
    let kept : IsKept seen now c.args.found.journal s0 = AsHeld c.args.found.format settled in
    λ f one another. c.begin-in-One.ensures.others told kept f (λ e. one (e ∙ c.requires.shape.base_is)) (λ e. another (e ∙ ap (λ (n : ℕ). n + 1) c.requires.shape.base_is))

pub returns-clause-state : goal.returns-clause-state
returns-clause-state g c told =
    let seen = g.D.Disk.seen c.args.disk.now in
    let now = g.D.Disk.images c.args.disk.now (g.D.Disk.moment c.args.disk.now) in
    let base = c.args.base in
    let fs : Files = files base (seen base) (seen (base + 1)) in
    let at = found_at _ base c.args.found c.in-Some.snapshot (c.requires.found told) c.in-Some.is in
    let s0 : State = state_of c.in-Ok.state.count c.in-Ok.state.sessions (g.T.Tree.nodes c.in-Ok.state.tree) in
    let opens = opened_same c.args.found.file c.args.found.format _ c.in-Some.snapshot _ c.args.found.bodies c.args.found.broken (Room s0) c.as_slice.ensures c.as_slice-2.ensures c.in-Ok.ensures.state in
    let stands : Stands s0 fs = inl (held_files base seen c.args.found c.in-Some.snapshot (Room s0) at opens) in
    stands

pub returns-clause-settled : goal.returns-clause-settled
returns-clause-settled g c told =
    let seen = g.D.Disk.seen c.args.disk.now in
    let now = g.D.Disk.images c.args.disk.now (g.D.Disk.moment c.args.disk.now) in
    let base = c.args.base in
    let fs : Files = files base (seen base) (seen (base + 1)) in
    let at = found_at _ base c.args.found c.in-Some.snapshot (c.requires.found told) c.in-Some.is in
    let s0 : State = state_of c.in-Ok.state.count c.in-Ok.state.sessions (g.T.Tree.nodes c.in-Ok.state.tree) in
    let opens = opened_same c.args.found.file c.args.found.format _ c.in-Some.snapshot _ c.args.found.bodies c.args.found.broken (Room s0) c.as_slice.ensures c.as_slice-2.ensures c.in-Ok.ensures.state in
    let stands : Stands s0 fs = inl (held_files base seen c.args.found c.in-Some.snapshot (Room s0) at opens) in
    let settled : Settled c.args.found.format seen now c.args.found.journal s0 =
    held_found base seen now c.args.found c.in-Some.snapshot s0 at opens c.in-Ok.ensures.valid (c.requires.first told) (c.requires.second told) in
    subst (λ (f : Format). Settled f seen now c.args.found.journal s0) c.in-Two.is settled

pub returns-clause-any_moment : goal.returns-clause-any_moment
returns-clause-any_moment g c told s is =
    let seen = g.D.Disk.seen c.args.disk.now in
    let now = g.D.Disk.images c.args.disk.now (g.D.Disk.moment c.args.disk.now) in
    let base = c.args.base in
    let fs : Files = files base (seen base) (seen (base + 1)) in
    nothing_done _ _ _ (image_stands base s seen now is (c.requires.first told) (c.requires.second told))

pub returns-in_default-clause-valid : goal.returns-in_default-clause-valid
returns-in_default-clause-valid g c =
    c.begin.ensures.valid (subst (λ (s : State). IsValidState s) (sym (empty_is c.new.result (g.T.Tree.nodes c.args.empty) c.new.ensures c.requires.empty)) c.valid_after.ensures.empty)

pub returns-in_default-clause-still : goal.returns-in_default-clause-still
returns-in_default-clause-still g c told still =
    let seen = g.D.Disk.seen c.args.disk.now in
    absurd (never_new c.args.base seen (found_new _ c.args.base c.args.found (c.requires.found told) c.in_default.is) still)

pub returns-in-One-clause-still : goal.returns-in-One-clause-still
returns-in-One-clause-still g c told still =
    let seen = g.D.Disk.seen c.args.disk.now in
    let base = c.args.base in
    let fs : Files = files base (seen base) (seen (base + 1)) in
    let at = found_at _ base c.args.found c.in-Some.snapshot (c.requires.found told) c.in-Some.is in
    let s0 : State = state_of c.in-Ok.state.count c.in-Ok.state.sessions (g.T.Tree.nodes c.in-Ok.state.tree) in
    let opens = opened_same c.args.found.file c.args.found.format _ c.in-Some.snapshot _ c.args.found.bodies c.args.found.broken (Room s0) c.as_slice.ensures c.as_slice-2.ensures c.in-Ok.ensures.state in
    absurd (never_one base seen _ _ _ _ s0 at.reading_is c.in-One.is (held_files base seen c.args.found c.in-Some.snapshot (Room s0) at opens) still)

pub returns-in_default-clause-elsewhere : goal.returns-in_default-clause-elsewhere
returns-in_default-clause-elsewhere g c told =
    let seen = g.D.Disk.seen c.args.disk.now in
    let now = g.D.Disk.images c.args.disk.now (g.D.Disk.moment c.args.disk.now) in
    let base = c.args.base in
    let is_new = found_new _ base c.args.found (c.requires.found told) c.in_default.is in
    let s0 : State = state_of 0 c.new.result (g.T.Tree.nodes c.args.empty) in
    let bare : s0 ≡ empty_state = empty_is c.new.result (g.T.Tree.nodes c.args.empty) c.new.ensures c.requires.empty in
    let kept : IsKept seen now c.args.found.journal s0 = subst (λ (s : State). IsKept seen now c.args.found.journal s) (sym bare)
    (kept_new base seen now c.args.found.journal is_new (c.requires.shape.new_place c.in_default.is) (c.requires.first told) (c.requires.second told)) in
    elsewhere_as c.args.found.journal.base base _ _ _ _ c.requires.shape.base_is (c.begin.ensures.elsewhere told kept)

pub returns-in-Err-clause-elsewhere : goal.returns-in-Err-clause-elsewhere
returns-in-Err-clause-elsewhere g c told = nothing_elsewhere _ _ _

pub returns-in-One-clause-elsewhere : goal.returns-in-One-clause-elsewhere
returns-in-One-clause-elsewhere g c told =
    let seen = g.D.Disk.seen c.args.disk.now in
    let now = g.D.Disk.images c.args.disk.now (g.D.Disk.moment c.args.disk.now) in
    let base = c.args.base in
    let at = found_at _ base c.args.found c.in-Some.snapshot (c.requires.found told) c.in-Some.is in
    let s0 : State = state_of c.in-Ok.state.count c.in-Ok.state.sessions (g.T.Tree.nodes c.in-Ok.state.tree) in
    let opens = opened_same c.args.found.file c.args.found.format _ c.in-Some.snapshot _ c.args.found.bodies c.args.found.broken (Room s0) c.as_slice.ensures c.as_slice-2.ensures c.in-Ok.ensures.state in
    let settled : Settled c.args.found.format seen now c.args.found.journal s0 =
    held_found base seen now c.args.found c.in-Some.snapshot s0 at opens c.in-Ok.ensures.valid (c.requires.first told) (c.requires.second told) in
    let kept : IsKept seen now c.args.found.journal s0 = AsHeld c.args.found.format settled in
    elsewhere_as c.args.found.journal.base base _ _ _ _ c.requires.shape.base_is (c.begin-in-One.ensures.elsewhere told kept)

pub returns-clause-elsewhere : goal.returns-clause-elsewhere
returns-clause-elsewhere g c told = nothing_elsewhere _ _ _
