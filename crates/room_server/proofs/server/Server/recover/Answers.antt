use Rattle.std.proofs.Common.{ℕ, length, subst}
use Rattle.room_replay.specs.Files.{StandsFor}
use Rattle.room_server.proofs.Empty.{seated_none}
use Rattle.room_store.specs.Consistent.{AreWritten}
use Rattle.room_server.proofs.Standing.{holds_state, written_state}
use Rattle.room_server.proofs.server.Server.recover.Goals as goal

pub invariant_of-result : goal.invariant_of-result
invariant_of-result g c = record {
  closed = c.in-Ok.ensures.closed;
  seated = seated_none (length c.in-Ok.store.state.sessions) c.new.result c.new.ensures;
}

pub returns-in-Ok-clause-held : goal.returns-in-Ok-clause-held
returns-in-Ok-clause-held g c told image each =
    let s = c.in-Ok.store in
    let e = c.in-Ok.ensures in
    subst (λ (n : ℕ). StandsFor n s.state image) e.base
    (holds_state s _ _ (e.settled told) e.whole e.closed image each)

pub returns-in-Ok-clause-written : goal.returns-in-Ok-clause-written
returns-in-Ok-clause-written g c told =
    let s = c.in-Ok.store in
    let e = c.in-Ok.ensures in
    let d = g.D.Disk in
    let now = c.recover.new.disk in
    subst (λ (n : ℕ). AreWritten n (d.seen now)) e.base (written_state s (d.seen now) _ (e.settled told) e.whole)
