use Rattle.std.proofs.Common.{◌≡◌, drop, map}
use Rattle.std.specs.List.{flat_map}
use Rattle.room_log.specs.Follows.{AreValidSessions}
use Rattle.room_snapshot.specs.Bounds.{kept, all_by, is_session, AreNamed}
use Rattle.room_snapshot.specs.Reading.{behind_if}
use Rattle.room_snapshot.specs.Spelling.{session_bytes}
use Rattle.room_snapshot.proofs.checking.each_session_behind.Given as goal

abbrev pub invariant-loop-session : goal.invariant-loop-session
invariant-loop-session l = record {
  value : behind_if (all_by (is_session l.f) (map kept (drop l.session-index l.sessions)))
      (flat_map (session_bytes l.f) (map kept (drop l.session-index l.sessions))) l.rest
      ≡ behind_if (all_by (is_session l.f) (map kept l.sessions))
      (flat_map (session_bytes l.f) (map kept l.sessions)) l.bytes;
  valid : AreValidSessions (map kept (drop l.session-index l.sessions)) → AreValidSessions (map kept l.sessions);
  named : AreNamed l.f (map kept (drop l.session-index l.sessions)) → AreNamed l.f (map kept l.sessions);
}
