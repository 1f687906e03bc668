use Rattle.std.proofs.Common.{◌≡◌, ◌++◌, drop, map}
use Rattle.std.specs.List.{flat_map}
use Rattle.room_bytes.specs.declared.entries.Format.TheVariants.{Two}
use Rattle.room_snapshot.specs.Bounds.{kept, AreNamed}
use Rattle.room_snapshot.specs.Spelling.{session_bytes}
use Rattle.room_snapshot.proofs.writing.put_each_session.Given as goal

abbrev pub invariant-loop-session : goal.invariant-loop-session
invariant-loop-session l = record {
  bytes : l.out.items ++ flat_map (session_bytes Two) (map kept (drop l.session-index l.sessions))
      ≡ l.initial.out.items ++ flat_map (session_bytes Two) (map kept l.sessions);
  counted : AreNamed Two (map kept (drop l.session-index l.sessions)) → AreNamed Two (map kept l.sessions);
}
