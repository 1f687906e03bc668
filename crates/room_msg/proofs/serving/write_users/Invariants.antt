use Rattle.std.proofs.Common.{◌≡◌, [], map, drop}
use Rattle.room_json.specs.Value.{merged}
use Rattle.room_msg.specs.Laws.{AreActors}
use Rattle.room_msg.specs.Written.{user_out}
use Rattle.room_msg.proofs.serving.write_users.Given as goal

abbrev pub invariant-loop-user : goal.invariant-loop-user
invariant-loop-user l =
    (merged l.members (map user_out (drop l.user-index l.users)) ≡ merged [] (map user_out l.users)) × (AreActors (drop l.user-index l.users) → AreActors l.users)
