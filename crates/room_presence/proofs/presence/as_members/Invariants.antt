use Rattle.std.proofs.Common.{◌≡◌, [], map}
use Rattle.room_json.specs.Value.{merged}
use Rattle.room_model.specs.Presence.{other_out}
use Rattle.room_presence.proofs.presence.as_members.Given as goal

abbrev pub invariant-loop-actor : goal.invariant-loop-actor
invariant-loop-actor l = merged l.object (map other_out l.actor-iterator) ≡ merged [] (map other_out l.others.entries)
