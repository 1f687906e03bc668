use Rattle.std.proofs.Common.{◌≡◌, map}
use Rattle.room_bytes.specs.Bounds.{logged}
use Rattle.room_bytes.specs.Spelling.{group_bytes}
use Rattle.room_replay.proofs.Written.{group_written}
use Rattle.room_replay.proofs.Valid.{group_sound}
use Rattle.room_replay.proofs.opening.entries_of.Goals as goal

pub returns-in-Two-clause-written : goal.returns-in-Two-clause-written
returns-in-Two-clause-written c = group_written c.read_group.result (λ es. c.args.body.now ≡ group_bytes (map logged es)) c.read_group.ensures.found

pub returns-in-Two-clause-sound : goal.returns-in-Two-clause-sound
returns-in-Two-clause-sound c = group_sound c.read_group.result (λ es. c.args.body.now ≡ group_bytes (map logged es)) c.read_group.ensures.found
