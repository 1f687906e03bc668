use Rattle.std.proofs.Common.{◌≡◌, ◌++◌, drop}
use Rattle.room_serving.specs.Serving.{goners}
use Rattle.room_turns.specs.Gathering.{events_of}
use Rattle.room_turns.proofs.turning.gone_all.Given as goal

abbrev pub invariant-loop-conn : goal.invariant-loop-conn
invariant-loop-conn l = events_of l.came ++ goners (drop l.conn-index l.conns) ≡ goners l.conns
