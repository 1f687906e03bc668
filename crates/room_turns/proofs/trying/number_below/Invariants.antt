use Rattle.std.proofs.Common.{◌≡◌, ◌+◌, drop}
use Rattle.room_turns.specs.Trying.{number_below}
use Rattle.room_turns.proofs.trying.number_below.Given as goal

abbrev pub invariant-loop-number : goal.invariant-loop-number
invariant-loop-number l =
    (l.at ≡ l.number-index)
    × (l.at + number_below (drop l.number-index l.numbers) l.conn ≡ number_below l.numbers l.conn)
