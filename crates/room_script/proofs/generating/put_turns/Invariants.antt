use Rattle.std.proofs.Common.{◌≡◌, ◌+◌, ◌-◌, ◌++◌, string_bytes}
use Rattle.room_script.specs.Generator.{turns}
use Rattle.room_script.proofs.generating.put_turns.Given as goal

abbrev pub invariant-loop-done : goal.invariant-loop-done
invariant-loop-done l =
    string_bytes l.out ++ turns l.count (l.count - l.done) (l.done + 1) l.s ≡ string_bytes l.initial.out ++ turns l.count l.count 1 l.number
