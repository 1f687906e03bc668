use Rattle.std.proofs.Common.{◌≡◌, ◌≤◌, drop, true}
use Rattle.std.specs.Str.{all_ascii_digits}
use Rattle.std.specs.Str.Parse.{digits_value, digits_value_after}
use Rattle.room_ids.proofs.numerals.value_up_to.Given as goal

abbrev pub invariant-loop-c : goal.invariant-loop-c
invariant-loop-c l =
    (digits_value_after 10 l.value (drop l.c-index l.t) ≡ digits_value 10 l.t) × (all_ascii_digits (drop l.c-index l.t) ≡ true) × (l.value ≤ l.most)
