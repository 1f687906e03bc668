use Rattle.std.proofs.Common.{◌≡◌, drop, map}
use Rattle.room_model.specs.Access.{group_among}
use Rattle.room_access.specs.View.{pass_of}
use Rattle.room_access.proofs.deciding.group_among.Given as goal

abbrev pub invariant-loop-entry : goal.invariant-loop-entry
invariant-loop-entry l =
    group_among (map pass_of (drop l.entry-index l.passes)) l.word ≡ group_among (map pass_of l.passes) l.word
