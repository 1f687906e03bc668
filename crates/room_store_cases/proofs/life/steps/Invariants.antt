use Rattle.room_store.specs.Stored.{IsOpen}
use Rattle.room_store_cases.proofs.life.steps.Given as goal

abbrev pub invariant-loop-word : goal.invariant-loop-word
invariant-loop-word l = IsOpen l.store l.group
