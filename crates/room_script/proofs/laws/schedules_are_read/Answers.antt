use Rattle.std.proofs.Common.{[], subst, append-nil}
use Rattle.room_script.specs.Grammar.{rows}
use Rattle.room_script.specs.Generator.{schedule_of}
use Rattle.room_script.proofs.Goodness.{AreLines, all_read}
use Rattle.room_script.proofs.Turned.{schedule_good}
use Rattle.room_script.proofs.laws.schedules_are_read.Goals as goal

pub returns : goal.returns
returns c = λ number count small.
    all_read 1 (rows (schedule_of number count))
    (subst (λ t. AreLines (rows t)) (append-nil (schedule_of number count)) (schedule_good number count small [] tt))
