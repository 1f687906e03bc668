use Rattle.std.proofs.Common.{◌≡◌, ◌++◌}
use Rattle.std.specs.Vec.Iter.{into_iter_items}
use Rattle.room_model.specs.Run.{text_of_lines}
use Rattle.room_run.proofs.telling.text_of.Given as goal

abbrev pub invariant-loop-line : goal.invariant-loop-line
invariant-loop-line l = l.text.items ++ text_of_lines (into_iter_items l.line-iterator) ≡ text_of_lines l.fn.lines
