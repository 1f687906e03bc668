-- The report of a schedule in parts.
use Rattle.std.specs.Prelude.{◌≡◌, ℕ, List, [], ◌∷◌, ◌++◌}
use Rattle.room_model.specs.World.{World, step}
use Rattle.room_model.specs.Lines.{Line}
use Rattle.room_model.specs.Run.{report_from}

-- the report of lines after others is theirs, from the world that those left

abbrev pub world_after : World → List (ℕ × Line) → World
world_after w [] = w
world_after w (l ∷ ls) = world_after (step w l.0 l.1).world ls

abbrev pub ReportInOrder : Type 0
ReportInOrder =
    (w : World) (ls ms : List (ℕ × Line)) → report_from w (ls ++ ms) ≡ report_from w ls
    ++ report_from (world_after w ls) ms
