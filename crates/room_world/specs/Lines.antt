-- Which lines a world runs.
use Rattle.std.specs.Prelude.{◌≤◌, ⊤, List, [], ◌∷◌, ℕ}
use Rattle.room_disk.specs.declared.disk.Stop.{Stop}
use Rattle.room_disk.specs.declared.disk.Stop.TheVariants as stop
use Rattle.room_log.specs.Follows.{most}
use Rattle.room_script.specs.declared.lines.How.{How}
use Rattle.room_script.specs.declared.lines.How.TheVariants.{Old, New, Torn}
use Rattle.room_script.specs.declared.lines.Line.{Line}
use Rattle.room_script.specs.declared.lines.Line.TheVariants as line

abbrev pub stop_in : How → Stop
stop_in Old = stop.Old
stop_in New = stop.New
stop_in Torn = stop.Torn

-- a fuse is for some call, and a limit of updates is in range
abbrev pub IsRunnable : Line → Type 0
IsRunnable (line.Dial c) = ⊤
IsRunnable (line.Edit c e) = ⊤
IsRunnable (line.Begin c) = ⊤
IsRunnable (line.End c) = ⊤
IsRunnable (line.Undo c) = ⊤
IsRunnable (line.Redo c) = ⊤
IsRunnable (line.Pause c) = ⊤
IsRunnable (line.Resume c) = ⊤
IsRunnable (line.Clear c) = ⊤
IsRunnable (line.Presence c patch in_history) = ⊤
IsRunnable (line.Event c j) = ⊤
IsRunnable (line.Flush c) = ⊤
IsRunnable (line.Resend c) = ⊤
IsRunnable (line.Up k) = ⊤
IsRunnable (line.Down k) = ⊤
IsRunnable (line.Drain n) = ⊤
IsRunnable (line.Cut c) = ⊤
IsRunnable (line.Gone k) = ⊤
IsRunnable line.Stop = ⊤
IsRunnable line.Start = ⊤
IsRunnable (line.Fuse n how) = 1 ≤ n
IsRunnable line.Compact = ⊤
IsRunnable (line.Limit n m) = n ≤ most
IsRunnable line.Link = ⊤
IsRunnable (line.Raw k text) = ⊤
IsRunnable (line.Show spot) = ⊤
IsRunnable (line.Brief spot) = ⊤
IsRunnable (line.Others c) = ⊤
IsRunnable (line.History c) = ⊤
IsRunnable (line.Notices c) = ⊤
IsRunnable (line.Take n m) = ⊤

abbrev pub AreRunnable : List (ℕ × Line) → Type 0
AreRunnable [] = ⊤
AreRunnable (l ∷ ls) = IsRunnable l.1 × AreRunnable ls
