-- What the lines of the program stand for.
use Rattle.std.specs.Prelude.{ℕ, ◌==◌, if◌then◌else◌, Option, Some, None}
use Rattle.room_model.specs.Lines as model
use Rattle.room_model.specs.Lines.{OfClient, AsksClient, OfConnection, OfServer}
use Rattle.room_props.specs.Edits.{edit_of}
use Rattle.room_script.specs.Grammar.{ScriptLine, Calls, Asks, Takes}
use Rattle.room_script.specs.declared.lines.How.{How}
use Rattle.room_script.specs.declared.lines.How.TheVariants.{Old, New, Torn}
use Rattle.room_script.specs.declared.lines.Spot.TheVariants.{Client, Server}
use Rattle.room_script.specs.declared.lines.Line.{Line}
use Rattle.room_script.specs.declared.lines.Line.TheVariants as line

abbrev pub how_of : How → model.How
how_of Old = model.Old
how_of New = model.New
how_of Torn = model.Torn

-- a line of a schedule, or frames that a script takes
pub data Told : Type 0 where
  Scheduled : model.Line → Told
  Taken : (frames : ℕ) → (tries : ℕ) → Told

abbrev pub called : ℕ → model.Call → Told
called c call = Scheduled (OfClient c call)

abbrev pub asked : ℕ → model.Question → Told
asked c question = Scheduled (AsksClient c question)

abbrev pub told_of : Line → Told
told_of (line.Dial c) = called c model.Dial
told_of (line.Edit c e) = called c (model.Edits (edit_of e))
told_of (line.Begin c) = called c model.Begin
told_of (line.End c) = called c model.End
told_of (line.Undo c) = called c model.Undo
told_of (line.Redo c) = called c model.Redo
told_of (line.Pause c) = called c model.Pause
told_of (line.Resume c) = called c model.Resume
told_of (line.Clear c) = called c model.Clear
told_of (line.Presence c patch in_history) = called c (model.Presence patch in_history)
told_of (line.Event c j) = called c (model.Event j)
told_of (line.Flush c) = called c model.Flush
told_of (line.Resend c) = called c model.Resend
told_of (line.Up k) = Scheduled (OfConnection k model.Up)
told_of (line.Down k) = Scheduled (OfConnection k model.Down)
told_of (line.Drain n) = Scheduled (model.Drain n)
told_of (line.Cut c) = called c model.Cut
told_of (line.Gone k) = Scheduled (OfConnection k model.Gone)
told_of line.Stop = Scheduled (OfServer model.Stop)
told_of line.Start = Scheduled (OfServer model.Start)
told_of (line.Fuse n how) = Scheduled (OfServer (model.Fuse n (how_of how)))
told_of line.Compact = Scheduled (OfServer model.Compact)
told_of (line.Limit n m) = Scheduled (OfServer (model.Limit n m))
told_of line.Link = Scheduled model.Link
told_of (line.Raw k text) = Scheduled (OfConnection k (model.Raw text))
told_of (line.Show (Client c)) = asked c model.Show
told_of (line.Show Server) = Scheduled (OfServer model.ShowServer)
told_of (line.Brief (Client c)) = asked c model.Brief
told_of (line.Brief Server) = Scheduled (OfServer model.BriefServer)
told_of (line.Others c) = asked c model.ShowOthers
told_of (line.History c) = asked c model.ShowHistory
told_of (line.Notices c) = asked c model.ShowNotices
told_of (line.Take n m) = Taken n m

-- the one client of a script has the number 0
abbrev pub scripted : ScriptLine → Told
scripted (Calls call) = called 0 call
scripted (Asks question) = asked 0 question
scripted (Takes n m) = Taken n m

-- back: the line of a schedule, where it is one

abbrev pub scheduled : Told → Option model.Line
scheduled (Scheduled l) = Some l
scheduled (Taken n m) = None

abbrev pub line_of : Line → Option model.Line
line_of l = scheduled (told_of l)

-- the line of a script, where it is one

abbrev pub of_the_client : model.Line → Option ScriptLine
of_the_client (OfClient c call) = if c == 0 then Some (Calls call) else None
of_the_client (AsksClient c question) = if c == 0 then Some (Asks question) else None
of_the_client (OfConnection k traffic) = None
of_the_client (OfServer service) = None
of_the_client (model.Drain n) = None
of_the_client model.Link = None

abbrev pub said : Told → Option ScriptLine
said (Scheduled l) = of_the_client l
said (Taken n m) = Some (Takes n m)
