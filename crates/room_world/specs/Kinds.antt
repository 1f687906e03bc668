-- What a line leaves as it is.
use Rattle.std.specs.Prelude.{⊤, ℕ}
use Rattle.room_model.specs.Lines.{Call, OfClient, AsksClient, OfConnection, OfServer, Drain, Link, Traffic, Service}
use Rattle.room_model.specs.Lines as lines
use Rattle.room_script.specs.Told.{Told, Scheduled, Taken}

-- all calls of a client but a dial leave the server as it is
abbrev pub IsOwnCall : Call → Type 0
IsOwnCall lines.Dial = ⊥
IsOwnCall (lines.Edits e) = ⊤
IsOwnCall lines.Begin = ⊤
IsOwnCall lines.End = ⊤
IsOwnCall lines.Undo = ⊤
IsOwnCall lines.Redo = ⊤
IsOwnCall lines.Pause = ⊤
IsOwnCall lines.Resume = ⊤
IsOwnCall lines.Clear = ⊤
IsOwnCall (lines.Presence patch in_history) = ⊤
IsOwnCall (lines.Event e) = ⊤
IsOwnCall lines.Flush = ⊤
IsOwnCall lines.Resend = ⊤
IsOwnCall lines.Cut = ⊤

-- a line of a client that leaves the server as it is, or one of a script
abbrev pub IsOwn : Told → Type 0
IsOwn (Scheduled (OfClient c call)) = IsOwnCall call
IsOwn (Scheduled (AsksClient c question)) = ⊤
IsOwn (Scheduled (OfConnection k traffic)) = ⊥
IsOwn (Scheduled (OfServer service)) = ⊥
IsOwn (Scheduled (Drain n)) = ⊥
IsOwn (Scheduled Link) = ⊥
IsOwn (Taken n m) = ⊤

-- a question, or a line of a script
abbrev pub IsAsked : Told → Type 0
IsAsked (Scheduled (OfClient c call)) = ⊥
IsAsked (Scheduled (AsksClient c question)) = ⊤
IsAsked (Scheduled (OfConnection k traffic)) = ⊥
IsAsked (Scheduled (OfServer service)) = ⊥
IsAsked (Scheduled (Drain n)) = ⊥
IsAsked (Scheduled Link) = ⊥
IsAsked (Taken n m) = ⊤

-- a line that leaves the disk as it is

abbrev pub IsApartOn : Traffic → Type 0
IsApartOn lines.Up = ⊥
IsApartOn lines.Down = ⊤
IsApartOn lines.Gone = ⊤
IsApartOn (lines.Raw text) = ⊤

abbrev pub IsApartIn : Service → Type 0
IsApartIn lines.Stop = ⊥
IsApartIn lines.Start = ⊥
IsApartIn (lines.Fuse n how) = ⊥
IsApartIn lines.Compact = ⊥
IsApartIn (lines.Limit n m) = ⊤
IsApartIn lines.ShowServer = ⊤
IsApartIn lines.BriefServer = ⊤

abbrev pub IsApart : Told → Type 0
IsApart (Scheduled (OfClient c call)) = ⊤
IsApart (Scheduled (AsksClient c question)) = ⊤
IsApart (Scheduled (OfConnection k traffic)) = IsApartOn traffic
IsApart (Scheduled (OfServer service)) = IsApartIn service
IsApart (Scheduled (Drain n)) = ⊥
IsApart (Scheduled Link) = ⊤
IsApart (Taken n m) = ⊤

-- a line of a script alone
abbrev pub IsTaken : Told → Type 0
IsTaken (Scheduled l) = ⊥
IsTaken (Taken n m) = ⊤
