-- What the server and its clients send is read as it was sent.
use Rattle.std.specs.Prelude.{◌≡◌, ℕ, List, [], ◌∷◌, ◌++◌, Ok, ⊤}
use Rattle.room_msg.specs.Frame.{server_frame_in}
use Rattle.room_msg.specs.Written.{server_text}
use Rattle.room_msg.specs.declared.messages.ServerMsg.{ServerMsg}
use Rattle.room_msg.specs.declared.messages.ServerFrame.TheVariants.{Msgs}
use Rattle.room_log.specs.Log.{State}
use Rattle.room_log.specs.Follows.{IsValidState}
use Rattle.room_model.specs.Lines.{Line}
use Rattle.room_model.specs.Run.{run, opened}
use Rattle.room_model.specs.Server.{Outbound}
use Rattle.room_model.specs.World.{account, opening}
use Rattle.room_laws.specs.Accounts.{IsValidServerMsg}
use Rattle.room_laws.specs.Invariant.{conn}
use Rattle.room_laws.specs.Validity.{AreLines}
use Rattle.room_moves.specs.Reading.{IsOutRead, Reads, AllRead}
use Rattle.room_reread.specs.Fits.{FitsFrames}

abbrev pub IsReadAgain : ServerMsg → Type 0
IsReadAgain m = server_frame_in (server_text m) ≡ Ok (Msgs (m ∷ []))

abbrev pub AreOutRead : List Outbound → Type 0
AreOutRead [] = ⊤
AreOutRead (m ∷ ms) = IsOutRead m × AreOutRead ms

abbrev pub ValidIsRead : Type 0
ValidIsRead = (m : ServerMsg) → IsValidServerMsg m → IsReadAgain m

-- on each connection, after every run
abbrev pub WaitingIsRead : Type 0
WaitingIsRead = (s : State) (ls : List (ℕ × Line)) (k : ℕ) → IsValidState s → AreLines ls
    → AreOutRead (conn (run (opened s) ls).world k).outbound

-- all that is sent in the lines of a run: the frames of clients, and what the server answers
abbrev pub ReadsEverywhere : Type 0
ReadsEverywhere = (s : State) (ls : List (ℕ × Line)) → IsValidState s → AreLines ls → AllRead (opening s) ls

-- the same of each line by itself, in the world that it finds
abbrev pub EachLineReads : Type 0
EachLineReads = (s : State) (done : List (ℕ × Line)) (l : ℕ × Line) (rest : List (ℕ × Line)) → IsValidState s
    → AreLines (done ++ l ∷ rest) → Reads (run (opened s) done).world l.0 l.1

-- and what any client may send then fits
abbrev pub FitsEverywhere : Type 0
FitsEverywhere = (s : State) (ls : List (ℕ × Line)) (c : ℕ) → IsValidState s → AreLines ls
    → FitsFrames (account (run (opened s) ls).world c)
