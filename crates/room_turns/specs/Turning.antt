-- A turn of the server: what it does to the disk, and what happens on the hub.
use Rattle.std.specs.Prelude.{◌≡◌, ◌⊎◌, ◌≤◌, ℕ, ◌+◌, Bool, true, false, if◌then◌else◌, List, [], ◌∷◌, ◌++◌, length, None}
use Rattle.std.specs.Prelude.{Result, Ok, Err, IsErrOf, OnOk}
use Rattle.room_disk.specs.Model.{Reads, Images, WithinWhole}
use Rattle.room_edge.specs.Causes.{Rose}
use Rattle.room_host.specs.Rests.{Each}
use Rattle.room_hub.specs.declared.hub.Happening.{Happening}
use Rattle.room_log.specs.Log.{State, Entry}
use Rattle.room_model.specs.Server.{Outbound, Server}
use Rattle.room_replay.specs.Files.{StandsFor}
use Rattle.room_server.specs.Hosted.{Hosted, broken_by}
use Rattle.room_serving.specs.Serving.{Ending, group_of, served}
use Rattle.room_serving.specs.Turns.{Turned, has_round, is_round}
use Rattle.room_store.specs.Stored.{IsOnDisk}
use Rattle.room_turns.specs.Holding.{StandsWithin, IsCompacted, WasLast, after_turns, calls_in}
use Rattle.room_turns.specs.Parts.{trying, Leads, Stops}
use Rattle.room_turns.specs.declared.fault.ServeFault.{ServeFault}
use Rattle.room_turns.specs.declared.fault.ServeFault.TheVariants.{Disk}

-- between two calls: the server isn't broken, its files are the first two, and each image stands for its state
pub record IsServing (seen : Reads) (now : ℕ → List ℕ → Type 0) (h : Hosted) : Type 0 where
  pub whole : broken_by h ≡ None
  pub base : h.store.place.base ≡ 0
  pub settled : IsOnDisk seen now h.store
  pub holds : Each now (StandsFor 0 h.store.state)

-- The counts don't fall, and `Disk` comes only where the count rose.
pub record HasDiskCause {D T : Type 0} (faults inner_faults : D → ℕ) (stopped : D → Bool) (old new : D)
    (result : Result T ServeFault) : Type 0 where
  pub later : faults old ≤ faults new
  pub inner_later : inner_faults old ≤ inner_faults new
  pub failed : IsErrOf result Disk → Rose (faults old) (faults new)
  pub inner_failed : stopped new ≡ false → IsErrOf result Disk → Rose (inner_faults old) (inner_faults new)

abbrev pub commit_calls : List Entry → ℕ
commit_calls [] = 0
commit_calls (e ∷ es) = 4

-- the calls of a compaction, where one of the k numbers behind n is round
abbrev pub compact_calls : ℕ → ℕ → ℕ
compact_calls n k = if has_round n k then 6 else 0

-- behind these turns one with these entries is committed
pub record CommitsTurn {D T : Type 0} (moment : D → ℕ) (images : D → Images) (s : State) (groups : List (List Entry))
    (es : List Entry) (old new : D) (result : Result T ServeFault) : Type 0 where
  pub moments : WithinWhole moment images old new (StandsWithin s (groups ++ group_of es) (length groups))
  pub counted : OnOk result (moment new ≡ moment old + commit_calls es)
  pub bound : moment new ≤ moment old + commit_calls es

-- all was tried, and what was lost is gone
pub record Settles (v : Server) (left : ℕ) (ending : Ending) (todo : List (ℕ × Outbound)) (groups : List (List Entry))
    (owed : ℕ) (was is : List Happening) (u : Server) : Type 0 where
  pub now : ℕ
  pub most : owed ≤ length groups → now ≤ length groups
  pub leads : Leads (trying v left ending todo [] groups owed) was is (trying u left ending [] [] groups now)

-- a turn was done
pub record TurnDone {D : Type 0} (seen : D → Reads) (moment : D → ℕ) (images : D → Images) (s : State) (out : Turned)
    (left : ℕ) (ending : Ending) (groups : List (List Entry)) (owed : ℕ) (was is : List Happening) (v u : Server)
    (old new : D) : Type 0 where
  pub settles : Settles out.server left ending out.outs (groups ++ group_of out.entries) owed was is u
  pub state : after_turns s (groups ++ group_of out.entries) ≡ u.state
  pub calls : (from : ℕ) → moment old ≡ from + calls_in s groups
      → moment new ≡ from + calls_in s (groups ++ group_of out.entries)
  pub compacted : (n : ℕ) → n ≤ u.state.count → is_round n ≡ true → (n ≤ v.state.count → IsCompacted (seen old) n)
      → IsCompacted (seen new) n ⊎ WasLast (images new) (moment old) (moment new)

-- a turn was begun, and not done
pub record TurnStopped {D T : Type 0} (moment : D → ℕ) (images : D → Images) (s : State) (out : Turned) (left : ℕ)
    (ending : Ending) (groups : List (List Entry)) (owed : ℕ) (was is : List Happening) (new : D)
    (result : Result T ServeFault) : Type 0 where
  pub stops :
      Stops (trying out.server left ending out.outs [] (groups ++ group_of out.entries) owed) was is result
  pub holds : Each (images new (moment new))
      (StandsWithin s (groups ++ group_of out.entries)
      (served (trying out.server left ending out.outs [] (groups ++ group_of out.entries) owed)
      stops.begins.happened).owed)

abbrev pub TurnEnds : {D T : Type 0} → (D → Reads) → (D → ℕ) → (D → Images) → State → Turned → (left : ℕ) → Ending
    → (groups : List (List Entry)) → (owed : ℕ) → (was is : List Happening) → (v u : Server) → (old new : D)
    → Result T ServeFault → Type 0
TurnEnds seen moment images s out left ending groups owed was is v u old new (Ok x) =
    TurnDone seen moment images s out left ending groups owed was is v u old new
TurnEnds {T = T} seen moment images s out left ending groups owed was is v u old new (Err e) =
    TurnStopped {T = T} moment images s out left ending groups owed was is new (Err e)

pub record Turns {D T : Type 0} (seen : D → Reads) (moment : D → ℕ) (images : D → Images) (s : State) (out : Turned)
    (left : ℕ) (ending : Ending) (groups : List (List Entry)) (owed : ℕ) (was is : List Happening) (v u : Server)
    (old new : D) (result : Result T ServeFault) : Type 0 where
  pub moments : WithinWhole moment images old new (StandsWithin s (groups ++ group_of out.entries) 0)
  pub bound : (from : ℕ) → moment old ≡ from + calls_in s groups
      → moment new ≤ from + calls_in s (groups ++ group_of out.entries)
  pub ends : TurnEnds seen moment images s out left ending groups owed was is v u old new result
