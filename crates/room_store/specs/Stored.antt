-- A store and a group of entries, as contracts see them.
use Rattle.std.specs.Prelude.{◌≡◌, ℕ, true, List, [], Option, Some, None}
use Rattle.room_disk.specs.Model.{Reads}
use Rattle.room_log.specs.Log.{State, Entry}
use Rattle.room_bytes.specs.Bounds.{all_written}
use Rattle.room_bytes.specs.Reading.{group_of}
use Rattle.room_bytes.specs.declared.entries.Format.TheVariants.{Two}
use Rattle.room_journal.specs.Rest.{Place, IsReady, body_of}
use Rattle.room_replay.specs.Files.{followed}
use Rattle.room_store.specs.Consistent.{Settled}
use Rattle.room_store.specs.declared.fault.Cause.{Cause}
use Rattle.room_store.specs.declared.limits.Limits.{Limits}

-- where the files go on, what broke them, the state after the group that is open, the state before it, where one is
-- open, and the limits
pub record Stored : Type 0 where
  pub place : Place
  pub broken : Option Cause
  pub state : State
  pub before : Option State
  pub limits : Limits

-- the entries, and the bytes of their record behind its gate
pub record Grouped : Type 0 where
  pub entries : List Entry
  pub ready : List ℕ

-- the state on the disk: where a group is open, the state before it
abbrev pub held_state : Option State → State → State
held_state None shown = shown
held_state (Some s) shown = s

abbrev pub held : Stored → State
held s = held_state s.before s.state

-- the entries lead from the state s to the state t, and are ready to be written
pub record LeadsTo (s t : State) (g : Grouped) : Type 0 where
  pub is_ready : IsReady g.ready
  pub reads : group_of (body_of g.ready) ≡ Some g.entries
  pub written : all_written g.entries ≡ true
  pub follows : followed s g.entries ≡ Some t

abbrev pub IsOpenFrom : Option State → State → Grouped → Type 0
IsOpenFrom None shown g = g.entries ≡ []
IsOpenFrom (Some s) shown g = LeadsTo s shown g

-- the group is the one that is open: it leads from the state before it, if there is one, to the state shown; else it is
-- empty
abbrev pub IsOpen : Stored → Grouped → Type 0
IsOpen s g = IsOpenFrom s.before s.state g

-- the files hold the state before the group, and nothing is left to a stop; of a broken store nothing is said
abbrev pub IsOnDisk : Reads → (ℕ → List ℕ → Type 0) → Stored → Type 0
IsOnDisk seen now s = s.broken ≡ None → Settled Two seen now s.place (held s)
