-- What an editor keeps to beside what is seen of it.
use Rattle.std.specs.Prelude.{◌≡◌, true, is_some, List, [], Option, Some, None}
use Rattle.std.specs.List.{AllByRecursion}
use Rattle.room_nodes.specs.declared.nodes.Change.{Change}
use Rattle.room_msg.specs.declared.messages.Resume.{Resume}
use Rattle.room_model.specs.Account.{actor_in}
use Rattle.room_model.specs.Calls.{entry_bodies}
use Rattle.room_model.specs.History.{History}
use Rattle.room_overlay.specs.Over.{Over, opened_ops}
use Rattle.room_editor.specs.Editor.{Gathered}
use Rattle.room_editor.specs.Gathering.{bytes_in, changes_in}
use Rattle.room_editor.specs.Sizes.{bytes_of}

-- the overlay is that of the session's actor, a batch is open in it only while one is open, and the bytes are those of
-- the open batch's operations
pub record Stands (session : Option Resume) (o : Over) (gathered : Option Gathered) : Type 0 where
  pub known : is_some session ≡ true
  pub actor : actor_in session ≡ o.actor
  pub closed : gathered ≡ None → o.batch ≡ None
  pub bytes : bytes_in gathered ≡ bytes_of (opened_ops o)

-- changes that are patches of the presence, and no operations
abbrev pub ArePatches : List Change → Type 0
ArePatches cs = entry_bodies cs ≡ []

abbrev pub HasPatches : Option (List Change) → Type 0
HasPatches None = Unit {0}
HasPatches (Some bag) = ArePatches bag

pub record HoldsPatches (h : History) : Type 0 where
  pub undo : AllByRecursion ArePatches h.undo
  pub redo : AllByRecursion ArePatches h.redo
  pub bag : HasPatches h.bag

-- before the first state nothing is gathered and nothing goes back but patches
pub record StandsBare (gathered : Option Gathered) (h : History) : Type 0 where
  pub bytes : bytes_in gathered ≡ 0
  pub changes : ArePatches (changes_in gathered)
  pub history : HoldsPatches h

abbrev pub StandsIn : Option Resume → Option Over → Option Gathered → History → Type 0
StandsIn session None gathered h = StandsBare gathered h
StandsIn session (Some o) gathered h = Stands session o gathered
