-- A server, as contracts see it.
use Rattle.std.specs.Prelude.{◌≡◌, Bool, length, Option, None}
use Rattle.std.specs.Ordering.{nat_cmp}
use Rattle.std.specs.FinMap.{FinMap, empty}
use Rattle.room_model.specs.Server.{Link, Server}
use Rattle.room_store.specs.Stored.{Stored}
use Rattle.room_store.specs.declared.fault.Cause.{Cause}
use Rattle.room_arrivals.specs.Seats.{AreSeated}
use Rattle.room_arrivals.specs.Serving.{server_of}
use Rattle.room_arrivals.specs.declared.draft.Setting.{Setting}
use Rattle.room_server.specs.Faults.{cause_of}

-- the room's store, its name and access, the attached connections, and whether a turn was out of memory
pub record Hosted : Type 0 where
  pub store : Stored
  pub setting : Setting
  pub links : FinMap nat_cmp Link
  pub spent : Bool

-- the model's server
abbrev pub server_in : Hosted → Server
server_in h = server_of h.store h.setting h.links

abbrev pub broken_by : Hosted → Option Cause
broken_by h = cause_of h.spent h.store.broken

abbrev pub no_links : FinMap nat_cmp Link
no_links = empty

-- between two calls no group is open, and each connection's session is there
pub record IsAtRest (s : Stored) (ls : FinMap nat_cmp Link) : Type 0 where
  pub closed : s.before ≡ None
  pub seated : AreSeated (length s.state.sessions) ls
