-- A turn of the server: events that are done one after the other, with one commit.
use Rattle.std.specs.Prelude.{ℕ, zero, suc, ◌+◌, ◌%◌, ◌==◌, Bool, false, ◌||◌, List, [], ◌∷◌, ◌++◌, length}
use Rattle.room_hub.specs.declared.hub.Event.{Event}
use Rattle.room_hub.specs.declared.hub.Event.TheVariants.{Opened, Frame, Gone, Quiet, End}
use Rattle.room_msg.specs.Frame.{client_frame_in}
use Rattle.room_log.specs.Log.{Entry, updates_of}
use Rattle.room_model.specs.Server.{Outbound, Server, Served, nothing, opened, gone, serve}
use Rattle.room_model.specs.World.{entries_in}

-- the server after a turn, its sends and closes in order, and the entries that it commits together
pub record Turned : Type 0 where
  pub server : Server
  pub outs : List (ℕ × Outbound)
  pub entries : List Entry

-- an event; nothing is done where nothing was ready, and at the end
abbrev pub arrive : Server → Event → Served
arrive v (Opened k key) = nothing (opened v k key)
arrive v (Frame k text) = serve v k (client_frame_in text)
arrive v (Gone k) = gone v k
arrive v Quiet = nothing v
arrive v End = nothing v

abbrev pub then_turned : Served → Turned → Turned
then_turned out more = record {
  server = more.server;
  outs = out.outs ++ more.outs;
  entries = entries_in out.entry ++ more.entries;
}

abbrev pub turned : Server → List Event → Turned
turned v [] = record { server = v; outs = []; entries = [] }
turned v (e ∷ es) =
    let out = arrive v e in
    then_turned out (turned out.server es)

-- A compaction is due after a turn of which an update has a number that is a multiple of 1,000.

abbrev pub is_round : ℕ → Bool
is_round n = n % 1000 == 0

-- one of the k numbers behind n
abbrev pub has_round : ℕ → ℕ → Bool
has_round n zero = false
has_round n (suc k) = is_round (n + 1) || has_round (n + 1) k

abbrev pub is_due : Server → Turned → Bool
is_due v out = has_round v.state.count (length (updates_of out.entries))
