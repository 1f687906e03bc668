-- What a server does with the arrivals of a turn, by the model's server.
use Rattle.std.specs.Prelude.{◌≡◌, ℕ, List, [], ◌∷◌, ◌++◌, map}
use Rattle.room_log.specs.Log.{Entry}
use Rattle.room_msg.specs.Frame.{client_frame_in}
use Rattle.room_links.specs.Outs.{written}
use Rattle.room_model.specs.Server.{Server, Served, Outbound, serve, gone, opened, served}
use Rattle.room_store.specs.Stored.{Stored}
use Rattle.room_arrivals.specs.Serving.{listed, server_of}
use Rattle.room_arrivals.specs.declared.draft.Setting.{Setting}
use Rattle.room_arrivals.specs.declared.draft.Draft.{Draft}
use Rattle.room_server.specs.declared.arrivals.Came.{Came}
use Rattle.room_server.specs.declared.arrivals.Came.TheVariants.{Opened, Frame, Gone}

-- one arrival
abbrev pub takes : Server → Came → Served
takes v (Opened k key) = served (opened v k key) []
takes v (Frame k text) = serve v k (client_frame_in text)
takes v (Gone k) = gone v k

-- the server after some arrivals, what goes out, and the entries
pub record Turned : Type 0 where
  pub server : Server
  pub outs : List (ℕ × Outbound)
  pub entries : List Entry

abbrev pub then_turned : Served → Turned → Turned
then_turned x t = record { server = t.server; outs = x.outs ++ t.outs; entries = listed x.entry ++ t.entries }

-- all of them in order
abbrev pub turned : Server → List Came → Turned
turned v [] = record { server = v; outs = []; entries = [] }
turned v (c ∷ cs) = let x = takes v c in then_turned x (turned x.server cs)

-- the server after the arrivals, what goes out, and their entries are the model's
abbrev pub Turns : Setting → Stored → Stored → Draft → Draft → List Came → Type 0
Turns setting s t d e cs =
    let out = turned (server_of s setting d.links) cs in
    (server_of t setting e.links ≡ out.server)
    × (e.outs ≡ d.outs ++ map written out.outs)
    × (e.group.entries ≡ d.group.entries ++ out.entries)
