-- What an arrival does, by the model's server.
use Rattle.std.specs.Prelude.{◌≡◌, List, [], ◌∷◌, ◌++◌, map, option_map, Option, Some, None}
use Rattle.std.specs.Ordering.{nat_cmp}
use Rattle.std.specs.FinMap.{FinMap}
use Rattle.room_log.specs.Log.{Entry}
use Rattle.room_access.specs.View.{access_of}
use Rattle.room_links.specs.Outs.{written}
use Rattle.room_store.specs.Stored.{Stored, held}
use Rattle.room_store.specs.declared.limits.Limits.{Limits}
use Rattle.room_model.specs.Server as model
use Rattle.room_arrivals.specs.declared.draft.Setting.{Setting}
use Rattle.room_arrivals.specs.declared.draft.Draft.{Draft}

abbrev pub limits_of : Limits → model.Limits
limits_of l = record { updates = l.updates; sessions = l.sessions }

-- the server of a store's state, a setting and attached connections
abbrev pub server_of : Stored → Setting → FinMap nat_cmp model.Link → model.Server
server_of s setting ls = record {
  state = s.state;
  room = setting.room;
  limits = limits_of s.limits;
  access = option_map access_of setting.access;
  links = ls;
}

abbrev pub listed : Option Entry → List Entry
listed None = []
listed (Some e) = e ∷ []

-- the server after it, what goes out, and its entry are the model's
abbrev pub Serves : Setting → Stored → Stored → Draft → Draft → (model.Server → model.Served) → Type 0
Serves setting s t d e step =
    let out = step (server_of s setting d.links) in
    (server_of t setting e.links ≡ out.server)
    × (e.outs ≡ d.outs ++ map written out.outs)
    × (e.group.entries ≡ d.group.entries ++ listed out.entry)

-- the same, where the store stays
abbrev pub Answers : Setting → Stored → Draft → Draft → (model.Server → model.Served) → Type 0
Answers setting s d e step = Serves setting s s d e step × (e.group ≡ d.group)

-- the state on the disk stays, and what is known of the store but its state
pub record Keeps (s t : Stored) : Type 0 where
  pub held : held t ≡ held s
  pub place : t.place ≡ s.place
  pub broken : t.broken ≡ s.broken
  pub limits : t.limits ≡ s.limits
