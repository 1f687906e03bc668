-- What waits, after each call.
use Rattle.std.specs.Prelude.{ℕ, List, [], ◌∷◌, ◌++◌, Option, Some, None, map}
use Rattle.std.specs.Ordering.{nat_cmp}
use Rattle.std.specs.FinMap.{FinMap, insert, from_entries, entries}
use Rattle.room_model.specs.Server.{Inbound, Outbound}
use Rattle.room_model.specs.World.{Conn, emptied_conn}

-- what is next in a queue, and what is left behind it

abbrev pub first : {X : Type 0} → List X → Option X
first [] = None
first (x ∷ xs) = Some x

abbrev pub rest : {X : Type 0} → List X → List X
rest [] = []
rest (x ∷ xs) = xs

-- texts go up on a connection that is there
abbrev pub sent : FinMap nat_cmp Conn → ℕ → List Inbound → Option Conn → FinMap nat_cmp Conn
sent qs k us None = qs
sent qs k us (Some q) = insert qs k (record q { inbound = q.inbound ++ us })

-- what the server receives next, and what then waits

abbrev pub next_inbound : Option Conn → Option Inbound
next_inbound None = None
next_inbound (Some q) = first q.inbound

abbrev pub received : FinMap nat_cmp Conn → ℕ → Option Conn → FinMap nat_cmp Conn
received qs k None = qs
received qs k (Some q) = insert qs k (record q { inbound = rest q.inbound })

-- what the client or the link receives next, and what then waits

abbrev pub next_outbound : Option Conn → Option Outbound
next_outbound None = None
next_outbound (Some q) = first q.outbound

abbrev pub taken : FinMap nat_cmp Conn → ℕ → Option Conn → FinMap nat_cmp Conn
taken qs k None = qs
taken qs k (Some q) = insert qs k (record q { outbound = rest q.outbound })

-- a server that stops loses what waits

abbrev pub emptied : Conn → Conn
emptied q = record q { inbound = []; outbound = [] }

abbrev pub all_emptied : FinMap nat_cmp Conn → FinMap nat_cmp Conn
all_emptied qs = from_entries {R = nat_cmp} (map emptied_conn (entries qs))

-- entries in order, as a map
abbrev pub as_map : List (ℕ × Conn) → FinMap nat_cmp Conn
as_map es = from_entries es
