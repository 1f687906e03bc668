-- A line of the model by the parts of a world: its connections, and what a drain does next.
use Rattle.std.specs.Prelude.{◌≡◌, ℕ, zero, suc, if◌then◌else◌, List, Some, None}
use Rattle.std.specs.Ordering.{nat_cmp}
use Rattle.std.specs.FinMap.{FinMap, get}
use Rattle.room_log.specs.Log.{State}
use Rattle.room_model.specs.Server.{Inbound, Outbound, Server, serve}
use Rattle.room_model.specs.World.{World, Conn, Stepped, Running, Stopped, quiet, is_attached, send_inbound, answer}
use Rattle.room_model.specs.World.{server_receives, peer_receives, owner_takes, owner_of, drain, drain_once, drain_next}
use Rattle.room_model.specs.World.{then_stepped}
use Rattle.room_queues.specs.Calls.{sent, next_inbound, received, next_outbound, taken}

abbrev pub with_conns : World → FinMap nat_cmp Conn → World
with_conns w qs = record w { conns = qs }

-- frames go up on a connection that the server has
abbrev pub SendsOnParts : Type 0
SendsOnParts = (w : World) (k : ℕ) (us : List Inbound)
    → send_inbound w k us ≡ with_conns w (if is_attached w k then sent w.conns k us (get w.conns k) else w.conns)

-- the server receives

abbrev pub NothingInbound : Type 0
NothingInbound = (w : World) (k : ℕ) → next_inbound (get w.conns k) ≡ None → server_receives w k ≡ quiet w

abbrev pub StoppedReceivesNothing : Type 0
StoppedReceivesNothing = (w : World) (k : ℕ) (s : State) → w.host ≡ Stopped s → server_receives w k ≡ quiet w

abbrev pub ReceivesOnParts : Type 0
ReceivesOnParts = (w : World) (k : ℕ) (v : Server) (u : Inbound) → w.host ≡ Running v
    → next_inbound (get w.conns k) ≡ Some u
    → server_receives w k ≡ answer (with_conns w (received w.conns k (get w.conns k))) v k (serve v k u)

-- the client or the link receives

abbrev pub NothingOutbound : Type 0
NothingOutbound = (w : World) (line k : ℕ) → next_outbound (get w.conns k) ≡ None → peer_receives w line k ≡ quiet w

abbrev pub TakesOnParts : Type 0
TakesOnParts = (w : World) (line k : ℕ) (m : Outbound) → next_outbound (get w.conns k) ≡ Some m
    → peer_receives w line k
    ≡ owner_takes (with_conns w (taken w.conns k (get w.conns k))) line k m (owner_of (get w.conns k))

-- a drain, one move after the other

abbrev pub DrainsNothing : Type 0
DrainsNothing = (w : World) (line : ℕ) → drain w line zero ≡ quiet w

abbrev pub DrainsOneByOne : Type 0
DrainsOneByOne = (w : World) (line n : ℕ)
    → drain w line (suc n) ≡ then_stepped (drain_once w line) (drain (drain_once w line).world line n)

-- it ends where nothing waits
abbrev pub DrainEnds : Type 0
DrainEnds = (w : World) (line n : ℕ) → drain_next w line ≡ None → drain w line n ≡ quiet w

abbrev pub StepsJoin : Type 0
StepsJoin = (a b c : Stepped) → then_stepped (then_stepped a b) c ≡ then_stepped a (then_stepped b c)
