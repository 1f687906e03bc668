-- A line of the model by the parts of a world.
use Rattle.std.proofs.Common.{◌≡◌, ℕ, zero, suc, Bool, true, false, cond, List, [], ◌∷◌, refl, ap, ◌∙◌, append_assoc}
use Rattle.std.proofs.Common.{Option, Some, None}
use Rattle.std.specs.FinMap.{get, insert}
use Rattle.room_log.specs.Log.{State}
use Rattle.room_model.specs.Server.{Inbound, Outbound, Server, serve}
use Rattle.room_model.specs.World.{World, Conn, Host, Running, Stopped, quiet, is_attached, inbounds_on, answer}
use Rattle.room_model.specs.World.{inbound_from, inbound_at, outbound_from, outbound_at, owner_takes, owner_of, drain}
use Rattle.room_model.specs.World.{drain_once, or_quiet, then_stepped}
use Rattle.room_queues.specs.Calls.{first, rest, sent, next_inbound, received, next_outbound, taken}
use Rattle.room_moves.specs.Parts.{with_conns, SendsOnParts, NothingInbound, StoppedReceivesNothing, ReceivesOnParts}
use Rattle.room_moves.specs.Parts.{NothingOutbound, TakesOnParts, DrainsNothing, DrainsOneByOne, DrainEnds, StepsJoin}

some_none : {A : Type 0} (x : A) → Some x ≡ None → ⊥
some_none x e = cc

none_some : {A : Type 0} (x : A) → None ≡ Some x → ⊥
none_some x e = cc

some_is : {A : Type 0} (x y : A) → Some x ≡ Some y → x ≡ y
some_is x y e = cc

sends_on : (w : World) (k : ℕ) (us : List Inbound) (b : Bool) (o : Option Conn)
    → inbounds_on w k us b o ≡ with_conns w (cond b (sent w.conns k us o) w.conns)
sends_on w k us true None = refl
sends_on w k us true (Some q) = refl
sends_on w k us false None = refl
sends_on w k us false (Some q) = refl

pub sends : SendsOnParts
sends w k us = sends_on w k us (is_attached w k) (get w.conns k)

-- the server receives

nothing_from : (w : World) (k : ℕ) (h : Host) (q : Conn) (us : List Inbound) → first us ≡ None
    → inbound_from w k h q us ≡ quiet w
nothing_from w k (Running v) q [] e = refl
nothing_from w k (Running v) q (u ∷ us) e = absurd (some_none u e)
nothing_from w k (Stopped s) q us e = refl

nothing_at : (w : World) (k : ℕ) (o : Option Conn) → next_inbound o ≡ None → inbound_at w k o ≡ quiet w
nothing_at w k None e = refl
nothing_at w k (Some q) e = nothing_from w k w.host q q.inbound e

pub nothing_inbound : NothingInbound
nothing_inbound w k e = nothing_at w k (get w.conns k) e

stopped_at : (w : World) (k : ℕ) (s : State) (o : Option Conn) → w.host ≡ Stopped s → inbound_at w k o ≡ quiet w
stopped_at w k s None e = refl
stopped_at w k s (Some q) e = ap (λ h. inbound_from w k h q q.inbound) e

pub stopped_receives : StoppedReceivesNothing
stopped_receives w k s e = stopped_at w k s (get w.conns k) e

some_from : (w : World) (k : ℕ) (v : Server) (u : Inbound) (q : Conn) (us : List Inbound) → first us ≡ Some u
    → inbound_from w k (Running v) q us
    ≡ answer (with_conns w (insert w.conns k (record q { inbound = rest us }))) v k (serve v k u)
some_from w k v u q [] e = absurd (none_some u e)
some_from w k v u q (x ∷ us) e =
    ap (λ y. answer (with_conns w (insert w.conns k (record q { inbound = us }))) v k (serve v k y)) (some_is x u e)

some_at : (w : World) (k : ℕ) (v : Server) (u : Inbound) (o : Option Conn) → w.host ≡ Running v
    → next_inbound o ≡ Some u → inbound_at w k o ≡ answer (with_conns w (received w.conns k o)) v k (serve v k u)
some_at w k v u None h e = absurd (none_some u e)
some_at w k v u (Some q) h e =
    ap (λ host. inbound_from w k host q q.inbound) h ∙ some_from w k v u q q.inbound e

pub receives : ReceivesOnParts
receives w k v u h e = some_at w k v u (get w.conns k) h e

-- the client or the link receives

none_from : (w : World) (line k : ℕ) (q : Conn) (ms : List Outbound) → first ms ≡ None
    → outbound_from w line k q ms ≡ quiet w
none_from w line k q [] e = refl
none_from w line k q (m ∷ ms) e = absurd (some_none m e)

none_at : (w : World) (line k : ℕ) (o : Option Conn) → next_outbound o ≡ None → outbound_at w line k o ≡ quiet w
none_at w line k None e = refl
none_at w line k (Some q) e = none_from w line k q q.outbound e

pub nothing_outbound : NothingOutbound
nothing_outbound w line k e = none_at w line k (get w.conns k) e

takes_from : (w : World) (line k : ℕ) (m : Outbound) (q : Conn) (ms : List Outbound) → first ms ≡ Some m
    → outbound_from w line k q ms
    ≡ owner_takes (with_conns w (insert w.conns k (record q { outbound = rest ms }))) line k m q.owner
takes_from w line k m q [] e = absurd (none_some m e)
takes_from w line k m q (x ∷ ms) e =
    ap (λ y. owner_takes (with_conns w (insert w.conns k (record q { outbound = ms }))) line k y q.owner)
    (some_is x m e)

takes_at : (w : World) (line k : ℕ) (m : Outbound) (o : Option Conn) → next_outbound o ≡ Some m
    → outbound_at w line k o ≡ owner_takes (with_conns w (taken w.conns k o)) line k m (owner_of o)
takes_at w line k m None e = absurd (none_some m e)
takes_at w line k m (Some q) e = takes_from w line k m q q.outbound e

pub takes : TakesOnParts
takes w line k m e = takes_at w line k m (get w.conns k) e

-- a drain

pub drains_nothing : DrainsNothing
unfolding drain
drains_nothing w line = refl

pub drains_one : DrainsOneByOne
unfolding drain
drains_one w line n = refl

pub drain_ends : DrainEnds
drain_ends w line zero e = drains_nothing w line
drain_ends w line (suc n) e =
    let idle : drain_once w line ≡ quiet w = ap (or_quiet w) e in
    drains_one w line n ∙ ap (λ out. then_stepped out (drain out.world line n)) idle
    ∙ ap (then_stepped (quiet w)) (drain_ends w line n e)

pub steps_join : StepsJoin
steps_join a b c =
    rw (append_assoc a.lines b.lines c.lines, append_assoc a.entries b.entries c.entries)
    (rw (append_assoc a.issues b.issues c.issues, append_assoc a.given b.given c.given) refl)

pub ruleset parts = (
  sends,
  nothing_inbound,
  stopped_receives,
  receives,
  nothing_outbound,
  takes,
  drains_nothing,
  drains_one,
  drain_ends,
  steps_join,
)
