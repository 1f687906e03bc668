-- What a line tries to add follows the log before it.
use Rattle.std.proofs.Common.{◌≡◌, inl, inr, ℕ, zero, suc, List, [], ◌∷◌, refl, sym, ap, ◌∙◌, subst}
use Rattle.std.specs.Prelude.{Option, Some, None, ⊤}
use Rattle.std.specs.FinMap.{get}
use Rattle.room_log.specs.Log.{State, Entry, state_after}
use Rattle.room_log.specs.Follows.{IsValidLog}
use Rattle.room_model.specs.Lines as lines
use Rattle.room_model.specs.Lines.{Line}
use Rattle.room_model.specs.Server.{Inbound}
use Rattle.room_model.specs.World
use Rattle.room_model.specs.World.{World, Conn, Host, Running, Stopped, Stepped, drain_once, state_in}
use Rattle.room_laws.specs.Invariant.{conn_in}
use Rattle.room_laws.specs.Validity.{AreSoundInbounds, IsSoundConn, IsSoundHost, IsSoundInbound, IsSoundWorld}
use Rattle.room_laws.proofs.EveryRun.{every_account}
use Rattle.room_laws.proofs.SoundLines.{Stands, conn_line, valid-append}
use Rattle.room_laws.proofs.SoundServes.{serve_goes}
use Rattle.room_laws.proofs.StateItems.{items_of_valid}
use Rattle.room_queues.specs.Calls.{first, next_inbound}
use Rattle.room_world.specs.Trying.{tried_by, up_tries, move_tries, drain_tries, tries}
use Rattle.room_headline.proofs.Adding.{Tried, move_tried, next_in, next_out, rests}

-- a frame that the server receives

abbrev IsNext : Option Inbound → Type 0
IsNext None = ⊤
IsNext (Some u) = IsSoundInbound u

first_sound : (us : List Inbound) → AreSoundInbounds us → IsNext (first us)
first_sound [] h = tt
first_sound (u ∷ us) h = h.0

next_sound : (o : Option Conn) → IsSoundConn (conn_in o) → IsNext (next_inbound o)
next_sound None h = tt
next_sound (Some q) h = first_sound q.inbound h.inbound

tried_follow : (k : ℕ) (h : Host) (o : Option Inbound) → IsSoundHost h → IsNext o
    → IsValidLog (state_in h) (tried_by k h o)
tried_follow k (Running v) (Some u) h i = (serve_goes items_of_valid v h k u i).log
tried_follow k (Running v) None h i = tt
tried_follow k (Stopped s) o h i = tt

module _ (m : ℕ) where
  up_follow : (w : World) (k : ℕ) → IsSoundWorld m w → IsValidLog (state_in w.host) (up_tries w k)
  up_follow w k h =
      tried_follow k w.host (next_inbound (get w.conns k)) h.host (next_sound (get w.conns k) (h.conns k))

  move_follow : (w : World) (i : Option ℕ) → IsSoundWorld m w → IsValidLog (state_in w.host) (move_tries w i)
  move_follow w None h = tt
  move_follow w (Some k) h = up_follow w k h

  -- a drain

  moves_stand : (w : World) (number : ℕ) (i o : Option ℕ) → IsSoundWorld m w
      → Stands m (state_in w.host) (World.or_quiet w (World.drain_step w number i o))
  moves_stand w number (Some k) o h = conn_line every_account items_of_valid m w number k lines.Up h tt
  moves_stand w number None (Some k) h = conn_line every_account items_of_valid m w number k lines.Down h tt
  moves_stand w number None None h = record { world = h; log = tt; state = refl }

  behind : (s : State) (out : Stepped) (tried rest : List Entry) → Tried out tried
      → state_in out.world.host ≡ state_after s out.entries → IsValidLog (state_in out.world.host) rest
      → ((t : State) → out.world.host ≡ Stopped t → rest ≡ []) → IsValidLog (state_after s tried) rest
  behind s out tried rest (inl is) stands follow stop =
      subst (λ t. IsValidLog t rest) (stands ∙ ap (state_after s) (sym is)) follow
  behind s out tried rest (inr d) stands follow stop =
      subst (IsValidLog (state_after s tried)) (sym (stop d.state d.host)) tt

  drain_follow : (n : ℕ) (w : World) (number : ℕ) → IsSoundWorld m w
      → IsValidLog (state_in w.host) (drain_tries w number n)
  drain_follow zero w number h = tt
  drain_follow (suc n) w number h =
      let out = drain_once w number in
      let tried = move_tries w (next_in w) in
      let rest = drain_tries out.world number n in
      let stands = moves_stand w number (next_in w) (next_out w) h in
      valid-append (state_in w.host) tried rest (move_follow w (next_in w) h)
      (behind (state_in w.host) out tried rest (move_tried w number (next_in w) (next_out w)) stands.state
      (drain_follow n out.world number stands.world) (λ t e. (rests n out.world number t e).tried))

  traffic_follow : (w : World) (number k : ℕ) (traffic : lines.Traffic) → IsSoundWorld m w
      → IsValidLog (state_in w.host) (tries w number (lines.OfConnection k traffic))
  traffic_follow w number k lines.Up h = up_follow w k h
  traffic_follow w number k lines.Down h = tt
  traffic_follow w number k lines.Gone h = tt
  traffic_follow w number k (lines.Raw text) h = tt

  pub line_follow : (w : World) (number : ℕ) (l : Line) → IsSoundWorld m w
      → IsValidLog (state_in w.host) (tries w number l)
  line_follow w number (lines.OfClient c call) h = tt
  line_follow w number (lines.AsksClient c question) h = tt
  line_follow w number (lines.OfConnection k traffic) h = traffic_follow w number k traffic h
  line_follow w number (lines.OfServer service) h = tt
  line_follow w number (lines.Drain n) h = drain_follow n w number h
  line_follow w number lines.Link h = tt
