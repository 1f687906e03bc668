-- Lines of connections, as the world's line, by what is done to its parts.
use Rattle.std.proofs.Common.{◌≡◌, ℕ, Bool, true, false, List, [], map, Option, refl, sym, ap, ◌∙◌}
use Rattle.std.proofs.Common.{subst, is_some}
use Rattle.std.specs.Ordering.{nat_cmp}
use Rattle.std.specs.FinMap.{FinMap, get, get-empty}
use Rattle.room_replay.specs.Files.{Files}
use Rattle.room_arrivals.specs.Serving.{limits_of}
use Rattle.room_links.specs.Outs.{written}
use Rattle.room_links.specs.declared.outs.Out.{Out}
use Rattle.room_store.specs.declared.limits.Limits.{Limits}
use Rattle.room_log.specs.Log.{State}
use Rattle.room_model.specs.Server.{Outbound, Link}
use Rattle.room_model.specs.Lines as lines
use Rattle.room_model.specs.World.{World, Conn, Host, Running, Stopped, is_attached, goes}
use Rattle.room_model.specs.World.{gone_on, gone_conn, deliver, links_of, step, Fuse}
use Rattle.room_moves.specs.Reading.{GoneReads, AreSendsRead}
use Rattle.room_host.specs.Outcomes.{gone_in, outs_in}
use Rattle.room_host.specs.Seen.{Hosting, host_in}
use Rattle.room_world.specs.Did.{Did}
use Rattle.room_world.specs.Seen.{Peopled, world_in}

false_true : false ≡ true → ⊥
false_true e = cc

nobody : (k : ℕ) (s : State) → is_some (get (links_of (Stopped s)) k) ≡ true → ⊥
nobody k s e = false_true (ap is_some (sym (get-empty {X = Link} nat_cmp k)) ∙ e)

-- a connection is gone

pub are_read : (h : Host) (k : ℕ) → GoneReads k h → AreSendsRead (outs_in h k)
are_read (Running v) k r = r
are_read (Stopped s) k r = tt

abbrev pub gone_with : World → ℕ → Host → List (ℕ × Outbound) → World
gone_with w k host outs = record w { host = host; conns = deliver (gone_conn w.conns k (get w.conns k)) outs }

gone_at : (w : World) (k : ℕ) (h : Host) → is_some (get (links_of h) k) ≡ true
    → gone_on w k h true ≡ gone_with w k (gone_in h k) (outs_in h k)
gone_at w k (Running v) b = refl
gone_at w k (Stopped s) b = absurd (nobody k s b)

pub goes_on : (w : World) (k : ℕ) (host : Host) → host ≡ gone_in w.host k → is_attached w k ≡ true
    → goes w k ≡ gone_with w k host (outs_in w.host k)
goes_on w k host is b =
    ap (gone_on w k w.host) b ∙ gone_at w k w.host b ∙ ap (λ h. gone_with w k h (outs_in w.host k)) (sym is)

-- the line, where what goes out for the connection left `qs` waiting
pub gone_by : (p q : Peopled) (host : Hosting) (number k : ℕ) (attached : Bool) (outs : List Out)
    (mid qs : FinMap nat_cmp Conn) (fs : Files) (fuse : Option Fuse) → p ≡ q
    → ((fs : Files) → attached ≡ is_some (get (links_of (host_in q.hosting.server fs)) k)) → attached ≡ true
    → host_in host.server fs ≡ gone_in (host_in q.hosting.server fs) k
    → outs ≡ map written (outs_in (host_in q.hosting.server fs) k) → host.limits ≡ q.hosting.limits
    → mid ≡ gone_conn q.conns k (get q.conns k)
    → ((os : List (ℕ × Outbound)) → outs ≡ map written os → AreSendsRead os → qs ≡ deliver mid os)
    → GoneReads k (host_in p.hosting.server fs)
    → Did (step (world_in p fs fuse) number (lines.OfConnection k lines.Gone)) []
    (world_in (record { hosting = host; clients = q.clients; conns = qs; opened = q.opened }) fs fuse)
gone_by p q host number k attached outs mid qs fs fuse is at on left sent same mid_is down read =
    let new : Peopled = record { hosting = host; clients = q.clients; conns = qs; opened = q.opened } in
    let w = world_in q fs fuse in
    let os = outs_in w.host k in
    let read_there : GoneReads k (host_in q.hosting.server fs) =
    subst (λ (y : Peopled). GoneReads k (host_in y.hosting.server fs)) is read in
    let waits : qs ≡ deliver (gone_conn w.conns k (get w.conns k)) os =
    down os sent (are_read w.host k read_there) ∙ ap (λ (m : FinMap nat_cmp Conn). deliver m os) mid_is in
    let goes_so : goes w k ≡ gone_with w k (host_in host.server fs) os =
    goes_on w k (host_in host.server fs) left (sym (at fs) ∙ on) in
    let now : gone_with w k (host_in host.server fs) os ≡ world_in new fs fuse =
    ap (λ (l : Limits). record (gone_with w k (host_in host.server fs) os) { limits = limits_of l }) (sym same)
    ∙ ap (λ (m : FinMap nat_cmp Conn). world_in (record new { conns = m }) fs fuse) (sym waits) in
    subst
    (λ (y : Peopled). Did (step (world_in y fs fuse) number (lines.OfConnection k lines.Gone)) []
    (world_in new fs fuse))
    (sym is) (record { lines_are = refl; world_is = goes_so ∙ now })
