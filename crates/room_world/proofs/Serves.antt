-- What the server does, as the world's line, by what its host answers.
use Rattle.std.proofs.Common.{◌≡◌, ℕ, Bool, true, false, cond, List, [], ◌∷◌, Option, None, refl, sym}
use Rattle.std.proofs.Common.{ap, ◌∙◌, subst}
use Rattle.std.specs.Ordering.{nat_cmp}
use Rattle.std.specs.FinMap.{FinMap, empty}
use Rattle.room_log.specs.Log.{State}
use Rattle.room_links.specs.declared.outs.Out.{Out}
use Rattle.room_model.specs.Server.{Server, Served}
use Rattle.room_model.specs.Lines as lines
use Rattle.room_model.specs.World.{World, Conn, Host, Running, Stopped, Fuse, Burnt, Intact, Fires, burn, is_kept}
use Rattle.room_model.specs.World.{answer, answered, commit_calls, deliver, state_with, started, start, compacted}
use Rattle.room_model.specs.World.{compact, stop, stopped, step, room_name, quiet, entries_in, Stepped}
use Rattle.room_arrivals.specs.Serving.{limits_of}
use Rattle.room_queues.specs.Calls.{all_emptied}
use Rattle.room_host.specs.Outcomes.{HearsAs, StartsAs, CompactsAs, StopsAs, start_shown}
use Rattle.room_host.specs.declared.outcomes.Heard.{Heard}
use Rattle.room_host.specs.declared.outcomes.Heard.TheVariants as heard
use Rattle.room_host.specs.declared.outcomes.Started.{Started}
use Rattle.room_host.specs.declared.outcomes.Started.TheVariants.{Ran, Began, Failed}
use Rattle.room_host.specs.Seen.{Hosting, host_in, room_files, fuse_of}
use Rattle.room_disk.specs.Model.{Reads}
use Rattle.room_disk.specs.declared.disk.Stop.{Stop}
use Rattle.room_store.specs.declared.limits.Limits.{Limits as Bounds}
use Rattle.room_world.specs.Did.{Did, DoesOn}
use Rattle.room_world.specs.Seen.{Peopled, world_in, world_on}
use Rattle.room_world.specs.Serving.{lines_started, queues_started, queues_if}

-- a world with another host, fuse and queues

abbrev pub with_host : World → Host → Option Fuse → FinMap nat_cmp Conn → World
with_host w h fuse qs = record w { host = h; fuse = fuse; conns = qs }

-- what a world is after the host was stopped
abbrev pub emptied : World → Host → Option Fuse → World
emptied w h fuse = with_host w h fuse (all_emptied w.conns)

-- a line that writes nothing
pub no_lines : {out : Stepped} {now : World} (ls : List (List ℕ)) → ls ≡ [] → Did out [] now → Did out ls now
no_lines ls e did = record { lines_are = did.lines_are ∙ sym e; world_is = did.world_is }

-- a frame

-- what is left of a world where the fuse fired, by whether the entry is kept
abbrev fired : World → Server → Served → Bool → World
fired w v out kept = (cond {A = Stepped} kept
    (record {
      world = stopped w (state_with v.state out.entry);
      lines = [];
      entries = entries_in out.entry;
      issues = [];
      given = [];
    }) (quiet (stopped w v.state))).world

answered_intact : (w : World) (v : Server) (k : ℕ) (out : Served) (b : Burnt) (now : Option Fuse) → b ≡ Intact now
    → (answered w v k out b).world ≡ with_host w (Running out.server) now (deliver w.conns out.outs)
answered_intact w v k out b now e = ap (λ b. (answered w v k out b).world) e

kept_or_not : (w : World) (v : Server) (k call : ℕ) (how : lines.How) (out : Served) (kept : Bool)
    → is_kept call how ≡ kept
    → (answered w v k out (Fires call how)).world
    ≡ emptied w (Stopped (cond kept (state_with v.state out.entry) v.state)) None
kept_or_not w v k call how out true e = ap (fired w v out) e
kept_or_not w v k call how out false e = ap (fired w v out) e

pub sends : (w : World) (v : Server) (k : ℕ) (out : Served) (now : Option Fuse) (host : Host) (os : List Out)
    (qs : FinMap nat_cmp Conn) → HearsAs v out w.fuse now host (heard.Sends os) → qs ≡ deliver w.conns out.outs
    → (answer w v k out).world ≡ with_host w host now qs
sends w v k out now host os qs h e =
    answered_intact w v k out (burn (commit_calls out.entry) w.fuse) now h.0
    ∙ ap (λ x. with_host w x now (deliver w.conns out.outs)) (sym h.1)
    ∙ ap (λ x. with_host w host now x) (sym e)

pub stops_hearing : (w : World) (v : Server) (k : ℕ) (out : Served) (now : Option Fuse) (host : Host)
    → HearsAs v out w.fuse now host heard.Stopped → (answer w v k out).world ≡ emptied w host now
stops_hearing w v k out now host h =
    ap (λ b. (answered w v k out b).world) h.fires
    ∙ kept_or_not w v k h.call h.how out (is_kept h.call h.how) refl
    ∙ ap (λ x. emptied w x None) (sym h.stopped)
    ∙ ap (λ x. emptied w host x) (sym h.disarmed)

-- a start

begun_intact : (w : World) (s : State) (b : Burnt) (now : Option Fuse) (host : Host) → b ≡ Intact now
    → host ≡ Running (record { state = s; room = room_name; limits = w.limits; access = None; links = empty })
    → Did (started w s b) (start_shown host ∷ []) (with_host w host now w.conns)
begun_intact w s b now host e h = record {
  lines_are = ap (λ b. (started w s b).lines) e ∙ ap (λ x. start_shown x ∷ []) (sym h);
  world_is = ap (λ b. (started w s b).world) e ∙ ap (λ x. with_host w x now w.conns) (sym h);
}

failed_in : (w : World) (s : State) (b : Burnt) (call : ℕ) (how : lines.How) (now : Option Fuse) (host : Host)
    → b ≡ Fires call how → now ≡ None → host ≡ Stopped s
    → Did (started w s b) (start_shown host ∷ []) (emptied w host now)
failed_in w s b call how now host e n h = record {
  lines_are = ap (λ b. (started w s b).lines) e ∙ ap (λ x. start_shown x ∷ []) (sym h);
  world_is = ap (λ b. (started w s b).world) e ∙ ap (λ x. emptied w x None) (sym h)
      ∙ ap (λ x. emptied w host x) (sym n);
}

starts_at : (w : World) (h : Host) (now : Option Fuse) (host : Host) (s : Started)
    → StartsAs h w.limits w.fuse now host s → w.host ≡ h
    → Did (start w h) (lines_started s host) (with_host w host now (queues_started s w.conns))
starts_at w (Running v) now host Ran k e = record {
  lines_are = refl;
  world_is = ap (λ x. with_host w x w.fuse w.conns) (e ∙ sym k.0) ∙ ap (λ x. with_host w host x w.conns) (sym k.1);
}
starts_at w (Running v) now host Began k e = absurd k
starts_at w (Running v) now host Failed k e = absurd k
starts_at w (Stopped s) now host Ran k e = absurd k
starts_at w (Stopped s) now host Began k e = begun_intact w s (burn 2 w.fuse) now host k.0 k.1
starts_at w (Stopped s) now host Failed k e =
    failed_in w s (burn 2 w.fuse) k.call k.how now host k.fires k.disarmed k.stopped

pub starts : (w : World) (number : ℕ) (now : Option Fuse) (host : Host) (s : Started)
    → StartsAs w.host w.limits w.fuse now host s
    → Did (step w number (lines.OfServer lines.Start)) (lines_started s host)
    (with_host w host now (queues_started s w.conns))
starts w number now host s k = starts_at w w.host now host s k refl

-- a compaction and a stop: what then waits

compacts_at : (w : World) (h : Host) (now : Option Fuse) (host : Host) (stopped : Bool)
    → CompactsAs h w.fuse now host stopped → w.host ≡ h
    → compact w h ≡ with_host w host now (queues_if stopped w.conns)
compacts_at w (Running v) now host false k e =
    ap (λ b. compacted w v b) k.0 ∙ ap (λ x. with_host w x now w.conns) (e ∙ sym k.1)
compacts_at w (Running v) now host true k e =
    ap (λ b. compacted w v b) k.fires ∙ ap (λ x. emptied w x None) (sym k.stopped)
    ∙ ap (λ x. emptied w host x) (sym k.disarmed)
compacts_at w (Stopped s) now host false k e =
    ap (λ x. with_host w x w.fuse w.conns) (e ∙ sym k.0) ∙ ap (λ x. with_host w host x w.conns) (sym k.1)
compacts_at w (Stopped s) now host true k e = absurd k

pub compacts : (w : World) (number : ℕ) (now : Option Fuse) (host : Host) (stopped : Bool)
    → CompactsAs w.host w.fuse now host stopped
    → Did (step w number (lines.OfServer lines.Compact)) [] (with_host w host now (queues_if stopped w.conns))
compacts w number now host b k = record { lines_are = refl; world_is = compacts_at w w.host now host b k refl }

stops_at : (w : World) (h : Host) (now : Option Fuse) (host : Host) (ran : Bool)
    → StopsAs h w.fuse now host ran → w.host ≡ h
    → stop w h ≡ with_host w host now (queues_if ran w.conns)
stops_at w (Running v) now host true k e =
    ap (λ x. emptied w x None) (sym k.0) ∙ ap (λ x. emptied w host x) (sym k.1)
stops_at w (Running v) now host false k e = absurd k
stops_at w (Stopped s) now host true k e = absurd k
stops_at w (Stopped s) now host false k e =
    ap (λ x. with_host w x w.fuse w.conns) (e ∙ sym k.0) ∙ ap (λ x. with_host w host x w.conns) (sym k.1)

pub stops : (w : World) (number : ℕ) (now : Option Fuse) (host : Host) (ran : Bool)
    → StopsAs w.host w.fuse now host ran
    → Did (step w number (lines.OfServer lines.Stop)) [] (with_host w host now (queues_if ran w.conns))
stops w number now host b k = record { lines_are = refl; world_is = stops_at w w.host now host b k refl }

-- The same over a disk, where the host became `host` and the queues `qs`.

module _ {D : Type 0} (seen : D → Reads) (armed : D → ℕ) (way : D → Stop) where
  -- the model's host and fuse by a disk
  abbrev host_on : Hosting → D → Host
  host_on host d = host_in host.server (room_files (seen d))

  does_by : (p q : Peopled) (old new : D) (host : Hosting) (qs : FinMap nat_cmp Conn) (number : ℕ) (l : lines.Line)
      (ls : List (List ℕ)) → p ≡ q → host.limits ≡ q.hosting.limits
      → Did (step (world_on seen armed way q old) number l) ls
      (with_host (world_on seen armed way q old) (host_on host new) (fuse_of armed way new) qs)
      → DoesOn seen armed way p old (record q { hosting = host; conns = qs }) new number l ls
  does_by p q old new host qs number l ls is limits did =
      subst (λ (x : Peopled). DoesOn seen armed way x old (record q { hosting = host; conns = qs }) new number l ls)
      (sym is)
      (subst (λ (x : Bounds). Did (step (world_on seen armed way q old) number l) ls
      (world_in (record q { hosting = record { server = host.server; limits = x }; conns = qs }) (room_files (seen new))
      (fuse_of armed way new))) (sym limits) did)

  pub does_stop : (p q : Peopled) (old new : D) (host : Hosting) (qs : FinMap nat_cmp Conn) (number : ℕ) (ran : Bool)
      → p ≡ q → host.limits ≡ q.hosting.limits → qs ≡ queues_if ran q.conns
      → StopsAs (host_on q.hosting old) (fuse_of armed way old) (fuse_of armed way new) (host_on host new) ran
      → DoesOn seen armed way p old (record q { hosting = host; conns = qs }) new number (lines.OfServer lines.Stop) []
  does_stop p q old new host qs number ran is limits e k =
      let w = world_on seen armed way q old in
      does_by p q old new host qs number (lines.OfServer lines.Stop) [] is limits
      (subst (λ (x : FinMap nat_cmp Conn). Did (step w number (lines.OfServer lines.Stop)) []
      (with_host w (host_on host new) (fuse_of armed way new) x)) (sym e)
      (stops w number (fuse_of armed way new) (host_on host new) ran k))

  pub does_compact : (p q : Peopled) (old new : D) (host : Hosting) (qs : FinMap nat_cmp Conn) (number : ℕ)
      (stopped : Bool) → p ≡ q → host.limits ≡ q.hosting.limits → qs ≡ queues_if stopped q.conns
      → CompactsAs (host_on q.hosting old) (fuse_of armed way old) (fuse_of armed way new) (host_on host new) stopped
      → DoesOn seen armed way p old (record q { hosting = host; conns = qs }) new number
      (lines.OfServer lines.Compact) []
  does_compact p q old new host qs number stopped is limits e k =
      let w = world_on seen armed way q old in
      does_by p q old new host qs number (lines.OfServer lines.Compact) [] is limits
      (subst (λ (x : FinMap nat_cmp Conn). Did (step w number (lines.OfServer lines.Compact)) []
      (with_host w (host_on host new) (fuse_of armed way new) x)) (sym e)
      (compacts w number (fuse_of armed way new) (host_on host new) stopped k))

  -- `s` is what became of the start, which wrote the lines
  pub does_start : (p q : Peopled) (old new : D) (host : Hosting) (qs : FinMap nat_cmp Conn) (number : ℕ)
      (ls : List (List ℕ)) (s : Started) → p ≡ q → host.limits ≡ q.hosting.limits
      → qs ≡ queues_started s q.conns → ls ≡ lines_started s (host_on host new)
      → StartsAs (host_on q.hosting old) (limits_of q.hosting.limits) (fuse_of armed way old) (fuse_of armed way new)
      (host_on host new) s
      → DoesOn seen armed way p old (record q { hosting = host; conns = qs }) new number
      (lines.OfServer lines.Start) ls
  does_start p q old new host qs number ls s is limits e said k =
      let w = world_on seen armed way q old in
      does_by p q old new host qs number (lines.OfServer lines.Start) ls is limits
      (subst (λ (x : FinMap nat_cmp Conn). Did (step w number (lines.OfServer lines.Start)) ls
      (with_host w (host_on host new) (fuse_of armed way new) x)) (sym e)
      (subst (λ (x : List (List ℕ)). Did (step w number (lines.OfServer lines.Start)) x
      (with_host w (host_on host new) (fuse_of armed way new) (queues_started s q.conns))) (sym said)
      (starts w number (fuse_of armed way new) (host_on host new) s k)))

  -- a frame of which this goes out

  answer_by : (p q : Peopled) (old new : D) (host : Hosting) (qs : FinMap nat_cmp Conn) (v : Server) (k : ℕ)
      (out : Served) → p ≡ q → host.limits ≡ q.hosting.limits
      → (answer (world_on seen armed way q old) v k out).world
      ≡ with_host (world_on seen armed way q old) (host_on host new) (fuse_of armed way new) qs
      → (answer (world_on seen armed way p old) v k out).world
      ≡ world_on seen armed way (record q { hosting = host; conns = qs }) new
  answer_by p q old new host qs v k out is limits e =
      ap (λ (x : Peopled). (answer (world_on seen armed way x old) v k out).world) is ∙ e
      ∙ ap (λ (x : Bounds). world_in (record q { hosting = record { server = host.server; limits = x }; conns = qs })
      (room_files (seen new)) (fuse_of armed way new)) (sym limits)

  pub hears_sends : (p q : Peopled) (old new : D) (host : Hosting) (qs : FinMap nat_cmp Conn) (v : Server) (k : ℕ)
      (out : Served) (t : Heard) (os : List Out) → p ≡ q → host.limits ≡ q.hosting.limits
      → t ≡ heard.Sends os → qs ≡ deliver q.conns out.outs
      → HearsAs v out (fuse_of armed way old) (fuse_of armed way new) (host_on host new) t
      → (answer (world_on seen armed way p old) v k out).world
      ≡ world_on seen armed way (record q { hosting = host; conns = qs }) new
  hears_sends p q old new host qs v k out t os is limits what e h =
      answer_by p q old new host qs v k out is limits
      (sends (world_on seen armed way q old) v k out (fuse_of armed way new) (host_on host new) os qs
      (subst (λ (x : Heard). HearsAs v out (fuse_of armed way old) (fuse_of armed way new)
      (host_on host new) x) what h) e)

  pub hears_stop : (p q : Peopled) (old new : D) (host : Hosting) (qs : FinMap nat_cmp Conn) (v : Server) (k : ℕ)
      (out : Served) (t : Heard) → p ≡ q → host.limits ≡ q.hosting.limits
      → t ≡ heard.Stopped → qs ≡ all_emptied q.conns
      → HearsAs v out (fuse_of armed way old) (fuse_of armed way new) (host_on host new) t
      → (answer (world_on seen armed way p old) v k out).world
      ≡ world_on seen armed way (record q { hosting = host; conns = qs }) new
  hears_stop p q old new host qs v k out t is limits what e h =
      answer_by p q old new host qs v k out is limits
      (stops_hearing (world_on seen armed way q old) v k out (fuse_of armed way new) (host_on host new)
      (subst (λ (x : Heard). HearsAs v out (fuse_of armed way old) (fuse_of armed way new)
      (host_on host new) x) what h)
      ∙ ap (λ (x : FinMap nat_cmp Conn). with_host (world_on seen armed way q old) (host_on host new)
      (fuse_of armed way new) x) (sym e))
