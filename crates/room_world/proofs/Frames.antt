-- A frame that the server receives, as the world's line.
use Rattle.std.proofs.Common.{◌≡◌, ℕ, Bool, true, false, cond, List, [], ◌∷◌, Option, Some, None, is_some, refl, sym}
use Rattle.std.proofs.Common.{ap, ◌∙◌, subst, Less, Equal, Greater, Ordering, nat_cmp}
use Rattle.std.specs.Prelude.{IsSome}
use Rattle.std.specs.Ordering.{is_eq}
use Rattle.std.specs.Cmp.{nat_cmp_total}
use Rattle.std.specs.FinMap.{FinMap, get, insert, get-insert, same_map, nat_cmp-IsAntisymmetric}
use Rattle.std.proofs.lemmas.Bool.{false≢true}
use Rattle.room_disk.specs.Model.{Reads, Images, WithinWhole}
use Rattle.room_disk.specs.declared.disk.Stop.{Stop}
use Rattle.room_links.specs.declared.outs.Out.{Out}
use Rattle.room_model.specs.Lines as lines
use Rattle.room_model.specs.Server.{Inbound, Server, Served, serve}
use Rattle.room_model.specs.World.{World, Conn, Host, Running, Burnt, Intact, Fires, Fuse, Stepped, burn}
use Rattle.room_model.specs.World.{commit_calls, is_kept, answer, answered, stopped, state_in, state_with, entries_in}
use Rattle.room_model.specs.World.{quiet, step}
use Rattle.room_moves.specs.Moments.{OfFirst}
use Rattle.room_moves.specs.Parts.{with_conns}
use Rattle.room_moves.specs.Reading.{AreSendsRead, ServeReads, UpReads}
use Rattle.room_moves.proofs.Parts.{nothing_inbound, stopped_receives, receives}
use Rattle.room_queues.specs.Calls.{first, rest, next_inbound, received}
use Rattle.room_replay.specs.Files.{Files, StandsFor}
use Rattle.room_server.specs.Hosted.{Hosted, server_in}
use Rattle.room_host.specs.Outcomes.{HearsAs}
use Rattle.room_host.specs.Seen.{host_in, room_files}
use Rattle.room_host.specs.declared.outcomes.Heard.{Heard}
use Rattle.room_host.specs.declared.outcomes.Heard.TheVariants as heard
use Rattle.room_world.specs.Did.{Did, DoesOn}
use Rattle.room_world.specs.Seen.{Peopled, world_on}
use Rattle.room_world.specs.Sending.{AreSent}
use Rattle.room_world.specs.Trying.{tried_by, TriesOn}
use Rattle.room_world.proofs.Sends.{delivered}

none_some : {A : Type 0} (x : A) → None ≡ Some x → ⊥
none_some x e = cc

-- what is put where it was

there_by : (o : Ordering) (m : FinMap nat_cmp Conn) (k q : ℕ) (v : Conn) → nat_cmp q k ≡ o → get m k ≡ Some v
    → cond (is_eq o) (Some v) (get m q) ≡ get m q
there_by Less m k q v is h = refl
there_by Equal m k q v is h = sym h ∙ ap (get m) (sym (nat_cmp-IsAntisymmetric q k is))
there_by Greater m k q v is h = refl

insert_there : (m : FinMap nat_cmp Conn) (k : ℕ) (v : Conn) → get m k ≡ Some v → insert m k v ≡ m
insert_there m k v h = same_map nat_cmp_total nat_cmp-IsAntisymmetric _ _ (λ q.
    get-insert nat_cmp_total m k v q ∙ there_by (nat_cmp q k) m k q v refl h)

-- where nothing waits, nothing changes

nothing_from : (qs : FinMap nat_cmp Conn) (k : ℕ) (q : Conn) (us : List Inbound) → us ≡ q.inbound → first us ≡ None
    → get qs k ≡ Some q → insert qs k (record q { inbound = rest us }) ≡ qs
nothing_from qs k q [] is e at =
    ap (λ (x : List Inbound). insert qs k (record q { inbound = x })) is ∙ insert_there qs k q at
nothing_from qs k q (u ∷ us) is e at = absurd (none_some u (sym e))

nothing_received : (qs : FinMap nat_cmp Conn) (k : ℕ) (o : Option Conn) → get qs k ≡ o → next_inbound o ≡ None
    → received qs k o ≡ qs
nothing_received qs k None at e = refl
nothing_received qs k (Some q) at e = nothing_from qs k q q.inbound refl e at

-- no frame writes a line

fired_lines : (w : World) (v : Server) (out : Served) (kept : Bool)
    → (cond {A = Stepped} kept
    (record {
      world = stopped w (state_with v.state out.entry);
      lines = [];
      entries = entries_in out.entry;
      issues = [];
      given = [];
    }) (quiet (stopped w v.state))).lines ≡ []
fired_lines w v out true = refl
fired_lines w v out false = refl

answered_lines : (w : World) (v : Server) (k : ℕ) (out : Served) (b : Burnt) → (answered w v k out b).lines ≡ []
answered_lines w v k out (Intact fuse) = refl
answered_lines w v k out (Fires call how) = fired_lines w v out (is_kept call how)

-- the line, by the host and what is next

stopped_up : (w : World) (number k : ℕ) (o : Option Hosted) (fs : Files) → w.host ≡ host_in o fs → is_some o ≡ false
    → Did (step w number (lines.OfConnection k lines.Up)) [] w
stopped_up w number k None fs is e =
    let all = stopped_receives w k _ is in
    record { lines_are = ap (λ o. o.lines) all; world_is = ap (λ o. o.world) all }
stopped_up w number k (Some h) fs is e = absurd (false≢true (sym e))

nothing_up : (w : World) (number k : ℕ) → next_inbound (get w.conns k) ≡ None
    → Did (step w number (lines.OfConnection k lines.Up)) [] w
nothing_up w number k e =
    let all = nothing_inbound w k e in
    record { lines_are = ap (λ o. o.lines) all; world_is = ap (λ o. o.world) all }

heard_up : (w : World) (number k : ℕ) (v : Server) (u : Inbound) (now : World) → w.host ≡ Running v
    → next_inbound (get w.conns k) ≡ Some u
    → (answer (with_conns w (received w.conns k (get w.conns k))) v k (serve v k u)).world ≡ now
    → Did (step w number (lines.OfConnection k lines.Up)) [] now
heard_up w number k v u now is e h =
    let all = receives w k v u is e in
    let mid = with_conns w (received w.conns k (get w.conns k)) in
    let out = serve v k u in
    record {
      lines_are = ap (λ o. o.lines) all ∙ answered_lines mid v k out (burn (commit_calls out.entry) mid.fuse);
      world_is = ap (λ o. o.world) all ∙ h;
    }

-- what is sent is read, as the line says

sends_read : (k : ℕ) (host : Host) (o : Option Inbound) (v : Server) (u : Inbound) → host ≡ Running v → o ≡ Some u
    → ServeReads k host o → AreSendsRead (serve v k u).outs
sends_read k host o v u is e r =
    subst (λ (x : Option Inbound). ServeReads k (Running v) x) e
    (subst (λ (x : Host). ServeReads k x o) is r)

-- so what goes out is as it waits

sent_at : (q : Peopled) (k : ℕ) (u : Inbound) (fuse now : Option Fuse) (host : Host) (t : Heard) (os : List Out)
    (o : Option Hosted) → q.hosting.server ≡ o → IsSome o → t ≡ heard.Sends os
    → ((h : Hosted) → q.hosting.server ≡ Some h
    → HearsAs (server_in h) (serve (server_in h) k u) fuse now host t)
    → ((h : Hosted) → q.hosting.server ≡ Some h → AreSendsRead (serve (server_in h) k u).outs) → AreSent os
sent_at q k u fuse now host t os None is runs what hears read = absurd (false≢true runs)
sent_at q k u fuse now host t os (Some h) is runs what hears read =
    let out = serve (server_in h) k u in
    let k : HearsAs (server_in h) out fuse now host (heard.Sends os) =
    subst (λ (x : Heard). HearsAs (server_in h) out fuse now host x) what (hears h is)
    in
    subst AreSent (sym k.2) (delivered out.outs (read h is))

pub are_sent : (p q : Peopled) (k : ℕ) (u : Inbound) (fuse now : Option Fuse) (host : Host) (t : Heard) (os : List Out)
    → p ≡ q → IsSome p.hosting.server → t ≡ heard.Sends os
    → ((h : Hosted) → q.hosting.server ≡ Some h
    → HearsAs (server_in h) (serve (server_in h) k u) fuse now host t)
    → ((h : Hosted) → p.hosting.server ≡ Some h → AreSendsRead (serve (server_in h) k u).outs) → AreSent os
are_sent p q k u fuse now host t os is runs what hears read =
    sent_at q k u fuse now host t os q.hosting.server refl
    (subst (λ (x : Peopled). IsSome x.hosting.server) is runs) what hears
    (λ h here. read h (ap (λ (x : Peopled). x.hosting.server) is ∙ here))

-- over a disk

module _ {D : Type 0} (seen : D → Reads) (armed : D → ℕ) (way : D → Stop) where
  pub up_stopped : (p q : Peopled) (old : D) (number k : ℕ) → p ≡ q → false ≡ is_some q.hosting.server
      → DoesOn seen armed way p old p old number (lines.OfConnection k lines.Up) []
  up_stopped p q old number k is e =
      stopped_up (world_on seen armed way p old) number k p.hosting.server (room_files (seen old)) refl
      (ap (λ (x : Peopled). is_some x.hosting.server) is ∙ sym e)

  pub up_nothing : (p q : Peopled) (old : D) (qs : FinMap nat_cmp Conn) (number k : ℕ) → p ≡ q
      → None ≡ next_inbound (get q.conns k) → qs ≡ received q.conns k (get q.conns k)
      → DoesOn seen armed way p old (record q { conns = qs }) old number (lines.OfConnection k lines.Up) []
  up_nothing p q old qs number k is e now =
      let same : q.conns ≡ qs = sym (now ∙ nothing_received q.conns k (get q.conns k) refl (sym e)) in
      subst (λ (x : Peopled). DoesOn seen armed way x old (record q { conns = qs }) old number
      (lines.OfConnection k lines.Up) []) (sym is)
      (subst (λ (x : FinMap nat_cmp Conn). DoesOn seen armed way q old (record q { conns = x }) old number
      (lines.OfConnection k lines.Up) []) same
      (nothing_up (world_on seen armed way q old) number k (sym e)))

  pub up_reads : (p q : Peopled) (old : D) (k : ℕ) (h : Hosted) (u : Inbound) → p ≡ q → q.hosting.server ≡ Some h
      → Some u ≡ next_inbound (get q.conns k) → UpReads (world_on seen armed way p old) k
      → AreSendsRead (serve (server_in h) k u).outs
  up_reads p q old k h u is runs e r =
      sends_read k (host_in q.hosting.server (room_files (seen old))) (next_inbound (get q.conns k)) (server_in h) u
      (ap (λ (o : Option Hosted). host_in o (room_files (seen old))) runs) (sym e)
      (subst (λ (x : Peopled). UpReads (world_on seen armed way x old) k) is r)

  -- where the frame is `text`, and the queues without it are `qs`

  up_at : (q r : Peopled) (old new : D) (qs : FinMap nat_cmp Conn) (number k : ℕ) (u : Inbound) (o : Option Hosted)
      → q.hosting.server ≡ o → is_some o ≡ true → Some u ≡ next_inbound (get q.conns k)
      → qs ≡ received q.conns k (get q.conns k)
      → ((h : Hosted) → q.hosting.server ≡ Some h
      → (answer (world_on seen armed way (record q { conns = qs }) old) (server_in h) k (serve (server_in h) k u)).world
      ≡ world_on seen armed way r new)
      → DoesOn seen armed way q old r new number (lines.OfConnection k lines.Up) []
  up_at q r old new qs number k u None is runs e now hears = absurd (false≢true runs)
  up_at q r old new qs number k u (Some h) is runs e now hears =
      let w = world_on seen armed way q old in
      heard_up w number k (server_in h) u (world_on seen armed way r new)
      (ap (λ (o : Option Hosted). host_in o (room_files (seen old))) is) (sym e)
      (ap (λ (x : FinMap nat_cmp Conn). (answer (with_conns w x) (server_in h) k (serve (server_in h) k u)).world)
      (sym now) ∙ hears h is)

  pub up_hears : (p q r : Peopled) (old new : D) (qs : FinMap nat_cmp Conn) (number k : ℕ) (u : Inbound) → p ≡ q
      → true ≡ is_some q.hosting.server → Some u ≡ next_inbound (get q.conns k)
      → qs ≡ received q.conns k (get q.conns k)
      → ((h : Hosted) → q.hosting.server ≡ Some h
      → (answer (world_on seen armed way (record q { conns = qs }) old) (server_in h) k (serve (server_in h) k u)).world
      ≡ world_on seen armed way r new)
      → DoesOn seen armed way p old r new number (lines.OfConnection k lines.Up) []
  up_hears p q r old new qs number k u is runs e now hears =
      subst (λ (x : Peopled). DoesOn seen armed way x old r new number (lines.OfConnection k lines.Up) []) (sym is)
      (up_at q r old new qs number k u q.hosting.server refl (sym runs) e now hears)

  -- what the line tries to add
  module _ (moment : D → ℕ) (images : D → Images) where
    tries_at : (q : Peopled) (old new : D) (number k : ℕ) (u : Inbound) (o : Option Hosted)
        → q.hosting.server ≡ o → is_some o ≡ true → Some u ≡ next_inbound (get q.conns k)
        → ((h : Hosted) → q.hosting.server ≡ Some h
        → WithinWhole moment images old new (OfFirst (StandsFor 0) h.store.state
        (entries_in (serve (server_in h) k u).entry)))
        → TriesOn seen armed way moment images q old new number (lines.OfConnection k lines.Up)
    tries_at q old new number k u None is runs e run = absurd (false≢true runs)
    tries_at q old new number k u (Some h) is runs e run =
        let fs = room_files (seen old) in
        subst (λ (o : Option Hosted). WithinWhole moment images old new (OfFirst (StandsFor 0)
        (state_in (host_in o fs)) (tried_by k (host_in o fs) (next_inbound (get q.conns k))))) (sym is)
        (subst (λ (x : Option Inbound). WithinWhole moment images old new (OfFirst (StandsFor 0) h.store.state
        (tried_by k (Running (server_in h)) x))) e (run h is))

    pub up_tries : (p q : Peopled) (old new : D) (number k : ℕ) (u : Inbound) → p ≡ q
        → true ≡ is_some q.hosting.server → Some u ≡ next_inbound (get q.conns k)
        → ((h : Hosted) → q.hosting.server ≡ Some h
        → WithinWhole moment images old new (OfFirst (StandsFor 0) h.store.state
        (entries_in (serve (server_in h) k u).entry)))
        → TriesOn seen armed way moment images p old new number (lines.OfConnection k lines.Up)
    up_tries p q old new number k u is runs e run =
        subst (λ (x : Peopled). TriesOn seen armed way moment images x old new number
        (lines.OfConnection k lines.Up)) (sym is)
        (tries_at q old new number k u q.hosting.server refl (sym runs) e run)
