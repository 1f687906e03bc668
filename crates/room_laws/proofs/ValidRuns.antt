-- The log of every run is valid, and each tree of it is read again.
use Rattle.std.proofs.Common.{◌≡◌, ◌<◌, ◌+◌, ℕ, List, [], ◌∷◌, ◌++◌, length, refl, sym, ap, ◌∙◌, subst, arith, rules}
use Rattle.std.specs.Prelude.{Option, Some, None, IsUtf8}
use Rattle.std.proofs.lemmas.Str.{IsUtf8-from_ascii}
use Rattle.room_nodes.specs.Steps.{fold}
use Rattle.room_items.specs.Items.{tree_in, items_of}
use Rattle.room_items.specs.Laws.{TreesReadBack}
use Rattle.room_steps.proofs.Shallow.{keeps_shallow}
use Rattle.room_steps.proofs.Sound.{keeps_sound}
use Rattle.room_log.specs.Log.{State, Update, Entry, Join, Updated, after, state_after, tree_after, updates_of}
use Rattle.room_log.specs.Follows.{IsKey, IsValidLog, IsValidState}
use Rattle.room_log.specs.Laws.{ValidAfter}
use Rattle.room_log.proofs.ValidStates.{valid_after}
use Rattle.room_model.specs.Lines as lines
use Rattle.room_model.specs.Server
use Rattle.room_model.specs.Sound.{IsSound}
use Rattle.room_model.specs.World
use Rattle.room_model.specs.World.{Conn, Slot, Stepped, state_in, slot_in}
use Rattle.room_model.specs.Run.{Run, line, run, opened}
use Rattle.room_laws.specs.Accounts.{KeepsSound}
use Rattle.room_laws.specs.Invariant.{conn_in}
use Rattle.room_laws.specs.Laws.{ReadsBack}
use Rattle.room_laws.specs.Validity.{AreLines, AreSpelled, IsSoundConn, IsSoundWorld, ItemsOfValid, ReadableRun, SoundAccounts, ValidRun, SoundWorlds}
use Rattle.room_laws.proofs.Maps.{get_none}
use Rattle.room_laws.proofs.SoundLines.{Stands, step_stands, state_after-append, valid-append}

keeps : ValidAfter
keeps = valid_after keeps_sound keeps_shallow

-- runs: the log so far is valid, and leads to the server's state

pub record Good (n : ℕ) (s : State) (r : Run) : Type 0 where
  pub world : IsSoundWorld n r.world
  pub log : IsValidLog s r.log
  pub state : state_in r.world.host ≡ state_after s r.log

wider : (n : ℕ) (w : World.World) → IsSoundWorld n w → IsSoundWorld (n + 1) w
wider n w h = record { host = h.host; limits = h.limits; clients = h.clients; conns = h.conns; opened = omega (arith, h.opened) }

after_step : (n : ℕ) (s : State) (r : Run) (out : Stepped) → Good n s r → Stands (n + 1) (state_in r.world.host) out
    → Good (n + 1) s (record { world = out.world; log = r.log ++ out.entries; issued = r.issued ++ out.issues; given = r.given ++ out.given })
after_step n s r out g h = record {
  world = h.world;
  log = valid-append s r.log out.entries g.log (subst (λ z. IsValidLog z out.entries) g.state h.log);
  state = h.state ∙ ap (λ z. state_after z out.entries) g.state ∙ sym (state_after-append s r.log out.entries);
}

module _ (keep : KeepsSound) (items : ItemsOfValid) where
  lines_good : (n : ℕ) (s : State) (ls : List (ℕ × lines.Line)) (r : Run) → AreSpelled ls → IsKey (n + length ls) → Good n s r → Good (n + length ls) s (run r ls)
  lines_good n s [] r h k g = subst (λ m. Good m s r) (omega arith) g
  lines_good n s (l ∷ ls) r h k g =
      let below : r.world.opened < n + 1 = omega (arith, g.world.opened) in
      let key : IsKey (n + 1) = omega (arith, k) in
      let more : IsKey (n + 1 + length ls) = omega (arith, k) in
      let next : Good (n + 1) s (line r l.0 l.1) = after_step n s r (World.step r.world l.0 l.1) g (step_stands keep items (n + 1) r.world l.0 l.1 (wider n r.world g.world) h.0 below key) in
      subst (λ m. Good m s (run (line r l.0 l.1) ls)) (omega arith) (lines_good (n + 1) s ls (line r l.0 l.1) h.1 more next)

  room_utf8 : IsUtf8 World.room_name
  room_utf8 = IsUtf8-from_ascii World.room_name (search rules)

  none_some : (l : Server.Link) → None ≡ Some l → ⊥
  none_some l e = cc

  begins : (s : State) → IsValidState s → Good 0 s (opened s)
  begins s h = record {
    world = record {
      host = record { state = h; limits = record { updates = omega arith; sessions = omega arith }; links = λ k l e. absurd (none_some l (sym (get_none k) ∙ e)) };
      limits = record { updates = omega arith; sessions = omega arith };
      clients = λ c. subst (λ (o : Option Slot). IsSound (slot_in o).account) (sym (get_none c)) (keep.new World.room_name room_utf8);
      conns = λ k. subst (λ (o : Option Conn). IsSoundConn (conn_in o)) (sym (get_none k)) (record { inbound = tt; outbound = tt });
      opened = omega arith;
    };
    log = tt;
    state = refl;
  }

  pub good : (s : State) (ls : List (ℕ × lines.Line)) → IsValidState s → AreLines ls → Good (0 + length ls) s (run (opened s) ls)
  good s ls h l = lines_good 0 s ls (opened s) l.spelled (omega (arith, l.fewer)) (begins s h)

  pub sound_worlds : SoundWorlds
  sound_worlds s ls h l =
      let same : 0 + length ls ≡ length ls = omega arith in
      subst (λ m. IsSoundWorld m (run (opened s) ls).world) same (good s ls h l).world

  pub valid_run : ValidRun
  valid_run s ls h l = (good s ls h l).log

  pub sound_accounts : SoundAccounts
  sound_accounts s ls c h l = (good s ls h l).world.clients c

-- each front of a valid log leads to a valid state, whose tree is read again

module _ (back : TreesReadBack) where
  state_reads : (s : State) → IsValidState s → tree_in (items_of s.tree) ≡ Some s.tree
  state_reads s h = back s.tree h.formed (λ x n e. (h.sound x n e).0)

  first_is : (u v : Update) (us vs : List Update) → ◌≡◌ {A = List Update} (u ∷ us) (v ∷ vs) → (u ≡ v) × (us ≡ vs)
  first_is u v us vs e = (cc, cc)

  pub log_reads : (s : State) (es : List Entry) → IsValidState s → IsValidLog s es → ReadsBack s (updates_of es)
  log_reads s es h l [] ws e = state_reads s h
  log_reads s [] h l (v ∷ vs) ws e = cc
  log_reads s (Join a key name ∷ es) h l (v ∷ vs) ws e = log_reads (after s (Join a key name)) es (keeps.entry s (Join a key name) h l.0) l.1 (v ∷ vs) ws e
  log_reads s (Updated u ∷ es) h l (v ∷ vs) ws e =
      let parts = first_is u v (updates_of es) (vs ++ ws) e in
      subst (λ (x : Update). tree_in (items_of (tree_after (fold s.tree x.bodies) vs)) ≡ Some (tree_after (fold s.tree x.bodies) vs)) parts.0
      (log_reads (after s (Updated u)) es (keeps.entry s (Updated u) h l.0) l.1 vs ws parts.1)

  pub readable_run : ValidRun → ReadableRun
  readable_run valid s ls h l = log_reads s (run (opened s) ls).log h (valid s ls h l)
