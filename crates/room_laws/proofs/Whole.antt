-- Every line keeps the invariant, and so it stands in every run.
use Rattle.std.proofs.Common.{◌≡◌, ℕ, zero, suc, inr, List, [], ◌∷◌, ◌++◌, refl, sym, ap, ◌∙◌, subst, arith, append_assoc}
use Rattle.std.specs.Prelude.{Option, Some, None}
use Rattle.std.specs.FinMap.{entries}
use Rattle.room_items.specs.Items.{tree_in, items_of}
use Rattle.room_log.specs.Log.{State, Update, updates_of}
use Rattle.room_model.specs.Lines as lines
use Rattle.room_model.specs.World
use Rattle.room_model.specs.World.{slot, slot_in, account}
use Rattle.room_model.specs.Run.{Run, with_step, run, line, opened}
use Rattle.room_laws.specs.Core.{core}
use Rattle.room_laws.specs.Invariant
use Rattle.room_laws.specs.Laws.{ReadsBack, IsReadable, EachShows, EachOnce}
use Rattle.room_laws.proofs.Maps.{get_none}
use Rattle.room_laws.proofs.ClientLines.{keeps_client_calls}
use Rattle.room_laws.proofs.OwnLines.{keeps_saying}
use Rattle.room_laws.proofs.Outbounds.{keeps_outbound}
use Rattle.room_laws.proofs.Leaving.{keeps_gone}
use Rattle.room_laws.proofs.Links.{keeps_link, keeps_raw}
use Rattle.room_laws.proofs.Stops.{keeps_fuse, keeps_stop, keeps_compact, keeps_limit, keeps_start}
use Rattle.room_laws.proofs.RunSteps.{updates_of-append}
use Rattle.room_laws.proofs.Frame.{keeps_inbound}
use Rattle.room_laws.proofs.Follows.{kept, shows}
use Rattle.room_laws.proofs.Facts.{none_some}

-- the invariant, as far as the trees of the log are read again
abbrev pub Good : State → Run → Type 0
Good s r = ReadsBack s (updates_of r.log) → Invariant.Inv s r

before : (s : State) (us vs : List Update) → ReadsBack s (us ++ vs) → ReadsBack s us
before s us vs h ws xs e = h ws (xs ++ vs) (ap (λ ys. ys ++ vs) e ∙ append_assoc ws xs vs)

log_before : (s : State) (r : Run) (out : World.Stepped) → ReadsBack s (updates_of (r.log ++ out.entries)) → ReadsBack s (updates_of r.log)
log_before s r out h = before s (updates_of r.log) (updates_of out.entries) (subst (ReadsBack s) (updates_of-append r.log out.entries) h)

-- one step after another
twice : (s : State) (r : Run) (a b : World.Stepped) → Good s (with_step (with_step r a) b) → Good s (with_step r (World.then_stepped a b))
twice s r a b h = rw (← append_assoc r.log a.entries b.entries, ← append_assoc r.issued a.issues b.issues, ← append_assoc r.given a.given b.given) h

module _ (s : State) where
  lift : (r : Run) (out : World.Stepped) → (Invariant.Inv s r → Invariant.Inv s (with_step r out)) → Good s r → Good s (with_step r out)
  lift r out f g h = f (g (log_before s r out h))

  inbound : (r : Run) (k : ℕ) → Good s r → Good s (with_step r (World.server_receives r.world k))
  inbound r k g h = keeps_inbound s r k (g (log_before s r (World.server_receives r.world k) h)) h

  saying : (r : Run) (ls : List (List ℕ)) → Good s r → Good s (with_step r (World.saying r.world ls))
  saying r ls = lift r (World.saying r.world ls) (keeps_saying s r ls)

  drain_step_keeps : (r : Run) (number : ℕ) (a b : Option ℕ) → Good s r → Good s (with_step r (World.or_quiet r.world (World.drain_step r.world number a b)))
  drain_step_keeps r number (Some k) b st = inbound r k st
  drain_step_keeps r number None (Some k) st = lift r (World.peer_receives r.world number k) (λ i. keeps_outbound s r number k i) st
  drain_step_keeps r number None None st = saying r [] st

  keeps_drain : (r : Run) (number n : ℕ) → Good s r → Good s (with_step r (World.drain r.world number n))
  unfolding World.drain
  keeps_drain r number zero st = saying r [] st
  keeps_drain r number (suc n) st =
      let out = World.drain_once r.world number in
      let once = drain_step_keeps r number (World.least World.has_inbound (entries r.world.conns)) (World.least World.has_outbound (entries r.world.conns)) st in
      twice s r out (World.drain out.world number n) (keeps_drain (with_step r out) number n once)

  keeps_conn : (r : Run) (number k : ℕ) (traffic : lines.Traffic) → Good s r → Good s (with_step r (World.conn_line r.world number k traffic))
  keeps_conn r number k lines.Up st = inbound r k st
  keeps_conn r number k lines.Down st = lift r (World.peer_receives r.world number k) (λ i. keeps_outbound s r number k i) st
  keeps_conn r number k lines.Gone st = lift r (World.quiet (World.goes r.world k)) (λ i. keeps_gone s r k i) st
  keeps_conn r number k (lines.Raw text) st = lift r (World.conn_line r.world number k (lines.Raw text)) (λ i. keeps_raw s r i k text) st

  keeps_server : (r : Run) (service : lines.Service) → Invariant.Inv s r → Invariant.Inv s (with_step r (World.server_line r.world service))
  keeps_server r lines.Stop i = keeps_stop s r i
  keeps_server r lines.Start i = keeps_start s r i
  keeps_server r (lines.Fuse n how) i = keeps_fuse s r i (record { left = n; how = how })
  keeps_server r lines.Compact i = keeps_compact s r i
  keeps_server r (lines.Limit updates sessions) i = keeps_limit s r i (record { updates = updates; sessions = sessions })
  keeps_server r lines.ShowServer i = keeps_saying s r (World.server_shown r.world.host ∷ []) i
  keeps_server r lines.BriefServer i = keeps_saying s r (World.server_brief r.world.host ∷ []) i

  pub keeps : (r : Run) (number : ℕ) (l : lines.Line) → Good s r → Good s (line r number l)
  keeps r number (lines.OfClient c call) st = lift r (World.client_calls r.world number c (slot r.world c) call) (λ i. keeps_client_calls s r number c i call) st
  keeps r number (lines.AsksClient c question) st = saying r (lines.answer_line (Some c) (account r.world c) (slot r.world c).noticed question ∷ []) st
  keeps r number (lines.OfConnection k traffic) st = keeps_conn r number k traffic st
  keeps r number (lines.OfServer service) st = lift r (World.server_line r.world service) (keeps_server r service) st
  keeps r number (lines.Drain n) st = keeps_drain r number n st
  keeps r number lines.Link st = lift r (World.quiet (World.open_conn r.world None)) (λ i. keeps_link s r i) st

  pub keeps_all : (ls : List (ℕ × lines.Line)) (r : Run) → Good s r → Good s (run r ls)
  keeps_all [] r st = st
  keeps_all (l ∷ ls) r st = keeps_all ls (line r l.0 l.1) (keeps r l.0 l.1 st)

-- nobody is there yet; the tree's items are read again as it
pub begins : (s : State) → tree_in (items_of s.tree) ≡ Some s.tree → Invariant.Inv s (opened s)
begins s spelled = record {
  shape = record {
    hosts = record { room = refl; access = refl; free = λ k l e. absurd (none_some l (sym (get_none k) ∙ e)) };
    present = λ c k e. absurd (none_some k (sym (ap (λ (y : World.Slot). y.present) (new_slot_is c)) ∙ e));
    heard = λ c k o. absurd (none_some c (sym (ap (λ (q : World.Conn). q.owner) (no_conn_is k)) ∙ o.owner));
    deaf = λ k e. ap (λ (q : World.Conn). q.outbound) (no_conn_is k);
    unlinked = λ k e. get_none k;
    unopened = λ k e. no_conn_is k;
    there = λ k l e. absurd (none_some l (sym (get_none k) ∙ e));
  };
  logged = record { count = omega arith; tree = refl; more = omega arith; within = tt; lasts = λ a. refl; spelled = spelled };
  given = λ k a l e f d g. absurd (none_some l (sym (get_none k) ∙ e));
  actors = λ k a l e f. absurd (none_some l (sym (get_none k) ∙ e));
  nobody = λ c. refl;
  client = λ c u. subst (λ (y : World.Slot). Invariant.Client s [] s.sessions [] c y.present (core y.account) [] (Invariant.present_outbound (World.opening s) y.present) (Invariant.present_link (World.opening s) y.present)) (sym (new_slot_is c)) (record {
    done = [];
    coming = [];
    own = record {
      room = refl;
      whole = refl;
      shows = record { unsynced = λ e. cc; none = refl; nothing = refl };
      ledger = record { accepted = []; rest = []; all_is = refl; last_is = refl; chain = record {}; received = record { same = refl; clock = refl }; takes = record { same = refl; clock = refl } };
      unsent = inr refl;
    };
    stands = tt;
    standing = record { idle = refl; bare = refl };
  });
  inbounds = λ c k o u. absurd (none_some c (sym (ap (λ (q : World.Conn). q.owner) (no_conn_is k)) ∙ o));
}
  where
    new_slot_is : (c : ℕ) → slot (World.opening s) c ≡ World.new_slot
    new_slot_is c = ap slot_in (get_none c)

    no_conn_is : (k : ℕ) → Invariant.conn (World.opening s) k ≡ Invariant.no_conn
    no_conn_is k = ap Invariant.conn_in (get_none k)

-- so the invariant stands in every run
pub stands : (s : State) (ls : List (ℕ × lines.Line)) → IsReadable s ls → Invariant.Inv s (run (opened s) ls)
stands s ls h = keeps_all s ls (opened s) (λ g. begins s (g [] [] refl)) h

pub each_shows : EachShows
each_shows s ls c t h u e = shows s (run (opened s) ls) c (stands s ls h) u t e

pub each_once : EachOnce
each_once s ls c h u = kept s (run (opened s) ls) c (stands s ls h) u
