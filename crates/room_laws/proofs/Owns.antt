-- A client without its connections: what its calls and messages keep.
use Rattle.std.proofs.Common.{◌≡◌, ℕ, ◌+◌, ◌<◌, inl, inr, true, false, List, [], ◌∷◌, ◌++◌, length, refl, sym, ap, ◌∙◌, subst, append-nil, append_assoc}
use Rattle.std.specs.Prelude.{Option, Some, None, is_some}
use Rattle.room_nodes.specs.Shape.{Nodes}
use Rattle.room_nodes.specs.declared.nodes.Body.{Body}
use Rattle.room_nodes.specs.Steps.{fold, settle_all}
use Rattle.room_msg.specs.declared.messages.Resume.{Resume}
use Rattle.room_log.specs.Log.{State, Update, tree_after}
use Rattle.room_model.specs.Account.{Batch, Part, Stage, Connected, Synced, ends, beyond, actor_in}
use Rattle.room_laws.specs.Ledger.{Matches, Silent, upto}
use Rattle.room_laws.specs.Core.{Core, issued, actor}
use Rattle.room_laws.specs.Invariant.{Own, Shows}
use Rattle.room_laws.proofs.Batches.{upto-append, Runs-append, ends_upto}
use Rattle.room_laws.proofs.Matches.{Matches-issue, Matches-append, left, Left, length-settle_all, silent_matches}
use Rattle.room_laws.proofs.Advance.{Advance, tree_after-append}

-- what becomes of an account, in what the laws read of it

abbrev pub off : Stage → Core → Core
off g x = record x { stage = g; sent = []; fresh = issued x; parts = [] }

abbrev pub sent_all : Core → Core
sent_all x = record x { sent = issued x; fresh = [] }

abbrev pub issuing : Batch → Core → Core
issuing b x = record x { fresh = x.fresh ++ b ∷ [] }

abbrev pub welcome : Resume → Core → Core
welcome w x = record x { stage = Connected; session = Some w; sent = []; fresh = issued x }

abbrev pub loading : ℕ → ℕ → Nodes → Core → Core
loading seq last t x = record x { stage = Synced; confirmed = Some t; n = seq; told = last; parts = []; sent = beyond last (issued x); fresh = [] }

abbrev pub updating : List Body → ℕ → Nodes → Core → Core
updating bs told t x = record x { confirmed = Some (fold t bs); n = x.n + 1; told = told; sent = beyond told x.sent; fresh = beyond told x.fresh }

shows_off : (s : State) (done : List Update) (g h : Stage) (n : ℕ) (session : Option Resume) (o : Option Nodes) → (h ≡ Synced → ⊥) → Shows s done g n session o → Shows s done h n session o
shows_off s done g h n session None f k = record { unsynced = f; none = k.none; nothing = k.nothing }
shows_off s done g h n session (Some t) f k = record { tree = k.tree; number = k.number; known = k.known }

shows_named : (s : State) (done : List Update) (g : Stage) (n : ℕ) (session : Option Resume) (w : Resume) (o : Option Nodes) → Shows s done g n session o → Shows s done Connected n (Some w) o
shows_named s done g n session w None k = record { unsynced = λ e. cc; none = k.none; nothing = k.nothing }
shows_named s done g n session w (Some t) k = record { tree = k.tree; number = k.number; known = refl }

-- a client without a session took nothing yet
pub nothing_done : (s : State) (done : List Update) (g : Stage) (n : ℕ) (o : Option Nodes) → Shows s done g n None o → (done ≡ []) × (n ≡ 0) × (o ≡ None)
nothing_done s done g n None k = (k.none, k.nothing, refl)
nothing_done s done g n (Some t) k = let e : false ≡ true = k.known in cc

module _ (s : State) (us : List Update) (last : ℕ) (x : Core) (all : List Batch) (done coming : List Update) where
  pub told_is : Own s us last x all done coming → Left 0 x.told all (issued x)
  told_is h = left (actor x) s.tree 0 done all (issued x) x.told h.ledger.chain h.ledger.received

  pub rest_is : (h : Own s us last x all done coming) → Left x.told last (issued x) h.ledger.rest
  rest_is h = left (actor x) (tree_after s.tree done) x.told coming (issued x) h.ledger.rest last (told_is h).chain h.ledger.takes

  pub own_issue : (b : Batch) → b.first ≡ ends x.told (issued x) + 1 → 0 < length b.bodies
      → Own s us last x all done coming → Own s us last (issuing b x) (all ++ b ∷ []) done coming
  own_issue b first some h =
      let more : x.sent ++ (x.fresh ++ b ∷ []) ≡ issued x ++ b ∷ [] = sym (append_assoc x.sent x.fresh (b ∷ [])) in
      let l = told_is h in
      let end : ends x.told (issued x) ≡ upto 0 all = ends_upto x.told (issued x) l.chain ∙ l.end in
      record {
        room = h.room;
        whole = h.whole;
        shows = h.shows;
        ledger = record {
          accepted = h.ledger.accepted;
          rest = h.ledger.rest ++ b ∷ [];
          all_is = ap (λ ds. ds ++ b ∷ []) h.ledger.all_is ∙ append_assoc h.ledger.accepted h.ledger.rest (b ∷ []);
          last_is = h.ledger.last_is;
          chain = Runs-append 0 all (b ∷ []) h.ledger.chain (record { first = first ∙ ap (λ c. c + 1) end; some = some; more = record {} });
          received = rw more (Matches-issue (actor x) s.tree 0 done all (issued x) (b ∷ []) x.told h.ledger.received);
          takes = rw more (Matches-issue (actor x) (tree_after s.tree done) x.told coming (issued x) h.ledger.rest (b ∷ []) last h.ledger.takes);
        };
        unsent = h.unsent;
      }

  -- off the line: every pending batch is fresh again
  pub own_off : (g : Stage) → (g ≡ Synced → ⊥) → Own s us last x all done coming → Own s us last (off g x) all done coming
  own_off g f h = record {
    room = h.room;
    whole = h.whole;
    shows = shows_off s done x.stage g x.n x.session x.confirmed f h.shows;
    ledger = h.ledger;
    unsent = inr refl;
  }

  -- all sent
  pub own_sent : x.stage ≡ Synced → Own s us last x all done coming → Own s us last (sent_all x) all done coming
  own_sent e h =
      let same : issued x ++ [] ≡ issued x = append-nil (issued x) in
      record { room = h.room; whole = h.whole; shows = h.shows; ledger = rw same h.ledger; unsent = inl e }

  -- a part is kept
  pub own_parts : (ps : List Part) → Own s us last x all done coming → Own s us last (record x { parts = ps }) all done coming
  own_parts ps h = record { room = h.room; whole = h.whole; shows = h.shows; ledger = h.ledger; unsent = h.unsent }

  -- the log grows by an update of another
  pub own_other : (u : Update) → (u.actor ≡ actor x → ⊥) → Own s us last x all done coming → Own s (us ++ u ∷ []) last x all done (coming ++ u ∷ [])
  own_other u apart h = record {
    room = h.room;
    whole = ap (λ vs. vs ++ u ∷ []) h.whole ∙ append_assoc done coming (u ∷ []);
    shows = h.shows;
    ledger = record {
      accepted = h.ledger.accepted;
      rest = h.ledger.rest;
      all_is = h.ledger.all_is;
      last_is = h.ledger.last_is;
      chain = h.ledger.chain;
      received = h.ledger.received;
      takes = Matches-append (actor x) (tree_after s.tree done) x.told coming (u ∷ []) (issued x) h.ledger.rest h.ledger.rest last last h.ledger.takes
          (inr (record { other = apart; more = record { same = refl; clock = refl } }));
    };
    unsent = h.unsent;
  }

  -- or by the next batch of this one
  pub own_next : (u : Update) (b : Batch) (t : Nodes) → u.actor ≡ actor x → u.first ≡ b.first → u.bodies ≡ settle_all t b.bodies → t ≡ tree_after s.tree us
      → (h : Own s us last x all done coming) → (more : List Batch) → h.ledger.rest ≡ b ∷ more → Own s (us ++ u ∷ []) (last + length b.bodies) x all done (coming ++ u ∷ [])
  own_next u b t own first bodies at_end h more next =
      let n : length u.bodies ≡ length b.bodies = ap length bodies ∙ length-settle_all t b.bodies in
      let tree : t ≡ tree_after (tree_after s.tree done) coming = at_end ∙ ap (tree_after s.tree) h.whole ∙ tree_after-append s.tree done coming in
      record {
        room = h.room;
        whole = ap (λ vs. vs ++ u ∷ []) h.whole ∙ append_assoc done coming (u ∷ []);
        shows = h.shows;
        ledger = record {
          accepted = h.ledger.accepted ++ b ∷ [];
          rest = more;
          all_is = h.ledger.all_is ∙ ap (λ bs. h.ledger.accepted ++ bs) next ∙ sym (append_assoc h.ledger.accepted (b ∷ []) more);
          last_is = upto-append 0 h.ledger.accepted (b ∷ []) ∙ ap (λ i. i + length b.bodies) h.ledger.last_is;
          chain = h.ledger.chain;
          received = h.ledger.received;
          takes = Matches-append (actor x) (tree_after s.tree done) x.told coming (u ∷ []) (issued x) h.ledger.rest more last (last + length b.bodies) h.ledger.takes
              (inl (record { own = own; batch = b; others = more; front = next; first = first; bodies = rw (← tree) bodies; more = record { same = refl; clock = ap (λ i. last + i) n } }));
        };
        unsent = h.unsent;
      }

  -- a room state, of a session that the client knows
  pub own_room : (w : Resume) → actor_in x.session ≡ w.actor → Own s us last x all done coming → Own s us last (welcome w x) all done coming
  own_room w e h = record {
    room = h.room;
    whole = h.whole;
    shows = shows_named s done x.stage x.n x.session w x.confirmed h.shows;
    ledger = rw (← e) h.ledger;
    unsent = inr refl;
  }

  -- or of a new one
  pub own_named : (w : Resume) → x.session ≡ None → Silent w.actor us → Own s us last x all done coming → Own s us 0 (welcome w x) all [] us
  own_named w z quiet h =
      let shown : Shows s done x.stage x.n None x.confirmed = rw z at h.shows in
      let n = nothing_done s done x.stage x.n x.confirmed shown in
      let received : Matches (actor x) s.tree 0 [] all (issued x) x.told = subst (λ (vs : List Update). Matches (actor x) s.tree 0 vs all (issued x) x.told) n.0 h.ledger.received in
      record {
        room = h.room;
        whole = refl;
        shows = rw n.2 (record { unsynced = λ e. cc; none = refl; nothing = n.1 });
        ledger = record {
          accepted = [];
          rest = all;
          all_is = refl;
          last_is = refl;
          chain = h.ledger.chain;
          received = received;
          takes = rw (← received.clock, ← received.same) (silent_matches w.actor s.tree us all 0 quiet);
        };
        unsent = inr refl;
      }

  -- the updates `mid` come
  pub own_whole : (mid rest : List Update) (seq : ℕ) (t : Nodes) (h : Own s us last x all done coming) → coming ≡ mid ++ rest
      → (v : Advance s last (actor x) done mid rest all (issued x) x.told) → t ≡ tree_after s.tree (done ++ mid) → seq ≡ s.count + length (done ++ mid) → is_some x.session ≡ true
      → Own s us last (loading seq v.clock t x) all (done ++ mid) rest
  own_whole mid rest seq t h parts v tree n p =
      let nil : beyond v.clock (issued x) ++ [] ≡ beyond v.clock (issued x) = append-nil (beyond v.clock (issued x)) in
      record {
        room = h.room;
        whole = h.whole ∙ ap (λ vs. done ++ vs) parts ∙ sym (append_assoc done mid rest);
        shows = record { tree = tree; number = n; known = p };
        ledger = rw nil v.ledger;
        unsent = inl refl;
      }

  pub own_update : (mid rest : List Update) (bs : List Body) (t : Nodes) (h : Own s us last x all done coming) → coming ≡ mid ++ rest
      → (v : Advance s last (actor x) done mid rest all (issued x) x.told) → fold t bs ≡ tree_after s.tree (done ++ mid) → x.n + 1 ≡ s.count + length (done ++ mid) → is_some x.session ≡ true → x.stage ≡ Synced
      → beyond v.clock (issued x) ≡ beyond v.clock x.sent ++ beyond v.clock x.fresh
      → Own s us last (updating bs v.clock t x) all (done ++ mid) rest
  own_update mid rest bs t h parts v tree n p sync split =
      record {
        room = h.room;
        whole = h.whole ∙ ap (λ vs. done ++ vs) parts ∙ sym (append_assoc done mid rest);
        shows = record { tree = tree; number = n; known = p };
        ledger = rw (← split) v.ledger;
        unsent = inl sync;
      }
