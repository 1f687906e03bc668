-- The frames of an undisturbed client's session.
use Rattle.std.proofs.Common.{◌≡◌, ℕ, ◌+◌, ◌<◌, Bool, true, false, cond, nat_le, List, [], ◌∷◌, ◌++◌, length, refl, sym, ap, ◌∙◌, subst, arith, ⊎_elim}
use Rattle.std.specs.Prelude.{Option, Some, None, Ok, Err, codes, decimal}
use Rattle.std.specs.FinMap.{get}
use Rattle.room_nodes.specs.declared.nodes.Op.{Op}
use Rattle.room_items.specs.Items.{tree_in, items_of}
use Rattle.room_msg.specs.declared.messages.ClientMsg.{ClientMsg}
use Rattle.room_msg.specs.declared.messages.ClientMsg.TheVariants as client
use Rattle.room_msg.specs.declared.messages.ClientFrame.TheVariants as frame
use Rattle.room_nodes.specs.Steps.{settle_all}
use Rattle.room_log.specs.Log.{State, Session, Update, Updated, session_of, last_of, last_in, last_from, updated, ops_from}
use Rattle.room_log.specs.Taking.{Nothing, Takes, take}
use Rattle.room_msg.specs.declared.messages.Resume.{Resume}
use Rattle.room_model.specs.Account.{actor_in}
use Rattle.room_model.specs.Server
use Rattle.room_model.specs.Server.{Link, Inbound, Served}
use Rattle.room_model.specs.World.{Conn, Running, state_in, slot}
use Rattle.room_model.specs.Run.{Run, IsUndisturbed}
use Rattle.room_laws.specs.Core.{Core, actor}
use Rattle.room_laws.specs.Queues.{InOrder}
use Rattle.room_laws.specs.Invariant
use Rattle.room_laws.proofs.Served.{ClientOf}
use Rattle.room_laws.proofs.Matches.{length-settle_all}
use Rattle.room_laws.proofs.Popped.{IsTalk, Batched, batched}
use Rattle.room_laws.proofs.Frames.{talks, updates}
use Rattle.room_laws.proofs.Commits.{Next, session_same}
use Rattle.room_laws.proofs.Answering.{Kept, keeps_shut}
use Rattle.room_laws.proofs.Outcomes.{commits_kept}
use Rattle.room_laws.proofs.Serves.{talk_kept, inbounds_of, tail_talk}
use Rattle.room_laws.proofs.Acting.{act_from, taken_from}

module _ (s : State) (r : Run) (v : Server.Server) (k : ℕ) (q : Conn) (u : Inbound) (us : List Inbound) (st : Invariant.Inv s r) (there : get r.world.conns k ≡ Some q) (first : q.inbound ≡ u ∷ us) (runs : r.world.host ≡ Running v)
    (l : Link) (attached : get v.links k ≡ Some l) (a : ℕ) (named : l.actor ≡ Some a) where
  abbrev KeptHere : Served → Type 0
  KeptHere out = Kept s r v k q u us st there first runs out

  abbrev X : ℕ → Core
  X d = Invariant.core_of r.world d

  abbrev last : ℕ → ℕ
  last d = last_of (Invariant.sessions r) (actor (X d))

  abbrev InboundsLeft : ℕ → Type 0
  InboundsLeft d = Invariant.InboundAt ((slot r.world d).present ≡ Some k) (X d).session (Invariant.tried (X d)) (Invariant.issued_by r d) (last d) (Some a) us

  free : l.decision ≡ None
  free = by_host (subst Invariant.Hosts runs st.shape.hosts)
    where
      by_host : Invariant.Hosts (Running v) → l.decision ≡ None
      by_host h = (h.free k l attached).0

  -- a message without operations
  talk_left : (m : ClientMsg) → IsTalk m → u ≡ Ok (frame.Msgs (m ∷ [])) → (d : ℕ) → (Invariant.conn r.world k).owner ≡ Some d → IsUndisturbed r d → InboundsLeft d
  talk_left m i e d o j =
      let h = inbounds_of s r v k q u us st there first runs l attached d (Some a) named o j in
      record {
        some = h.some;
        reach = h.reach;
        order = tail_talk a (actor (X d)) (Invariant.issued_by r d) (last d) m us h.reach i (subst (λ (x : Inbound). InOrder a (actor (X d)) (Invariant.issued_by r d) (last d) (x ∷ us) h.reach) e h.order);
        sent = h.sent;
      }

  pub talks_kept : (m : ClientMsg) → IsTalk m → u ≡ Ok (frame.Msgs (m ∷ [])) → KeptHere (Server.serve v k u)
  talks_kept m i e = subst KeptHere (sym (ap (Server.serve v k) e ∙ talks v k a l m i attached named free))
      (talk_kept s r v k q u us st there first runs l attached a (m ∷ []) named (talk_left m i e))

  -- operations
  state_is : state_in r.world.host ≡ v.state
  state_is = ap state_in runs

  module _ (os : List Op) (e : u ≡ Ok (frame.Msgs (client.Update os ∷ []))) where
    order_of : (d : ℕ) (o : (Invariant.conn r.world k).owner ≡ Some d) (j : IsUndisturbed r d) → InOrder a (actor (X d)) (Invariant.issued_by r d) (last d) (Ok (frame.Msgs (client.Update os ∷ [])) ∷ us) (inbounds_of s r v k q u us st there first runs l attached d (Some a) named o j).reach
    order_of d o j = let h = inbounds_of s r v k q u us st there first runs l attached d (Some a) named o j in
        subst (λ (x : Inbound). InOrder a (actor (X d)) (Invariant.issued_by r d) (last d) (x ∷ us) h.reach) e h.order

    mine_is : (d : ℕ) (o : (Invariant.conn r.world k).owner ≡ Some d) (j : IsUndisturbed r d) → a ≡ actor (X d)
    mine_is d o j = (order_of d o j).mine

    pub outcome_of : (d : ℕ) (o : (Invariant.conn r.world k).owner ≡ Some d) (j : IsUndisturbed r d) (h : ClientOf s r d)
        → Batched v.state a h.own.ledger.accepted h.own.ledger.rest (Invariant.issued_by r d) (last d) os us (inbounds_of s r v k q u us st there first runs l attached d (Some a) named o j).reach
    outcome_of d o j h = batched v.state a h.own.ledger.accepted h.own.ledger.rest (Invariant.issued_by r d) (last d) os us (inbounds_of s r v k q u us st there first runs l attached d (Some a) named o j).reach
        h.own.ledger.all_is h.own.ledger.chain h.own.ledger.last_is (ap (last_of v.state.sessions) (mine_is d o j) ∙ ap (λ (z : State). last_of z.sessions (actor (X d))) (sym state_is))
        (subst (λ i. InOrder a i (Invariant.issued_by r d) (last d) (Ok (frame.Msgs (client.Update os ∷ [])) ∷ us) (inbounds_of s r v k q u us st there first runs l attached d (Some a) named o j).reach) (sym (mine_is d o j)) (order_of d o j))

    nothing_takes : (n : Update) → take v.state a os ≡ Nothing → take v.state a os ≡ Takes n → ⊥
    nothing_takes n f g = no (sym f ∙ g)
      where
        no : Nothing ≡ Takes n → ⊥
        no i = cc

    takes_same : (n m : Update) → take v.state a os ≡ Takes n → take v.state a os ≡ Takes m → n ≡ m
    takes_same n m f g = same (sym f ∙ g)
      where
        same : Takes n ≡ Takes m → n ≡ m
        same i = cc

    pub serve_takes : (d : ℕ) (o : (Invariant.conn r.world k).owner ≡ Some d) (j : IsUndisturbed r d) → Server.serve v k u ≡ taken_from v k l a (client.Update os ∷ []) (take v.state a os)
    serve_takes d o j =
        let h = order_of d o j in
        let ops : os ≡ ops_from a h.batch.first h.batch.bodies = h.ops ∙ ap (λ i. ops_from i h.batch.first h.batch.bodies) (sym h.mine) in
        ap (Server.serve v k) e ∙ subst (λ (ps : List Op). Server.serve v k (Ok (frame.Msgs (client.Update ps ∷ []))) ≡ taken_from v k l a (client.Update ps ∷ []) (take v.state a ps)) (sym ops)
        (updates v k a h.batch.first h.batch.bodies l attached named free)

    -- the log has it already
    old_left : take v.state a os ≡ Nothing → (d : ℕ) → (Invariant.conn r.world k).owner ≡ Some d → IsUndisturbed r d → InboundsLeft d
    old_left f d o j =
        let h = inbounds_of s r v k q u us st there first runs l attached d (Some a) named o j in
        ⊎_elim
        (λ g. record { some = h.some; reach = h.reach; order = subst (λ i. InOrder a i (Invariant.issued_by r d) (last d) us h.reach) (mine_is d o j) g.1; sent = h.sent })
        (λ g. absurd (nothing_takes _ f g.takes))
        (outcome_of d o j (st.client d j)).outcome

    old_kept : (d : ℕ) → (Invariant.conn r.world k).owner ≡ Some d → IsUndisturbed r d → take v.state a os ≡ Nothing → KeptHere (Server.serve v k u)
    old_kept d o j f = subst KeptHere (sym (serve_takes d o j ∙ ap (taken_from v k l a (client.Update os ∷ [])) f))
        (talk_kept s r v k q u us st there first runs l attached a (client.Update os ∷ []) named (old_left f))

    -- or it is the next batch
    module _ (n : Update) (takes : take v.state a os ≡ Takes n) (actor_is : n.actor ≡ a) (x : Session) (known : session_of v.state.sessions a ≡ Some x) where
      next_is : (d : ℕ) → (Invariant.conn r.world k).owner ≡ Some d → IsUndisturbed r d → (h : ClientOf s r d) → Next s r n d h
      next_is d o j h = ⊎_elim
          (λ g. absurd (nothing_takes n g.0 takes))
          (λ g.
          let same = takes_same n _ takes g.takes in
          record {
            own = actor_is ∙ mine_is d o j;
            batch = g.batch;
            more = g.more;
            next = g.next;
            first = ap (λ (z : Update). z.first) same;
            bodies = ap (λ (z : Update). z.bodies) same ∙ ap (λ (z : State). settle_all z.tree g.batch.bodies) (sym state_is);
          })
          (outcome_of d o j h).outcome

      last_next : last_of (updated v.state n).sessions a ≡ last_from n.first n.bodies
      last_next = ap last_in (subst (λ b. session_of (updated v.state n).sessions b ≡ Some (record x { last = last_from n.first n.bodies })) actor_is
          (session_same v.state.sessions n.actor (last_from n.first n.bodies) x (ap (session_of v.state.sessions) actor_is ∙ known)))

      next_left : (d : ℕ) → (Invariant.conn r.world k).owner ≡ Some d → IsUndisturbed r d → Invariant.Inbounds ((slot r.world d).present ≡ Some k) (X d).session (Invariant.tried (X d)) (Invariant.issued_by r d) (last_of (updated v.state n).sessions (actor (X d))) (Some l) us
      next_left d o j =
          let h = inbounds_of s r v k q u us st there first runs l attached d (Some a) named o j in
          ⊎_elim
          (λ g. absurd (nothing_takes n g.0 takes))
          (λ g.
          let same = takes_same n _ takes g.takes in
          let count : length n.bodies ≡ length g.batch.bodies = ap (λ (z : Update). length z.bodies) same ∙ length-settle_all v.state.tree g.batch.bodies in
          let begins : n.first ≡ last d + 1 = ap (λ (z : Update). z.first) same ∙ g.first in
          let clock : last d + length g.batch.bodies ≡ last_of (updated v.state n).sessions (actor (X d)) = omega (arith, count, begins, g.some, last_next, ap (last_of (updated v.state n).sessions) (mine_is d o j)) in
          rw named (record {
            some = h.some;
            reach = h.reach;
            order = subst (λ i. InOrder a i (Invariant.issued_by r d) (last_of (updated v.state n).sessions (actor (X d))) us h.reach) (mine_is d o j) (subst (λ i. InOrder a a (Invariant.issued_by r d) i us h.reach) clock g.left);
            sent = h.sent;
          }))
          (outcome_of d o j (st.client d j)).outcome

      pub next_kept : (d : ℕ) → (Invariant.conn r.world k).owner ≡ Some d → IsUndisturbed r d → n.first ≡ x.last + 1 → 0 < length n.bodies
          → ((Server.serve v k u).entry ≡ Some (Updated n) → tree_in (items_of (updated v.state n).tree) ≡ Some (updated v.state n).tree) → KeptHere (Server.serve v k u)
      next_kept d o j begins some spelled =
          let answer = serve_takes d o j ∙ ap (taken_from v k l a (client.Update os ∷ [])) takes in
          subst KeptHere (sym answer) (by_full (nat_le v.limits.updates v.state.count) answer)
        where
          by_full : (b : Bool) → Server.serve v k u ≡ cond b (Server.shut v k l 4406 (codes "room full " ++ decimal v.state.count)) (act_from (Server.nothing v) k a (Some n) (client.Update os ∷ []))
              → KeptHere (cond b (Server.shut v k l 4406 (codes "room full " ++ decimal v.state.count)) (act_from (Server.nothing v) k a (Some n) (client.Update os ∷ [])))
          by_full true answer = keeps_shut s r v k q u us st there first runs l 4406 (codes "room full " ++ decimal v.state.count) attached
          by_full false answer = commits_kept s r v k q u us st there first runs l n x attached (named ∙ ap Some (sym actor_is)) (ap (session_of v.state.sessions) actor_is ∙ known) begins some (spelled (ap (λ (z : Served). z.entry) answer)) next_is next_left

  -- any frame of the session of an undisturbed client c
  module _ (c : ℕ) (owner : (Invariant.conn r.world k).owner ≡ Some c) (calm : IsUndisturbed r c)
      (spelled : (n : Update) → (Server.serve v k u).entry ≡ Some (Updated n) → tree_in (items_of (updated v.state n).tree) ≡ Some (updated v.state n).tree) where
    session_at : (z : Option Resume) → Invariant.StandsIn s (Invariant.sessions r) z → 0 < actor_in z → (x : Session) × (session_of (Invariant.sessions r) (actor_in z) ≡ Some x)
    session_at None h p = absurd (omega arith)
    session_at (Some w) h p = (h.session, h.is)

    ops_kept : (os : List Op) → u ≡ Ok (frame.Msgs (client.Update os ∷ [])) → KeptHere (Server.serve v k u)
    ops_kept os e = ⊎_elim
        (λ g. old_kept os e c owner calm g.0)
        (λ g.
        let n : Update = record { actor = a; first = g.batch.first; bodies = settle_all v.state.tree g.batch.bodies } in
        let mine : a ≡ actor (X c) = mine_is os e c owner calm in
        let x = session_at (X c).session (st.client c calm).stands (subst (λ i. 0 < i) mine (inbounds_of s r v k q u us st there first runs l attached c (Some a) named owner calm).some) in
        let known : session_of v.state.sessions a ≡ Some x.0 = ap (session_of v.state.sessions) mine ∙ ap (λ (z : State). session_of z.sessions (actor (X c))) (sym state_is) ∙ x.1 in
        let clock : last c ≡ x.0.last = ap last_in x.1 in
        next_kept os e n g.takes refl x.0 known c owner calm (omega (arith, g.first, clock)) (omega (arith, g.some, length-settle_all v.state.tree g.batch.bodies)) (spelled n))
        (outcome_of os e c owner calm (st.client c calm)).outcome

    by_head : (y : Inbound) (reach : ℕ) → u ≡ y → InOrder a (actor (X c)) (Invariant.issued_by r c) (last c) (y ∷ us) reach → KeptHere (Server.serve v k u)
    by_head (Err x) reach e h = absurd h
    by_head (Ok frame.Ping) reach e h = absurd h
    by_head (Ok (frame.Msgs [])) reach e h = absurd h
    by_head (Ok (frame.Msgs (m ∷ n ∷ ms))) reach e h = absurd h
    by_head (Ok (frame.Msgs (client.Hello x ∷ []))) reach e h = absurd h
    by_head (Ok (frame.Msgs (client.Presence target patch ∷ []))) reach e h = talks_kept (client.Presence target patch) tt e
    by_head (Ok (frame.Msgs (client.Broadcast event ∷ []))) reach e h = talks_kept (client.Broadcast event) tt e
    by_head (Ok (frame.Msgs (client.Fetch ∷ []))) reach e h = talks_kept client.Fetch tt e
    by_head (Ok (frame.Msgs (client.Update os ∷ []))) reach e h = ops_kept os e

    pub own_frame_kept : KeptHere (Server.serve v k u)
    own_frame_kept =
        let h = inbounds_of s r v k q u us st there first runs l attached c (Some a) named owner calm in
        by_head u h.reach refl h.order
