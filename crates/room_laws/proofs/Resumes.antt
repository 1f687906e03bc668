-- A session goes on at another connection.
use Rattle.std.proofs.Common.{◌≡◌, ℕ, zero, suc, ◌<◌, ◌≤◌, ◌⊎◌, inl, inr, Bool, true, false, cond, not, List, [], ◌∷◌, ◌++◌, length, refl, sym, ap, ◌∙◌, subst, arith, ⊎_elim, Equal}
use Rattle.std.specs.Prelude.{Option, Some, None, is_some, codes}
use Rattle.std.proofs.lemmas.Bool.{cases_eq, eq-eqb, ne_eqb}
use Rattle.std.proofs.lemmas.Bool.Decides.{nat_tests}
use Rattle.std.proofs.lemmas.Option.{slice_get_within}
use Rattle.std.specs.FinMap.{FinMap, get, insert, remove, entries, get-retain_keys}
use Rattle.std.specs.Ordering.{nat_cmp}
use Rattle.room_msg.specs.declared.messages.Resume.{Resume}
use Rattle.room_msg.specs.declared.messages.ServerMsg.TheVariants as server
use Rattle.room_log.specs.Log.{State, Session, session_of, last_of, updates_of}
use Rattle.room_model.specs.Server
use Rattle.room_model.specs.Server.{Outbound, Message, Closed, Link, Inbound, Served, has_session, holds, is_actor, not_held_by, without_actor}
use Rattle.room_model.specs.World.{Conn, Host, Running, Fuse, state_in, links_of, deliver, slot}
use Rattle.room_model.specs.Run.{Run, IsUndisturbed}
use Rattle.room_laws.specs.Invariant
use Rattle.room_laws.proofs.Maps.{mine, mine-append, passes, to_each_of, to_others_same, to_others_other, deliver_there, get_same, get_other}
use Rattle.room_laws.proofs.Sessions.{begun_since}
use Rattle.room_laws.proofs.Calm.{inbounds_after}
use Rattle.room_laws.proofs.Leaving.{delivered, inbounds_passed}
use Rattle.room_laws.proofs.Welcomes.{keeps_welcome}

equal_keys : (q x : ℕ) → nat_cmp q x ≡ Equal → q ≡ x
equal_keys q x e = grind (arith, nat_tests)

-- what is left of the attached connections
pub without_at : (ls : FinMap nat_cmp Link) (a j : ℕ) → get (without_actor ls a) j ≡ cond (not_held_by a (get ls j)) (get ls j) None
without_at ls a j = get-retain_keys ls (λ i. not_held_by a (get ls i)) j (λ x e. ap (λ i. not_held_by a (get ls i)) (sym (equal_keys j x e)))

-- who holds it is closed, and stays no more
closed_at : (a : ℕ) (o : Option Link) → (not_held_by a o ≡ true) × (passes (holds a) Server.elsewhere o ≡ []) ⊎ (not_held_by a o ≡ false) × (passes (holds a) Server.elsewhere o ≡ Server.elsewhere ∷ []) × (is_some o ≡ true)
closed_at a None = inl (refl, refl)
closed_at a (Some l) = at (holds a l) refl
  where
    at : (b : Bool) → holds a l ≡ b → (not (holds a l) ≡ true) × (cond (holds a l) (Server.elsewhere ∷ []) [] ≡ []) ⊎ (not (holds a l) ≡ false) × (cond (holds a l) (Server.elsewhere ∷ []) [] ≡ Server.elsewhere ∷ []) × (true ≡ true)
    at true e = inr (rw e refl, rw e refl, refl)
    at false e = inl (rw e refl, rw e refl)

session_within : (ss : List Session) (a : ℕ) (x : Session) → session_of ss a ≡ Some x → (0 < a) × (a ≤ length ss)
session_within ss zero x e = absurd (none_some e)
  where
    none_some : None ≡ Some x → ⊥
    none_some d = cc
session_within ss (suc i) x e = let l = slice_get_within ss i x e in (omega arith, omega arith)

module _ (s : State) (r : Run) (v : Server.Server) (k : ℕ) (l : Link) (w : Resume) (x : Session) (qs : FinMap nat_cmp Conn) (inbounds : ℕ → List Inbound) (fuse : Option Fuse) (st : Invariant.Inv s r)
    (runs : r.world.host ≡ Running v) (attached : get v.links k ≡ Some l) (bare : l.actor ≡ None) (known : session_of v.state.sessions w.actor ≡ Some x)
    (conns : (j : ℕ) → Invariant.conn_in (get qs j) ≡ record (Invariant.conn r.world j) { inbound = inbounds j })
    (there : (j : ℕ) → is_some (get r.world.conns j) ≡ true → is_some (get qs j) ≡ true)
    (else : (j : ℕ) → (j ≡ k → ⊥) → inbounds j ≡ (Invariant.conn r.world j).inbound)
    (unopened : (j : ℕ) → r.world.opened < j → inbounds j ≡ [])
    -- an undisturbed client's hello was the only frame, and is of its session where it is present
    (popped : (d : ℕ) → (Invariant.conn r.world k).owner ≡ Some d → IsUndisturbed r d → (inbounds k ≡ []) × (((slot r.world d).present ≡ Some k) → (Invariant.core_of r.world d).session ≡ Some w)) where
  abbrev now : Link
  now = Server.with_session l w.actor None

  abbrev links : FinMap nat_cmp Link
  links = insert (without_actor v.links w.actor) k (Server.with_session l w.actor None)

  abbrev before : List (ℕ × Outbound)
  before = Server.to_each (holds w.actor) Server.elsewhere (entries v.links)

  abbrev users : List (ℕ × List ℕ)
  users = Server.users_of v.state.sessions (remove links k)

  abbrev after : List (ℕ × Outbound)
  after = (k, Message (server.RoomState w.actor w.key (Server.users_of v.state.sessions (remove links k)))) ∷ Server.to_others links k (server.Joined w.actor)

  abbrev outs : List (ℕ × Outbound)
  outs = before ++ after

  abbrev t : Run
  t = record r {
    world = record (r.world) { host = Running (Server.with_links v links); fuse = fuse; conns = deliver qs outs };
    given = r.given ++ (w.actor, (Invariant.conn r.world k).owner) ∷ [];
  }

  link_is : (j : ℕ) → Invariant.link r.world j ≡ get v.links j
  link_is j = ap (λ (g : Host). get (links_of g) j) runs

  no_holder : passes (holds w.actor) Server.elsewhere (Some l) ≡ []
  no_holder = rw bare refl

  sends_here : mine k outs ≡ Message (server.RoomState w.actor w.key users) ∷ []
  sends_here = mine-append k before after
      ∙ ap (λ ms. ms ++ mine k after) (to_each_of (holds w.actor) Server.elsewhere k v.links ∙ ap (passes (holds w.actor) Server.elsewhere) attached ∙ no_holder)
      ∙ rw (eq-eqb k k refl) (ap (λ ms. Message (server.RoomState w.actor w.key users) ∷ ms) (to_others_same (server.Joined w.actor) k links))

  sends_else : (j : ℕ) → (j ≡ k → ⊥) → mine j outs ≡ passes (holds w.actor) Server.elsewhere (get v.links j) ++ passes has_session (Message (server.Joined w.actor)) (get (without_actor v.links w.actor) j)
  sends_else j e = mine-append j before after
      ∙ ap (λ ms. ms ++ mine j after) (to_each_of (holds w.actor) Server.elsewhere j v.links)
      ∙ ap (λ ms. passes (holds w.actor) Server.elsewhere (get v.links j) ++ ms) (rw (ne_eqb k j (λ d. e (sym d))) (to_others_other (server.Joined w.actor) k j links e
      ∙ ap (passes has_session (Message (server.Joined w.actor))) (get_other (without_actor v.links w.actor) k now j e)))

  inbounds_here : inbounds_after (inbounds k) (mine k outs) ≡ inbounds k
  inbounds_here = ap (λ ms. inbounds_after (inbounds k) ms) sends_here

  abbrev Goes : ℕ → Type 0
  Goes j = ((Invariant.link t.world j ≡ Invariant.link r.world j) × (mine j outs ≡ passes has_session (Message (server.Joined w.actor)) (Invariant.link r.world j)) × (inbounds_after (inbounds j) (mine j outs) ≡ (Invariant.conn r.world j).inbound))
      ⊎ ((Invariant.link t.world j ≡ None) × (inbounds_after (inbounds j) (mine j outs) ≡ []) × ((code : ℕ) × ((text : List ℕ) × (mine j outs ≡ Closed code text ∷ []))))

  link_now : (j : ℕ) → (j ≡ k → ⊥) → Invariant.link t.world j ≡ cond (not_held_by w.actor (get v.links j)) (get v.links j) None
  link_now j e = get_other (without_actor v.links w.actor) k now j e ∙ without_at v.links w.actor j

  goes : (j : ℕ) → (j ≡ k → ⊥) → Goes j
  goes j e = ⊎_elim stays closes (closed_at w.actor (get v.links j))
    where
      stays : (not_held_by w.actor (get v.links j) ≡ true) × (passes (holds w.actor) Server.elsewhere (get v.links j) ≡ []) → Goes j
      stays f =
          let kept : get (without_actor v.links w.actor) j ≡ get v.links j = without_at v.links w.actor j ∙ ap (λ b. cond b (get v.links j) None) f.0 in
          let sent : mine j outs ≡ passes has_session (Message (server.Joined w.actor)) (Invariant.link r.world j) =
          sends_else j e ∙ ap (λ ms. ms ++ passes has_session (Message (server.Joined w.actor)) (get (without_actor v.links w.actor) j)) f.1 ∙ ap (passes has_session (Message (server.Joined w.actor))) (kept ∙ sym (link_is j)) in
          inl (
            get_other (without_actor v.links w.actor) k now j e ∙ kept ∙ sym (link_is j),
            sent,
            ap (λ ms. inbounds_after (inbounds j) ms) sent ∙ inbounds_passed (inbounds j) has_session (server.Joined w.actor) (Invariant.link r.world j) ∙ else j e,
          )

      closes : (not_held_by w.actor (get v.links j) ≡ false) × (passes (holds w.actor) Server.elsewhere (get v.links j) ≡ Server.elsewhere ∷ []) × (is_some (get v.links j) ≡ true) → Goes j
      closes f =
          let gone : get (without_actor v.links w.actor) j ≡ None = without_at v.links w.actor j ∙ ap (λ b. cond b (get v.links j) None) f.0 in
          let sent : mine j outs ≡ Server.elsewhere ∷ [] =
          sends_else j e ∙ ap (λ ms. ms ++ passes has_session (Message (server.Joined w.actor)) (get (without_actor v.links w.actor) j)) f.1 ∙ ap (λ o. Server.elsewhere ∷ passes has_session (Message (server.Joined w.actor)) o) gone in
          inr (get_other (without_actor v.links w.actor) k now j e ∙ gone, ap (λ ms. inbounds_after (inbounds j) ms) sent, (4408, (codes "resumed elsewhere", sent)))

  unopened_at : (j : ℕ) → (j ≡ k) ⊎ (j ≡ k → ⊥) → r.world.opened < j → inbounds_after (inbounds j) (mine j outs) ≡ []
  unopened_at j (inl e) i = subst (λ n. inbounds_after (inbounds n) (mine n outs) ≡ []) (sym e) (inbounds_here ∙ unopened k (subst (λ n. r.world.opened < n) e i))
  unopened_at j (inr e) i = ⊎_elim (λ f. f.2 ∙ ap (λ (p : Conn). p.inbound) (st.shape.unopened j i)) (λ f. f.1) (goes j e)

  some_is : {A : Type 0} (y z : A) → Some y ≡ Some z → y ≡ z
  some_is y z e = cc

  none_some : {A : Type 0} (y : A) → None ≡ Some y → ⊥
  none_some y e = cc

  hosts_after : Invariant.Hosts (Running v) → Invariant.Hosts (Running (Server.with_links v links))
  hosts_after h = record { room = h.room; access = h.access; free = λ j n i. free_at h j n (cases_eq j k) i }
    where
      free_at : Invariant.Hosts (Running v) → (j : ℕ) (n : Link) → (j ≡ k) ⊎ (j ≡ k → ⊥) → get links j ≡ Some n → (n.decision ≡ None) × (0 < n.key)
      free_at h j n (inl e) i =
          let same : now ≡ n = some_is now n (sym (get_same (without_actor v.links w.actor) k now) ∙ subst (λ b. get links b ≡ Some n) e i) in
          (ap (λ (z : Link). z.decision) (sym same), subst (λ i. 0 < i) (ap (λ (z : Link). z.key) same) (h.free k l attached).1)
      free_at h j n (inr e) i = ⊎_elim
          (λ f. h.free j n (sym (link_is j) ∙ sym f.0 ∙ i))
          (λ f. absurd (none_some n (sym f.0 ∙ i)))
          (goes j e)

  state_is : state_in r.world.host ≡ v.state
  state_is = ap state_in runs

  since : (d : ℕ) → (Invariant.conn r.world k).owner ≡ Some d → IsUndisturbed r d → (slot r.world d).present ≡ Some k → last_of s.sessions w.actor ≡ 0
  since d o u e = begun_since s (Invariant.sessions r) (Some w) (subst (λ (z : Option Resume). Invariant.StandsIn s (Invariant.sessions r) z) ((popped d o u).1 e) (st.client d u).stands)

  pub keeps_resume : Invariant.Inv s t
  keeps_resume = keeps_welcome s r t k l now w users (λ j. mine j outs) (λ j. inbounds_after (inbounds j) (mine j outs)) st
      (λ d. refl) (λ d. refl) refl refl refl
      (hosts_after (subst Invariant.Hosts runs st.shape.hosts))
      (subst (λ (z : State). Invariant.Logged s (updates_of r.log) z) state_is st.logged)
      (λ j. delivered r qs inbounds outs j (conns j))
      (λ j e. deliver_there qs outs j (there j e))
      (λ j e. unopened_at j (cases_eq j k) e)
      (link_is k ∙ attached) bare (get_same (without_actor v.links w.actor) k now) refl refl (session_within v.state.sessions w.actor x known).0 (session_within v.state.sessions w.actor x known).1
      (omega (arith, ap (λ (z : State). length z.sessions) state_is))
      (λ b. ap (λ (z : State). last_of z.sessions b) (sym state_is))
      (λ b h. subst (λ (z : State). Invariant.Stands s z.sessions b) state_is h)
      sends_here
      goes
      (λ d o u. (inbounds_here ∙ (popped d o u).0, λ e. since d o u e, λ e. inl ((popped d o u).1 e)))
