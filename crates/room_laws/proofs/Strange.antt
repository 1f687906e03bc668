-- A connection that no client dialled changes.
use Rattle.std.proofs.Common.{◌≡◌, ℕ, ◌<◌, ◌⊎◌, inl, inr, true, false, [], refl, sym, ap, ◌∙◌, subst}
use Rattle.std.specs.Prelude.{Option, Some, None, is_some}
use Rattle.std.proofs.lemmas.Bool.{cases_eq}
use Rattle.std.specs.FinMap.{get}
use Rattle.room_log.specs.Log.{State}
use Rattle.room_model.specs.World.{Conn, with_conn, slot}
use Rattle.room_model.specs.Run.{Run}
use Rattle.room_laws.specs.Invariant
use Rattle.room_laws.proofs.Maps.{conn_same, conn_other, get_same, get_other}
use Rattle.room_laws.proofs.Facts.{none_some}

module _ (s : State) (r : Run) (k : ℕ) (q p : Conn) (st : Invariant.Inv s r) (is : Invariant.conn r.world k ≡ q)
    (nobody : q.owner ≡ None) (nobody_after : p.owner ≡ None) (deaf : p.listens ≡ false → p.outbound ≡ []) (low : r.world.opened < k → ⊥) where
  abbrev t : Run
  t = record r { world = with_conn r.world k p }

  here : Invariant.conn t.world k ≡ p
  here = conn_same r.world.conns k p

  else : (j : ℕ) → (j ≡ k → ⊥) → Invariant.conn t.world j ≡ Invariant.conn r.world j
  else j e = conn_other r.world.conns k p j e

  apart : (j d : ℕ) → (Invariant.conn r.world j).owner ≡ Some d → j ≡ k → ⊥
  apart j d o e = none_some d (sym nobody ∙ ap (λ (x : Conn). x.owner) (sym is) ∙ subst (λ n. (Invariant.conn r.world n).owner ≡ Some d) e o)

  apart_after : (j d : ℕ) → (Invariant.conn t.world j).owner ≡ Some d → j ≡ k → ⊥
  apart_after j d o e = none_some d (sym nobody_after ∙ ap (λ (x : Conn). x.owner) (sym here) ∙ subst (λ n. (Invariant.conn t.world n).owner ≡ Some d) e o)

  owner_same : (j : ℕ) → (j ≡ k) ⊎ (j ≡ k → ⊥) → (Invariant.conn t.world j).owner ≡ (Invariant.conn r.world j).owner
  owner_same j (inl e) = rw e (ap (λ (x : Conn). x.owner) here ∙ nobody_after ∙ sym nobody ∙ ap (λ (x : Conn). x.owner) (sym is))
  owner_same j (inr e) = ap (λ (x : Conn). x.owner) (else j e)

  deaf_at : (j : ℕ) → (j ≡ k) ⊎ (j ≡ k → ⊥) → (Invariant.conn t.world j).listens ≡ false → (Invariant.conn t.world j).outbound ≡ []
  deaf_at j (inl e) i = rw e (rw here (deaf (ap (λ (x : Conn). x.listens) (sym here) ∙ subst (λ n. (Invariant.conn t.world n).listens ≡ false) e i)))
  deaf_at j (inr e) i = ap (λ (x : Conn). x.outbound) (else j e) ∙ st.shape.deaf j (sym (ap (λ (x : Conn). x.listens) (else j e)) ∙ i)

  there_at : (j : ℕ) → (j ≡ k) ⊎ (j ≡ k → ⊥) → is_some (get r.world.conns j) ≡ true → is_some (get t.world.conns j) ≡ true
  there_at j (inl e) i = rw e (ap is_some (get_same r.world.conns k p))
  there_at j (inr e) i = ap is_some (get_other r.world.conns k p j e) ∙ i

  outbound_same : (d : ℕ) (o : Option ℕ) → (slot r.world d).present ≡ o → Invariant.present_outbound t.world o ≡ Invariant.present_outbound r.world o
  outbound_same d None e = refl
  outbound_same d (Some j) e = ap (λ (x : Conn). x.outbound) (else j (apart j d (st.shape.present d j e).owner))

  unopened_at : (j : ℕ) → (j ≡ k) ⊎ (j ≡ k → ⊥) → r.world.opened < j → Invariant.conn t.world j ≡ Invariant.no_conn
  unopened_at j (inl e) i = absurd (low (subst (λ n. r.world.opened < n) e i))
  unopened_at j (inr e) i = else j e ∙ st.shape.unopened j i

  pub keeps_strange : Invariant.Inv s t
  keeps_strange = record {
    shape = record {
      hosts = st.shape.hosts;
      present = λ d j e.
          let o = st.shape.present d j e in
          subst (λ (x : Conn). Invariant.ListensFor x d) (sym (else j (apart j d o.owner))) o;
      heard = λ d j o. st.shape.heard d j (subst (λ (x : Conn). Invariant.ListensFor x d) (else j (apart_after j d o.owner)) o);
      deaf = λ j e. deaf_at j (cases_eq j k) e;
      unlinked = st.shape.unlinked;
      unopened = λ j e. unopened_at j (cases_eq j k) e;
      there = λ j l e. there_at j (cases_eq j k) (st.shape.there j l e);
    };
    logged = st.logged;
    given = λ j a l e f d g. owner_same j (cases_eq j k) ∙ st.given j a l e f d g;
    actors = st.actors;
    nobody = st.nobody;
    client = λ d u. rw (outbound_same d (slot r.world d).present refl) (st.client d u);
    inbounds = λ d j o u.
        let e = apart_after j d o in
        rw (ap (λ (x : Conn). x.inbound) (else j e)) (st.inbounds d j (ap (λ (x : Conn). x.owner) (sym (else j e)) ∙ o) u);
  }
