-- What the invariant gives.
use Rattle.std.proofs.Common.{◌≡◌, ℕ, zero, suc, ◌+◌, ◌-◌, ◌<◌, ◌≤◌, inl, inr, true, false, List, [], ◌∷◌, ◌++◌, length, length-append, take, refl, sym, ap, ◌∙◌, subst, arith}
use Rattle.std.specs.Prelude.{Option, Some, None, is_some, slice_get}
use Rattle.std.proofs.lemmas.Option.{slice_get_within}
use Rattle.room_nodes.specs.Shape.{Nodes}
use Rattle.room_nodes.specs.Steps.{fold}
use Rattle.room_msg.specs.declared.messages.Resume.{Resume}
use Rattle.room_log.specs.Log.{State, Session, Update, tree_after, tree_at, last_of, last_in, last_after, updates_of}
use Rattle.room_model.specs.Account.{Batch, actor_in, shown_over, pending_bodies}
use Rattle.room_model.specs.World.{account}
use Rattle.room_model.specs.Run.{Run, IsUndisturbed}
use Rattle.room_laws.specs.Ledger.{Matches}
use Rattle.room_laws.specs.Core.{Core, issued, actor}
use Rattle.room_laws.specs.Invariant
use Rattle.room_laws.specs.Laws.{Once, ShowsLog, Kept}
use Rattle.room_laws.proofs.Matches.{Matches-append, last_after_is, left}
use Rattle.room_laws.proofs.Owns.{rest_is}

take_at : {A : Type 0} (xs ys : List A) (n : ℕ) → n ≡ length xs → take n (xs ++ ys) ≡ xs
take_at [] ys n e = rw e refl
take_at (x ∷ xs) ys n e = rw e (ap (λ zs. x ∷ zs) (take_at xs ys (length xs) refl))

slice_past : (o : Option Session) (ss : List Session) (i : ℕ) → slice_get ss i ≡ o → length ss ≤ i → last_in o ≡ 0
slice_past None ss i e h = refl
slice_past (Some x) ss i e h = absurd (omega (arith, slice_get_within ss i x e))

pub last_past : (ss : List Session) (a : ℕ) → length ss < a → last_of ss a ≡ 0
last_past ss zero h = refl
last_past ss (suc i) h = slice_past (slice_get ss i) ss i refl (omega arith)

once : (a : ℕ) (t : Nodes) (c : ℕ) (us : List Update) (bs rest : List Batch) (e : ℕ) → Matches a t c us bs rest e → Once a t us bs
once a t c [] bs rest e h = tt
once a t c (u ∷ us) bs rest e (inl h) = inl (record {
  own = h.own;
  batch = h.batch;
  others = h.others;
  front = h.front;
  first = h.first;
  bodies = h.bodies;
  more = once a (fold t u.bodies) (c + length u.bodies) us h.others rest e h.more;
})
once a t c (u ∷ us) bs rest e (inr h) = inr (record { other = h.other; more = once a (fold t u.bodies) c us bs rest e h.more })

module _ (s : State) (r : Run) (c : ℕ) (st : Invariant.Inv s r) (u : IsUndisturbed r c) where
  abbrev x : Core
  x = Invariant.core_of r.world c

  pub kept : Kept s r c
  kept =
      let h = st.client c u in
      let l = h.own.ledger in
      record {
        runs = l.chain;
        once = once (actor x) s.tree 0 (updates_of r.log) (Invariant.issued_by r c) l.rest (last_of (Invariant.sessions r) (actor x))
            (rw h.own.whole (Matches-append (actor x) s.tree 0 h.done h.coming (Invariant.issued_by r c) (issued x) l.rest x.told (last_of (Invariant.sessions r) (actor x)) l.received l.takes));
        pending = sym (left (actor x) s.tree 0 h.done (Invariant.issued_by r c) (issued x) x.told l.chain l.received).is;
        acknowledged = (rest_is s (updates_of r.log) (last_of (Invariant.sessions r) (actor x)) x (Invariant.issued_by r c) h.done h.coming h.own).above;
      }

  since : (o : Option Resume) → is_some o ≡ true → Invariant.StandsIn s (Invariant.sessions r) o → last_of s.sessions (actor_in o) ≡ 0
  since None e h = absurd (no e)
    where
      no : false ≡ true → ⊥
      no i = cc
  since (Some w) e h = last_past s.sessions w.actor h.since

  pub shows : (t : Nodes) → (account r.world c).confirmed ≡ Some t → ShowsLog s r c t
  shows t e =
      let h = st.client c u in
      let l = h.own.ledger in
      let shown : Invariant.Shows s h.done x.stage x.n x.session (Some t) = subst (λ (o : Option Nodes). Invariant.Shows s h.done x.stage x.n x.session o) e h.own.shows in
      let number : x.n - s.count ≡ length h.done = omega (arith, shown.number) in
      let front : take (x.n - s.count) (updates_of r.log) ≡ h.done = ap (λ us. take (x.n - s.count) us) h.own.whole ∙ take_at h.done h.coming (x.n - s.count) number in
      let tree : t ≡ tree_at s r.log x.n = shown.tree ∙ ap (tree_after s.tree) (sym front) in
      let zero_is : last_of s.sessions (actor x) ≡ 0 = since x.session shown.known h.stands in
      let count = st.logged.count in
      record {
        since = omega (arith, shown.number);
        within = omega (arith, shown.number, count, ap length h.own.whole, length-append h.done h.coming);
        tree = tree;
        told = sym (ap (λ us. last_after (actor x) (last_of s.sessions (actor x)) us) front ∙ ap (λ i. last_after (actor x) i h.done) zero_is
            ∙ last_after_is (actor x) s.tree 0 h.done (Invariant.issued_by r c) (issued x) x.told l.chain l.received);
        on_top = ap (shown_over (account r.world c)) e ∙ ap (λ (v : Nodes). Some (fold v (pending_bodies (account r.world c)))) tree;
      }
