-- A client takes the next updates.
use Rattle.std.proofs.Common.{◌≡◌, ℕ, ◌+◌, ◌≤◌, inl, inr, true, ◌==◌, nat_le, List, [], ◌∷◌, ◌++◌, length, refl, ap, ◌∙◌, subst, arith}
use Rattle.std.specs.Prelude.{Ok}
use Rattle.std.proofs.lemmas.Bool.{eq-eqb, ne_eqb}
use Rattle.std.proofs.lemmas.Bool.Decides.{nat_tests}
use Rattle.room_nodes.specs.Shape.{Nodes}
use Rattle.room_nodes.specs.declared.nodes.Body.{Body}
use Rattle.room_nodes.specs.Steps.{fold}
use Rattle.room_log.specs.Log.{State, Update, tree_after, last_after, ops_of, ops_from}
use Rattle.room_model.specs.Account.{Batch, beyond}
use Rattle.room_model.specs.Receive.{told_by}
use Rattle.room_model.specs.Sound.{RunsOn}
use Rattle.room_laws.specs.Ledger.{Matches, Ledger, upto}
use Rattle.room_laws.proofs.Batches.{upto_above}
use Rattle.room_laws.proofs.Matches.{Matches-append, Matches-cut, left, last_after_is}

pub tree_after-append : (t : Nodes) (us vs : List Update) → tree_after t (us ++ vs) ≡ tree_after (tree_after t us) vs
tree_after-append t [] vs = refl
tree_after-append t (u ∷ us) vs = tree_after-append (fold t u.bodies) us vs

pub taken_other : (a b limit c f : ℕ) (bs : List Body) → (b ≡ a → ⊥) → told_by a limit c (ops_from b f bs) ≡ Ok c
taken_other a b limit c f [] h = refl
taken_other a b limit c f (x ∷ xs) h = rw (ne_eqb b a h) (taken_other a b limit c (f + 1) xs h)

pub taken_own : (a b limit c f : ℕ) (bs : List Body) → b ≡ a → f ≡ c + 1 → c + length bs ≤ limit → told_by a limit c (ops_from b f bs) ≡ Ok (c + length bs)
taken_own a b limit c f [] h e l = ap Ok (omega arith)
taken_own a b limit c f (x ∷ xs) h e l =
    let t : (f == c + 1) ≡ true = eq-eqb f (c + 1) e in
    let u : nat_le f limit ≡ true = grind (arith, nat_tests) in
    let i : (c + 1) + length xs ≡ c + length (x ∷ xs) = omega arith in
    rw (eq-eqb b a h) (rw t (rw u (taken_own a b limit (c + 1) (f + 1) xs h (omega arith) (omega arith) ∙ ap Ok i)))

-- a client that takes the updates `mid`
pub record Advance (s : State) (last a : ℕ) (done mid rest : List Update) (all pending : List Batch) (told : ℕ) : Type 0 where
  pub clock : ℕ
  pub is : last_after a 0 (done ++ mid) ≡ clock
  pub above : told ≤ clock
  pub below : clock ≤ last
  pub within : clock ≤ upto told pending
  pub front : Matches a (tree_after s.tree done) told mid pending (beyond clock pending) clock
  pub ledger : Ledger s last a (done ++ mid) rest all (beyond clock pending) clock

pub advance : (s : State) (last a : ℕ) (done mid rest : List Update) (all pending : List Batch) (told : ℕ)
    → Ledger s last a done (mid ++ rest) all pending told → Advance s last a done mid rest all pending told
advance s last a done mid rest all pending told l =
    let first = left a s.tree 0 done all pending told l.chain l.received in
    let k = Matches-cut a (tree_after s.tree done) told mid rest pending l.rest last l.takes in
    let f = left a (tree_after s.tree done) told mid pending k.mid k.clock first.chain k.front in
    let b = left a (tree_after (tree_after s.tree done) mid) k.clock rest k.mid l.rest last f.chain k.back in
    let received : Matches a s.tree 0 (done ++ mid) all k.mid k.clock = Matches-append a s.tree 0 done mid all pending k.mid told k.clock l.received k.front in
    record {
      clock = k.clock;
      is = last_after_is a s.tree 0 (done ++ mid) all k.mid k.clock l.chain received;
      above = f.above;
      below = b.above;
      within = omega (arith, f.end, upto_above k.clock k.mid);
      front = rw f.is k.front;
      ledger = record {
        accepted = l.accepted;
        rest = l.rest;
        all_is = l.all_is;
        last_is = l.last_is;
        chain = l.chain;
        received = rw f.is received;
        takes = rw (f.is, tree_after-append s.tree done mid) k.back;
      };
    }

-- the own clocks of the next update
module _ (s : State) (a last told limit : ℕ) (t : Nodes) (pending rest : List Batch) (u : Update) (clock : ℕ) where
  pub next_taken : RunsOn told pending → clock ≤ limit → Matches a t told (u ∷ []) pending rest clock → told_by a limit told (ops_of u) ≡ Ok clock
  next_taken c l (inl m) =
      let k : RunsOn told (m.batch ∷ m.others) = subst (RunsOn told) m.front c in
      let f : u.first ≡ told + 1 = m.first ∙ k.first in
      let e : told + length u.bodies ≡ clock = (m.more).clock in
      taken_own a u.actor limit told u.first u.bodies m.own f (omega arith) ∙ ap Ok e
  next_taken c l (inr m) =
      let e : told ≡ clock = (m.more).clock in
      taken_other a u.actor limit told u.first u.bodies m.other ∙ ap Ok e
