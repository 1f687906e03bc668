-- The batches of an actor against the updates of the log.
use Rattle.std.proofs.Common.{◌≡◌, ℕ, suc, ◌+◌, ◌-◌, ◌≤◌, inl, inr, List, [], ◌∷◌, ◌++◌, length, refl, ap, ◌∙◌, subst, arith}
use Rattle.std.proofs.lemmas.Bool.{eq-eqb, ne_eqb}
use Rattle.room_nodes.specs.Shape.{Nodes}
use Rattle.room_nodes.specs.declared.nodes.Body.{Body}
use Rattle.room_nodes.specs.Steps.{step, settled_body, fold, settle_all}
use Rattle.room_log.specs.Log.{Update, tree_after, last_after}
use Rattle.room_model.specs.Account.{Batch, beyond}
use Rattle.room_model.specs.Sound.{RunsOn}
use Rattle.room_laws.specs.Ledger.{Matches, upto, Silent}
use Rattle.room_laws.proofs.Batches.{beyond_none, beyond_one}

pub Matches-append : (a : ℕ) (t : Nodes) (c : ℕ) (us vs : List Update) (bs mid rest : List Batch) (d e : ℕ)
    → Matches a t c us bs mid d → Matches a (tree_after t us) d vs mid rest e → Matches a t c (us ++ vs) bs rest e
Matches-append a t c [] vs bs mid rest d e h k = rw (h.same, h.clock) k
Matches-append a t c (u ∷ us) vs bs mid rest d e (inl h) k = inl (record {
  own = h.own;
  batch = h.batch;
  others = h.others;
  front = h.front;
  first = h.first;
  bodies = h.bodies;
  more = Matches-append a (fold t u.bodies) (c + length u.bodies) us vs h.others mid rest d e h.more k;
})
Matches-append a t c (u ∷ us) vs bs mid rest d e (inr h) k = inr (record {
  other = h.other;
  more = Matches-append a (fold t u.bodies) c us vs bs mid rest d e h.more k;
})

-- where the updates are cut in two
pub record Cut (a : ℕ) (t : Nodes) (c : ℕ) (us vs : List Update) (bs rest : List Batch) (e : ℕ) : Type 0 where
  pub mid : List Batch
  pub clock : ℕ
  pub front : Matches a t c us bs mid clock
  pub back : Matches a (tree_after t us) clock vs mid rest e

pub Matches-cut : (a : ℕ) (t : Nodes) (c : ℕ) (us vs : List Update) (bs rest : List Batch) (e : ℕ)
    → Matches a t c (us ++ vs) bs rest e → Cut a t c us vs bs rest e
Matches-cut a t c [] vs bs rest e h = record { mid = bs; clock = c; front = record { same = refl; clock = refl }; back = h }
Matches-cut a t c (u ∷ us) vs bs rest e (inl h) =
    let k = Matches-cut a (fold t u.bodies) (c + length u.bodies) us vs h.others rest e h.more in
    record { mid = k.mid; clock = k.clock; front = inl (record { own = h.own; batch = h.batch; others = h.others; front = h.front; first = h.first; bodies = h.bodies; more = k.front }); back = k.back }
Matches-cut a t c (u ∷ us) vs bs rest e (inr h) =
    let k = Matches-cut a (fold t u.bodies) c us vs bs rest e h.more in
    record { mid = k.mid; clock = k.clock; front = inr (record { other = h.other; more = k.front }); back = k.back }

-- batches that are issued later are left
pub Matches-issue : (a : ℕ) (t : Nodes) (c : ℕ) (us : List Update) (bs rest cs : List Batch) (e : ℕ)
    → Matches a t c us bs rest e → Matches a t c us (bs ++ cs) (rest ++ cs) e
Matches-issue a t c [] bs rest cs e h = record { same = ap (λ ds. ds ++ cs) h.same; clock = h.clock }
Matches-issue a t c (u ∷ us) bs rest cs e (inl h) = inl (record {
  own = h.own;
  batch = h.batch;
  others = h.others ++ cs;
  front = ap (λ ds. ds ++ cs) h.front;
  first = h.first;
  bodies = h.bodies;
  more = Matches-issue a (fold t u.bodies) (c + length u.bodies) us h.others rest cs e h.more;
})
Matches-issue a t c (u ∷ us) bs rest cs e (inr h) = inr (record { other = h.other; more = Matches-issue a (fold t u.bodies) c us bs rest cs e h.more })

pub length-settle_all : (t : Nodes) (bs : List Body) → length (settle_all t bs) ≡ length bs
length-settle_all t [] = refl
length-settle_all t (b ∷ bs) = ap suc (length-settle_all (step t (settled_body t b)) bs)

-- what the updates leave is what lies beyond the clock
pub record Left (c e : ℕ) (bs rest : List Batch) : Type 0 where
  pub is : beyond e bs ≡ rest
  pub above : c ≤ e
  pub chain : RunsOn e rest
  pub end : upto e rest ≡ upto c bs
  pub front : List Batch
  pub parts : bs ≡ front ++ rest
  pub front_end : upto c front ≡ e

pub left : (a : ℕ) (t : Nodes) (c : ℕ) (us : List Update) (bs rest : List Batch) (e : ℕ)
    → RunsOn c bs → Matches a t c us bs rest e → Left c e bs rest
left a t c [] bs rest e h m = record {
  is = rw (← m.clock) (beyond_none c c bs h (omega arith) ∙ m.same);
  above = omega arith;
  chain = rw (← m.clock, ← m.same) h;
  end = rw (← m.clock, ← m.same) refl;
  front = [];
  parts = m.same;
  front_end = m.clock;
}
left a t c (u ∷ us) bs rest e h (inl m) =
    let n : length u.bodies ≡ length m.batch.bodies = ap length m.bodies ∙ length-settle_all t m.batch.bodies in
    let k : RunsOn c (m.batch ∷ m.others) = subst (RunsOn c) m.front h in
    let l = left a (fold t u.bodies) (c + length u.bodies) us m.others rest e (rw n k.more) m.more in
    record {
      is = rw m.front (beyond_one c e m.batch m.others k (rw (← n) l.above) ∙ l.is);
      above = omega (arith, l.above);
      chain = l.chain;
      end = l.end ∙ rw (n, m.front) refl;
      front = m.batch ∷ l.front;
      parts = m.front ∙ ap (λ ds. m.batch ∷ ds) l.parts;
      front_end = rw (← n) l.front_end;
    }
left a t c (u ∷ us) bs rest e h (inr m) = left a (fold t u.bodies) c us bs rest e h m.more

pub last_after_is : (a : ℕ) (t : Nodes) (c : ℕ) (us : List Update) (bs rest : List Batch) (e : ℕ)
    → RunsOn c bs → Matches a t c us bs rest e → last_after a c us ≡ e
last_after_is a t c [] bs rest e h m = m.clock
last_after_is a t c (u ∷ us) bs rest e h (inl m) =
    let n : length u.bodies ≡ length m.batch.bodies = ap length m.bodies ∙ length-settle_all t m.batch.bodies in
    let k : RunsOn c (m.batch ∷ m.others) = subst (RunsOn c) m.front h in
    let f : u.first ≡ c + 1 = m.first ∙ k.first in
    let g : u.first + length u.bodies - 1 ≡ c + length u.bodies = omega arith in
    rw (eq-eqb u.actor a m.own) (rw g (last_after_is a (fold t u.bodies) (c + length u.bodies) us m.others rest e (rw n k.more) m.more))
last_after_is a t c (u ∷ us) bs rest e h (inr m) =
    rw (ne_eqb u.actor a m.other) (last_after_is a (fold t u.bodies) c us bs rest e h m.more)

pub silent_matches : (a : ℕ) (t : Nodes) (us : List Update) (bs : List Batch) (c : ℕ) → Silent a us → Matches a t c us bs bs c
silent_matches a t [] bs c h = record { same = refl; clock = refl }
silent_matches a t (u ∷ us) bs c h = inr (record { other = h.other; more = silent_matches a (fold t u.bodies) us bs c h.more })
