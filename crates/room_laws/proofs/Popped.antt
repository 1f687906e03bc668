-- What is left of a inbound queue, once its first frame is taken.
use Rattle.std.proofs.Common.{◌≡◌, ℕ, ◌+◌, ◌<◌, ◌≤◌, ◌⊎◌, inl, inr, max, List, [], ◌∷◌, ◌++◌, length, refl, ap, ◌∙◌, subst, arith}
use Rattle.std.specs.Prelude.{Ok}
use Rattle.room_nodes.specs.declared.nodes.Op.{Op}
use Rattle.room_nodes.specs.declared.nodes.Body
use Rattle.room_msg.specs.declared.messages.ClientMsg.{ClientMsg}
use Rattle.room_msg.specs.declared.messages.ClientMsg.TheVariants as client
use Rattle.room_msg.specs.declared.messages.ClientFrame.TheVariants as frame
use Rattle.room_nodes.specs.Steps.{settle_all}
use Rattle.room_log.specs.Log.{State, ops_from, last_of}
use Rattle.room_log.specs.Taking.{Nothing, Takes, take}
use Rattle.room_model.specs.Account.{Batch, last_clock}
use Rattle.room_model.specs.Server.{Inbound}
use Rattle.room_model.specs.Sound.{RunsOn}
use Rattle.room_laws.specs.Ledger.{In, upto}
use Rattle.room_laws.specs.Queues.{InOrder}
use Rattle.room_laws.proofs.Batches.{Runs-back, old_or_next}
use Rattle.room_laws.proofs.Ops.{take_old, take_new}

-- a message that isn't one of operations
abbrev pub IsTalk : ClientMsg → Type 0
IsTalk (client.Hello h) = ⊥
IsTalk (client.Presence target patch) = Unit {0}
IsTalk (client.Broadcast event) = Unit {0}
IsTalk client.Fetch = Unit {0}
IsTalk (client.Update os) = ⊥

-- Operations that come first are a batch that the log has, or the next one: the server takes it whole. `accepted` is what it took so far.
pub record Batched (s : State) (a : ℕ) (accepted rest : List Batch) (all : List Batch) (c : ℕ) (os : List Op) (q : List Inbound) (e : ℕ) : Type 0 where
  pub outcome : ((take s a os ≡ Nothing) × InOrder a a all c q e)
      ⊎ record {
        batch : Batch;
        more : List Batch;
        next : rest ≡ batch ∷ more;
        some : 0 < length batch.bodies;
        first : batch.first ≡ c + 1;
        takes : take s a os ≡ Takes (record { actor = a; first = batch.first; bodies = settle_all s.tree batch.bodies });
        left : InOrder a a all (c + length batch.bodies) q e;
      }

runs_at : (c : ℕ) (accepted rest : List Batch) (b : Batch) (more : List Batch) → RunsOn 0 (accepted ++ rest) → upto 0 accepted ≡ c → rest ≡ b ∷ more → RunsOn c (b ∷ more)
runs_at c accepted rest b more h e f = subst (λ i. RunsOn i (b ∷ more)) e (Runs-back 0 accepted (b ∷ more) (subst (λ bs. RunsOn 0 (accepted ++ bs)) f h))

in_runs : (c : ℕ) (bs : List Batch) (b : Batch) → RunsOn c bs → In b bs → 0 < length b.bodies
in_runs c [] b h i = absurd i
in_runs c (x ∷ xs) b h (inl e) = rw e h.some
in_runs c (x ∷ xs) b h (inr i) = in_runs (c + length x.bodies) xs b h.more i

takes_batch : (s : State) (a : ℕ) (b : Batch) (n : List Body.Body) → 0 < length n → b.bodies ≡ n → b.first ≡ last_of s.sessions a + 1
    → take s a (ops_from a b.first b.bodies) ≡ Takes (record { actor = a; first = b.first; bodies = settle_all s.tree b.bodies })
takes_batch s a b [] p e f = absurd (omega arith)
takes_batch s a b (x ∷ xs) p e f = rw e (take_new s a b.first x xs f)

-- the frame of operations that comes first, at the last clock c that the log has of the actor
pub batched : (s : State) (a : ℕ) (accepted rest all : List Batch) (c : ℕ) (os : List Op) (q : List Inbound) (e : ℕ) → all ≡ accepted ++ rest → RunsOn 0 all → upto 0 accepted ≡ c → last_of s.sessions a ≡ c
    → InOrder a a all c (Ok (frame.Msgs (client.Update os ∷ [])) ∷ q) e → Batched s a accepted rest all c os q e
batched s a accepted rest all c os q e whole chain clock last h = by_case (old_or_next 0 accepted rest h.batch (subst (RunsOn 0) whole chain) (subst (λ bs. In h.batch bs) whole h.issued) (omega (arith, h.begins, clock)))
  where
    some : 0 < length h.batch.bodies
    some = in_runs 0 all h.batch chain h.issued

    by_case : (last_clock h.batch ≤ upto 0 accepted) ⊎ ((more : List Batch) × (rest ≡ h.batch ∷ more)) → Batched s a accepted rest all c os q e
    by_case (inl l) =
        let old : take s a os ≡ Nothing = ap (take s a) h.ops ∙ take_old s a h.batch.first h.batch.bodies (omega (arith, l, clock, last)) in
        let same : max c (last_clock h.batch) ≡ c = omega (arith, l, clock) in
        record { outcome = inl (old, subst (λ i. InOrder a a all i q e) same h.more) }
    by_case (inr n) =
        let run : RunsOn c (h.batch ∷ n.0) = runs_at c accepted rest h.batch n.0 (subst (RunsOn 0) whole chain) clock n.1 in
        let same : max c (last_clock h.batch) ≡ c + length h.batch.bodies = omega (arith, run.first, some) in
        record {
          outcome = inr (record {
            batch = h.batch;
            more = n.0;
            next = n.1;
            some = some;
            first = run.first;
            takes = ap (take s a) h.ops ∙ takes_batch s a h.batch h.batch.bodies some refl (omega (arith, run.first, last));
            left = subst (λ i. InOrder a a all i q e) same h.more;
          });
        }
