-- The own operations of an actor beyond the last acknowledged clock: issued batches, and the open one.
use Rattle.std.specs.Prelude.{ℕ, ◌+◌, if◌then◌else◌, List, [], ◌∷◌, ◌++◌, length, Option, Some, None}
use Rattle.room_nodes.specs.declared.nodes.Op.{Op}
use Rattle.room_nodes.specs.declared.nodes.Body.{Body}
use Rattle.room_log.specs.Log.{ops_from}
use Rattle.room_model.specs.Account.{Batch, all_ops, all_bodies, beyond, ends, is_some_list}

-- told: the last acknowledged clock
pub record Own : Type 0 where
  pub actor : ℕ
  pub told : ℕ
  pub issued : List Batch
  pub batch : Option (List Body)

abbrev pub new_own : ℕ → Own
new_own a = record { actor = a; told = 0; issued = []; batch = None }

abbrev pub opened : Option (List Body) → List Body
opened None = []
opened (Some bs) = bs

-- the last clock that was issued
abbrev pub end_of : Own → ℕ
end_of s = ends s.told s.issued

abbrev pub own_ops : Own → List Op
own_ops s = all_ops s.actor s.issued ++ ops_from s.actor (end_of s + 1) (opened s.batch)

abbrev pub own_bodies : Own → List Body
own_bodies s = all_bodies s.issued ++ opened s.batch

-- batches with an operation, the open one too
abbrev pub own_batches : Own → ℕ
own_batches s = length s.issued + (if is_some_list (opened s.batch) then 1 else 0)

-- the clock of the next operation
abbrev pub next_clock : Own → ℕ
next_clock s = end_of s + 1 + length (opened s.batch)

-- operations go into the open batch, or open one
abbrev pub added : Own → List Body → Own
added s bs = record s { batch = Some (opened s.batch ++ bs) }

abbrev pub batch_after : ℕ → List Body → Batch
batch_after c bs = record { first = c + 1; bodies = bs }

-- a batch of these operations after a clock; none where there are none
abbrev pub batches_after : ℕ → List Body → List Batch
batches_after c [] = []
batches_after c (b ∷ bs) = batch_after c (b ∷ bs) ∷ []

-- the open batch is issued, where it holds an operation
abbrev pub sealed_at : Own → Option (List Body) → Own
sealed_at s None = s
sealed_at s (Some bs) = record s { issued = s.issued ++ batches_after (end_of s) bs; batch = None }

abbrev pub sealed_own : Own → Own
sealed_own s = sealed_at s s.batch

-- the operations up to a clock are acknowledged
abbrev pub acknowledged : Own → ℕ → Own
acknowledged s c = record s { told = c; issued = beyond c s.issued }
