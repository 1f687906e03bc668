-- What a planning of operations does, by what the log takes of them.
use Rattle.std.specs.Prelude.{◌≡◌, ◌+◌, ℕ, nat_le, if◌then◌else◌, List, [], ◌∷◌, Option, Some, None}
use Rattle.room_nodes.specs.declared.nodes.Op.{Op}
use Rattle.room_nodes.specs.Shape.{Nodes}
use Rattle.room_nodes.specs.Steps.{settle_all}
use Rattle.room_log.specs.Log.{State, Update, Entry, Updated, ops_of, bodies_of}
use Rattle.room_log.specs.Taking.{Taken, Nothing, Gap, Takes, rest_beyond}
use Rattle.room_store.specs.declared.fault.Cause.{Cause}
use Rattle.room_store.specs.declared.fault.StoreFault.{StoreFault}
use Rattle.room_store.specs.declared.fault.StoreFault.TheVariants as fault
use Rattle.room_store.specs.declared.taking.News.{News}
use Rattle.room_store.specs.declared.taking.News.TheVariants as here
use Rattle.room_store.specs.declared.taking.Taken.{Taken as Answer}
use Rattle.room_store.specs.declared.taking.Taken.TheVariants as answer

-- what is new of operations: nothing, or a gap of the clocks, or they run on
abbrev pub news_in : List Op → Option (ℕ × ℕ) → News
news_in [] gap = here.Nothing
news_in (o ∷ os) (Some gap) = here.Gap gap.0 gap.1
news_in (o ∷ os) None = here.RunOn

-- the update that those beyond the last clock become
abbrev pub new_update : Nodes → (actor last : ℕ) → List Op → Update
new_update t actor last os = record {
  actor = actor;
  first = last + 1;
  bodies = settle_all t (bodies_of (rest_beyond last os));
}

-- with what it is refused, but for want of memory: a gap of the clocks, and then, where something is taken, a count of
-- updates that has reached the limit
abbrev pub taken_refusal : (count limit : ℕ) → Taken → Option StoreFault
taken_refusal count limit Nothing = None
taken_refusal count limit (Gap expected got) = Some (fault.Gap expected got)
taken_refusal count limit (Takes u) = if nat_le limit count then Some (fault.Full count) else None

-- a broken store answers so
abbrev pub plan_refusal : Option Cause → (count limit : ℕ) → Taken → Option StoreFault
plan_refusal (Some c) count limit taken = Some (fault.Broken c)
plan_refusal None count limit taken = taken_refusal count limit taken

-- which entries it adds to the group
abbrev pub entries_of : Taken → List Entry
entries_of Nothing = []
entries_of (Gap expected got) = []
entries_of (Takes u) = Updated u ∷ []

-- what it answers of a state, where it isn't refused
abbrev pub IsAnswer : State → Taken → Answer → Type 0
IsAnswer s Nothing r = r ≡ answer.Nothing
IsAnswer s (Gap expected got) r = ⊥
IsAnswer s (Takes u) r = r ≡ answer.Update (s.count + 1) (ops_of u)
