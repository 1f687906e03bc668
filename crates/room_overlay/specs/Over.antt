-- An overlay: the overlay's part of a client's account, and what each call makes of it.
--
-- The entries are `added_to` and `sealed` (local operations), `load` and `update` (a state and an update from the
-- server), with their tests in this order: a state's number, then its acknowledged clock, isn't below what is kept, and
-- that clock was issued; an update has the next number, and its own clocks run on and were issued.
use Rattle.std.specs.Prelude.{◌≡◌, ℕ, ◌+◌, ◌==◌, Bool, ◌&&◌, if◌then◌else◌, nat_lt, List, [], Option, Some, None}
use Rattle.std.specs.Prelude.{Result, Ok, Err}
use Rattle.std.specs.Prelude.{⊤}
use Rattle.room_nodes.specs.declared.nodes.Op.{Op}
use Rattle.room_nodes.specs.declared.nodes.Body.{Body}
use Rattle.room_nodes.specs.Shape.{Nodes}
use Rattle.room_nodes.specs.Steps.{fold}
use Rattle.room_nodes.specs.Cells.{is_apart}
use Rattle.room_log.specs.Log.{bodies_of, ops_from}
use Rattle.room_model.specs.Account.{Batch, beyond}
use Rattle.room_model.specs.Receive.{FrameFault, Gap, AccountFault, told_by, none_own}
use Rattle.room_overlay.specs.Own.{Own, own_ops, own_bodies, own_batches, end_of, opened, added, sealed_own}
use Rattle.room_overlay.specs.Own.{next_clock as next_of}
use Rattle.room_overlay.specs.declared.faults.OverFault.{OverFault}
use Rattle.room_overlay.specs.declared.faults.OverFault.TheVariants.{Memory, Gap as GapFault, Account as KeptFault}

pub record Over : Type 0 where
  pub actor : ℕ
  pub n : ℕ  -- the number of the last update taken
  pub told : ℕ  -- the last acknowledged clock
  pub confirmed : Nodes  -- the tree after that update
  pub issued : List Batch  -- the closed batches beyond `told`
  pub batch : Option (List Body)  -- the open one

abbrev pub new_over : Nodes → ℕ → Over
new_over t a = record { actor = a; n = 0; told = 0; confirmed = t; issued = []; batch = None }

-- what it says of itself

abbrev pub own : Over → Own
own o = record { actor = o.actor; told = o.told; issued = o.issued; batch = o.batch }

abbrev pub with_own : Over → Own → Over
with_own o s = record o { actor = s.actor; told = s.told; issued = s.issued; batch = s.batch }

abbrev pub last_issued : Over → ℕ
last_issued o = end_of (own o)

abbrev pub next_clock : Over → ℕ
next_clock o = next_of (own o)

abbrev pub pending : Over → List Op
pending o = own_ops (own o)

-- those of the open batch
abbrev pub opened_ops : Over → List Op
opened_ops o = ops_from o.actor (last_issued o + 1) (opened o.batch)

abbrev pub pending_bodies : Over → List Body
pending_bodies o = own_bodies (own o)

-- the confirmed tree with the own operations on top
abbrev pub shown : Over → Nodes
shown o = fold o.confirmed (pending_bodies o)

abbrev pub unacknowledged : Over → ℕ
unacknowledged o = own_batches (own o)

-- operations of another actor that have no cell in common with what is pending
abbrev pub stands_apart : Over → List Op → Bool
stands_apart o os = none_own o.actor os && is_apart o.confirmed (bodies_of os) (pending_bodies o)

-- local operations

abbrev pub added_to : Over → List Body → Over
added_to o bs = with_own o (added (own o) bs)

abbrev pub sealed : Over → Over
sealed o = with_own o (sealed_own (own o))

-- a state

-- what is kept, and what came instead
abbrev pub state_fault : Over → ℕ → ℕ → Option (ℕ × ℕ)
state_fault o n last =
    if nat_lt n o.n then Some (o.n, n) else (
    if nat_lt last o.told then Some (o.told, last) else (
    if nat_lt (last_issued o) last then Some (last_issued o, last) else None))

abbrev pub loaded : Over → ℕ → ℕ → Nodes → Over
loaded o n last t = record o { n = n; told = last; confirmed = t; issued = beyond last o.issued }

abbrev pub load_at : Over → ℕ → ℕ → Nodes → Option (ℕ × ℕ) → Result Over FrameFault
load_at o n last t (Some fault) = Err (AccountFault fault.0 fault.1)
load_at o n last t None = Ok (loaded o n last t)

abbrev pub load : Over → ℕ → ℕ → Nodes → Result Over FrameFault
load o n last t = load_at o n last t (state_fault o n last)

-- an update

abbrev pub updated : Over → List Op → ℕ → Over
updated o os told = record o {
  n = o.n + 1;
  told = told;
  confirmed = fold o.confirmed (bodies_of os);
  issued = beyond told o.issued;
}

abbrev pub update_told : Over → List Op → Result ℕ (ℕ × ℕ) → Result Over FrameFault
update_told o os (Err fault) = Err (AccountFault fault.0 fault.1)
update_told o os (Ok told) = Ok (updated o os told)

abbrev pub update : Over → ℕ → List Op → Result Over FrameFault
update o n os =
    if n == o.n + 1 then update_told o os (told_by o.actor (last_issued o) o.told os) else Err (Gap (o.n + 1) n)

-- a fault that stands for a refusal; out of memory may come at any time
abbrev pub IsFaultOf : {A : Type 0} → Result A FrameFault → OverFault → Type 0
IsFaultOf r Memory = ⊤
IsFaultOf r (GapFault expected got) = r ≡ Err (Gap expected got)
IsFaultOf r (KeptFault kept got) = r ≡ Err (AccountFault kept got)
