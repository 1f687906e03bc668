-- The parts of serving: where the model stands before one of them, and what happens on the hub from there.
use Rattle.std.specs.Prelude.{◌≡◌, ◌≤◌, ℕ, false, List, [], ◌++◌, length, Result, IsErrOf}
use Rattle.room_hub.specs.declared.hub.Event.{Event}
use Rattle.room_hub.specs.declared.hub.Happening.{Happening}
use Rattle.room_log.specs.Log.{Entry}
use Rattle.room_model.specs.Server.{Outbound, Server}
use Rattle.room_serving.specs.Serving.{Serving, Serves, Ending, served}
use Rattle.room_turns.specs.Breaking.{is_midway}
use Rattle.room_turns.specs.declared.fault.ServeFault.{ServeFault}
use Rattle.room_turns.specs.declared.fault.ServeFault.TheVariants.{Disk}

-- while events are gathered
abbrev pub gathering : Server → (left : ℕ) → Ending → List Event → (groups : List (List Entry)) → (owed : ℕ) → Serving
gathering v left ending es groups owed = record {
  server = v;
  left = left;
  ending = ending;
  gathered = es;
  todo = [];
  lost = [];
  groups = groups;
  owed = owed;
}

-- while the outs of a turn are tried
abbrev pub trying : Server → (left : ℕ) → Ending → (todo : List (ℕ × Outbound)) → (lost : List ℕ)
    → (groups : List (List Entry)) → (owed : ℕ) → Serving
trying v left ending todo lost groups owed = record {
  server = v;
  left = left;
  ending = ending;
  gathered = [];
  todo = todo;
  lost = lost;
  groups = groups;
  owed = owed;
}

-- what happened leads from the one to the other, and breaks off no turn
pub record Leads (m : Serving) (was is : List Happening) (n : Serving) : Type 0 where
  pub happened : List Happening
  pub happened_is : is ≡ was ++ happened
  pub serves : Serves m happened
  pub leads : served m happened ≡ n
  pub unbroken : is_midway m false happened ≡ false

-- what happened ends somewhere on the way; all turns that were there are there, and of no other anything is sent
pub record Begins (m : Serving) (was is : List Happening) : Type 0 where
  pub happened : List Happening
  pub happened_is : is ≡ was ++ happened
  pub serves : Serves m happened
  pub more : List (List Entry)
  pub groups : (served m happened).groups ≡ m.groups ++ more
  pub owed : m.owed ≤ length m.groups → (served m happened).owed ≤ length m.groups

-- the same by the fault that ended it
pub record Stops {T : Type 0} (m : Serving) (was is : List Happening) (result : Result T ServeFault) : Type 0 where
  pub begins : Begins m was is
  pub unbroken : IsErrOf result Disk → is_midway m false begins.happened ≡ false
