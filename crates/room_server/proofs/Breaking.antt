-- What a fault of the store becomes.
use Rattle.std.proofs.Common.{◌≡◌, inr, ℕ, Bool, true, false, refl, ap}
use Rattle.std.specs.Prelude.{Option, Some, None, Result, Ok, Err, IsErrOf}
use Rattle.room_store.specs.declared.fault.Cause.{Cause}
use Rattle.room_store.specs.declared.fault.Cause.TheVariants as by
use Rattle.room_store.specs.declared.fault.StoreFault.{StoreFault}
use Rattle.room_store.specs.declared.fault.StoreFault.TheVariants as store
use Rattle.room_store.specs.Faults as stored
use Rattle.room_server.specs.declared.fault.ServerFault.{ServerFault}
use Rattle.room_server.specs.declared.fault.ServerFault.TheVariants as server
use Rattle.room_server.specs.Faults.{as_server, cause_of, IsBroken, HasDiskCause}

abbrev answer : {T : Type 0} → StoreFault → Result T StoreFault
answer e = Err e

abbrev told : {U : Type 0} → StoreFault → Result U ServerFault
told e = Err (as_server e)

module _ (T U : Type 0) where
  -- a commit

  pub broken_ok : (o n : Option Cause) (x : T) (y : U) → stored.IsBroken o n (Ok x) → IsBroken o n (Ok y)
  broken_ok None n x y is = is
  broken_ok (Some c) n x y is = (is.0, cc)

  pub broken_err : (o n : Option Cause) (e : StoreFault) → stored.IsBroken o n (answer {T = T} e) → IsBroken o n (told {U = U} e)
  broken_err (Some c) n e is =
      let same : e ≡ store.Broken c = cc in (is.0, ap (told {U = U}) same)
  broken_err None n store.Memory is = inr is
  broken_err None n store.Disk is = is
  broken_err None n (store.Broken c) is = is
  broken_err None n (store.Damaged f at) is = absurd is
  broken_err None n (store.Gap e g) is = absurd is
  broken_err None n (store.Full c) is = absurd is
  broken_err None n (store.SessionsFull c) is = absurd is

  -- a compaction

  pub full_ok : (o n : Option Cause) (x : T) (y : U) → stored.IsBrokenOrFull o n (Ok x) → IsBroken o n (Ok y)
  full_ok None n x y is = is
  full_ok (Some c) n x y is = (is.0, cc)

  pub full_err : (o n : Option Cause) (e : StoreFault) → stored.IsBrokenOrFull o n (answer {T = T} e) → IsBroken o n (told {U = U} e)
  full_err (Some c) n e is = broken_err (Some c) n e is
  full_err None n store.Memory is = is
  full_err None n store.Disk is = is
  full_err None n (store.Broken c) is = is
  full_err None n (store.Damaged f at) is = absurd is
  full_err None n (store.Gap e g) is = absurd is
  full_err None n (store.Full c) is = absurd is
  full_err None n (store.SessionsFull c) is = absurd is

  -- causes

  disk_of : (e : StoreFault) → IsErrOf (told {U = U} e) server.Disk → IsErrOf (answer {T = T} e) store.Disk
  disk_of store.Disk is = refl
  disk_of store.Memory is = cc
  disk_of (store.Broken c) is = cc
  disk_of (store.Damaged f at) is = cc
  disk_of (store.Gap e g) is = cc
  disk_of (store.Full n) is = cc
  disk_of (store.SessionsFull n) is = cc

  pub cause_err : {D : Type 0} (faults inner : D → ℕ) (stopped : D → Bool) (old new : D) (e : StoreFault)
      → stored.HasDiskCause faults inner stopped old new (answer {T = T} e) → HasDiskCause faults inner stopped old new (told {U = U} e)
  cause_err faults inner stopped old new e c = record {
    later = c.later;
    inner_later = c.inner_later;
    failed = λ is. c.failed (disk_of e is);
    inner_failed = λ on is. c.inner_failed on (disk_of e is);
  }

  pub cause_ok : {D : Type 0} (faults inner : D → ℕ) (stopped : D → Bool) (old new : D) (x : T) (y : U)
      → stored.HasDiskCause faults inner stopped old new (Ok x) → HasDiskCause faults inner stopped old new (Ok y)
  cause_ok faults inner stopped old new x y c = record {
    later = c.later;
    inner_later = c.inner_later;
    failed = λ is. c.failed cc;
    inner_failed = λ on is. c.inner_failed on cc;
  }

  -- of a commit `Memory` is the store's own
  pub memory_err : (o n : Option Cause) (e : StoreFault) → stored.IsBroken o n (answer {T = T} e)
      → IsErrOf (told {U = U} e) server.Memory → IsErrOf (answer {T = T} e) store.Memory
  memory_err o n store.Memory broken is = refl
  memory_err o n store.Disk broken is = cc
  memory_err o n (store.Broken c) broken is = cc
  memory_err None n (store.Damaged f at) broken is = absurd broken
  memory_err None n (store.Gap e g) broken is = absurd broken
  memory_err None n (store.Full c) broken is = absurd broken
  memory_err None n (store.SessionsFull c) broken is = absurd broken
  memory_err (Some d) n (store.Damaged f at) broken is = let not = broken.1 in cc
  memory_err (Some d) n (store.Gap e g) broken is = let not = broken.1 in cc
  memory_err (Some d) n (store.Full c) broken is = let not = broken.1 in cc
  memory_err (Some d) n (store.SessionsFull c) broken is = let not = broken.1 in cc

-- after Ok nothing is broken, and nothing was
pub whole_after : {T : Type 0} (o n : Option Cause) (x : T) → IsBroken o n (Ok x) → n ≡ None
whole_after None n x is = is
whole_after (Some c) n x is = let not = is.1 in cc

-- the same of a commit of a store
pub store_whole : {T : Type 0} (o n : Option Cause) (x : T) → stored.IsBroken o n (Ok x) → n ≡ None
store_whole None n x is = is
store_whole (Some c) n x is = let not = is.1 in cc

-- a commit that is out of memory breaks the store
pub memory_breaks : (T U : Type 0) (o n : Option Cause) (e : StoreFault) → stored.IsBroken o n (answer {T = T} e)
    → IsErrOf (told {U = U} e) server.Memory → n ≡ Some by.Memory
memory_breaks T U o n store.Disk broken is = cc
memory_breaks T U o n (store.Broken c) broken is = cc
memory_breaks T U None n store.Memory broken is = broken
memory_breaks T U None n (store.Damaged f at) broken is = absurd broken
memory_breaks T U None n (store.Gap e g) broken is = absurd broken
memory_breaks T U None n (store.Full c) broken is = absurd broken
memory_breaks T U None n (store.SessionsFull c) broken is = absurd broken
memory_breaks T U (Some d) n store.Memory broken is = let not = broken.1 in cc
memory_breaks T U (Some d) n (store.Damaged f at) broken is = let not = broken.1 in cc
memory_breaks T U (Some d) n (store.Gap e g) broken is = let not = broken.1 in cc
memory_breaks T U (Some d) n (store.Full c) broken is = let not = broken.1 in cc
memory_breaks T U (Some d) n (store.SessionsFull c) broken is = let not = broken.1 in cc

-- what breaks a server

pub unbroken : (spent : Bool) (o : Option Cause) → cause_of spent o ≡ None → o ≡ None
unbroken true o is = cc
unbroken false o is = is

pub caused : (spent : Bool) (o : Option Cause) → o ≡ Some by.Memory → cause_of spent o ≡ Some by.Memory
caused true o is = refl
caused false o is = is
