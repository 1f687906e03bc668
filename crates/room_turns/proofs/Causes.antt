-- Counts over several calls.
use Rattle.std.proofs.Common.{◌≡◌, ◌≤◌, ◌+◌, ℕ, Bool, sym, ap, ◌∙◌, subst, arith, List}
use Rattle.std.proofs.Math.Nat.{le_trans}
use Rattle.std.specs.Prelude.{Result, Ok, Err, IsErrOf, IfErr}
use Rattle.room_hub.specs.declared.hub.Happening.{Happening}
use Rattle.room_edge.specs.Causes.{Rose}
use Rattle.room_edge.specs.Memory.{next}
use Rattle.room_turns.specs.Faults.{NextFailed, IsOfOpening}
use Rattle.room_turns.specs.declared.fault.ServeFault.{ServeFault}
use Rattle.room_turns.specs.declared.fault.ServeFault.TheVariants.{Memory, Disk, Hub}

pub rose_from : (was before now : ℕ) → was ≤ before → Rose before now → Rose was now
rose_from was before now h rose = omega (arith, h, rose)

pub rose_to : (before now is : ℕ) → Rose before now → now ≤ is → Rose before is
rose_to before now is rose h = le_trans rose h

pub next_most : (n : ℕ) → next n ≤ n + 1
next_most n = omega arith

pub not_disk : {T : Type 0} (r : Result T ServeFault) → r ≡ Err Memory → IsErrOf r Disk → ⊥
not_disk {T = T} r is h = at (subst (λ (s : Result T ServeFault). IsErrOf s Disk) is h)
  where
    at : IsErrOf {T = T} (Err Memory) Disk → ⊥
    at e = cc

pub failed_within : {H : Type 0} (tells : Bool) (happened : H → List Happening) (asked faults : H → ℕ)
    (first was is last : H) → faults first ≤ faults was → faults is ≤ faults last
    → NextFailed tells happened asked faults was is → NextFailed tells happened asked faults first last
failed_within tells happened asked faults first was is last low high f = record {
  before = f.before;
  behind = f.behind;
  since = le_trans low f.since;
  till = le_trans f.till high;
  rose = f.rose;
  asks = f.asks;
  failed = f.failed;
}

pub not_disk_hub : {T : Type 0} → IsErrOf {T = T} (Err Hub) Disk → ⊥
not_disk_hub h = cc

-- the same fault, handed on

same_err : {T U : Type 0} (f e : ServeFault) → IsErrOf {T = T} (Err f) e → IsErrOf {T = U} (Err f) e
same_err {T = T} f e h = ap (λ (x : ServeFault). Err x) (inside f e h)
  where
    inside : (a b : ServeFault) → IsErrOf {T = T} (Err a) b → a ≡ b
    inside a b i = cc i

pub handed_on : {T U : Type 0} (r : Result T ServeFault) (q : Result U ServeFault) (f e : ServeFault) → r ≡ Err f
    → q ≡ Err f → IsErrOf r e → IsErrOf q e
handed_on {T = T} {U = U} r q f e a b h =
    subst (λ (x : Result U ServeFault). IsErrOf x e) (sym b)
    (same_err {T = T} {U = U} f e (subst (λ (x : Result T ServeFault). IsErrOf x e) a h))

pub no_hub : {T : Type 0} (r : Result T ServeFault) (f : ServeFault) → r ≡ Err f → IsOfOpening f → IsErrOf r Hub → ⊥
no_hub {T = T} r f a of h = subst IsOfOpening (inside f (sym a ∙ h)) of
  where
    inside : (b : ServeFault) → IsErrOf {T = T} (Err b) Hub → b ≡ Hub
    inside b i = cc i

pub all_errs : {T : Type 0} (r : Result T ServeFault) (P : ServeFault → Type 0) → ((e : ServeFault) → P e) → IfErr r P
all_errs (Ok x) P h = tt
all_errs (Err e) P h = h e
