-- A text that runs no line.
use Rattle.std.proofs.Common.{◌≡◌, ◌≤◌, ◌⊎◌, inl, inr, ℕ, Bool, true, false, cond, List, length, Option}
use Rattle.std.proofs.Common.{refl, sym, subst, arith}
use Rattle.std.specs.Prelude.{nat_lt}
use Rattle.std.specs.Io.KnownBytes.{Appends}
use Rattle.room_replay.specs.Files.{Files}
use Rattle.room_script.specs.Grammar.{schedule_in}
use Rattle.room_top.specs.Commands.{Task, TooLong, BadLine, as_task, task_in}
use Rattle.room_top.specs.Ending.{Ends, IsOwn}
use Rattle.room_top.specs.Outcome.{outcome_of}
use Rattle.room_top.specs.Refusing.{IsRefusal, Refuses}
use Rattle.room_top.specs.declared.reporting.Refusal.{Refusal}
use Rattle.room_top.specs.declared.reporting.Refusal.TheVariants as refusal
use Rattle.room_top.proofs.Ending.{ends_short, ends_by}
use Rattle.room_top.proofs.Tasks.{short}

pub which_refused : (r : Refusal) (fs : Files) (old now : Option (List ℕ)) (status : ℕ) → Refuses r fs old now status
    → (status ≡ 1) ⊎ (status ≡ 4) ⊎ (status ≡ 6) ⊎ (status ≡ 11)
which_refused refusal.Memory fs old now status h = inl h.0
which_refused refusal.TooLong fs old now status h = of h.which
  where
    of : (status ≡ 11) ⊎ (status ≡ 1) ⊎ (status ≡ 4) → (status ≡ 1) ⊎ (status ≡ 4) ⊎ (status ≡ 6) ⊎ (status ≡ 11)
    of (inl e) = inr (inr (inr e))
    of (inr (inl e)) = inl e
    of (inr (inr e)) = inr (inl e)
which_refused (refusal.BadLine k) fs old now status h = of h.which
  where
    of : (status ≡ 6) ⊎ (status ≡ 1) ⊎ (status ≡ 4) → (status ≡ 1) ⊎ (status ≡ 4) ⊎ (status ≡ 6) ⊎ (status ≡ 11)
    of (inl e) = inr (inr (inl e))
    of (inr (inl e)) = inl e
    of (inr (inr e)) = inr (inl e)

pub ends_refused : (r : Refusal) (fs : Files) (task : Task) (old now : Option (List ℕ)) (status : ℕ) → IsRefusal task r
    → Refuses r fs old now status → Ends fs task (outcome_of fs task) ⊥ old now status
ends_refused refusal.Memory fs task old now status is h =
    ends_short fs task (outcome_of fs task) ⊥ old now status (inl h.0) (0, h.1)
ends_refused refusal.TooLong fs task old now status is h =
    subst (λ (t : Task). Ends fs t (outcome_of fs t) ⊥ old now status) (sym is)
    (ends_by fs TooLong (outcome_of fs TooLong) ⊥ old now 11 status refl
    (λ e. omega (arith, e), λ e. omega (arith, e), λ e. omega (arith, e), λ e. omega (arith, e)) h.which h.all h.part)
ends_refused (refusal.BadLine k) fs task old now status is h =
    subst (λ (t : Task). Ends fs t (outcome_of fs t) ⊥ old now status) (sym is)
    (ends_by fs (BadLine k) (outcome_of fs (BadLine k)) ⊥ old now 6 status refl
    (λ e. omega (arith, e), λ e. omega (arith, e), λ e. omega (arith, e), λ e. omega (arith, e)) h.which h.all h.part)

own_is : (status : ℕ) → (status ≡ 6) ⊎ (status ≡ 11) → IsOwn status
own_is status (inl six) =
    (λ e. omega (arith, e, six), λ e. omega (arith, e, six), λ e. omega (arith, e, six), λ e. omega (arith, e, six))
own_is status (inr eleven) = (
  λ e. omega (arith, e, eleven),
  λ e. omega (arith, e, eleven),
  λ e. omega (arith, e, eleven),
  λ e. omega (arith, e, eleven),
)

pub own_refused : (r : Refusal) (fs : Files) (task : Task) (old now : Option (List ℕ)) (status : ℕ) → IsRefusal task r
    → Refuses r fs old now status → (status ≡ 6) ⊎ (status ≡ 11)
    → (status ≡ (outcome_of fs task).status) × Appends old now (outcome_of fs task).text
own_refused r fs task old now status is h own = (ends_refused r fs task old now status is h).own (own_is status own)

-- a bad line is told of an input that isn't too long

bad_by : (long : Bool) (bs : List ℕ) (k : ℕ) → nat_lt 16777216 (length bs) ≡ long
    → cond long TooLong (as_task (schedule_in bs)) ≡ BadLine k → length bs ≤ 16777216
bad_by true bs k is bad = cc
bad_by false bs k is bad = short (length bs) is

pub short_refused : (r : Refusal) (fs : Files) (bs : List ℕ) (old now : Option (List ℕ)) (status : ℕ)
    → IsRefusal (task_in bs) r → Refuses r fs old now status
    → (status ≡ 0) ⊎ (status ≡ 5) ⊎ (status ≡ 6) ⊎ (status ≡ 7) → length bs ≤ 16777216
short_refused refusal.Memory fs bs old now status is h own = absurd (omega (arith, h.0, own))
short_refused refusal.TooLong fs bs old now status is h own = absurd (omega (arith, h.which, own))
short_refused (refusal.BadLine k) fs bs old now status is h own =
    bad_by (nat_lt 16777216 (length bs)) bs k refl is
