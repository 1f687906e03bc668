-- A store whose group has an entry more, or none.
use Rattle.std.proofs.Common.{◌≡◌, ℕ, List, [], ◌∷◌, ◌∙◌, refl, sym, ap, subst}
use Rattle.std.specs.Prelude.{Option, Some, None, Result, Ok, Err, OnOk}
use Rattle.room_log.specs.Log.{State}
use Rattle.room_log.specs.Follows.{IsValidState}
use Rattle.room_store.specs.Stored.{Grouped, held_state, LeadsTo, IsOpenFrom}
use Rattle.room_store.specs.Undoing.{undone, before_of, CanUndo, IsWhole}
use Rattle.room_store.specs.Faults.{IsBroken}
use Rattle.room_store.specs.declared.fault.Cause.{Cause}
use Rattle.room_store.specs.declared.fault.StoreFault.{StoreFault}
use Rattle.room_store.specs.declared.fault.StoreFault.TheVariants.{Broken, Memory, Disk, Damaged, Gap, Full, SessionsFull}
use Rattle.room_store.specs.declared.limits.Limits.{Limits}
use Rattle.room_store.specs.declared.undo.Undo.{Undo}
use Rattle.room_store.proofs.Undone.{held_undone}

undone_some : (s t : State) (us : List Undo) → before_of s us ≡ Some t → undone s us ≡ t
undone_some s t [] is = cc is
undone_some s t (u ∷ us) is = cc is

-- one more

pub held_as : (s t : State) (us vs : List Undo) → before_of t vs ≡ Some (undone s us) → before_of t vs ≡ Some (held_state (before_of s us) s)
held_as s t us vs is = is ∙ ap (λ v. Some v) (sym (held_undone s us))

pub held_kept : (s t : State) (us vs : List Undo) → before_of t vs ≡ Some (undone s us) → held_state (before_of t vs) t ≡ held_state (before_of s us) s
held_kept s t us vs is = ap (λ o. held_state o t) (held_as s t us vs is)

pub whole_more : (m n : ℕ) (s t : State) (us vs : List Undo) (limits : Limits) → IsWhole m s us limits → IsValidState t → before_of t vs ≡ Some (undone s us) → CanUndo n t vs
    → IsWhole n t vs limits
whole_more m n s t us vs limits whole valid is can = record {
  undo = can;
  valid = valid;
  valid_before = subst IsValidState (sym (undone_some t (undone s us) vs is)) whole.valid_before;
  bounded = whole.bounded;
}

-- the same

pub whole_same : (m n : ℕ) (s t : State) (us vs : List Undo) (limits : Limits) → IsWhole m s us limits → t ≡ s → vs ≡ us → CanUndo n t vs → IsWhole n t vs limits
whole_same m n s t us vs limits whole at is can = record {
  undo = can;
  valid = subst IsValidState (sym at) whole.valid;
  valid_before = subst (λ v. IsValidState (undone v vs)) (sym at) (subst (λ l. IsValidState (undone s l)) (sym is) whole.valid_before);
  bounded = whole.bounded;
}

pub before_same : (s t : State) (us vs : List Undo) → t ≡ s → vs ≡ us → before_of t vs ≡ before_of s us
before_same s t us vs at is = ap (λ v. before_of v vs) at ∙ ap (before_of s) is

-- none, and some

pub none_open : (s : State) (us : List Undo) → us ≡ [] → before_of s us ≡ None
none_open s us is = ap (before_of s) is

pub whole_none : (m n : ℕ) (s t : State) (us vs : List Undo) (limits : Limits) → IsWhole m s us limits → IsValidState t → vs ≡ [] → IsWhole n t vs limits
whole_none m n s t us vs limits whole valid is = record {
  undo = subst (CanUndo n t) (sym is) tt;
  valid = valid;
  valid_before = subst (λ l. IsValidState (undone t l)) (sym is) valid;
  bounded = whole.bounded;
}

pub open_leads : (s : State) (us : List Undo) (g : Grouped) → (us ≡ [] → ⊥) → IsOpenFrom (before_of s us) s g → LeadsTo (undone s us) s g
open_leads s [] g some is = absurd (some refl)
open_leads s (u ∷ us) g some is = is

pub open_from : (s : State) (us : List Undo) (g : Grouped) → (us ≡ [] → ⊥) → IsOpenFrom (before_of s us) s g → LeadsTo (held_state (before_of s us) s) s g
open_from s [] g some is = absurd (some refl)
open_from s (u ∷ us) g some is = is

pub some_before : (s t : State) (us : List Undo) → before_of s us ≡ Some t → undone s us ≡ t
some_before s t us is = undone_some s t us is

-- what a whole store says of the answer that left it

pub old_whole : {T : Type 0} (old new : Option Cause) (r : Result T StoreFault) → IsBroken old new r → new ≡ None → old ≡ None
old_whole None new r is none = refl
old_whole (Some c) new r is none = cc (is.0, none)

pub whole_ok : {T : Type 0} (old new : Option Cause) (r : Result T StoreFault) (P : Type 0) → IsBroken old new r → new ≡ None → OnOk r P → P
whole_ok (Some c) new r P is none ok = absurd (cc (is.0, none))
whole_ok None new (Ok x) P is none ok = ok
whole_ok None new (Err Memory) P is none ok = absurd (cc (is, none))
whole_ok None new (Err Disk) P is none ok = absurd (cc (is, none))
whole_ok None new (Err (Broken c)) P is none ok = absurd is
whole_ok None new (Err (Damaged f at)) P is none ok = absurd is
whole_ok None new (Err (Gap e g)) P is none ok = absurd is
whole_ok None new (Err (Full n)) P is none ok = absurd is
whole_ok None new (Err (SessionsFull n)) P is none ok = absurd is
