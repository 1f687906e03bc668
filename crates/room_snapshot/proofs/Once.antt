-- What is read of bytes is written as them.
use Rattle.std.proofs.Common.{◌≡◌, ℕ, Bool, true, false, List, ◌++◌, Some, refl, sym, ap, subst, ◌∙◌}
use Rattle.std.proofs.lemmas.List.{append-nil}
use Rattle.room_log.specs.Log.{State}
use Rattle.room_bytes.specs.declared.entries.Format.{Format}
use Rattle.room_bytes.specs.Reading.{ended}
use Rattle.room_bytes.proofs.Once.{ended_is}
use Rattle.room_bytes.proofs.Parts.{bind_some, some_is, behind_is}
use Rattle.room_snapshot.specs.Bounds.{HasSnapshot, is_within}
use Rattle.room_snapshot.specs.Reading.{parts_at, behind_if, checked, snapshot_of}
use Rattle.room_snapshot.specs.Spelling.{snapshot_bytes}
use Rattle.room_snapshot.proofs.Again.{snapshots_again}

if_some : (test : Bool) (front bytes rest : List ℕ) → behind_if test front bytes ≡ Some rest
    → (test ≡ true) × (bytes ≡ front ++ rest)
unfolding behind_if
if_some true front bytes rest h = (refl, behind_is front bytes rest h)
if_some false front bytes rest h = absurd cc

checked_is : (f : Format) (bytes : List ℕ) (r s : State) → checked f bytes r ≡ Some s
    → (bytes ≡ snapshot_bytes f s) × (is_within f s ≡ true)
unfolding checked
checked_is f bytes r s h =
    let a = bind_some (behind_if (is_within f r) (snapshot_bytes f r) bytes) (λ rest. ended (r, rest)) s h in
    let b = if_some (is_within f r) (snapshot_bytes f r) bytes a.0 a.1 in
    let c = ended_is (r, a.0) s a.2 in
    subst (λ (x : State). (bytes ≡ snapshot_bytes f x) × (is_within f x ≡ true)) c.0
    (b.1 ∙ ap (λ (l : List ℕ). snapshot_bytes f r ++ l) c.1 ∙ append-nil (snapshot_bytes f r), b.0)

pub snapshots_once : (f : Format) (bytes : List ℕ) (s : State) → snapshot_of f bytes ≡ Some s
    → (bytes ≡ snapshot_bytes f s) × (is_within f s ≡ true)
unfolding snapshot_of
snapshots_once f bytes s h =
    let a = bind_some (parts_at f bytes) (λ (x : State × List ℕ). checked f bytes x.0) s h in
    checked_is f bytes a.0.0 s a.2

pub snapshots_differ : (f : Format) (r s : State) → HasSnapshot f r → HasSnapshot f s
    → snapshot_bytes f r ≡ snapshot_bytes f s → r ≡ s
snapshots_differ f r s has_r has_s same =
    some_is r s (sym (snapshots_again f r has_r) ∙ ap (snapshot_of f) same ∙ snapshots_again f s has_s)
