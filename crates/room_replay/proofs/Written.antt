-- Entries that have bytes are such as are written.
use Rattle.std.proofs.Common.{◌≡◌, true, List, [], ◌∷◌, map, refl}
use Rattle.std.specs.Prelude.{Option, Some, None, Result, Ok, Err, IfOk, IfSome}
use Rattle.room_log.specs.Log.{Entry}
use Rattle.room_bytes.specs.declared.entries.Entry.{Entry as Here}
use Rattle.room_bytes.specs.Bounds.{HaveBytes, IsGroup, all_written, logged}

pub have_written : (es : List Entry) → HaveBytes es → all_written es ≡ true
have_written [] has = refl
have_written (e ∷ es) has = rw (has.0.written, have_written es has.1) refl

pub group_written : {E : Type 0} (r : Result (Option (List Here)) E) (P : List Here → Type 0)
    → IfOk r (λ o. IfSome o (λ es. IsGroup (map logged es) × P es))
    → IfOk r (λ o. IfSome o (λ es. all_written (map logged es) ≡ true))
group_written (Ok (Some es)) P has = have_written (map logged es) has.0.entries
group_written (Ok None) P has = tt
group_written (Err e) P has = tt
