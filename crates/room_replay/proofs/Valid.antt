-- Sound entries that follow lead from a valid state to a valid state.
use Rattle.std.proofs.Common.{◌≡◌, Bool, true, false, List, [], ◌∷◌, map, refl, sym, subst}
use Rattle.std.specs.Prelude.{cond, Option, Some, None, option_map, Result, Ok, Err, IfOk, IfSome}
use Rattle.room_log.specs.Log.{State, Entry, after}
use Rattle.room_log.specs.Follows.{IsValidState, IsSoundEntry, follows}
use Rattle.room_log.specs.Laws.{ValidAfter}
use Rattle.room_bytes.specs.declared.entries.Entry.{Entry as Here}
use Rattle.room_bytes.specs.Bounds.{IsGroup, HaveBytes, logged}
use Rattle.room_bytes.specs.Reading.{◌>>=◌}
use Rattle.room_replay.specs.Files.{followed}
use Rattle.room_replay.specs.Follow.{AreSound}

next_valid : ValidAfter → (s : State) (e : Entry) (es : List Entry) (t : State) (b : Bool) → follows s e ≡ b → IsValidState s → IsSoundEntry e
    → ((u : State) → IsValidState u → followed u es ≡ Some t → IsValidState t)
    → (cond b (Some (after s e)) None >>= (λ u. followed u es)) ≡ Some t → IsValidState t
next_valid law s e es t true is valid sound onward to = onward (after s e) (law.entry s e valid (is, sound)) to
next_valid law s e es t false is valid sound onward to = cc to

pub followed_valid : ValidAfter → (s : State) (es : List Entry) (t : State) → IsValidState s → AreSound es → followed s es ≡ Some t → IsValidState t
followed_valid law s [] t valid sound is = let e : s ≡ t = cc is in subst (λ (u : State). IsValidState u) e valid
followed_valid law s (e ∷ es) t valid sound is =
    next_valid law s e es t (follows s e) refl valid sound.0 (λ u here to. followed_valid law u es t here sound.1 to) is

pub taken_valid : {S E : Type 0} (r : Result (Option S) E) (view : S → State) (s : State) (es : List Entry) → ValidAfter → AreSound es → IsValidState s
    → IfOk r (λ o. option_map view o ≡ followed s es) → IfOk r (λ o. IfSome o (λ x. IsValidState (view x)))
taken_valid (Ok (Some x)) view s es law sound valid is = followed_valid law s es (view x) valid sound (sym is)
taken_valid (Ok None) view s es law sound valid is = tt
taken_valid (Err e) view s es law sound valid is = tt

have_sound : (es : List Entry) → HaveBytes es → AreSound es
have_sound [] has = tt
have_sound (e ∷ es) has = (has.0.sound, have_sound es has.1)

pub group_sound : {E : Type 0} (r : Result (Option (List Here)) E) (P : List Here → Type 0)
    → IfOk r (λ o. IfSome o (λ es. IsGroup (map logged es) × P es)) → IfOk r (λ o. IfSome o (λ es. AreSound (map logged es)))
group_sound (Ok (Some es)) P has = have_sound (map logged es) has.0.entries
group_sound (Ok None) P has = tt
group_sound (Err e) P has = tt
