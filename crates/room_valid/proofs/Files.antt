-- The state that files stand for is valid.
use Rattle.std.proofs.Common.{◌≡◌, inl, inr, ◌+◌, ℕ, List, [], ◌∷◌, length, Option, Some, None}
use Rattle.std.proofs.Common.{refl, sym, subst}
use Rattle.room_steps.proofs.Shallow.{keeps_shallow}
use Rattle.room_steps.proofs.Sound.{keeps_sound}
use Rattle.room_log.specs.Log.{State, Entry, after}
use Rattle.room_log.specs.Follows.{IsValidState, follows}
use Rattle.room_log.specs.Laws.{ValidAfter}
use Rattle.room_log.proofs.ValidStates.{valid_after}
use Rattle.room_bytes.specs.declared.entries.Format.{Format}
use Rattle.room_bytes.specs.declared.entries.Format.TheVariants.{One, Two}
use Rattle.room_bytes.specs.Reading.{entry_of}
use Rattle.room_snapshot.specs.Reading.{snapshot_of}
use Rattle.room_journal.specs.Files.{Held, Reading, Holds, New as NewFiles, Damaged as DamagedFiles, reading}
use Rattle.room_replay.specs.Files.{followed_by, followed, entries_in, taken, Files, Room, or_damaged}
use Rattle.room_replay.specs.Files.{replayed, opened, files_read, files, Stands}
use Rattle.room_replay.specs.Follow.{AreSound}
use Rattle.room_valid.specs.Laws.{FilesAreValid, StandingIsValid}
use Rattle.room_valid.proofs.Entries.{entry_sound, group_sound}
use Rattle.room_valid.proofs.Options.{kept, same, from_map}
use Rattle.room_valid.proofs.Parts.{then}
use Rattle.room_valid.proofs.Snapshots.{snapshot_valid}

laws : ValidAfter
laws = valid_after keeps_sound keeps_shallow

-- entries that follow, one after another

next_valid : (s t : State) (e : Entry) → IsValidState s → AreSound (e ∷ []) → followed_by s e ≡ Some t → IsValidState t
next_valid s t e valid sound h =
    let k = kept (follows s e) (Some (after s e)) t h in
    same IsValidState (after s e) t (laws.entry s e valid (k.0, sound.0)) k.1

followed_valid : (s : State) (es : List Entry) (t : State) → IsValidState s → AreSound es → followed s es ≡ Some t
    → IsValidState t
followed_valid s [] t valid sound h = same IsValidState s t valid h
followed_valid s (e ∷ es) t valid sound h =
    then _ (followed_by s e) _ t (λ u is h.
    followed_valid u es t (next_valid s u e valid (sound.0, tt) is) sound.1 h) h

-- bodies

body_sound : (f : Format) (body : List ℕ) (es : List Entry) → entries_in f body ≡ Some es → AreSound es
body_sound One body es h =
    from_map AreSound (λ (e : Entry). e ∷ []) (entry_of One body) es (λ e is. (entry_sound One body e is, tt)) h
body_sound Two body es h = group_sound body es h

taken_valid : (f : Format) (s : State) (body : List ℕ) (t : State) → IsValidState s → taken f s body ≡ Some t
    → IsValidState t
taken_valid f s body t valid h =
    then _ (entries_in f body) _ t (λ es is h. followed_valid s es t valid (body_sound f body es is) h) h

-- files

IsRoom : State → Files → Type 0
IsRoom s fs = fs ≡ Room s

room_is : (r s : State) → Room r ≡ Room s → r ≡ s
room_is r s h = cc

undamaged : (P : Type 0) (file at : ℕ) (o : Option State) (go_on : State → Files) (s : State)
    → ((t : State) → o ≡ Some t → go_on t ≡ Room s → P) → or_damaged file at o go_on ≡ Room s → P
undamaged P file at None go_on s k h = cc
undamaged P file at (Some t) go_on s k h = k t refl h

replayed_valid : (file : ℕ) (f : Format) (at : ℕ) (s : State) (bodies : List (List ℕ)) (broken : Option ℕ) (t : State)
    → IsValidState s → replayed file f at s bodies broken ≡ Room t → IsValidState t
replayed_valid file f at s [] None t valid h = subst IsValidState (room_is s t h) valid
replayed_valid file f at s [] (Some b) t valid h = cc
replayed_valid file f at s (b ∷ bs) broken t valid h =
    undamaged _ file at (taken f s b) _ t (λ u is h.
    replayed_valid file f (at + (5 + length b)) u bs broken t (taken_valid f s b u valid is) h) h

opened_valid : (file : ℕ) (f : Format) (h : Held) (t : State) → opened file f h ≡ Room t → IsValidState t
opened_valid file f h t is =
    undamaged _ file 0 (snapshot_of f h.snapshot) _ t (λ s read is.
    replayed_valid file f (25 + length h.snapshot) s h.bodies h.broken t (snapshot_valid f h.snapshot s read) is) is

read_valid : (r : Reading) (t : State) → files_read r ≡ Room t → IsValidState t
read_valid NewFiles t h = cc
read_valid (DamagedFiles file at) t h = cc
read_valid (Holds file f g held) t h = opened_valid file f held t h

pub files_valid : FilesAreValid
files_valid base x y s h = read_valid (reading base x y) s h

stands_valid : (s : State) (fs : Files) → (fs ≡ Room s → IsValidState s) → Stands s fs → IsValidState s
stands_valid s fs h (inl room) = h room
stands_valid s fs h (inr new) = subst IsValidState (sym new.1) laws.empty

pub standing_valid : StandingIsValid
standing_valid base s image h =
    stands_valid s (files base (image base) (image (base + 1)))
    (λ room. files_valid base (image base) (image (base + 1)) s room) h
