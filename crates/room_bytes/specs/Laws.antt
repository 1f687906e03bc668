-- What is read of written bytes, and what is written of read ones.
use Rattle.std.specs.Prelude.{◌≡◌, ◌<◌, ℕ, true, List, length, Some}
use Rattle.std.specs.List.{AllByRecursion}
use Rattle.std.proofs.Common.{get_or}
use Rattle.room_log.specs.Log.{Entry}
use Rattle.room_bytes.specs.declared.entries.Format.{Format}
use Rattle.room_bytes.specs.declared.entries.Format.TheVariants.{Two}
use Rattle.room_bytes.specs.Bounds.{HasBytes, IsGroup, is_written}
use Rattle.room_bytes.specs.Reading.{entry_of, group_of}
use Rattle.room_bytes.specs.Spelling.{entry_bytes, group_bytes}

abbrev pub IsBytes : List ℕ → Type 0
IsBytes bytes = (i : ℕ) → get_or bytes i 0 < 256

-- the bytes of an entry are read as that entry
abbrev pub EntriesReadBack : Type 0
EntriesReadBack = (f : Format) (e : Entry) → HasBytes f e → entry_of f (entry_bytes f e) ≡ Some e

-- bytes that are read as an entry are its bytes
abbrev pub EntriesAreSpelledOnce : Type 0
EntriesAreSpelledOnce = (f : Format) (bytes : List ℕ) (e : Entry) → entry_of f bytes ≡ Some e
    → (bytes ≡ entry_bytes f e) × (is_written f e ≡ true)

-- two entries have different bytes
abbrev pub EntriesDiffer : Type 0
EntriesDiffer = (f : Format) (d e : Entry) → HasBytes f d → HasBytes f e → entry_bytes f d ≡ entry_bytes f e → d ≡ e

-- the same of groups

abbrev pub GroupsReadBack : Type 0
GroupsReadBack = (es : List Entry) → IsGroup es → group_of (group_bytes es) ≡ Some es

abbrev pub GroupsAreSpelledOnce : Type 0
GroupsAreSpelledOnce = (bytes : List ℕ) (es : List Entry) → IsBytes bytes → group_of bytes ≡ Some es
    → (bytes ≡ group_bytes es) × (0 < length es) × AllByRecursion (λ e. is_written Two e ≡ true) es

abbrev pub GroupsDiffer : Type 0
GroupsDiffer = (ds es : List Entry) → IsGroup ds → IsGroup es → group_bytes ds ≡ group_bytes es → ds ≡ es
