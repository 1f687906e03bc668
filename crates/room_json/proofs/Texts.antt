-- What is read from UTF-8, and from bytes that are none.
use Rattle.std.proofs.Common.{◌≡◌, ℕ, List, Bool, true, false, Option, Some, None, if◌then◌else◌, refl, IsUtf8}
use Rattle.std.specs.Str.{is_utf8}
use Rattle.std.proofs.lemmas.Str.{IsUtf8-from_is_utf8, is_utf8-from_IsUtf8}
use Rattle.serde_json.specs.Data.{Data}
use Rattle.serde_json.specs.Read.{read}
use Rattle.room_json.specs.Reading.{data_in}

pub data_read : (bytes : List ℕ) (d : Data) → IsUtf8 bytes → read bytes ≡ Some d → data_in bytes ≡ Some d
data_read bytes d utf8 seen = rw (is_utf8-from_IsUtf8 bytes utf8) seen

none_if : (b : Bool) (o : Option Data) → (b ≡ true → o ≡ None) → (if b then o else None) ≡ None
none_if true o h = h refl
none_if false o h = refl

pub data_unread : (bytes : List ℕ) → (IsUtf8 bytes → read bytes ≡ None) → data_in bytes ≡ None
data_unread bytes h = none_if (is_utf8 bytes) (read bytes) (λ b. h (IsUtf8-from_is_utf8 bytes b))
