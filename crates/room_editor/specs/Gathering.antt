-- What an open batch gathers, while there is one.
use Rattle.std.specs.Prelude.{◌≡◌, ℕ, Bool, true, false, List, [], ◌++◌, Option, Some, None}
use Rattle.room_nodes.specs.declared.nodes.Change.{Change}
use Rattle.room_editor.specs.Editor.{Gathered}

abbrev pub gathered_in : Bool → ℕ → List Change → List (List ℕ) → Option Gathered
gathered_in true bytes changes keys = Some (record { bytes = bytes; changes = changes; keys = keys })
gathered_in false bytes changes keys = None

-- nothing is kept while none is open
abbrev pub IsBare : Bool → ℕ → List Change → List (List ℕ) → Type 0
IsBare true bytes changes keys = Unit {0}
IsBare false bytes changes keys = (bytes ≡ 0) × ((changes ≡ []) × (keys ≡ []))

abbrev pub bytes_in : Option Gathered → ℕ
bytes_in None = 0
bytes_in (Some g) = g.bytes

abbrev pub keys_in : Option Gathered → List (List ℕ)
keys_in None = []
keys_in (Some g) = g.keys

abbrev pub changes_in : Option Gathered → List Change
changes_in None = []
changes_in (Some g) = g.changes

-- with more operations, and with a patch

abbrev pub gathered_more : ℕ → List Change → Option Gathered → Option Gathered
gathered_more bytes back None = None
gathered_more bytes back (Some g) = Some (record { bytes = bytes; changes = back ++ g.changes; keys = g.keys })

abbrev pub patched : List (List ℕ) → List Change → Option Gathered → Option Gathered
patched keys back None = None
patched keys back (Some g) = Some (record { bytes = g.bytes; changes = back ++ g.changes; keys = keys })
