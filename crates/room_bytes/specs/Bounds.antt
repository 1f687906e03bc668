-- Which entries have bytes.
use Rattle.std.specs.Prelude.{◌≡◌, ◌<◌, ◌^◌, ℕ, Bool, true, ◌&&◌, nat_eq, nat_lt, List, [], ◌∷◌, length, IsUtf8}
use Rattle.room_json.specs.Value.{Value, text_of}
use Rattle.room_json.specs.View.{json_of}
use Rattle.room_nodes.specs.Shallow.{all_shallow}
use Rattle.room_nodes.specs.Sound.{AreSoundBodies}
use Rattle.room_nodes.specs.declared.nodes.Kind.{Kind}
use Rattle.room_nodes.specs.declared.nodes.Kind.TheVariants.{Object, List as Listed, Map, Register}
use Rattle.room_nodes.specs.declared.nodes.Body.{Body}
use Rattle.room_nodes.specs.declared.nodes.Body.TheVariants.{SetKey, Create, Update, Delete, DeleteKey}
use Rattle.room_log.specs.Log.{Entry, Join, Updated}
use Rattle.room_log.specs.Follows.{IsSoundEntry}
use Rattle.room_bytes.specs.declared.entries.Entry.{Entry as Here}
use Rattle.room_bytes.specs.declared.entries.Entry.TheVariants as here
use Rattle.room_bytes.specs.declared.entries.Format.{Format}
use Rattle.room_bytes.specs.declared.entries.Format.TheVariants.{One, Two}

-- the entry of the log
abbrev pub logged : Here → Entry
logged (here.Join actor key name) = Join actor key name
logged (here.Update actor first bodies) = Updated (record { actor = actor; first = first; bodies = bodies })

-- numbers in their types
abbrev pub HasNumbers : Entry → Type 0
HasNumbers (Join actor key name) = (actor < 2 ^ 32) × (key < 2 ^ 64)
HasNumbers (Updated u) = (u.actor < 2 ^ 32) × (u.first < 2 ^ 64)

-- what an entry of the type is
abbrev pub IsSoundHere : Here → Type 0
IsSoundHere e = HasNumbers (logged e) × IsSoundEntry (logged e)

-- lists and texts whose lengths have four bytes

abbrev pub IsCounted : {A : Type 0} → List A → Type 0
IsCounted xs = length xs < 2 ^ 32

abbrev pub AreCountedFields : List (List ℕ × Value) → Type 0
AreCountedFields [] = Unit {0}
AreCountedFields (f ∷ fs) = (IsCounted f.0 × IsCounted (text_of f.1)) × AreCountedFields fs

abbrev pub IsCountedKind : Kind → Type 0
IsCountedKind Listed = Unit {0}
IsCountedKind (Object fs) = IsCounted fs × AreCountedFields fs
IsCountedKind Map = Unit {0}
IsCountedKind (Register v) = IsCounted (text_of (json_of v))

abbrev pub IsCountedBody : Body → Type 0
IsCountedBody (SetKey x key) = IsCounted key
IsCountedBody (Create x parent key replaces kind) = IsCounted key × IsCountedKind kind
IsCountedBody (Update x fs) = IsCounted fs × AreCountedFields fs
IsCountedBody (Delete x) = Unit {0}
IsCountedBody (DeleteKey x key) = IsCounted key

abbrev pub AreCountedBodies : List Body → Type 0
AreCountedBodies [] = Unit {0}
AreCountedBodies (b ∷ bs) = IsCountedBody b × AreCountedBodies bs

abbrev pub IsCountedEntry : Entry → Type 0
IsCountedEntry (Join actor key name) = IsCounted name
IsCountedEntry (Updated u) = IsCounted u.bodies × AreCountedBodies u.bodies

abbrev pub AreCountedEntries : List Entry → Type 0
AreCountedEntries [] = Unit {0}
AreCountedEntries (e ∷ es) = IsCountedEntry e × AreCountedEntries es

-- a join of the first format has no name; an update has an operation, and none of its values is too deep
abbrev pub is_written : Format → Entry → Bool
is_written One (Join actor key name) = nat_eq (length name) 0
is_written Two (Join actor key name) = true
is_written One (Updated u) = nat_lt 0 (length u.bodies) && all_shallow u.bodies
is_written Two (Updated u) = nat_lt 0 (length u.bodies) && all_shallow u.bodies

-- a group has an entry, and each of them is so
abbrev pub all_written : List Entry → Bool
all_written [] = true
all_written (e ∷ es) = is_written Two e && all_written es

abbrev pub are_written : List Entry → Bool
are_written es = nat_lt 0 (length es) && all_written es

-- an entry that has bytes
pub record HasBytes (f : Format) (e : Entry) : Type 0 where
  pub counted : IsCountedEntry e
  pub numbers : HasNumbers e
  pub sound : IsSoundEntry e
  pub written : is_written f e ≡ true

abbrev pub HaveBytes : List Entry → Type 0
HaveBytes [] = Unit {0}
HaveBytes (e ∷ es) = HasBytes Two e × HaveBytes es

-- a group that has bytes: not an empty one
pub record IsGroup (es : List Entry) : Type 0 where
  pub some : 0 < length es
  pub counted : IsCounted es
  pub entries : HaveBytes es
