-- Reading from left to right. What is read of an entry counts where the entry is written as these bytes, so each
-- value has one spelling.
use Rattle.std.specs.Prelude.{◌≡◌, ◌==◌, ℕ, zero, suc, Bool, nat_lt, nat_le, nat_eq, is_some, if◌then◌else◌, List, []}
use Rattle.std.specs.Prelude.{◌∷◌, length, take, drop, map, Option, Some, None, option_map, Result, Ok, Err, ◌&&◌}
use Rattle.std.specs.Int.{Width, w32, w64, byte_len, from_be_bytes}
use Rattle.std.specs.Str.{bytes_eq, is_utf8}
use Rattle.room_json.specs.Reading.{value_of_text, Refusal}
use Rattle.room_json.specs.Value.{Value, merged}
use Rattle.room_json.specs.View.{json_of}
use Rattle.room_json.specs.Back.{json_in}
use Rattle.room_json.specs.declared.tree.Json.{Json}
use Rattle.room_ids.specs.declared.ids.NodeId.{NodeId}
use Rattle.room_ids.specs.declared.ids.NodeId.TheVariants.{Root, Made}
use Rattle.room_nodes.specs.declared.nodes.Kind.{Kind}
use Rattle.room_nodes.specs.declared.nodes.Kind.TheVariants.{Object, List as Listed, Map, Register}
use Rattle.room_nodes.specs.declared.nodes.Body.{Body}
use Rattle.room_nodes.specs.declared.nodes.Body.TheVariants.{SetKey, Create, Update, Delete, DeleteKey}
use Rattle.room_log.specs.Log.{Entry, Join, Updated}
use Rattle.room_log.specs.Follows.{most}
use Rattle.room_bytes.specs.declared.entries.Format.{Format}
use Rattle.room_bytes.specs.declared.entries.Format.TheVariants.{One, Two}
use Rattle.room_bytes.specs.declared.misread.Misread.{Misread}
use Rattle.room_bytes.specs.declared.misread.Misread.TheVariants as misread
use Rattle.room_bytes.specs.Bounds.{is_written}
use Rattle.room_bytes.specs.Spelling.{entry_bytes}

infixl 10 ◌>>=◌
abbrev pub ◌>>=◌ : {A B : Type 0} → Option A → (A → Option B) → Option B
(Some x) >>= f = f x
None >>= f = None

-- What a function returned, seen by view, is what reading gives, unless memory ran out.
abbrev pub Fails : {Y : Type 0} → Misread → Option Y → Type 0
Fails misread.Memory read = Unit {0}
Fails misread.NoValue read = read ≡ None

abbrev pub Gives : {X Y : Type 0} → (X → Y) → Result X Misread → Option Y → Type 0
Gives view (Ok x) read = read ≡ Some (view x)
Gives view (Err e) read = Fails e read

-- A part is a value and the bytes behind it.

abbrev pub number_at : Width → List ℕ → Option (ℕ × List ℕ)
number_at w bytes =
    if nat_lt (length bytes) (byte_len w) then None
    else Some (from_be_bytes w (take (byte_len w) bytes), drop (byte_len w) bytes)

unfoldable pub u32_at : List ℕ → Option (ℕ × List ℕ)
u32_at bytes = number_at w32 bytes

unfoldable pub u64_at : List ℕ → Option (ℕ × List ℕ)
u64_at bytes = number_at w64 bytes

unfoldable pub byte_at : List ℕ → Option (ℕ × List ℕ)
byte_at [] = None
byte_at (b ∷ bytes) = Some (b, bytes)

unfoldable pub string_at : List ℕ → Option (List ℕ × List ℕ)
string_at bytes = do
  n ← u32_at bytes
  if nat_lt (length n.1) n.0 then None else Some (take n.0 n.1, drop n.0 n.1)

unfoldable pub text_at : List ℕ → Option (List ℕ × List ℕ)
text_at bytes = do
  s ← string_at bytes
  if is_utf8 s.0 then Some s else None

abbrev pub value_in : Result Value Refusal → Option Value
value_in (Ok v) = Some v
value_in (Err e) = None

unfoldable pub json_at : List ℕ → Option (Value × List ℕ)
json_at bytes = do
  s ← string_at bytes
  v ← value_in (value_of_text s.0)
  Some (v, s.1)

unfoldable pub made_at : List ℕ → Option (NodeId × List ℕ)
made_at bytes = do
  actor ← u32_at bytes
  clock ← u64_at actor.1
  if nat_le clock.0 most then Some (Made (record { actor = actor.0; clock = clock.0 }), clock.1) else None

unfoldable pub id_at : List ℕ → Option (NodeId × List ℕ)
id_at bytes = do
  tag ← byte_at bytes
  if nat_eq tag.0 0 then Some (Root, tag.1) else (if nat_eq tag.0 1 then made_at tag.1 else None)

unfoldable pub replaced_at : List ℕ → Option (Option NodeId × List ℕ)
replaced_at bytes = do
  tag ← byte_at bytes
  if nat_eq tag.0 0 then Some (None, tag.1) else (
      if nat_eq tag.0 1 then option_map (λ (x : NodeId × List ℕ). (Some x.0, x.1)) (id_at tag.1) else None)

-- a name and the value of a `Json`
abbrev pub paired : List ℕ × Json → List ℕ × Value
paired e = (e.0, json_of e.1)

-- so many parts, one behind the other
unfoldable pub each_at : {A : Type 0} → (List ℕ → Option (A × List ℕ)) → ℕ → List ℕ → Option (List A × List ℕ)
each_at read zero bytes = Some ([], bytes)
each_at read (suc n) bytes = do
  x ← read bytes
  xs ← each_at read n x.1
  Some (x.0 ∷ xs.0, xs.1)

unfoldable pub field_at : List ℕ → Option ((List ℕ × Value) × List ℕ)
field_at bytes = do
  name ← text_at bytes
  value ← json_at name.1
  Some ((name.0, value.0), value.1)

unfoldable pub fields_at : List ℕ → Option (List (List ℕ × Value) × List ℕ)
fields_at bytes = do
  n ← u32_at bytes
  fs ← each_at field_at n.0 n.1
  Some (merged [] fs.0, fs.1)

unfoldable pub kind_at : ℕ → List ℕ → Option (Kind × List ℕ)
kind_at code bytes =
    if nat_eq code 2 then Some (Listed, bytes) else (
    if nat_eq code 4 then option_map (λ (x : List (List ℕ × Value) × List ℕ). (Object x.0, x.1)) (fields_at bytes) else
    (
    if nat_eq code 7 then Some (Map, bytes) else (
    if nat_eq code 8 then option_map (λ (x : Value × List ℕ). (Register (json_in x.0), x.1)) (json_at bytes) else
    None)))

unfoldable pub set_key_at : List ℕ → Option (Body × List ℕ)
set_key_at bytes = do
  x ← id_at bytes
  key ← text_at x.1
  Some (SetKey x.0 key.0, key.1)

unfoldable pub delete_key_at : List ℕ → Option (Body × List ℕ)
delete_key_at bytes = do
  x ← id_at bytes
  key ← text_at x.1
  Some (DeleteKey x.0 key.0, key.1)

unfoldable pub update_at : List ℕ → Option (Body × List ℕ)
update_at bytes = do
  x ← id_at bytes
  fs ← fields_at x.1
  Some (Update x.0 fs.0, fs.1)

unfoldable pub delete_at : List ℕ → Option (Body × List ℕ)
delete_at bytes = do
  x ← id_at bytes
  Some (Delete x.0, x.1)

unfoldable pub create_at : ℕ → List ℕ → Option (Body × List ℕ)
create_at code bytes = do
  x ← id_at bytes
  parent ← id_at x.1
  key ← text_at parent.1
  replaces ← replaced_at key.1
  kind ← kind_at code replaces.1
  Some (Create x.0 parent.0 key.0 replaces.0 kind.0, kind.1)

unfoldable pub body_at : List ℕ → Option (Body × List ℕ)
body_at bytes = do
  code ← byte_at bytes
  if nat_eq code.0 1 then set_key_at code.1 else (
      if nat_eq code.0 3 then update_at code.1 else (
      if nat_eq code.0 5 then delete_at code.1 else (
      if nat_eq code.0 6 then delete_key_at code.1 else create_at code.0 code.1)))

unfoldable pub name_at : Format → List ℕ → Option (List ℕ × List ℕ)
name_at One bytes = Some ([], bytes)
name_at Two bytes = text_at bytes

unfoldable pub join_at : Format → List ℕ → Option (Entry × List ℕ)
join_at f bytes = do
  actor ← u32_at bytes
  key ← u64_at actor.1
  name ← name_at f key.1
  Some (Join actor.0 key.0 name.0, name.1)

unfoldable pub updated_at : List ℕ → Option (Entry × List ℕ)
updated_at bytes = do
  actor ← u32_at bytes
  first ← u64_at actor.1
  n ← u32_at first.1
  bodies ← each_at body_at n.0 n.1
  Some (Updated (record { actor = actor.0; first = first.0; bodies = bodies.0 }), bodies.1)

-- an entry, in whatever spelling of its parts
unfoldable pub parts_at : Format → List ℕ → Option (Entry × List ℕ)
parts_at f bytes = do
  code ← byte_at bytes
  if nat_eq code.0 1 then join_at f code.1 else (if nat_eq code.0 2 then updated_at code.1 else None)

-- what is left behind these bytes, where they stand in front
unfoldable pub behind : List ℕ → List ℕ → Option (List ℕ)
behind front bytes =
    if bytes_eq (take (length front) bytes) front then Some (drop (length front) bytes) else None

-- an entry within the bounds that is written as the bytes in front
unfoldable pub entry_at : Format → List ℕ → Option (Entry × List ℕ)
entry_at f bytes = do
  x ← parts_at f bytes
  rest ← behind (entry_bytes f x.0) bytes
  if is_written f x.0 then Some (x.0, rest) else None

-- all of the bytes
abbrev pub ended : {A : Type 0} → A × List ℕ → Option A
ended x = if nat_eq (length x.1) 0 then Some x.0 else None

unfoldable pub entry_of : Format → List ℕ → Option Entry
entry_of f bytes = entry_at f bytes >>= ended

unfoldable pub group_of : List ℕ → Option (List Entry)
group_of bytes = do
  n ← u32_at bytes
  es ← each_at (entry_at Two) n.0 n.1
  if nat_lt 0 n.0 then ended es else None
