-- The bytes of entries and groups. Numbers are big endian; a text stands behind its length, which has four bytes, and
-- so
-- does a list behind the number of its items; a JSON value is the text that is written of it.
use Rattle.std.specs.Prelude.{ℕ, ◌++◌, List, [], ◌∷◌, length, Option, Some, None}
use Rattle.std.specs.Int.{w32, w64, to_be_bytes}
use Rattle.std.specs.List.{flat_map}
use Rattle.room_json.specs.Value.{Value, text_of}
use Rattle.room_json.specs.View.{json_of}
use Rattle.room_ids.specs.declared.ids.NodeId.{NodeId}
use Rattle.room_ids.specs.declared.ids.NodeId.TheVariants.{Root, Made}
use Rattle.room_nodes.specs.declared.nodes.Kind.{Kind}
use Rattle.room_nodes.specs.declared.nodes.Kind.TheVariants.{Object, List as Listed, Map, Register}
use Rattle.room_nodes.specs.declared.nodes.Body.{Body}
use Rattle.room_nodes.specs.declared.nodes.Body.TheVariants.{SetKey, Create, Update, Delete, DeleteKey}
use Rattle.room_log.specs.Log.{Entry, Join, Updated}
use Rattle.room_bytes.specs.declared.entries.Format.{Format}
use Rattle.room_bytes.specs.declared.entries.Format.TheVariants.{One, Two}

-- four bytes, and eight

unfoldable pub u32_bytes : ℕ → List ℕ
u32_bytes n = to_be_bytes w32 n

unfoldable pub u64_bytes : ℕ → List ℕ
u64_bytes n = to_be_bytes w64 n

unfoldable pub text_bytes : List ℕ → List ℕ
text_bytes t = u32_bytes (length t) ++ t

unfoldable pub json_bytes : Value → List ℕ
json_bytes v = text_bytes (text_of v)

-- the root, or the actor and the clock of a node that was made
unfoldable pub id_bytes : NodeId → List ℕ
id_bytes Root = 0 ∷ []
id_bytes (Made s) = 1 ∷ (u32_bytes s.actor ++ u64_bytes s.clock)

-- a field: its name and its value
unfoldable pub field_bytes : List ℕ × Value → List ℕ
field_bytes f = text_bytes f.0 ++ json_bytes f.1

-- an object's fields, in byte order of their names as they stand there
unfoldable pub fields_bytes : List (List ℕ × Value) → List ℕ
fields_bytes fs = u32_bytes (length fs) ++ flat_map field_bytes fs

-- the node that a new one takes the place of, where there is one
unfoldable pub replaced_bytes : Option NodeId → List ℕ
replaced_bytes None = 0 ∷ []
replaced_bytes (Some x) = 1 ∷ id_bytes x

-- operations without their ids, each behind its code

abbrev pub kind_code : Kind → ℕ
kind_code Listed = 2
kind_code (Object fs) = 4
kind_code Map = 7
kind_code (Register v) = 8

unfoldable pub kind_bytes : Kind → List ℕ
kind_bytes Listed = []
kind_bytes (Object fs) = fields_bytes fs
kind_bytes Map = []
kind_bytes (Register v) = json_bytes (json_of v)

unfoldable pub body_bytes : Body → List ℕ
body_bytes (SetKey x key) = 1 ∷ (id_bytes x ++ text_bytes key)
body_bytes (Create x parent key replaces kind) =
    kind_code
    kind ∷ (id_bytes x ++ (id_bytes parent ++ (text_bytes key ++ (replaced_bytes replaces ++ kind_bytes kind))))
body_bytes (Update x fs) = 3 ∷ (id_bytes x ++ fields_bytes fs)
body_bytes (Delete x) = 5 ∷ id_bytes x
body_bytes (DeleteKey x key) = 6 ∷ (id_bytes x ++ text_bytes key)

-- names stand in the second format alone
unfoldable pub name_bytes : Format → List ℕ → List ℕ
name_bytes One name = []
name_bytes Two name = text_bytes name

unfoldable pub entry_bytes : Format → Entry → List ℕ
entry_bytes f (Join actor key name) = 1 ∷ (u32_bytes actor ++ (u64_bytes key ++ name_bytes f name))
entry_bytes f (Updated u) =
    2 ∷ (u32_bytes u.actor ++ (u64_bytes u.first ++ (u32_bytes (length u.bodies) ++ flat_map body_bytes u.bodies)))

-- a group: its entries behind their number
unfoldable pub group_bytes : List Entry → List ℕ
group_bytes es = u32_bytes (length es) ++ flat_map (entry_bytes Two) es
