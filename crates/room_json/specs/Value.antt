-- JSON values of the profile: whole numbers, texts as bytes, members in order of their names.
use Rattle.std.specs.Prelude.{Option, Some, None, ℕ, suc, max, ℤ, pos, negsuc, List, [], ◌∷◌, Bool}
use Rattle.std.specs.BTreeMap.{insert_entry}
use Rattle.std.specs.Cmp.Lexicographic.{slice_cmp}
use Rattle.std.specs.Ordering.{nat_cmp}
use Rattle.serde_json.specs.Data.{Num, unsigned, negative, Data, null, boolean, number, string, array, object}
use Rattle.serde_json.specs.Data.{Items, no_items, item, Members, no_members, member}
use Rattle.serde_json.specs.Written.{compact_text}

mutual
  pub data Value : Type 0 where
    nothing : Value
    flag : Bool → Value
    whole : ℤ → Value
    text : List ℕ → Value
    list : Values → Value
    members : Fields → Value

  pub data Values : Type 0 where
    no_values : Values
    value : Value → Values → Values

  pub data Fields : Type 0 where
    no_fields : Fields
    field : List ℕ → Value → Fields → Fields

abbrev pub values_of : List Value → Values
values_of [] = no_values
values_of (d ∷ ds) = value d (values_of ds)

abbrev pub fields_of : List (List ℕ × Value) → Fields
fields_of [] = no_fields
fields_of (m ∷ ms) = field m.0 m.1 (fields_of ms)

abbrev pub num_of : ℤ → Num
num_of (pos n) = unsigned n
num_of (negsuc n) = negative (negsuc n)

-- the value as `serde_json` has it
abbrev mutual
  pub data_of : Value → Data
  data_of nothing = null
  data_of (flag b) = boolean b
  data_of (whole z) = number (num_of z)
  data_of (text s) = string s
  data_of (list vs) = array (items_of vs)
  data_of (members fs) = object (members_of fs)

  pub items_of : Values → Items
  items_of no_values = no_items
  items_of (value v vs) = item (data_of v) (items_of vs)

  pub members_of : Fields → Members
  members_of no_fields = no_members
  members_of (field k v fs) = member k (data_of v) (members_of fs)

-- the compact text
abbrev pub text_of : Value → List ℕ
text_of v = compact_text (data_of v)

-- 0 for a scalar, else one more than the deepest member
abbrev mutual
  pub depth : Value → ℕ
  depth nothing = 0
  depth (flag b) = 0
  depth (whole z) = 0
  depth (text s) = 0
  depth (list vs) = suc (values_depth vs)
  depth (members fs) = suc (fields_depth fs)

  pub values_depth : Values → ℕ
  values_depth no_values = 0
  values_depth (value v vs) = max (depth v) (values_depth vs)

  pub fields_depth : Fields → ℕ
  fields_depth no_fields = 0
  fields_depth (field k v fs) = max (depth v) (fields_depth fs)

-- back to lists
abbrev pub values_list : Values → List Value
values_list no_values = []
values_list (value v vs) = v ∷ values_list vs

abbrev pub fields_list : Fields → List (List ℕ × Value)
fields_list no_fields = []
fields_list (field k v fs) = (k, v) ∷ fields_list fs

-- what a value is, where it is that
abbrev pub as_list : Value → Option (List Value)
as_list (list vs) = Some (values_list vs)
as_list _ = None

abbrev pub as_members : Value → Option (List (List ℕ × Value))
as_members (members fs) = Some (fields_list fs)
as_members _ = None

abbrev pub as_text : Value → Option (List ℕ)
as_text (text s) = Some s
as_text _ = None

abbrev pub as_whole : Value → Option ℤ
as_whole (whole z) = Some z
as_whole _ = None

abbrev pub as_flag : Value → Option Bool
as_flag (flag b) = Some b
as_flag _ = None

-- the members, with those of a patch in their places
abbrev pub merged : List (List ℕ × Value) → List (List ℕ × Value) → List (List ℕ × Value)
merged into [] = into
merged into (m ∷ ms) = merged (insert_entry (slice_cmp nat_cmp) into m.0 m.1) ms

-- an object of these members, put in one after another
abbrev pub object_of : List (List ℕ × Value) → Value
object_of ms = members (fields_of (merged [] ms))
