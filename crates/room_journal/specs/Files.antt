-- What the two files of a room say, before anyone looks into a snapshot or a body.
use Rattle.std.specs.Prelude.{ℕ, ◌+◌, ◌-◌, ◌^◌, ◌==◌, Bool, true, false, not, ◌||◌, nat_le, nat_lt, if◌then◌else◌}
use Rattle.std.specs.Prelude.{List, ◌∷◌, length, take, drop, codes, Option, Some, None}
use Rattle.std.specs.Int.{w64, from_be_bytes}
use Rattle.room_bytes.specs.declared.entries.Format.{Format}
use Rattle.room_bytes.specs.declared.entries.Format.TheVariants.{One, Two}
use Rattle.room_journal.specs.declared.heading.Heading.{Heading}
use Rattle.room_journal.specs.declared.heading.Heading.TheVariants.{Shut, Wrong, Opened}
use Rattle.room_journal.specs.Records.{records, Records}

-- the number that the eight bytes at an offset spell, the highest first
abbrev pub number_at : ℕ → List ℕ → ℕ
number_at at file = from_be_bytes w64 (take 8 (drop at file))

-- one file: a gate at 0, the mark at 1, the generation at 9, the snapshot's length at 17, the snapshot at 25, records

abbrev pub mark_of : Format → ℕ
mark_of One = from_be_bytes w64 (codes "LBROOM01")
mark_of Two = from_be_bytes w64 (codes "LBROOM02")

abbrev pub last_generation : ℕ
last_generation = 2 ^ 64 - 1

-- the format that a mark names
abbrev pub format_of : ℕ → Option Format
format_of mark = if mark == mark_of Two then Some Two else (if mark == mark_of One then Some One else None)

-- a generation from 1; of the older format one that has a next
abbrev pub generation_in : Option Format → ℕ → Heading
generation_in None g = Wrong
generation_in (Some Two) g = if g == 0 then Wrong else Opened Two g
generation_in (Some One) g = if g == 0 || g == last_generation then Wrong else Opened One g

-- a file of fewer than two bytes is closed, and so is one whose gate is 0
abbrev pub is_open : List ℕ → Bool
is_open (g ∷ x ∷ rest) = not (g == 0)
is_open file = false

-- what the first 17 bytes say
abbrev pub heading : List ℕ → Heading
heading file =
    if is_open file then (if nat_le 17 (length file)
    then generation_in (format_of (number_at 1 file)) (number_at 9 file) else Wrong) else Shut

-- what a file holds whose snapshot is whole: the snapshot, the bodies of its records, and where these break off
pub record Held : Type 0 where
  pub snapshot : List ℕ
  pub bodies : List (List ℕ)
  pub broken : Option ℕ

abbrev pub holding : List ℕ → Records → Held
holding snapshot r = record { snapshot = snapshot; bodies = r.bodies; broken = r.broken }

abbrev pub held_in : List ℕ → Option Held
held_in file =
    if nat_le (25 + number_at 17 file) (length file)
    then Some (holding (take (number_at 17 file) (drop 25 file))
    (records (25 + number_at 17 file) 0 (drop (25 + number_at 17 file) file)))
    else None

-- what a file says: nothing, or an open one whose heading is wrong, or one of a format and a generation
pub data Says : Type 0 where
  Closed : Says
  Headless : Says
  Opens : Format → ℕ → Option Held → Says

abbrev pub saying : Heading → Option Held → Says
saying Shut h = Closed
saying Wrong h = Headless
saying (Opened f g) h = Opens f g h

abbrev pub says : List ℕ → Says
says file = saying (heading file) (held_in file)

-- Both files, of numbers base and base + 1.

-- a new room; or the file that counts, with its format, its generation and what it holds; or where the files are
-- damaged
pub data Reading : Type 0 where
  New : Reading
  Holds : (file : ℕ) → Format → (generation : ℕ) → Held → Reading
  Damaged : (file at : ℕ) → Reading

abbrev pub counted : ℕ → Format → ℕ → Option Held → Reading
counted file f g None = Damaged file 0
counted file f g (Some h) = Holds file f g h

-- the first file counts, or the second, or neither generation is the greater
abbrev pub greater : ℕ → Reading → Reading → (first_later second_later : Bool) → Reading
greater base first second x true = second
greater base first second true false = first
greater base first second false false = Damaged (base + 1) 9

-- in the order in which the files are read
abbrev pub chosen : ℕ → Says → Says → Reading
chosen base Headless y = Damaged base 0
chosen base Closed Closed = New
chosen base Closed Headless = Damaged (base + 1) 0
chosen base Closed (Opens e k i) = counted (base + 1) e k i
chosen base (Opens f g h) Closed = counted base f g h
chosen base (Opens f g h) Headless = Damaged (base + 1) 0
chosen base (Opens f g h) (Opens e k i) =
    greater base (counted base f g h) (counted (base + 1) e k i) (nat_lt k g) (nat_lt g k)

abbrev pub reading : ℕ → List ℕ → List ℕ → Reading
reading base x y = chosen base (says x) (says y)
