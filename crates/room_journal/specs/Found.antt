-- What recovery answers of files that read so.
use Rattle.std.specs.Prelude.{◌≡◌, ℕ, ◌+◌, ◌≤◌, List, [], length, take, drop, Option, Some, None, Bool, true, false}
use Rattle.room_bytes.specs.declared.entries.Format.{Format}
use Rattle.room_bytes.specs.declared.entries.Format.TheVariants.{Two}
use Rattle.room_journal.specs.declared.records.Recs.{Recs}
use Rattle.room_journal.specs.declared.reading.Found.{Found}
use Rattle.room_journal.specs.Records.{records, one_more, Records, size_of}
use Rattle.room_journal.specs.Files.{Reading, New, Holds, Damaged}
use Rattle.room_journal.specs.Rest.{end_of, place_at}

abbrev pub break_at : Bool → ℕ → Option ℕ
break_at true at = Some at
break_at false at = None

-- a whole record stands here, with a body of so many bytes
pub record IsRecordIn (rest : List ℕ) (n : ℕ) : Type 0 where
  pub fits : 5 + n ≤ length rest
  pub reads : (k : ℕ) → records k 0 rest ≡ one_more (take n (drop 5 rest)) (records (k + 5 + n) 0 (drop (5 + n) rest))

pub record IsRecordAt (file : List ℕ) (at n : ℕ) : Type 0 where
  pub fits : at + 5 + n ≤ length file
  pub reads : (k : ℕ) → records k 0 (drop at file)
      ≡ one_more (take n (drop (at + 5) file)) (records (k + 5 + n) 0 (drop (at + 5 + n) file))

pub record HasRecords (is : Records) (start : ℕ) (r : Recs) : Type 0 where
  pub bodies : r.bodies ≡ is.bodies
  pub end : r.end ≡ start + size_of is.bodies
  pub broken : is.broken ≡ break_at r.broken r.end

-- the file that was read, and the place where the journal goes on
pub record IsFoundIn (base file at : ℕ) (f : Format) (g : ℕ) (snapshot : Option (List ℕ)) (bodies : List (List ℕ))
    (broken : Option ℕ) (end : ℕ) (found : Found) : Type 0 where
  pub file_is : found.file ≡ file
  pub format_is : found.format ≡ f
  pub snapshot_is : found.snapshot ≡ snapshot
  pub bodies_are : found.bodies ≡ bodies
  pub broken_is : found.broken ≡ broken
  pub place : found.journal ≡ place_at base at g end

-- A new room has no file yet: its first one is made in the file that doesn't count, of generation 1.
abbrev pub IsFound : ℕ → Reading → Found → Type 0
IsFound base New found = IsFoundIn base base (base + 1) Two 0 None [] None 0 found
IsFound base (Holds file f g h) found =
    IsFoundIn base file file f g (Some h.snapshot) h.bodies h.broken (end_of h.snapshot h.bodies) found
IsFound base (Damaged f at) found = ⊥

-- what holds of everything that is found, on any disk
pub record HasShape (base : ℕ) (found : Found) : Type 0 where
  pub base_is : found.journal.base ≡ base
  pub new_place : found.snapshot ≡ None → found.journal ≡ place_at base (base + 1) 0 0
  pub end_is : (s : List ℕ) → found.snapshot ≡ Some s → found.journal.end ≡ end_of s found.bodies
