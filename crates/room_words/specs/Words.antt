-- The commands of the program, and the words that spell them: `command_of`, at the end. No word is empty or begins with
-- a hyphen; the first one names a command; the ones behind it are as many as the command takes, and each is a text, a
-- number, a room's name, or one of some words.
use Rattle.std.specs.Prelude.{ℕ, ◌+◌, ◌-◌, ◌*◌, ◌^◌, ◌==◌, nat_lt, nat_le, Bool, true, false, not, ◌&&◌, ◌||◌}
use Rattle.std.specs.Prelude.{if◌then◌else◌, List, [], ◌∷◌, length, Option, Some, None, option_map, option_and_then}
use Rattle.std.specs.Prelude.{codes}
use Rattle.std.specs.List.{list_all}
use Rattle.std.specs.Str.{bytes_eq}

abbrev pub Text : Type 0
Text = List ℕ

-- the rooms that a server has: all of a table, or the one of this name
pub data Served : Type 0 where
  All : Served
  One : Text → Served

-- what is done with the table of rooms: its rows are written, or one is made, retired, or described
pub data Deed : Type 0 where
  Listed : Deed
  Created : Text → Deed
  Retired : Text → Deed
  Described : Text → Deed

-- a command, with the values that its words give
pub data Told : Type 0 where
  -- the folder
  Replay : Option Text → Told
  -- the folder, the rooms, the address, the number of turns, and whether it is guarded
  Serve : Text → Served → Text → ℕ → Bool → Told
  -- the address and the room
  Client : Text → Text → Told
  -- the folder
  Show : Text → Told
  -- the number and the count
  Gen : ℕ → ℕ → Told
  -- the folder
  Patch : Text → Told
  -- the file of the table
  Rooms : Text → Deed → Told

-- ---- numbers: decimal, without leading zeros, below 2^64

abbrev pub is_digit : ℕ → Bool
is_digit b = nat_le 48 b && nat_le b 57

-- digits behind a number, as long as it stays below 2^64
abbrev pub digits_in : ℕ → List ℕ → Option ℕ
digits_in n [] = Some n
digits_in n (b ∷ bs) =
    if is_digit b && nat_lt (n * 10 + (b - 48)) (2 ^ 64) then digits_in (n * 10 + (b - 48)) bs else None

abbrev pub zero_alone : List ℕ → Option ℕ
zero_alone [] = Some 0
zero_alone (b ∷ bs) = None

abbrev pub number_in : List ℕ → Option ℕ
number_in [] = None
number_in (b ∷ bs) = if b == 48 then zero_alone bs else digits_in 0 (b ∷ bs)

-- the number, where it lies within these ends
abbrev pub within : ℕ → ℕ → Option ℕ → Option ℕ
within low high None = None
within low high (Some n) = if nat_le low n && nat_le n high then Some n else None

abbrev pub turns_in : Text → Option ℕ
turns_in t = within 1 1000000000000000000 (number_in t)

abbrev pub count_in : Text → Option ℕ
count_in t = within 0 10000 (number_in t)

-- ---- names: 1 to 64 of `a` to `z`, `0` to `9`, `-` and `_`, the first a letter or a digit

abbrev pub is_first : ℕ → Bool
is_first b = (nat_le 97 b && nat_le b 122) || is_digit b

abbrev pub is_later : ℕ → Bool
is_later b = is_first b || (b == 45 || b == 95)

abbrev pub is_name : Text → Bool
is_name [] = false
is_name (b ∷ bs) = is_first b && (list_all is_later bs && nat_lt (length bs) 64)

abbrev pub named : Text → Option Text
named t = if is_name t then Some t else None

-- ---- each command, of the words behind its name

-- replay [FOLDER]
abbrev pub replay_of : List Text → Option Told
replay_of [] = Some (Replay None)
replay_of (folder ∷ []) = Some (Replay (Some folder))
replay_of _ = None

-- a name, or `@all`
abbrev pub rooms_in : Text → Option Served
rooms_in t = if bytes_eq t (codes "@all") then Some All else option_map One (named t)

abbrev pub guard_in : Text → Option Bool
guard_in t = if bytes_eq t (codes "guarded") then Some true else None

abbrev pub serving : Text → Option Served → Text → Option ℕ → Option Bool → Option Told
serving folder rooms address turns guarded =
    option_and_then (λ r. option_and_then (λ n. option_map (Serve folder r address n) guarded) turns) rooms

-- serve FOLDER ROOM ADDRESS TURNS [guarded]
abbrev pub serve_of : List Text → Option Told
serve_of (folder ∷ room ∷ address ∷ turns ∷ []) =
    serving folder (rooms_in room) address (turns_in turns) (Some false)
serve_of (folder ∷ room ∷ address ∷ turns ∷ guarded ∷ []) =
    serving folder (rooms_in room) address (turns_in turns) (guard_in guarded)
serve_of _ = None

-- client ADDRESS ROOM
abbrev pub client_of : List Text → Option Told
client_of (address ∷ room ∷ []) = option_map (Client address) (named room)
client_of _ = None

-- show FOLDER
abbrev pub show_of : List Text → Option Told
show_of (folder ∷ []) = Some (Show folder)
show_of _ = None

abbrev pub generating : Option ℕ → Option ℕ → Option Told
generating number count = option_and_then (λ n. option_map (Gen n) count) number

-- gen NUMBER COUNT
abbrev pub gen_of : List Text → Option Told
gen_of (number ∷ count ∷ []) = generating (number_in number) (count_in count)
gen_of _ = None

-- patch FOLDER
abbrev pub patch_of : List Text → Option Told
patch_of (folder ∷ []) = Some (Patch folder)
patch_of _ = None

abbrev pub plain_deed : Text → Option Deed
plain_deed verb = if bytes_eq verb (codes "list") then Some Listed else None

abbrev pub named_deed : Text → Text → Option Deed
named_deed verb name = if bytes_eq verb (codes "create") then option_map Created (named name)
    else (if bytes_eq verb (codes "retire") then option_map Retired (named name)
    else (if bytes_eq verb (codes "meta") then option_map Described (named name) else None))

-- rooms FILE list, rooms FILE create NAME, rooms FILE retire NAME, rooms FILE meta NAME
abbrev pub rooms_of : List Text → Option Told
rooms_of (file ∷ verb ∷ []) = option_map (Rooms file) (plain_deed verb)
rooms_of (file ∷ verb ∷ name ∷ []) = option_map (Rooms file) (named_deed verb name)
rooms_of _ = None

-- ---- all of them

-- the word is not empty, and does not begin with a hyphen
abbrev pub is_word : Text → Bool
is_word [] = false
is_word (b ∷ bs) = not (b == 45)

abbrev pub spoken : Text → List Text → Option Told
spoken name rest = if bytes_eq name (codes "replay") then replay_of rest
    else (if bytes_eq name (codes "serve") then serve_of rest
    else (if bytes_eq name (codes "client") then client_of rest
    else (if bytes_eq name (codes "show") then show_of rest
    else (if bytes_eq name (codes "gen") then gen_of rest
    else (if bytes_eq name (codes "patch") then patch_of rest
    else (if bytes_eq name (codes "rooms") then rooms_of rest
    else None))))))

abbrev pub spelled : List Text → Option Told
spelled [] = None
spelled (name ∷ rest) = spoken name rest

-- the command that the words spell
unfoldable pub command_of : List Text → Option Told
command_of words = if list_all is_word words then spelled words else None

-- ---- what a command names

abbrev pub folder_of : Told → Option Text
folder_of (Replay folder) = folder
folder_of (Serve folder rooms address turns guarded) = Some folder
folder_of (Client address room) = None
folder_of (Show folder) = Some folder
folder_of (Gen number count) = None
folder_of (Patch folder) = Some folder
folder_of (Rooms file deed) = None

abbrev pub address_of : Told → Option Text
address_of (Replay folder) = None
address_of (Serve folder rooms address turns guarded) = Some address
address_of (Client address room) = Some address
address_of (Show folder) = None
address_of (Gen number count) = None
address_of (Patch folder) = None
address_of (Rooms file deed) = None

abbrev pub file_of : Told → Option Text
file_of (Replay folder) = None
file_of (Serve folder rooms address turns guarded) = None
file_of (Client address room) = None
file_of (Show folder) = None
file_of (Gen number count) = None
file_of (Patch folder) = None
file_of (Rooms file deed) = Some file

abbrev pub serves : Told → Bool
serves (Replay folder) = false
serves (Serve folder rooms address turns guarded) = true
serves (Client address room) = false
serves (Show folder) = false
serves (Gen number count) = false
serves (Patch folder) = false
serves (Rooms file deed) = false
