-- Samples: what the grammar and the generator say of cases that a reader can follow.
use Rattle.std.specs.Prelude.{◌≡◌, ℕ, List, [], ◌∷◌, ◌++◌, codes, pos, Some, None, Ok, Err}
use Rattle.room_json.specs.Value.{Value, whole, list, members, no_values, value, no_fields, field}
use Rattle.room_model.specs.Init.{Plain, AMap, AList, no_parts, part, no_inits, init}
use Rattle.room_model.specs.Lines.{Stop, ShowServer, BriefServer, Raw, Flush, Show, Brief, OfClient, AsksClient}
use Rattle.room_model.specs.Lines.{OfConnection, OfServer, Link, Torn, Fuse}
use Rattle.room_script.specs.Live.{init_of}
use Rattle.room_script.specs.Grammar.{schedule_line, script_line, schedule_in, Calls, Asks, Takes}
use Rattle.room_script.specs.Generator.{drawn, pick, pushed_by, place_after}

abbrev pub number : ℕ → Value
number n = whole (pos n)

-- an object with one name
abbrev pub named : List ℕ → Value → Value
named k v = members (field k v no_fields)

pub record Samples : Type 0 where
  -- words stand behind one space each
  pub one_word : schedule_line (codes "stop") ≡ Some (OfServer Stop)
  pub space_behind : schedule_line (codes "stop ") ≡ None
  pub two_spaces : schedule_line (codes "flush  1") ≡ None
  pub no_client : schedule_line (codes "flush") ≡ None
  pub client : schedule_line (codes "flush 7") ≡ Some (OfClient 7 Flush)
  pub last_client : schedule_line (codes "flush 64") ≡ Some (OfClient 64 Flush)
  pub no_such_client : schedule_line (codes "flush 65") ≡ None
  pub client_zero : schedule_line (codes "flush 0") ≡ None
  pub leading_zero : schedule_line (codes "flush 01") ≡ None
  pub too_many_words : schedule_line (codes "flush 1 2") ≡ None
  -- the server or a client is asked
  pub server : schedule_line (codes "show server") ≡ Some (OfServer ShowServer)
  pub brief_server : schedule_line (codes "brief server") ≡ Some (OfServer BriefServer)
  pub shown_client : schedule_line (codes "show 3") ≡ Some (AsksClient 3 Show)
  pub brief_client : schedule_line (codes "brief 3") ≡ Some (AsksClient 3 Brief)
  -- a text may be empty, and has its blanks
  pub empty_text : schedule_line (codes "raw 1 ") ≡ Some (OfConnection 1 (Raw []))
  pub no_text : schedule_line (codes "raw 1") ≡ None
  pub blanks : schedule_line (codes "raw 2  x ") ≡ Some (OfConnection 2 (Raw (codes " x ")))
  -- fuses count from 1
  pub fuse : schedule_line (codes "fuse 3 torn") ≡ Some (OfServer (Fuse 3 Torn))
  pub no_fuse : schedule_line (codes "fuse 0 torn") ≡ None
  -- a comment begins at the line's first byte; what is skipped is counted, and the last line may lack its end
  pub indented : schedule_line (codes " #") ≡ None
  pub counted : schedule_in (codes "#" ++ 10 ∷ 10 ∷ (codes "stop" ++ 10 ∷ codes "link"))
      ≡ Ok ((3, OfServer Stop) ∷ (4, Link) ∷ [])
  pub bad_line : schedule_in (codes "stop" ++ 10 ∷ (codes "#" ++ 10 ∷ (codes "halt" ++ 10 ∷ codes "stop"))) ≡ Err 3
  -- a script has no client's numbers, and its own way to take frames
  pub call : script_line (codes "flush") ≡ Some (Calls Flush)
  pub question : script_line (codes "show") ≡ Some (Asks Show)
  pub no_brief : script_line (codes "brief") ≡ None
  pub takes : script_line (codes "take 2 30") ≡ Some (Takes 2 30)
  pub no_number : script_line (codes "flush 1") ≡ None
  -- live values
  pub live_map : init_of (named (codes "$map") (named (codes "a") (number 1)))
      ≡ AMap (part (codes "a") (Plain (number 1)) no_parts)
  pub live_list : init_of (named (codes "$list") (list (value (number 1) no_values)))
      ≡ AList (init (Plain (number 1)) no_inits)
  pub no_live_list : init_of (named (codes "$list") (number 1)) ≡ Plain (named (codes "$list") (number 1))
  pub in_a_plain_one :
      init_of (list (value (named (codes "$list") (list no_values)) no_values))
      ≡ Plain (list (value (named (codes "$list") (list no_values)) no_values))
  -- the generator: the states after 42, and what is picked from them
  pub state : drawn 42 ≡ 10481999410520546993
  pub next_state : drawn (drawn 42) ≡ 4159066171780167020
  pub shape : pick 3 42 ≡ 1
  pub place : pick 1000 (drawn 42) ≡ 26
  -- items go at least one place on, around the end
  pub pushed : pushed_by 9 ≡ 2
  pub next_place : place_after 2 1 0 ≡ 0
