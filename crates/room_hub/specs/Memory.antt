-- A hub in memory: its events, and what happened.
use Rattle.std.specs.Prelude.{◌≡◌, ℕ, ◌+◌, Bool, true, List, [], ◌∷◌, ◌++◌, drop, max, Result, Ok, Err}
use Rattle.room_edge.specs.Memory.{Calls, called, next}
use Rattle.room_hub.specs.declared.hub.Event.{Event}
use Rattle.room_hub.specs.declared.hub.Event.TheVariants.{End}
use Rattle.room_hub.specs.declared.hub.Deed.{Deed}
use Rattle.room_hub.specs.declared.hub.Deed.TheVariants.{Dialled}
use Rattle.room_hub.specs.declared.hub.Happening.{Happening}
use Rattle.room_hub.specs.declared.hub.Happening.TheVariants.{Gave, Did, Failed}
use Rattle.room_hub.specs.declared.hub.HubFault.{HubFault}
use Rattle.room_hub.specs.declared.hub.HubFault.TheVariants as fault
use Rattle.room_hub.specs.declared.hub.SendFault.{SendFault}
use Rattle.room_hub.specs.Happening.{tried, deeds_in, opened_in, numbers, are_new, are_at_most}

-- the events that are left, what happened, the greatest number of a connection, and how often it was asked
pub record Board : Type 0 where
  pub left : List Event
  pub happened : List Happening
  pub last : ℕ
  pub asked : ℕ

-- 0 where there is none
abbrev pub greatest : List ℕ → ℕ
greatest [] = 0
greatest (n ∷ ns) = max n (greatest ns)

abbrev pub board_of : List Event → Board
board_of es = record { left = es; happened = []; last = greatest (opened_in es); asked = 0 }

-- no two of these events open the same connection
abbrev pub OpenOnce : List Event → Type 0
OpenOnce es = are_new [] (opened_in es) ≡ true

-- behind the last event there is the end
abbrev pub first_of : List Event → Event
first_of [] = End
first_of (e ∷ es) = e

abbrev pub asked_once : Board → Board
asked_once b = record b { asked = next b.asked }

abbrev pub given : Board → Board
given b = record b { left = drop 1 b.left; happened = b.happened ++ Gave (first_of b.left) ∷ [] }

abbrev pub noted : Board → Deed → Board
noted b d = record b { happened = b.happened ++ Did d ∷ [] }

-- what was tried, and whether it was lost
abbrev pub tried_on : {T : Type 0} → Board → (Bool → Deed) → Result T SendFault → Board
tried_on b deed result = record b { happened = b.happened ++ tried deed result }

abbrev pub dialled_next : Board → Board
dialled_next b = record b { happened = b.happened ++ Did (Dialled (b.last + 1)) ∷ []; last = b.last + 1 }

-- the deeds are those that happened; no number that was given is above the last, and none of an event that is left; and
-- these are new, too
pub record Keeps (last : ℕ) (hs : List Happening) (es : List Event) (ds : List Deed) : Type 0 where
  pub told : deeds_in hs ≡ ds
  pub bound : are_at_most last (numbers hs) ≡ true
  pub ahead : are_at_most last (opened_in es) ≡ true
  pub fresh : are_new (numbers hs) (opened_in es) ≡ true

abbrev pub failed_once : Board → Board
failed_once b = record b { happened = b.happened ++ Failed ∷ [] }

abbrev pub gave_on : Board → Result Event HubFault → Board
gave_on b (Ok e) = given b
gave_on b (Err fault.Failed) = failed_once b
gave_on b (Err fault.Memory) = b

abbrev pub dialled_on : Board → Result ℕ HubFault → Board
dialled_on b (Ok conn) = dialled_next b
dialled_on b (Err fault.Failed) = failed_once b
dialled_on b (Err fault.Memory) = b

-- with calls of which some fail
pub record Failing : Type 0 where
  pub board : Board
  pub calls : Calls

abbrev pub with_board : Failing → Board → Failing
with_board h b = record { board = b; calls = called h.calls }
