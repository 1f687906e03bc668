-- A room that is served over a hub: which call comes next, and what comes of each.
--
-- The entry is `Serves`: what happens on the hub is what the serving of the room asks for, step by step. Events are
-- gathered until nothing is ready, the end comes, the hub fails, 64 others have come, or no call is left (`gives`).
-- They are one turn (`does_turn`). What it answers is tried in order, all of it; then each connection with a loss is
-- gone, in rising order, as a turn of its own, and what that answers is tried in the same way (`treat`).
use Rattle.std.specs.Prelude.{◌≡◌, ⊤, ℕ, ◌-◌, ◌==◌, Bool, true, false, ◌&&◌, ◌||◌, if◌then◌else◌, nat_lt, nat_le, List}
use Rattle.std.specs.Prelude.{[], ◌∷◌, ◌++◌, map, length, codes, decimal, Option}
use Rattle.std.specs.Ordering.{nat_cmp}
use Rattle.std.specs.FinMap.{empty}
use Rattle.room_hub.specs.declared.hub.Event.{Event}
use Rattle.room_hub.specs.declared.hub.Event.TheVariants.{Opened, Frame, Gone, Quiet, End}
use Rattle.room_hub.specs.declared.hub.Deed.{Deed}
use Rattle.room_hub.specs.declared.hub.Deed.TheVariants.{Sent, Closed, Dialled}
use Rattle.room_hub.specs.declared.hub.Happening.{Happening}
use Rattle.room_hub.specs.declared.hub.Happening.TheVariants.{Gave, Did, Failed}
use Rattle.room_msg.specs.Written.{server_text}
use Rattle.room_log.specs.Log.{State, Entry}
use Rattle.room_model.specs.Access.{Access}
use Rattle.room_model.specs.Server.{Outbound, Pong, Message, Closed as Closing, Server}
use Rattle.room_model.specs.World.{first_limits}
use Rattle.room_model.specs.Lines.{words}
use Rattle.room_serving.specs.Turns.{Turned, turned}

-- whether events still come: it goes on; the hub gave its end; the hub failed
pub data Ending : Type 0 where
  GoesOn : Ending
  Ended : Ending
  Missed : Ending

-- The server; how many calls of `next` are left; the events of the turn so far; what is still to be tried of the last
-- turn, and the connections with a loss in it so far, in rising order. And the log: the entries of each turn that had
-- some, and of how many of these turns anything was sent.
pub record Serving : Type 0 where
  pub server : Server
  pub left : ℕ
  pub ending : Ending
  pub gathered : List Event
  pub todo : List (ℕ × Outbound)
  pub lost : List ℕ
  pub groups : List (List Entry)
  pub owed : ℕ

-- over a recovered state, with no connection
abbrev pub opening : State → List ℕ → Option Access → ℕ → Serving
opening s room access turns = record {
  server = record { state = s; room = room; limits = first_limits; access = access; links = empty {R = nat_cmp} };
  left = turns;
  ending = GoesOn;
  gathered = [];
  todo = [];
  lost = [];
  groups = [];
  owed = 0;
}

-- a turn without an entry adds no group
abbrev pub group_of : List Entry → List (List Entry)
group_of [] = []
group_of (e ∷ es) = (e ∷ es) ∷ []

abbrev pub after_turn : Serving → Turned → Serving
after_turn m out = record m {
  server = out.server;
  gathered = [];
  todo = out.outs;
  lost = [];
  groups = m.groups ++ group_of out.entries;
}

-- the events that were gathered are one turn
abbrev pub does_turn : Serving → Serving
does_turn m = after_turn m (turned m.server m.gathered)

-- gathering

abbrev pub asked : Serving → Serving
asked m = record m { left = m.left - 1 }

-- 64 events, or no call is left
abbrev pub is_full : Serving → Bool
is_full m = nat_le 64 (length m.gathered) || m.left == 0

abbrev pub with_event : Serving → Event → Serving
with_event m e = record m { gathered = m.gathered ++ e ∷ [] }

abbrev pub turn_if_full : Serving → Serving
turn_if_full m = if is_full m then does_turn m else m

abbrev pub gives : Serving → Event → Serving
gives m (Opened k key) = turn_if_full (with_event (asked m) (Opened k key))
gives m (Frame k text) = turn_if_full (with_event (asked m) (Frame k text))
gives m (Gone k) = turn_if_full (with_event (asked m) (Gone k))
gives m Quiet = does_turn (asked m)
gives m End = does_turn (record (asked m) { ending = Ended })

abbrev pub misses : Serving → Serving
misses m = does_turn (record (asked m) { ending = Missed })

-- trying

-- what is tried, and whether it was lost
abbrev pub deed_on : ℕ → Outbound → Bool → Deed
deed_on k Pong lost = Sent k (codes "pong") lost
deed_on k (Message m) lost = Sent k (server_text m) lost
deed_on k (Closing code text) lost = Closed k code text lost

abbrev pub was_lost : Deed → Bool
was_lost (Sent k text lost) = lost
was_lost (Closed k code text lost) = lost
was_lost (Dialled k) = false

-- in rising order, each once
abbrev pub with_lost : List ℕ → ℕ → List ℕ
with_lost [] k = k ∷ []
with_lost (j ∷ js) k = if k == j then j ∷ js else (if nat_lt k j then k ∷ j ∷ js else j ∷ with_lost js k)

abbrev pub goners : List ℕ → List Event
goners ks = map Gone ks

-- all was tried, or something is still to be
abbrev pub treat : Serving → List (ℕ × Outbound) → List ℕ → Serving
treat m (o ∷ os) ks = record m { todo = o ∷ os; lost = ks }
treat m [] [] = record m { todo = []; lost = [] }
treat m [] (k ∷ ks) = does_turn (record m { gathered = goners (k ∷ ks) })

abbrev pub tries : Serving → ℕ → List (ℕ × Outbound) → Bool → Serving
tries m k os lost =
    treat (record m { owed = length m.groups }) os (if lost then with_lost m.lost k else m.lost)

-- what may happen next: as long as something is to be tried, just that; then a call of `next`, if one is due

abbrev pub goes_on : Ending → Bool
goes_on GoesOn = true
goes_on Ended = false
goes_on Missed = false

abbrev pub is_asking : Serving → Bool
is_asking m = goes_on m.ending && nat_lt 0 m.left

abbrev pub MayHappen : Serving → List (ℕ × Outbound) → Happening → Type 0
MayHappen m (o ∷ os) (Did d) = d ≡ deed_on o.0 o.1 (was_lost d)
MayHappen m (o ∷ os) (Gave e) = ⊥
MayHappen m (o ∷ os) Failed = ⊥
MayHappen m [] (Did d) = ⊥
MayHappen m [] (Gave e) = is_asking m ≡ true
MayHappen m [] Failed = is_asking m ≡ true

abbrev pub after_deed : Serving → List (ℕ × Outbound) → Deed → Serving
after_deed m [] d = m
after_deed m (o ∷ os) d = tries m o.0 os (was_lost d)

abbrev pub after : Serving → Happening → Serving
after m (Gave e) = gives m e
after m (Did d) = after_deed m m.todo d
after m Failed = misses m

-- what happens on the hub is what serving asks for; so is each first part of it
abbrev pub Serves : Serving → List Happening → Type 0
Serves m [] = ⊤
Serves m (h ∷ hs) = MayHappen m m.todo h × Serves (after m h) hs

abbrev pub served : Serving → List Happening → Serving
served m [] = m
served m (h ∷ hs) = served (after m h) hs

-- nothing is left to be done
abbrev pub is_over_at : Serving → List (ℕ × Outbound) → Bool
is_over_at m [] = if is_asking m then false else true
is_over_at m (o ∷ os) = false

abbrev pub is_over : Serving → Bool
is_over m = is_over_at m m.todo

-- what is written then, and the status
abbrev pub end_lines : ℕ → Ending → List (List ℕ)
end_lines turns GoesOn = words (codes "turns" ∷ decimal turns ∷ []) ∷ []
end_lines turns Ended = []
end_lines turns Missed = codes "hub fault" ∷ []

abbrev pub end_status : Ending → ℕ
end_status GoesOn = 0
end_status Ended = 0
end_status Missed = 8
