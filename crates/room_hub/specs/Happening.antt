-- What happens on a hub: the events that it gives, and what is done on it.
use Rattle.std.specs.Prelude.{◌≡◌, ℕ, Bool, true, false, ◌&&◌, not, nat_le, List, [], ◌∷◌, ◌++◌, Result, Ok, Err, IfOk}
use Rattle.room_edge.specs.Memory.{is_among}
use Rattle.room_hub.specs.declared.hub.Event.{Event}
use Rattle.room_hub.specs.declared.hub.Event.TheVariants.{Opened, Frame, Gone, Quiet, End}
use Rattle.room_hub.specs.declared.hub.Deed.{Deed}
use Rattle.room_hub.specs.declared.hub.Deed.TheVariants.{Sent, Closed, Dialled}
use Rattle.room_hub.specs.declared.hub.Happening.{Happening}
use Rattle.room_hub.specs.declared.hub.Happening.TheVariants.{Gave, Did, Failed}
use Rattle.room_hub.specs.declared.hub.HubFault.{HubFault}
use Rattle.room_hub.specs.declared.hub.HubFault.TheVariants as fault
use Rattle.room_hub.specs.declared.hub.SendFault.{SendFault}
use Rattle.room_hub.specs.declared.hub.SendFault.TheVariants.{Memory, Lost}

-- what a call adds

-- an event, or that it failed; out of memory nothing happens
abbrev pub gave : Result Event HubFault → List Happening
gave (Ok e) = Gave e ∷ []
gave (Err fault.Failed) = Failed ∷ []
gave (Err fault.Memory) = []

abbrev pub sent : ℕ → List ℕ → Bool → Deed
sent conn text lost = Sent conn text lost

abbrev pub closed : ℕ → ℕ → List ℕ → Bool → Deed
closed conn code text lost = Closed conn code text lost

-- what was tried, and whether it was lost; out of memory nothing was
abbrev pub tried : {T : Type 0} → (Bool → Deed) → Result T SendFault → List Happening
tried deed (Ok done) = Did (deed false) ∷ []
tried deed (Err Lost) = Did (deed true) ∷ []
tried deed (Err Memory) = []

abbrev pub dialled : Result ℕ HubFault → List Happening
dialled (Ok conn) = Did (Dialled conn) ∷ []
dialled (Err fault.Failed) = Failed ∷ []
dialled (Err fault.Memory) = []

-- the events alone, and the deeds alone

abbrev pub events_in : List Happening → List Event
events_in [] = []
events_in (Gave e ∷ hs) = e ∷ events_in hs
events_in (Did d ∷ hs) = events_in hs
events_in (Failed ∷ hs) = events_in hs

abbrev pub deeds_in : List Happening → List Deed
deeds_in [] = []
deeds_in (Gave e ∷ hs) = deeds_in hs
deeds_in (Did d ∷ hs) = d ∷ deeds_in hs
deeds_in (Failed ∷ hs) = deeds_in hs

-- numbers of connections

abbrev pub opens : Event → List ℕ
opens (Opened conn key) = conn ∷ []
opens (Frame conn text) = []
opens (Gone conn) = []
opens Quiet = []
opens End = []

abbrev pub opened_in : List Event → List ℕ
opened_in [] = []
opened_in (e ∷ es) = opens e ++ opened_in es

abbrev pub dials : Deed → List ℕ
dials (Sent conn text lost) = []
dials (Closed conn code text lost) = []
dials (Dialled conn) = conn ∷ []

abbrev pub numbers_of : Happening → List ℕ
numbers_of (Gave e) = opens e
numbers_of (Did d) = dials d
numbers_of Failed = []

-- those that were given, by events and by dials
abbrev pub numbers : List Happening → List ℕ
numbers [] = []
numbers (h ∷ hs) = numbers_of h ++ numbers hs

-- none of these is among the first ones, and no two are equal
abbrev pub are_new : List ℕ → List ℕ → Bool
are_new ks [] = true
are_new ks (n ∷ ns) = not (is_among n ks) && are_new (n ∷ ks) ns

abbrev pub are_at_most : ℕ → List ℕ → Bool
are_at_most last [] = true
are_at_most last (n ∷ ns) = nat_le n last && are_at_most last ns

-- the connection of an event that opens one was never given before
abbrev pub IsNewEvent : {E : Type 0} → List Happening → Result Event E → Type 0
IsNewEvent hs result = IfOk result (λ e. are_new (numbers hs) (opens e) ≡ true)

abbrev pub IsNewDial : {E : Type 0} → List Happening → Result ℕ E → Type 0
IsNewDial hs result = IfOk result (λ n. are_new (numbers hs) (n ∷ []) ≡ true)
