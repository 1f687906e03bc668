-- What a call does to a client, and to the clients of a world.
use Rattle.std.specs.Prelude.{◌≡◌, ℕ, List, [], ◌∷◌, Option, Some, None}
use Rattle.std.specs.Ordering.{nat_cmp}
use Rattle.std.specs.FinMap.{FinMap, insert, from_entries}
use Rattle.room_model.specs.Calls.{dialled, lost}
use Rattle.room_model.specs.Lines.{Call}
use Rattle.room_model.specs.Lines as model
use Rattle.room_model.specs.World.{Slot, World, client_calls, slot, with_slot}
use Rattle.room_slots.specs.declared.slot.Deed.{Deed}
use Rattle.room_slots.specs.declared.slot.Deed.TheVariants.{Begin, End, Undo, Redo, Pause, Resume, Clear}

abbrev pub Clients : Type 0
Clients = FinMap nat_cmp Slot

-- entries in order, as a map
abbrev pub as_map : List (ℕ × Slot) → Clients
as_map es = from_entries es

-- the lines of a call that writes one, or none
abbrev pub line_in : Option (List ℕ) → List (List ℕ)
line_in None = []
line_in (Some t) = t ∷ []

-- in every world with these clients, the call of the client c makes `new` of them, writes these lines, and changes
-- nothing else
abbrev pub Calls : Clients → Clients → (line c : ℕ) → Call → List (List ℕ) → Type 0
Calls old new line c call lines = (w : World) → w.clients ≡ old
    → ((client_calls w line c (slot w c) call).lines ≡ lines)
    × ((client_calls w line c (slot w c) call).world ≡ record w { clients = new })

-- one client: a call that writes a line changes nothing
abbrev pub Acts : Slot → Slot → (line : ℕ) → Call → Option (List ℕ) → Type 0
Acts old new line call None = (w : World) (c : ℕ)
    → ((client_calls w line c old call).lines ≡ [])
    × ((client_calls w line c old call).world ≡ with_slot w c new)
Acts old new line call (Some t) = (new ≡ old) × ((w : World) (c : ℕ)
    → ((client_calls w line c old call).lines ≡ t ∷ [])
    × ((client_calls w line c old call).world ≡ w))

-- a client that wasn't there is put in, where its first call changes it
abbrev pub kept : Clients → ℕ → Slot → Option (List ℕ) → Clients
kept ps c p None = insert ps c p
kept ps c p (Some t) = ps

abbrev pub call_of : Deed → Call
call_of Begin = model.Begin
call_of End = model.End
call_of Undo = model.Undo
call_of Redo = model.Redo
call_of Pause = model.Pause
call_of Resume = model.Resume
call_of Clear = model.Clear

-- with a connection, and with none

abbrev pub dialled_on : ℕ → Slot → Slot
dialled_on k p = record { account = dialled p.account; present = Some k; noticed = p.noticed }

abbrev pub cut_off : Slot → Slot
cut_off p = record { account = lost p.account; present = None; noticed = p.noticed }
