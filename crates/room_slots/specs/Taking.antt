-- What a client does with what came down on a connection.
use Rattle.std.specs.Prelude.{◌≡◌, ℕ, List, [], ◌∷◌, map}
use Rattle.std.specs.FinMap.{get}
use Rattle.room_msg.specs.Written.{client_text}
use Rattle.room_msg.specs.declared.messages.ClientMsg.{ClientMsg}
use Rattle.room_model.specs.Server.{Outbound}
use Rattle.room_model.specs.World.{Slot, World, client_takes, slot, slot_in, with_slot, send_inbound, cut_present}
use Rattle.room_model.specs.World.{inbound_frame}
use Rattle.room_moves.specs.Reading.{replies_to}
use Rattle.room_slots.specs.Slots.{Clients}
use Rattle.room_slots.specs.declared.taking.Taken.{Taken}
use Rattle.room_slots.specs.declared.taking.Taken.TheVariants.{Heard, Lost}

-- these frames go up on the connection k
abbrev pub sending : World → Clients → ℕ → List (List ClientMsg) → World
sending w new k frames = send_inbound (record w { clients = new }) k (map inbound_frame frames)

-- in every world with these clients: the lines, and the world after. The replies are the texts of the client's answer,
-- which goes up on the connection k; a client that is lost has its connection cut.
abbrev pub Takes : Clients → Clients → (line c k : ℕ) → Outbound → Taken → Type 0
Takes old new line c k m (Heard lines replies) = (replies ≡ map client_text (replies_to (slot_in (get old c)) m))
    × ((w : World) → w.clients ≡ old
    → ((client_takes w line c k (slot w c) m).lines ≡ lines)
    × ((client_takes w line c k (slot w c) m).world ≡ sending w new k (replies_to (slot_in (get old c)) m)))
Takes old new line c k m (Lost text cut) = (w : World) → w.clients ≡ old
    → ((client_takes w line c k (slot w c) m).lines ≡ text ∷ [])
    × ((client_takes w line c k (slot w c) m).world ≡ cut_present (record w { clients = new }) cut)

-- one client
abbrev pub Hears : Slot → Slot → (line c k : ℕ) → Outbound → Taken → Type 0
Hears old new line c k m (Heard lines replies) = (replies ≡ map client_text (replies_to old m))
    × ((w : World)
    → ((client_takes w line c k old m).lines ≡ lines)
    × ((client_takes w line c k old m).world
    ≡ send_inbound (with_slot w c new) k (map inbound_frame (replies_to old m))))
Hears old new line c k m (Lost text cut) = (w : World)
    → ((client_takes w line c k old m).lines ≡ text ∷ [])
    × ((client_takes w line c k old m).world ≡ cut_present (with_slot w c new) cut)
