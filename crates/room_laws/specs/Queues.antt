-- What may wait in the two queues of a connection.
use Rattle.std.specs.Prelude.{◌≡◌, ℕ, ◌+◌, ◌≤◌, max, Bool, true, false, List, [], ◌∷◌, ◌++◌, length, Option, Some, None}
use Rattle.std.specs.Prelude.{Ok, Err}
use Rattle.room_json.specs.Value.{Value}
use Rattle.room_items.specs.Items.{tree_in}
use Rattle.room_msg.specs.declared.messages.Resume.{Resume}
use Rattle.room_msg.specs.declared.messages.ClientMsg.TheVariants as client
use Rattle.room_msg.specs.declared.messages.ClientFrame.TheVariants as frame
use Rattle.room_msg.specs.declared.messages.ServerMsg.TheVariants as server
use Rattle.room_log.specs.Log.{State, Update, tree_after, last_after, ops_of, ops_from}
use Rattle.room_model.specs.Account.{Batch, Part, Stage, Idle, Dialled, Connected, Synced, actor_in, last_clock}
use Rattle.room_model.specs.Receive.{other_parts, parts_items}
use Rattle.room_model.specs.Server.{Outbound, Pong, Message, Closed, Inbound}
use Rattle.room_laws.specs.Ledger.{In}

-- connected, or synced
abbrev pub IsOn : Stage → Type 0
IsOn Idle = ⊥
IsOn Dialled = ⊥
IsOn Connected = Unit {0}
IsOn Synced = Unit {0}

-- where a client stands as it takes the outbound queue: its stage, the parts kept, the updates taken, and those to come
pub record Place : Type 0 where
  pub stage : Stage
  pub parts : List Part
  pub done : List Update
  pub coming : List Update

-- a part of a state: the last one brings the updates up to its number
abbrev pub SaysPart : State → Option Resume → Place → ℕ → ℕ → List Value → Bool → Place → Type 0
SaysPart s w p seq last items true q =
    q ≡ record p { parts = p.parts ++ record { seq = seq; last = last; items = items } ∷ [] }
SaysPart s w p seq last items false q = record {
  mid : List Update;
  rest : List Update;
  coming : p.coming ≡ mid ++ rest;
  place : q ≡ record { stage = Synced; parts = []; done = p.done ++ mid; coming = rest };
  count : seq ≡ s.count + length (p.done ++ mid);
  told : last ≡ last_after (actor_in w) 0 (p.done ++ mid);
  tree : tree_in (parts_items p.parts ++ items) ≡ Some (tree_after s.tree (p.done ++ mid));
}

-- What is outbound, taken at the place p, may be taken, and leads to the place q. w: the connection's session.
abbrev pub Says : State → Option Resume → Place → Outbound → Place → Type 0
Says s w p Pong q = q ≡ p
Says s w p (Closed code text) q = q ≡ record p { stage = Idle; parts = [] }
Says s w p (Message (server.Presence a target patch)) q = record { on : IsOn p.stage; place : q ≡ p }
Says s w p (Message (server.Joined a)) q = record { on : IsOn p.stage; place : q ≡ p }
Says s w p (Message (server.Left a)) q = record { on : IsOn p.stage; place : q ≡ p }
Says s w p (Message (server.Broadcast a e)) q = record { on : IsOn p.stage; place : q ≡ p }
Says s w p (Message (server.RoomState a key users)) q = record {
  before : p.stage ≡ Dialled;
  mine : w ≡ Some (record { actor = a; key = key });
  place : q ≡ record p { stage = Connected };
}
Says s w p (Message (server.State seq last items more)) q = record {
  on : IsOn p.stage;
  fits : other_parts p.parts seq last ≡ None;
  says : SaysPart s w p seq last items more q;
}
Says s w p (Message (server.Update seq os)) q = record {
  before : p.stage ≡ Synced;
  whole : p.parts ≡ [];
  update : Update;
  rest : List Update;
  coming : p.coming ≡ update ∷ rest;
  place : q ≡ record { stage = Synced; parts = []; done = p.done ++ update ∷ []; coming = rest };
  count : seq ≡ s.count + length p.done + 1;
  ops : os ≡ ops_of update;
}

-- the queue, taken whole at the place p, leads to the place q
abbrev pub Waits : State → Option Resume → Place → List Outbound → Place → Type 0
Waits s w p [] q = p ≡ q
Waits s w p (m ∷ ms) q = record { next : Place; says : Says s w p m next; more : Waits s w next ms q }

-- Each frame of the inbound queue is one that a client sends once it is told its session; each that holds operations is
-- a
-- batch that was issued, and begins by the clock after all before it; e is the clock after all. b is the actor of the
-- connection, a the one that the client knows.

abbrev pub InOrder : ℕ → ℕ → List Batch → ℕ → List Inbound → ℕ → Type 0
InOrder b a all c [] e = c ≡ e
InOrder b a all c (Err r ∷ q) e = ⊥
InOrder b a all c (Ok frame.Ping ∷ q) e = ⊥
InOrder b a all c (Ok (frame.Msgs []) ∷ q) e = ⊥
InOrder b a all c (Ok (frame.Msgs (m ∷ n ∷ ms)) ∷ q) e = ⊥
InOrder b a all c (Ok (frame.Msgs (client.Hello h ∷ [])) ∷ q) e = ⊥
InOrder b a all c (Ok (frame.Msgs (client.Presence target patch ∷ [])) ∷ q) e = InOrder b a all c q e
InOrder b a all c (Ok (frame.Msgs (client.Broadcast event ∷ [])) ∷ q) e = InOrder b a all c q e
InOrder b a all c (Ok (frame.Msgs (client.Fetch ∷ [])) ∷ q) e = InOrder b a all c q e
InOrder b a all c (Ok (frame.Msgs (client.Update os ∷ [])) ∷ q) e = record {
  mine : b ≡ a;
  batch : Batch;
  issued : In batch all;
  ops : os ≡ ops_from a batch.first batch.bodies;
  begins : batch.first ≤ c + 1;
  more : InOrder b a all (max c (last_clock batch)) q e;
}
