-- The laws of every run.
use Rattle.std.specs.Prelude.{◌≡◌, ℕ, ◌≤◌, ◌==◌, ◌⊎◌, Bool, true, ◌&&◌, ◌||◌, List, [], ◌∷◌, ◌++◌, Some, IsOk}
use Rattle.room_nodes.specs.Shape.{Nodes}
use Rattle.room_nodes.specs.Steps.{fold, settle_all}
use Rattle.room_items.specs.Items.{tree_in, items_of}
use Rattle.room_log.specs.Log.{State, Update, tree_after, tree_at, last_at, last_of, updates_of}
use Rattle.room_model.specs.Account.{Batch, actor, beyond, issued, pending_bodies, shown}
use Rattle.room_model.specs.Lines.{Line}
use Rattle.room_msg.specs.declared.messages.ServerMsg.{ServerMsg}
use Rattle.room_msg.specs.declared.messages.ServerFrame.TheVariants.{Msgs}
use Rattle.room_model.specs.Receive.{receive_frame}
use Rattle.room_model.specs.Server.{Server, Outbound, Pong, Message, Closed, Inbound, serve}
use Rattle.room_model.specs.World.{Running, state_in, slot, account}
use Rattle.room_model.specs.Run.{Run, run, opened, issued_of, IsUndisturbed}
use Rattle.room_model.specs.Sound.{RunsOn}
use Rattle.room_laws.specs.Invariant.{conn}

-- From the tree t on, each update of the actor is the next whole batch, settled where it is taken.
abbrev pub Once : ℕ → Nodes → List Update → List Batch → Type 0
Once a t [] bs = Unit {0}
Once a t (u ∷ us) bs =
    record {
      own : u.actor ≡ a;
      batch : Batch;
      others : List Batch;
      front : bs ≡ batch ∷ others;
      first : u.first ≡ batch.first;
      bodies : u.bodies ≡ settle_all t batch.bodies;
      more : Once a (fold t u.bodies) us others;
    }
    ⊎ record { other : u.actor ≡ a → ⊥; more : Once a (fold t u.bodies) us bs }

-- a client that shows a tree: the tree after the first n updates, with its own operations beyond `told` on top
pub record ShowsLog (s : State) (r : Run) (c : ℕ) (t : Nodes) : Type 0 where
  -- n is the opening's number, or that of an update of the log
  pub since : s.count ≤ (account r.world c).n
  pub within : (account r.world c).n ≤ (state_in r.world.host).count
  pub tree : t ≡ tree_at s r.log (account r.world c).n
  pub told : (account r.world c).told ≡ last_at s r.log (account r.world c).n (actor (account r.world c))
  pub on_top : shown (account r.world c) ≡ Some
      (fold (tree_at s r.log (account r.world c).n) (pending_bodies (account r.world c)))

-- its batches in the log, each once, and what it was told of them; it holds all that are beyond that
pub record Kept (s : State) (r : Run) (c : ℕ) : Type 0 where
  pub runs : RunsOn 0 (issued_of c r.issued)
  pub once : Once (actor (account r.world c)) s.tree (updates_of r.log) (issued_of c r.issued)
  pub pending : issued (account r.world c) ≡ beyond (account r.world c).told (issued_of c r.issued)
  pub acknowledged : (account r.world c).told ≤ last_of (state_in r.world.host).sessions (actor (account r.world c))

-- each tree that these updates lead to is read again, from its items, as itself
abbrev pub ReadsBack : State → List Update → Type 0
ReadsBack s us =
    (vs ws : List Update) → us ≡ vs ++ ws → tree_in (items_of (tree_after s.tree vs)) ≡ Some (tree_after s.tree vs)

-- every state of the server over these lines can be read by a client
abbrev pub IsReadable : State → List (ℕ × Line) → Type 0
IsReadable s ls = ReadsBack s (updates_of (run (opened s) ls).log)

abbrev pub EachShows : Type 0
EachShows =
    (s : State) (ls : List (ℕ × Line)) (c : ℕ) (t : Nodes) → IsReadable s ls → IsUndisturbed (run (opened s) ls) c
    → (account (run (opened s) ls).world c).confirmed ≡ Some t → ShowsLog s (run (opened s) ls) c t

abbrev pub EachOnce : Type 0
EachOnce =
    (s : State) (ls : List (ℕ × Line)) (c : ℕ) → IsReadable s ls → IsUndisturbed (run (opened s) ls) c
    → Kept s (run (opened s) ls) c

-- the closes that a client may get for what it sends: the room is full, or its session goes on elsewhere
abbrev pub spares : Outbound → Bool
spares Pong = true
spares (Message m) = true
spares (Closed code text) = (code == 4406) || (code == 4408)

abbrev pub spares_all : List (ℕ × Outbound) → Bool
spares_all [] = true
spares_all (o ∷ os) = spares o.1 && spares_all os

-- an undisturbed client refuses no message that waits for it
abbrev pub EachTaken : Type 0
EachTaken =
    (s : State) (ls : List (ℕ × Line)) (c k : ℕ) (m : ServerMsg) (ms : List Outbound) → IsReadable s ls
    → IsUndisturbed (run (opened s) ls) c
    → (slot (run (opened s) ls).world c).present ≡ Some k → (conn (run (opened s) ls).world k).outbound ≡ Message m ∷ ms
    → IsOk (receive_frame (account (run (opened s) ls).world c) (Msgs (m ∷ [])))

-- and no frame that it sent is answered by another close than these: not as a bad frame, a bad resume, a gap in its
-- clocks or an operation of somebody else
abbrev pub EachServed : Type 0
EachServed =
    (s : State) (ls : List (ℕ × Line)) (c k : ℕ) (v : Server) (u : Inbound) (us : List Inbound) → IsReadable s ls
    → IsUndisturbed (run (opened s) ls) c
    → (run (opened s) ls).world.host ≡ Running v → (conn (run (opened s) ls).world k).owner ≡ Some c
    → (conn (run (opened s) ls).world k).inbound ≡ u ∷ us
    → spares_all (serve v k u).outs ≡ true
