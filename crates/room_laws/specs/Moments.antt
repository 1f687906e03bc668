-- The laws of every run at every moment of it, also between two frames of a drain.
use Rattle.std.specs.Prelude.{◌≡◌, ℕ, true, List, [], ◌∷◌, Some, IsOk}
use Rattle.room_nodes.specs.Shape.{Nodes}
use Rattle.room_log.specs.Log.{State}
use Rattle.room_log.specs.Follows.{IsValidState}
use Rattle.room_msg.specs.declared.messages.ServerMsg.{ServerMsg}
use Rattle.room_msg.specs.declared.messages.ServerFrame.TheVariants.{Msgs}
use Rattle.room_model.specs.Receive.{receive_frame}
use Rattle.room_model.specs.Lines.{Line}
use Rattle.room_model.specs.Server.{Server, Outbound, Message, Inbound, serve}
use Rattle.room_model.specs.World.{Running, account, slot}
use Rattle.room_model.specs.Run.{Run, IsUndisturbed}
use Rattle.room_laws.specs.Invariant.{conn}
use Rattle.room_laws.specs.Laws.{ShowsLog, Kept, spares_all}
use Rattle.room_laws.specs.Moves.{Moment}
use Rattle.room_laws.specs.Validity.{AreLines}

-- r: the run at some moment, in which the client c is undisturbed so far
pub record Within (s : State) (ls : List (ℕ × Line)) (r : Run) (c : ℕ) : Type 0 where
  pub valid : IsValidState s
  pub lines : AreLines ls
  pub moment : Moment s ls r
  pub undisturbed : IsUndisturbed r c

pub record AtEveryMoment : Type 0 where
  pub shows : (s : State) (ls : List (ℕ × Line)) (r : Run) (c : ℕ) (t : Nodes) → Within s ls r c →
      (account r.world c).confirmed ≡ Some t → ShowsLog s r c t
  pub once : (s : State) (ls : List (ℕ × Line)) (r : Run) (c : ℕ) → Within s ls r c → Kept s r c
  -- a client refuses no message that comes down
  pub taken : (s : State) (ls : List (ℕ × Line)) (r : Run) (c k : ℕ) (m : ServerMsg) (ms : List Outbound) →
      Within s ls r c →
      (slot r.world c).present ≡ Some k → (conn r.world k).outbound ≡ Message m ∷ ms →
      IsOk (receive_frame (account r.world c) (Msgs (m ∷ [])))
  -- and none of its frames is answered as a bad one
  pub served : (s : State) (ls : List (ℕ × Line)) (r : Run) (c k : ℕ) (v : Server) (u : Inbound) (us : List Inbound) →
      Within s ls r c → r.world.host ≡ Running v → (conn r.world k).owner ≡ Some c → (conn r.world k).inbound ≡ u ∷ us →
      spares_all (serve v k u).outs ≡ true
