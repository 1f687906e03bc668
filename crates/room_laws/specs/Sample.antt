-- A run that meets the premises of the laws, line by line. Two clients join, edit, and take each other's edits; the
-- server stops while an edit waits to be received, and starts again; both dial once more, and the edit, sent twice, is
-- taken once.
use Rattle.std.specs.Prelude.{◌≡◌, ◌+◌, ℕ, pos, List, [], ◌∷◌, ◌++◌, codes, Some, Ok}
use Rattle.std.specs.FinMap.{from_sorted}
use Rattle.room_json.specs.Value.{Value, whole}
use Rattle.room_ids.specs.declared.ids.NodeId.TheVariants.{Root}
use Rattle.room_nodes.specs.declared.nodes.Body.{Body}
use Rattle.room_nodes.specs.declared.nodes.Body.TheVariants.{Update as UpdateOf}
use Rattle.room_nodes.specs.declared.nodes.Kind.TheVariants.{Object}
use Rattle.room_nodes.specs.Shape.{Nodes, bare_root}
use Rattle.room_msg.specs.declared.messages.ClientMsg.{ClientMsg}
use Rattle.room_msg.specs.declared.messages.ClientFrame.TheVariants.{Msgs}
use Rattle.room_msg.specs.declared.messages.ServerMsg.{ServerMsg}
use Rattle.room_log.specs.Log.{Entry, Join, Updated, Update, empty_state}
use Rattle.room_log.specs.Follows.{IsValidState}
use Rattle.room_model.specs.Account.{Batch, Synced, frame_of, issued, shown}
use Rattle.room_model.specs.Edits as edits
use Rattle.room_model.specs.Init.{Plain}
use Rattle.room_model.specs.Lines as lines
use Rattle.room_model.specs.Lines.{Call, Line}
use Rattle.room_model.specs.Server.{Server, Outbound, Message}
use Rattle.room_model.specs.World.{Running, account, slot}
use Rattle.room_model.specs.Run.{Run, run, opened, IsUndisturbed}
use Rattle.room_laws.specs.Invariant.{conn}
use Rattle.room_laws.specs.Validity.{AreLines}

-- the lines

abbrev pub dial : ℕ → Line
dial c = lines.OfClient c lines.Dial

abbrev pub flush : ℕ → Line
flush c = lines.OfClient c lines.Flush

abbrev pub resend : ℕ → Line
resend c = lines.OfClient c lines.Resend

-- a client sets a member of the root to a number

abbrev pub sets_call : List ℕ → ℕ → Call
sets_call name n = lines.Edits (edits.Set Root name (Plain (whole (pos n))))

abbrev pub sets : ℕ → List ℕ → ℕ → Line
sets c name n = lines.OfClient c (sets_call name n)

abbrev pub up : ℕ → Line
up k = lines.OfConnection k lines.Up

abbrev pub down : ℕ → Line
down k = lines.OfConnection k lines.Down

-- the client c dials, as the connection k: its hello, its session, its presence, its fetch, and the state
abbrev pub enters : ℕ → ℕ → List Line
enters c k = dial c ∷ up k ∷ down k ∷ up k ∷ up k ∷ down k ∷ []

-- the client of the connection j takes that another entered as k, and its presence, and answers with its own
abbrev pub greets : ℕ → ℕ → List Line
greets j k = down j ∷ down j ∷ up j ∷ down k ∷ []

abbrev pub joins : List Line
joins = enters 1 1 ++ enters 2 2 ++ greets 1 2

-- the first client's edit is taken by the server and by both clients; the second client makes and sends one too
abbrev pub from_edit : List Line
from_edit = flush 1 ∷ up 1 ∷ down 1 ∷ down 2 ∷ sets 2 (codes "b") 2 ∷ flush 2 ∷ []

abbrev pub before_stop : List Line
before_stop = joins ++ sets 1 (codes "a") 1 ∷ from_edit

-- the second edit was lost, so it is sent again once the state came, and then once more; the server takes it once, and
-- both clients do
abbrev pub from_stop : List Line
from_stop =
    lines.OfServer lines.Stop ∷ lines.OfServer lines.Start ∷ enters 1 3 ++ enters 2 4 ++ greets 3 4
    ++ resend 2 ∷ up 4 ∷ up 4 ∷ down 3 ∷ down 4 ∷ []

abbrev pub numbered : ℕ → List Line → List (ℕ × Line)
numbered n [] = []
numbered n (l ∷ ls) = (n, l) ∷ numbered (n + 1) ls

abbrev pub sample_lines : List (ℕ × Line)
sample_lines = numbered 1 (before_stop ++ from_stop)

-- what they give

abbrev pub number : ℕ → Value
number n = whole (pos n)

abbrev pub sample_body : List ℕ → ℕ → Body
sample_body name n = UpdateOf Root ((name, number n) ∷ [])

-- the one batch of a client, and the update that takes it
abbrev pub sample_batch : List ℕ → ℕ → Batch
sample_batch name n = record { first = 1; bodies = sample_body name n ∷ [] }

abbrev pub sample_update : ℕ → List ℕ → ℕ → Update
sample_update a name n = record { actor = a; first = 1; bodies = sample_body name n ∷ [] }

-- the log where the server stops: the second edit isn't in it
abbrev pub stopped_log : List Entry
stopped_log = Join 1 1 [] ∷ Join 2 2 [] ∷ Updated (sample_update 1 (codes "a") 1) ∷ []

abbrev pub sample_log : List Entry
sample_log = stopped_log ++ Updated (sample_update 2 (codes "b") 2) ∷ []

-- the root alone, with these members
abbrev pub tree_with : List (List ℕ × Value) → Nodes
tree_with fs = from_sorted ((Root, record bare_root { kind = Object fs }) ∷ [])

abbrev pub stopped_tree : Nodes
stopped_tree = tree_with ((codes "a", number 1) ∷ [])

abbrev pub sample_tree : Nodes
sample_tree = tree_with ((codes "a", number 1) ∷ (codes "b", number 2) ∷ [])

abbrev pub stopped_run : Run
stopped_run = run (opened empty_state) (numbered 1 before_stop)

abbrev pub sample_run : Run
sample_run = run (opened empty_state) sample_lines

-- a client that is undisturbed and loaded with the tree t after n updates, and shows the tree u, with these batches
-- that aren't acknowledged on top
pub record IsLoaded (r : Run) (c n : ℕ) (t : Nodes) (waiting : List Batch) (u : Nodes) : Type 0 where
  pub undisturbed : IsUndisturbed r c
  pub stage : (account r.world c).stage ≡ Synced
  pub confirmed : (account r.world c).confirmed ≡ Some t
  pub shown : shown (account r.world c) ≡ Some u
  pub taken : (account r.world c).n ≡ n
  pub issued : issued (account r.world c) ≡ waiting

-- a message waits for a client on its present connection, as what a client takes asks for
pub record WaitsDown (r : Run) (c k : ℕ) : Type 0 where
  pub present : (slot r.world c).present ≡ Some k
  pub message : ServerMsg
  pub behind : List Outbound
  pub outbound : (conn r.world k).outbound ≡ Message message ∷ behind

-- a frame of a client waits for a server that runs, as what a server answers asks for
pub record WaitsUp (r : Run) (c k : ℕ) (ms : List ClientMsg) : Type 0 where
  pub server : Server
  pub runs : r.world.host ≡ Running server
  pub owner : (conn r.world k).owner ≡ Some c
  pub inbound : (conn r.world k).inbound ≡ Ok (Msgs ms) ∷ []

-- nothing waits on a connection
pub record IsStill (r : Run) (k : ℕ) : Type 0 where
  pub inbound : (conn r.world k).inbound ≡ []
  pub outbound : (conn r.world k).outbound ≡ []

abbrev pub welcomed_run : Run
welcomed_run = run (opened empty_state) (numbered 1 (dial 1 ∷ up 1 ∷ []))

pub record Sample : Type 0 where
  -- the premises of the laws: a valid opening state, lines that can be spelled, and, below, two undisturbed clients
  pub valid : IsValidState empty_state
  pub lines : AreLines sample_lines
  -- the first client's session waits for it
  pub welcome_waits : WaitsDown welcomed_run 1 1
  -- where the server stops, the second client shows its own edit on top, which the log lacks
  pub stopped : stopped_run.log ≡ stopped_log
  pub first_stopped : IsLoaded stopped_run 1 1 stopped_tree [] stopped_tree
  pub second_stopped : IsLoaded stopped_run 2 1 stopped_tree (sample_batch (codes "b") 2 ∷ []) sample_tree
  pub second_waits : WaitsUp stopped_run 2 2 (frame_of 2 (sample_batch (codes "b") 2))
  -- in the end both show both edits, and nothing waits
  pub log : sample_run.log ≡ sample_log
  pub first : IsLoaded sample_run 1 2 sample_tree [] sample_tree
  pub second : IsLoaded sample_run 2 2 sample_tree [] sample_tree
  pub still : IsStill sample_run 1 × IsStill sample_run 2 × IsStill sample_run 3 × IsStill sample_run 4
  -- each client issued one batch, and no connection but its own was given its actor
  pub issued : sample_run.issued ≡ (1, sample_batch (codes "a") 1) ∷ (2, sample_batch (codes "b") 2) ∷ []
  pub given : sample_run.given ≡ (1, Some 1) ∷ (2, Some 2) ∷ (1, Some 1) ∷ (2, Some 2) ∷ []
