-- An editor: a client's account at rest, which is what lasts over its connections.
use Rattle.std.specs.Prelude.{◌≡◌, ℕ, List, [], Option, Some, None}
use Rattle.std.specs.Prelude.{Result, Ok, Err}
use Rattle.room_json.specs.Value.{Value}
use Rattle.room_nodes.specs.declared.nodes.Body.{Body}
use Rattle.room_nodes.specs.declared.nodes.Change.{Change}
use Rattle.room_nodes.specs.Shape.{Nodes}
use Rattle.room_msg.specs.declared.messages.Resume.{Resume}
use Rattle.room_model.specs.History.{History}
use Rattle.room_model.specs.Notices.{Notice}
use Rattle.room_model.specs.Presence.{Others}
use Rattle.room_model.specs.Account.{Account, Batch, OpenBatch, Idle, issued}
use Rattle.room_model.specs.Calls.{Done}
use Rattle.room_model.specs.Receive.{Received}
use Rattle.room_overlay.specs.Over.{Over}
use Rattle.room_overlay.specs.Own.{opened}

-- the account with no connection: nothing was sent on it, no part of a state came, no event waits
abbrev pub at_rest : Account → Account
at_rest x = record x { stage = Idle; sent = []; fresh = issued x; parts = []; events = [] }

-- what an open batch gathers beside its operations: the bytes that these take in a frame, what takes them back, and the
-- presence keys
pub record Gathered : Type 0 where
  pub bytes : ℕ
  pub changes : List Change
  pub keys : List (List ℕ)

-- what the overlay says, where there is one

abbrev pub issued_in : Option Over → List Batch
issued_in None = []
issued_in (Some o) = o.issued

abbrev pub opened_in : Option Over → List Body
opened_in None = []
opened_in (Some o) = opened o.batch

abbrev pub told_in : Option Over → ℕ
told_in None = 0
told_in (Some o) = o.told

abbrev pub number_in : Option Over → ℕ
number_in None = 0
number_in (Some o) = o.n

abbrev pub confirmed_in : Option Over → Option Nodes
confirmed_in None = None
confirmed_in (Some o) = Some o.confirmed

abbrev pub batch_with : List Body → Option Gathered → Option OpenBatch
batch_with bs None = None
batch_with bs (Some g) = Some (record { bodies = bs; changes = g.changes; keys = g.keys })

abbrev pub account_of : (room : List ℕ) → Option Resume → Option Over → (node : ℕ) → (me : List (List ℕ × Value))
    → Others → (unsent : List (List ℕ)) → History → Option Gathered → Account
account_of room session over node me others unsent history gathered = record {
  room = room;
  stage = Idle;
  session = session;
  sent = [];
  fresh = issued_in over;
  batch = batch_with (opened_in over) gathered;
  told = told_in over;
  n = number_in over;
  confirmed = confirmed_in over;
  parts = [];
  node = node;
  me = me;
  unsent = unsent;
  others = others;
  events = [];
  history = history;
}

-- what a call answers: the account after it, and what changed in the view

pub record Outcome : Type 0 where
  pub account : Account
  pub notices : List Notice

abbrev pub done : {F : Type 0} → Result Done F → Result Outcome F
done (Err fault) = Err fault
done (Ok d) = Ok (record { account = d.account; notices = d.notices })

abbrev pub done_if : {F : Type 0} → Result (Option Done) F → Result (Option Outcome) F
done_if (Err fault) = Err fault
done_if (Ok None) = Ok None
done_if (Ok (Some d)) = Ok (Some (record { account = d.account; notices = d.notices }))

-- what an undo or a redo answers: the account stays where there is no entry
abbrev pub WentBack : {F : Type 0} → Result (Option Done) F → Account → Account → Option (List Notice) → Type 0
WentBack r x y None = (done_if r ≡ Ok None) × (y ≡ x)
WentBack r x y (Some ns) = done_if r ≡ Ok (Some (record { account = y; notices = ns }))

-- what a message makes of an account at rest
abbrev pub taken : {F : Type 0} → Result Received F → Result Outcome F
taken (Err fault) = Err fault
taken (Ok r) = Ok (record { account = at_rest r.account; notices = r.notices })
