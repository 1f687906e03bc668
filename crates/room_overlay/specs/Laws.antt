-- An overlay is a part of a client's account, and its calls make of it what the account's calls and messages do.
use Rattle.std.specs.Prelude.{◌≡◌, ℕ, ◌+◌, List, ◌∷◌, length, Some, None}
use Rattle.std.specs.Option.{option_map}
use Rattle.room_nodes.specs.declared.nodes.Op.{Op}
use Rattle.room_nodes.specs.declared.nodes.Body.{Body}
use Rattle.room_nodes.specs.Shape.{Nodes}
use Rattle.room_nodes.specs.Steps.{fold}
use Rattle.room_log.specs.Log.{bodies_of}
use Rattle.room_model.specs.Account.{Account, OpenBatch, bodies_in}
use Rattle.room_model.specs.Account as account
use Rattle.room_model.specs.Calls as call
use Rattle.room_model.specs.Edits.{Made}
use Rattle.room_model.specs.Receive as message
use Rattle.room_overlay.specs.Over.{Over, opened_ops, pending, shown, last_issued, next_clock, unacknowledged}
use Rattle.room_overlay.specs.Over.{added_to, sealed, state_fault, loaded, updated}

abbrev pub over_batch : OpenBatch → List Body
over_batch o = o.bodies

-- the overlay's part of an account whose confirmed tree is t
abbrev pub over_of : Account → Nodes → Over
over_of x t = record {
  actor = account.actor x;
  n = x.n;
  told = x.told;
  confirmed = t;
  issued = account.issued x;
  batch = option_map over_batch x.batch;
}

pub record IsPartOf (x : Account) (t : Nodes) : Type 0 where
  -- what it says of itself
  pub pending : pending (over_of x t) ≡ account.pending x
  pub opened : opened_ops (over_of x t) ≡ account.open_ops x
  pub shown : Some (shown (over_of x t)) ≡ account.shown_over x (Some t)
  pub last_issued : last_issued (over_of x t) ≡ account.last_issued x
  pub next_clock : next_clock (over_of x t) ≡ account.last_issued x + 1 + length (bodies_in x.batch)
  pub unacknowledged : unacknowledged (over_of x t) ≡ account.unacknowledged x
  -- operations in an open batch, and outside of one; the end of a batch
  pub in_batch : (m : Made) (bs : List Body) (o : OpenBatch) → x.batch ≡ Some o
      → over_of (call.edited_in x t m bs (Some o)) t ≡ added_to (over_of x t) bs
  pub outside : (m : Made) (b : Body) (bs : List Body) → x.batch ≡ None
      → over_of (call.edited_in x t m (b ∷ bs) None) t ≡ sealed (added_to (over_of x t) (b ∷ bs))
  pub closed : (o : OpenBatch) → x.batch ≡ Some o → over_of (call.closed x o).account t ≡ sealed (over_of x t)
  -- a state, and an update
  pub fault : (n last : ℕ) → state_fault (over_of x t) n last ≡ message.state_fault x n last
  pub loaded : (n last : ℕ) (u : Nodes)
      → over_of (message.loaded_account x n last u) u ≡ loaded (over_of x t) n last u
  pub updated : (os : List Op) (told : ℕ)
      → over_of (message.updated_account x os told t) (fold t (bodies_of os)) ≡ updated (over_of x t) os told

abbrev pub OverlaysArePartsOfAccounts : Type 0
OverlaysArePartsOfAccounts = (x : Account) (t : Nodes) → IsPartOf x t
