-- What an editor's parts say of its account.
use Rattle.std.proofs.Common.{◌≡◌, ◌+◌, ◌++◌, ◌∙◌, ℕ, if◌then◌else◌, List, [], length, Option, Some, None, is_some}
use Rattle.std.proofs.Common.{refl, sym, ap}
use Rattle.room_json.specs.Value.{Value}
use Rattle.room_nodes.specs.declared.nodes.Body.{Body}
use Rattle.room_nodes.specs.Steps.{fold}
use Rattle.room_log.specs.Log.{ops_from}
use Rattle.room_msg.specs.declared.messages.Resume.{Resume}
use Rattle.room_model.specs.Account.{Account, all_bodies, bodies_in, is_some_list, clocks, shown, unacknowledged}
use Rattle.room_model.specs.Account.{open_ops}
use Rattle.room_model.specs.Account.{actor_in}
use Rattle.room_model.specs.History.{History}
use Rattle.room_model.specs.Presence.{Others}
use Rattle.room_overlay.specs.Own.{opened}
use Rattle.room_overlay.specs.Over as over
use Rattle.room_overlay.specs.Over.{Over, last_issued, next_clock, opened_ops}
use Rattle.room_editor.specs.Editor.{Gathered, account_of, batch_with, opened_in}
use Rattle.room_editor.specs.Standing.{Stands, StandsIn}

pub batch_is_some : (bs : List Body) (g : Option Gathered) → is_some (batch_with bs g) ≡ is_some g
batch_is_some bs None = refl
batch_is_some bs (Some g) = refl

-- the open batch's operations are those that are open in the overlay

opens_by : (s : Option Resume) (o : Over) (g : Option Gathered) → (g ≡ None → o.batch ≡ None)
    → bodies_in (batch_with (opened o.batch) g) ≡ opened o.batch
opens_by s o None h = ap opened (sym (h refl))
opens_by s o (Some g) h = refl

none_opens : (g : Option Gathered) → bodies_in (batch_with [] g) ≡ []
none_opens None = refl
none_opens (Some g) = refl

pub opens : (s : Option Resume) (o : Option Over) (g : Option Gathered) (h : History) → StandsIn s o g h
    → bodies_in (batch_with (opened_in o) g) ≡ opened_in o
opens s None g h st = none_opens g
opens s (Some o) g h st = opens_by s o g st.closed

module _ (room : List ℕ) (s : Option Resume) (node : ℕ) (me : List (List ℕ × Value)) (others : Others)
    (unsent : List (List ℕ)) (h : History) (g : Option Gathered) where
  abbrev of : Option Over → Account
  of o = account_of room s o node me others unsent h g

  pub shown_is : (o : Over) → Stands s o g → Some (over.shown o) ≡ shown (of (Some o))
  shown_is o st = ap (λ bs. Some (fold o.confirmed (all_bodies o.issued ++ bs))) (sym (opens s (Some o) g h st))

  pub unacknowledged_is : (o : Over) → Stands s o g → over.unacknowledged o ≡ unacknowledged (of (Some o))
  unacknowledged_is o st =
      ap (λ bs. length o.issued + (if is_some_list bs then 1 else 0)) (sym (opens s (Some o) g h st))

  pub none_unacknowledged : StandsIn s None g h → 0 ≡ unacknowledged (of None)
  none_unacknowledged st = ap (λ (bs : List Body). 0 + (if is_some_list bs then 1 else 0)) (sym (opens s None g h st))

  pub op_is : (o : Over) → Stands s o g → next_clock o ≡ (clocks (of (Some o))).op
  op_is o st = ap (λ bs. last_issued o + 1 + length bs) (sym (opens s (Some o) g h st))

  pub first_op_is : StandsIn s None g h → 1 ≡ (clocks (of None)).op
  first_op_is st = ap (λ (bs : List Body). 0 + 1 + length bs) (sym (opens s None g h st))

  pub opened_is : (o : Over) → Stands s o g → opened_ops o ≡ open_ops (of (Some o))
  opened_is o st =
      (λ i. ops_from (sym st.actor i) (last_issued o + 1) (opened o.batch))
      ∙ ap (λ bs. ops_from (actor_in s) (last_issued o + 1) bs) (sym (opens s (Some o) g h st))

  pub none_opened : StandsIn s None g h → open_ops (of None) ≡ []
  none_opened st = ap (λ (bs : List Body). ops_from (actor_in s) 1 bs) (opens s None g h st)

pub ruleset views = (batch_is_some, shown_is, unacknowledged_is, none_unacknowledged, op_is, first_op_is)
