-- What an update makes of an account, by what it makes of the overlay.
use Rattle.std.proofs.Common.{◌≡◌, ◌+◌, ◌==◌, ◌++◌, ◌∙◌, ℕ, Bool, true, false, ◌||◌, ◌&&◌, not, if◌then◌else◌, List, []}
use Rattle.std.proofs.Common.{◌∷◌}
use Rattle.std.proofs.Common.{Option, Some, IfOk, OnOk, refl, sym, ap, subst}
use Rattle.std.specs.Prelude.{Result, Ok, Err}
use Rattle.room_json.specs.Value.{Value}
use Rattle.room_items.specs.View.{view}
use Rattle.room_nodes.specs.declared.nodes.Op.{Op}
use Rattle.room_nodes.specs.Cells.{is_apart}
use Rattle.room_nodes.specs.Equal.{are_first}
use Rattle.room_nodes.specs.Steps.{fold}
use Rattle.room_log.specs.Log.{bodies_of, ops_from}
use Rattle.room_msg.specs.declared.messages.Resume.{Resume}
use Rattle.room_model.specs.Account.{Account, actor_in, all_bodies, all_ops, is_some_list, last_issued, pending, shown}
use Rattle.room_model.specs.Calls.{tree_or_bare}
use Rattle.room_model.specs.History.{History}
use Rattle.room_model.specs.Notices.{Notice, Reset, notices_of_all}
use Rattle.room_model.specs.Presence.{Others}
use Rattle.room_model.specs.Receive.{Gap, none_own, update_numbered, update_told, update_notices}
use Rattle.room_model.specs.Receive.{updated_account, told_by}
use Rattle.room_notice.specs.Notices.{notices_in}
use Rattle.room_notice.specs.declared.shapes.Notice.{Notice as NoticeHere}
use Rattle.room_overlay.specs.Over as over
use Rattle.room_overlay.specs.Over.{Over, stands_apart, updated}
use Rattle.room_editor.specs.Editor.{Gathered, account_of, taken}
use Rattle.room_editor.specs.Standing.{Stands, StandsIn}
use Rattle.room_editor.specs.Taking.{notices_with}
use Rattle.room_editor.proofs.Pending.{updates, bodies_pending}
use Rattle.room_editor.proofs.Viewing.{opens, shown_is}

abbrev first_or : (b c : Bool) (x y z : List Notice) → List Notice
first_or b c x y z = if b then x else (if c then y else z)

module _ (room : List ℕ) (s : Option Resume) (node : ℕ) (me : List (List ℕ × Value)) (others : Others)
    (unsent : List (List ℕ)) (h : History) (g : Option Gathered) where
  abbrev of : Over → Account
  of o = account_of room s (Some o) node me others unsent h g

  pending_is : (o : Over) → Stands s o g → pending (of o) ≡ over.pending o
  pending_is o st = λ i.
      all_ops (st.actor i) o.issued
      ++ ops_from (st.actor i) (over.last_issued o + 1) (opens s (Some o) g h st i)

  after_is : (o : Over) (os : List Op) (told : ℕ) → Stands s o g
      → tree_or_bare (shown (updated_account (of o) os told o.confirmed)) ≡ over.shown (updated o os told)
  after_is o os told st =
      ap (λ bs. fold (fold o.confirmed (bodies_of os)) (all_bodies (over.updated o os told).issued ++ bs))
      (opens s (Some o) g h st)

  apart_is : (o : Over) (os : List Op) → Stands s o g
      → (none_own (actor_in s) os && is_apart o.confirmed (bodies_of os) (bodies_of (pending (of o))))
      ≡ stands_apart o os
  apart_is o os st = λ i.
      none_own (st.actor i) os
      && is_apart o.confirmed (bodies_of os) ((ap bodies_of (pending_is o st) ∙ bodies_pending o) i)

  notices_are : (o : Over) (os : List Op) (told : ℕ) → Stands s o g
      → update_notices (of o) os told o.confirmed ≡ notices_with o os (over.shown (updated o os told))
  notices_are o os told st = λ i.
      first_or (are_first os (pending_is o st i)) (not (is_some_list (pending_is o st i)) || apart_is o os st i) []
      (notices_of_all (ap tree_or_bare (sym (shown_is room s node me others unsent h g o st)) i) (bodies_of os))
      (Reset (view (after_is o os told st i)) ∷ [])

  told_is : (o : Over) (os : List Op) → Stands s o g
      → told_by (actor_in s) (over.last_issued o) o.told os ≡ told_by o.actor (over.last_issued o) o.told os
  told_is o os st = ap (λ a. told_by a (over.last_issued o) o.told os) st.actor

  numbered : (o : Over) (seq : ℕ) (os : List Op) (t : Bool) → t ≡ true
      → (if t then update_told (of o) os o.confirmed (told_by (actor_in s) (over.last_issued o) o.told os)
      else Err (Gap (o.n + 1) seq))
      ≡ update_told (of o) os o.confirmed (told_by (actor_in s) (over.last_issued o) o.told os)
  numbered o seq os true e = refl
  numbered o seq os false e = cc

  update_at : (o p : Over) (seq : ℕ) (os : List Op) (ns : List Notice) → Stands s o g → over.update o seq os ≡ Ok p
      → ns ≡ notices_with o os (over.shown p)
      → taken (update_numbered (of o) seq os) ≡ Ok (record { account = of p; notices = ns })
  update_at o p seq os ns st to is =
      let k = updates o p seq os to in
      ap taken (numbered o seq os (seq == o.n + 1) k.next
      ∙ ap (update_told (of o) os o.confirmed) (told_is o os st ∙ k.tells))
      ∙ (λ i. Ok (record {
        account = of (sym k.is i);
        notices = (notices_are o os k.told st
            ∙ ap (λ (q : Over). notices_with o os (over.shown q)) (sym k.is) ∙ sym is) i;
      }))

  pub update_done : (x : Account) (oo : Option Over) (o p : Over) (seq : ℕ) (os : List Op) (ns : List Notice)
      → account_of room s oo node me others unsent h g ≡ x → oo ≡ Some o → StandsIn s oo g h
      → over.update o seq os ≡ Ok p → ns ≡ notices_with o os (over.shown p)
      → taken (update_numbered x seq os) ≡ Ok (record { account = of p; notices = ns })
  update_done x oo o p seq os ns is some st to says =
      let e = subst (λ (q : Option Over). StandsIn s q g h) some st in
      let same : x ≡ of o = sym is ∙ ap (λ q. account_of room s q node me others unsent h g) some in
      ap (λ (y : Account). taken (update_numbered y seq os)) same ∙ update_at o p seq os ns e to says

  pub update_ok : {F : Type 0} (x : Account) (oo : Option Over) (o p : Over) (seq : ℕ) (os : List Op)
      (r : Result (List NoticeHere) F) → account_of room s oo node me others unsent h g ≡ x → oo ≡ Some o
      → StandsIn s oo g h → OnOk r (over.update o seq os ≡ Ok p)
      → IfOk r (λ ns. notices_in ns ≡ notices_with o os (over.shown p))
      → IfOk r (λ ns. taken (update_numbered x seq os) ≡ Ok (record { account = of p; notices = notices_in ns }))
  update_ok x oo o p seq os (Ok ns) is some st to says =
      update_done x oo o p seq os (notices_in ns) is some st to says
  update_ok x oo o p seq os (Err f) is some st to says = tt
