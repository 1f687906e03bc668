-- An undisturbed client refuses nothing.
use Rattle.std.proofs.Common.{◌≡◌, ℕ, List, [], ◌∷◌, refl, sym, ◌∙◌, subst}
use Rattle.std.specs.Prelude.{Option, Some, Result, Ok, Err, IsOk}
use Rattle.room_msg.specs.declared.messages.ServerMsg.{ServerMsg}
use Rattle.room_msg.specs.declared.messages.ServerFrame.TheVariants.{Msgs}
use Rattle.room_log.specs.Log.{State, last_of, updates_of}
use Rattle.room_model.specs.Receive
use Rattle.room_model.specs.Server.{Outbound, Message}
use Rattle.room_model.specs.World.{slot, account}
use Rattle.room_model.specs.Run.{Run, run, opened, IsUndisturbed}
use Rattle.room_laws.specs.Laws.{EachTaken}
use Rattle.room_laws.specs.Core.{core, actor}
use Rattle.room_laws.specs.Invariant
use Rattle.room_laws.proofs.Messages.{takes}
use Rattle.room_laws.proofs.Whole.{stands}
use Rattle.room_laws.proofs.Single.{receive_one}

err_ok : {A B : Type 0} (a : A) (b : B) → ◌≡◌ {A = Result A B} (Err b) (Ok a) → ⊥
err_ok a b e = cc

module _ (s : State) (r : Run) (c k : ℕ) (m : ServerMsg) (ms : List Outbound) (st : Invariant.Inv s r) (calm : IsUndisturbed r c)
    (present : (slot r.world c).present ≡ Some k) (first : (Invariant.conn r.world k).outbound ≡ Message m ∷ ms) where
  held : Invariant.Client s (updates_of r.log) (Invariant.sessions r) r.given c (Some k) (core (account r.world c)) (Invariant.issued_by r c) (Message m ∷ ms) (Invariant.link r.world k)
  held = subst (λ (d : List Outbound). Invariant.Client s (updates_of r.log) (Invariant.sessions r) r.given c (Some k) (core (account r.world c)) (Invariant.issued_by r c) d (Invariant.link r.world k)) first
      (subst (λ (o : Option ℕ). Invariant.Client s (updates_of r.log) (Invariant.sessions r) r.given c o (core (account r.world c)) (Invariant.issued_by r c) (Invariant.present_outbound r.world o) (Invariant.present_link r.world o)) present (st.client c calm))

  inbounds : Invariant.Inbounds (Some k ≡ Some k) (account r.world c).session (Invariant.tried (core (account r.world c))) (Invariant.issued_by r c) (last_of (Invariant.sessions r) (actor (core (account r.world c)))) (Invariant.link r.world k) (Invariant.conn r.world k).inbound
  inbounds = subst (λ (o : Option ℕ). Invariant.Inbounds (o ≡ Some k) (account r.world c).session (Invariant.tried (core (account r.world c))) (Invariant.issued_by r c) (last_of (Invariant.sessions r) (actor (core (account r.world c)))) (Invariant.link r.world k) (Invariant.conn r.world k).inbound)
      present (st.inbounds c k (st.shape.present c k present).owner calm)

  by_answer : (res : Result Receive.Received Receive.FrameFault) → Receive.receive (account r.world c) m ≡ res → IsOk (Receive.or_lost (account r.world c) res)
  by_answer (Ok out) e = refl
  by_answer (Err fault) e =
      let t = takes s (updates_of r.log) (Invariant.sessions r) r.given c k (account r.world c) (Invariant.issued_by r c) ms (Invariant.link r.world k) (Invariant.conn r.world k).inbound m
      (λ out i. absurd (err_ok out fault (sym e ∙ i))) held inbounds in
      absurd (err_ok t.out fault (sym e ∙ t.is))

  pub taken : IsOk (Receive.receive_frame (account r.world c) (Msgs (m ∷ [])))
  taken = subst IsOk (sym (receive_one (account r.world c) m)) (by_answer (Receive.receive (account r.world c) m) refl)

pub each_taken : EachTaken
each_taken s ls c k m ms h calm present first = taken s (run (opened s) ls) c k m ms (stands s ls h) calm present first
