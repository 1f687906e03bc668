-- A call that does one step does another one that comes to the same; and what a frame holds.
use Rattle.std.proofs.Common.{◌≡◌, ◌≤◌, ◌++◌, ℕ, List, [], ◌∷◌, true, false, cond, map, length, nat_le, sym, ap, ◌∙◌, subst}
use Rattle.std.proofs.Common.{append_assoc, append-nil, nat_cmp, arith}
use Rattle.std.proofs.lemmas.Bool.Decides.{nat_tests}
use Rattle.std.proofs.lemmas.List.{map-append}
use Rattle.std.proofs.lemmas.Result.{on_ok_weaker}
use Rattle.std.specs.Prelude.{All, Result, Err, OnOk, Option, Some, None, codes, decimal}
use Rattle.std.specs.Str.{bytes_eq}
use Rattle.std.specs.FinMap.{FinMap, insert, remove, entries}
use Rattle.std.proofs.lemmas.List.Elements.{All-head, All-tail}
use Rattle.room_nodes.specs.Shallow.{AreShallowOps}
use Rattle.room_nodes.specs.declared.nodes.Op.{Op}
use Rattle.room_msg.specs.declared.messages.ClientMsg.{ClientMsg}
use Rattle.room_msg.specs.declared.messages.ClientMsg.TheVariants as client
use Rattle.room_msg.specs.Sound.{IsShallowClientMsg}
use Rattle.room_log.specs.Taking.{Taken, Gap, Takes}
use Rattle.room_log.specs.Log.{Update, session_of}
use Rattle.room_store.specs.Stored.{Stored}
use Rattle.room_model.specs.Access.{Decision, barred, refusal_text}
use Rattle.room_model.specs.Server.{Server, Served, Link, Outbound, Message, shut, bad_frame, taken, act_all, expected_got, all_ops_in}
use Rattle.room_model.specs.Server.{ops_in, permitted, permitted_unless, owned, foreign_in, has_hello, session_frame, hello, admit}
use Rattle.room_model.specs.Server.{admit_unless, greet, has_key, decision_of, resumed, elsewhere, to_each, holds, to_others, users_of}
use Rattle.room_model.specs.Server.{without_actor, with_session, Inbound, frame_at}
use Rattle.room_msg.specs.declared.messages.Hello.{Hello}
use Rattle.room_msg.specs.declared.messages.Resume.{Resume}
use Rattle.room_msg.specs.declared.messages.ServerMsg.TheVariants as server
use Rattle.room_msg.specs.declared.reason.Reason.{Reason}
use Rattle.room_msg.specs.declared.reason.Reason.TheVariants as reason
use Rattle.room_links.specs.declared.outs.Out.{Out}
use Rattle.room_links.specs.Outs.{written}
use Rattle.room_arrivals.specs.Serving.{Serves, Answers, server_of, listed}
use Rattle.room_arrivals.specs.declared.draft.Setting.{Setting}
use Rattle.room_arrivals.specs.declared.draft.Draft.{Draft}

abbrev Gives : Setting → Stored → Draft → Draft → Served → Type 0
Gives setting t d e out =
    (server_of t setting e.links ≡ out.server)
    × (e.outs ≡ d.outs ++ map written out.outs)
    × (e.group.entries ≡ d.group.entries ++ listed out.entry)

pub serves_so : {T E : Type 0} (r : Result T E) (setting : Setting) (s t : Stored) (d e : Draft) (step other : Server → Served)
    → step (server_of s setting d.links) ≡ other (server_of s setting d.links)
    → OnOk r (Serves setting s t d e step) → OnOk r (Serves setting s t d e other)
serves_so r setting s t d e step other same given =
    on_ok_weaker r (λ w. subst (λ (out : Served). Gives setting t d e out) same w) given

pub answers_so : {T E : Type 0} (r : Result T E) (setting : Setting) (s : Stored) (d e : Draft) (step other : Server → Served)
    → step (server_of s setting d.links) ≡ other (server_of s setting d.links)
    → OnOk r (Answers setting s d e step) → OnOk r (Serves setting s s d e other)
answers_so r setting s d e step other same given =
    on_ok_weaker r (λ w. subst (λ (out : Served). Gives setting s d e out) same w.0) given

at_most : (a b : ℕ) → a ≤ b → nat_le a b ≡ true
at_most a b p = grind (arith, nat_tests, p)

-- a gap, and too many updates

pub gap_closes : (v : Server) (k : ℕ) (l : Link) (a : ℕ) (ms : List ClientMsg) (t : Taken) (expected got : ℕ) (text : List ℕ)
    → t ≡ Gap expected got → text ≡ expected_got (codes "clock gap") expected got
    → shut v k l 4402 text ≡ taken v k l a ms t
gap_closes v k l a ms t expected got text is same = ap (shut v k l 4402) same ∙ sym (ap (taken v k l a ms) is)

pub full_closes : (v : Server) (k : ℕ) (l : Link) (a : ℕ) (ms : List ClientMsg) (t : Taken) (u : Update) (text : List ℕ)
    → t ≡ Takes u → v.limits.updates ≤ v.state.count → text ≡ codes "room full " ++ decimal v.state.count
    → shut v k l 4406 text ≡ taken v k l a ms t
full_closes v k l a ms t u text is full same =
    ap (shut v k l 4406) same
    ∙ sym (ap (taken v k l a ms) is
    ∙ ap (λ b. cond b (shut v k l 4406 (codes "room full " ++ decimal v.state.count)) (act_all v k a (Some u) ms))
    (at_most v.limits.updates v.state.count full))

-- a level that bars a message, and an operation of another actor

pub barred_closes : (v : Server) (k : ℕ) (l : Link) (a : ℕ) (ms : List ClientMsg) (bar : Decision) (text : List ℕ)
    → barred l.decision ms ≡ Some bar → text ≡ refusal_text bar → shut v k l 4403 text ≡ permitted v k l a ms
barred_closes v k l a ms bar text is same = ap (shut v k l 4403) same ∙ sym (ap (permitted_unless v k l a ms) is)

pub foreign_closes : (v : Server) (k : ℕ) (l : Link) (a : ℕ) (ms : List ClientMsg) (o : Option ℕ) (got : ℕ) (text : List ℕ)
    → o ≡ Some got → text ≡ expected_got (codes "foreign actor") a got → shut v k l 4404 text ≡ owned v k l a ms o
foreign_closes v k l a ms o got text is same = ap (shut v k l 4404) same ∙ sym (ap (owned v k l a ms) is)

pub hello_closes : (v : Server) (k : ℕ) (l : Link) (a : ℕ) (ms : List ClientMsg) → has_hello ms ≡ true
    → bad_frame v k l reason.Hello ≡ session_frame v k l a ms
hello_closes v k l a ms is =
    sym (ap (λ b. cond b (bad_frame v k l reason.Hello) (owned v k l a ms (foreign_in a (all_ops_in ms)))) is)

-- a hello

pub bars : (v : Server) (k : ℕ) (l : Link) (h : Hello) (d : Option Decision) (bar : Decision) (text : List ℕ)
    → barred d (client.Hello h ∷ []) ≡ Some bar → text ≡ refusal_text bar → shut v k l 4403 text ≡ admit v k l h d
bars v k l h d bar text is same = ap (shut v k l 4403) same ∙ sym (ap (admit_unless v k l h d) is)

pub unknown_closes : (v : Server) (k : ℕ) (l : Link) (h : Hello) (o : Option Resume) (r : Resume) (text : List ℕ)
    → o ≡ Some r → has_key r.key (session_of v.state.sessions r.actor) ≡ false → text ≡ codes "bad resume"
    → shut v k l 4401 text ≡ greet v k l h o
unknown_closes v k l h o r text is lacks same =
    ap (shut v k l 4401) same
    ∙ sym (ap (greet v k l h) is
    ∙ ap (λ b. cond b (admit v k l h (decision_of v h v.access)) (shut v k l 4401 (codes "bad resume"))) lacks)

pub many_closes : (v : Server) (k : ℕ) (l : Link) (h : Hello) (o : Option Resume) (text : List ℕ)
    → o ≡ None → v.limits.sessions ≤ length v.state.sessions
    → text ≡ codes "sessions full " ++ decimal (length v.state.sessions) → shut v k l 4406 text ≡ greet v k l h o
many_closes v k l h o text is many same =
    ap (shut v k l 4406) same
    ∙ sym (ap (greet v k l h) is
    ∙ ap (λ b. cond b (shut v k l 4406 (codes "sessions full " ++ decimal (length v.state.sessions)))
    (admit v k l h (decision_of v h v.access))) (at_most v.limits.sessions (length v.state.sessions) many))

pub no_hello_closes : (v : Server) (k : ℕ) (l : Link) (o : Option Hello) → o ≡ None
    → bad_frame v k l reason.Hello ≡ hello v k l o
no_hello_closes v k l o is = sym (ap (hello v k l) is)

pub other_room_closes : (v : Server) (k : ℕ) (l : Link) (o : Option Hello) (h : Hello) → o ≡ Some h
    → bytes_eq h.room v.room ≡ false → bad_frame v k l reason.Room ≡ hello v k l o
other_room_closes v k l o h is other =
    sym (ap (hello v k l) is ∙ ap (λ b. cond b (greet v k l h h.resume) (bad_frame v k l reason.Room)) other)

pub resumed_so : (s : Stored) (setting : Setting) (d : Draft) (k : ℕ) (l : Link) (r : Resume) (x : Option Decision)
    (ls : FinMap nat_cmp Link) (os ps : List Out)
    → ls ≡ insert (without_actor d.links r.actor) k (with_session l r.actor x)
    → os ≡ d.outs ++ map written (to_each (holds r.actor) elsewhere (entries d.links))
    → ps ≡ os ++ map written ((k, Message (server.RoomState r.actor r.key (users_of s.state.sessions (remove ls k))))
    ∷ to_others ls k (server.Joined r.actor))
    → Serves setting s s d (record { links = ls; outs = ps; group = d.group }) (λ v. resumed v k l r x)
resumed_so s setting d k l r x ls os ps is before after = (
  ap (server_of s setting) is,
  after ∙ ap (λ o. o ++ map written (greeting ls)) before
      ∙ append_assoc d.outs (map written closes) (map written (greeting ls))
      ∙ ap (λ o. d.outs ++ o) (sym (map-append written closes (greeting ls)))
      ∙ ap (λ m. d.outs ++ map written (closes ++ greeting m)) is,
  sym (append-nil d.group.entries),
)
  where
    closes : List (ℕ × Outbound)
    closes = to_each (holds r.actor) elsewhere (entries d.links)

    greeting : FinMap nat_cmp Link → List (ℕ × Outbound)
    greeting m = (k, Message (server.RoomState r.actor r.key (users_of s.state.sessions (remove m k))))
        ∷ to_others m k (server.Joined r.actor)

-- a frame that is none
pub bad_closes : (v : Server) (k : ℕ) (l : Link) (i : Inbound) (r : Reason) → i ≡ Err r → bad_frame v k l r ≡ frame_at v k l i
bad_closes v k l i r is = sym (ap (frame_at v k l) is)

-- no operation of a frame is too deep

ops_then : (os ps : List Op) → AreShallowOps os → AreShallowOps ps → AreShallowOps (os ++ ps)
ops_then [] ps h g = g
ops_then (o ∷ os) ps h g = (h.0, ops_then os ps h.1 g)

one_shallow : (m : ClientMsg) → IsShallowClientMsg m → AreShallowOps (ops_in m)
one_shallow (client.Hello hello) h = tt
one_shallow (client.Presence target patch) h = tt
one_shallow (client.Broadcast event) h = tt
one_shallow client.Fetch h = tt
one_shallow (client.Update os) h = h

pub all_shallow : (ms : List ClientMsg) (os : List Op) → os ≡ all_ops_in ms → All IsShallowClientMsg ms → AreShallowOps os
all_shallow ms os same h = subst AreShallowOps (sym same) (each ms h)
  where
    each : (ms : List ClientMsg) → All IsShallowClientMsg ms → AreShallowOps (all_ops_in ms)
    each [] h = tt
    each (m ∷ ms) h = ops_then (ops_in m) (all_ops_in ms) (one_shallow m (All-head IsShallowClientMsg m ms h))
        (each ms (All-tail IsShallowClientMsg m ms h))
