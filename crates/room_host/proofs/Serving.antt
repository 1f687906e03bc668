-- The state of a server after a frame is the state with the frame's entry.
use Rattle.std.proofs.Common.{◌≡◌, ℕ, Bool, true, false, cond, List, [], ◌∷◌, ◌++◌, Option, Some, None, refl, ap, ◌∙◌}
use Rattle.std.specs.Prelude.{Result, Ok, Err, nat_le, length, codes, decimal}
use Rattle.std.specs.Str.{bytes_eq}
use Rattle.std.specs.FinMap.{get}
use Rattle.room_msg.specs.declared.messages.ClientMsg.{ClientMsg}
use Rattle.room_msg.specs.declared.messages.ClientMsg.TheVariants as client
use Rattle.room_msg.specs.declared.messages.ClientFrame.{ClientFrame}
use Rattle.room_msg.specs.declared.messages.ClientFrame.TheVariants.{Ping, Msgs}
use Rattle.room_msg.specs.declared.messages.Hello.{Hello}
use Rattle.room_msg.specs.declared.messages.Resume.{Resume}
use Rattle.room_msg.specs.declared.reason.Reason.{Reason}
use Rattle.room_msg.specs.declared.reason.Reason.TheVariants as reason
use Rattle.room_log.specs.Log.{State, Entry, Update, session_of}
use Rattle.room_log.specs.Taking.{Taken, Nothing, Gap, Takes, take}
use Rattle.room_model.specs.Access.{Decision, barred}
use Rattle.room_model.specs.Server.{Server, Served, Link, Inbound, serve, serve_from, frame_at, messages, hello, greet}
use Rattle.room_model.specs.Server.{admit, admit_unless, admitted, join as joins, resumed, shut, only_hello, has_key}
use Rattle.room_model.specs.Server.{session_frame, has_hello, bad_frame, owned, foreign_in, all_ops_in, permitted}
use Rattle.room_model.specs.Server.{permitted_unless, taken, act_all, acts, update_acts, waits_after, or_entry}
use Rattle.room_model.specs.Server.{fetched_at, fetch, decision_of, then_served}
use Rattle.room_model.specs.World.{state_with}

abbrev Follows : Server → Served → Type 0
Follows v out = out.server.state ≡ state_with v.state out.entry

either : (b : Bool) (v : Server) (x y : Served) → Follows v x → Follows v y → Follows v (cond b x y)
either true v x y h k = h
either false v x y h k = k

-- messages in order

fetched : (v : Server) (k : ℕ) (o : Option Link) → (fetched_at v k o).state ≡ v.state
fetched v k None = refl
fetched v k (Some l) = refl

updates : (v : Server) (waits : Option Update) → Follows v (update_acts v waits)
updates v None = refl
updates v (Some u) = refl

one : (v : Server) (k a : ℕ) (waits : Option Update) (m : ClientMsg) → Follows v (acts v k a waits m)
one v k a waits (client.Hello h) = refl
one v k a waits (client.Presence target patch) = refl
one v k a waits (client.Broadcast e) = refl
one v k a waits client.Fetch = fetched v k (get v.links k)
one v k a waits (client.Update os) = updates v waits

-- nothing waits, and so nothing comes

no_update : (v : Server) (waits : Option Update) → waits ≡ None → (update_acts v waits).entry ≡ None
no_update v None n = refl
no_update v (Some u) n = cc

none_one : (v : Server) (k a : ℕ) (waits : Option Update) (m : ClientMsg) → waits ≡ None
    → (acts v k a waits m).entry ≡ None
none_one v k a waits (client.Hello h) n = refl
none_one v k a waits (client.Presence target patch) n = refl
none_one v k a waits (client.Broadcast e) n = refl
none_one v k a waits client.Fetch n = refl
none_one v k a waits (client.Update os) n = no_update v waits n

none_after : (waits : Option Update) (m : ClientMsg) → waits ≡ None → waits_after waits m ≡ None
none_after waits (client.Hello h) n = n
none_after waits (client.Presence target patch) n = n
none_after waits (client.Broadcast e) n = n
none_after waits client.Fetch n = n
none_after waits (client.Update os) n = refl

-- where an entry came, nothing waits behind it
spent : (v : Server) (k a : ℕ) (waits : Option Update) (m : ClientMsg) (d : Entry)
    → (acts v k a waits m).entry ≡ Some d → waits_after waits m ≡ None
spent v k a waits (client.Hello h) d is = cc
spent v k a waits (client.Presence target patch) d is = cc
spent v k a waits (client.Broadcast e) d is = cc
spent v k a waits client.Fetch d is = cc
spent v k a waits (client.Update os) d is = refl

both : (s t u : State) (e f : Option Entry) → t ≡ state_with s e → u ≡ state_with t f
    → ((d : Entry) → e ≡ Some d → f ≡ None) → u ≡ state_with s (or_entry e f)
both s t u None f h k n = k ∙ ap (λ x. state_with x f) h
both s t u (Some e) f h k n = k ∙ ap (λ x. state_with t x) (n e refl) ∙ h

none_both : (e f : Option Entry) → e ≡ None → f ≡ None → or_entry e f ≡ None
none_both None f h k = k
none_both (Some e) f h k = cc

record Acts (v : Server) (waits : Option Update) (out : Served) : Type 0 where
  follows : Follows v out
  none : waits ≡ None → out.entry ≡ None

all : (v : Server) (k a : ℕ) (waits : Option Update) (ms : List ClientMsg) → Acts v waits (act_all v k a waits ms)
all v k a waits [] = record { follows = refl; none = λ n. refl }
all v k a waits (m ∷ ms) =
    let out = acts v k a waits m in
    let more = act_all out.server k a (waits_after waits m) ms in
    let rest = all out.server k a (waits_after waits m) ms in
    record {
      follows = both v.state out.server.state more.server.state out.entry more.entry (one v k a waits m) rest.follows
          (λ d is. rest.none (spent v k a waits m d is));
      none = λ n. none_both out.entry more.entry (none_one v k a waits m n) (rest.none (none_after waits m n));
    }

-- the tests of a session's frame

by_taking : (v : Server) (k : ℕ) (l : Link) (a : ℕ) (ms : List ClientMsg) (t : Taken) → Follows v (taken v k l a ms t)
by_taking v k l a ms Nothing = (all v k a None ms).follows
by_taking v k l a ms (Gap expected got) = refl
by_taking v k l a ms (Takes u) =
    either (nat_le v.limits.updates v.state.count) v
    (shut v k l 4406 (codes "room full " ++ decimal v.state.count)) (act_all v k a (Some u) ms)
    refl (all v k a (Some u) ms).follows

by_level : (v : Server) (k : ℕ) (l : Link) (a : ℕ) (ms : List ClientMsg) (bar : Option Decision)
    → Follows v (permitted_unless v k l a ms bar)
by_level v k l a ms None = by_taking v k l a ms (take v.state a (all_ops_in ms))
by_level v k l a ms (Some bar) = refl

by_owner : (v : Server) (k : ℕ) (l : Link) (a : ℕ) (ms : List ClientMsg) (got : Option ℕ)
    → Follows v (owned v k l a ms got)
by_owner v k l a ms None = by_level v k l a ms (barred l.decision ms)
by_owner v k l a ms (Some got) = refl

-- a hello

by_resume : (v : Server) (k : ℕ) (l : Link) (h : Hello) (r : Option Resume) (d : Option Decision)
    → Follows v (admitted v k l h r d)
by_resume v k l h None d = refl
by_resume v k l h (Some r) d = refl

by_bar : (v : Server) (k : ℕ) (l : Link) (h : Hello) (d bar : Option Decision) → Follows v (admit_unless v k l h d bar)
by_bar v k l h d None = by_resume v k l h h.resume d
by_bar v k l h d (Some bar) = refl

by_admission : (v : Server) (k : ℕ) (l : Link) (h : Hello) (d : Option Decision) → Follows v (admit v k l h d)
by_admission v k l h d = by_bar v k l h d (barred d (client.Hello h ∷ []))

by_greeting : (v : Server) (k : ℕ) (l : Link) (h : Hello) (r : Option Resume) → Follows v (greet v k l h r)
by_greeting v k l h (Some r) =
    either (has_key r.key (session_of v.state.sessions r.actor)) v
    (admit v k l h (decision_of v h v.access)) (shut v k l 4401 (codes "bad resume"))
    (by_admission v k l h (decision_of v h v.access)) refl
by_greeting v k l h None =
    either (nat_le v.limits.sessions (length v.state.sessions)) v
    (shut v k l 4406 (codes "sessions full " ++ decimal (length v.state.sessions)))
    (admit v k l h (decision_of v h v.access)) refl
    (by_admission v k l h (decision_of v h v.access))

by_hello : (v : Server) (k : ℕ) (l : Link) (h : Option Hello) → Follows v (hello v k l h)
by_hello v k l None = refl
by_hello v k l (Some h) =
    either (bytes_eq h.room v.room) v (greet v k l h h.resume) (bad_frame v k l reason.Room)
    (by_greeting v k l h h.resume) refl

-- a frame

by_session : (v : Server) (k : ℕ) (l : Link) (ms : List ClientMsg) (a : Option ℕ) → Follows v (messages v k l ms a)
by_session v k l ms None = by_hello v k l (only_hello ms)
by_session v k l ms (Some a) =
    either (has_hello ms) v (bad_frame v k l reason.Hello) (owned v k l a ms (foreign_in a (all_ops_in ms))) refl
    (by_owner v k l a ms (foreign_in a (all_ops_in ms)))

by_frame : (v : Server) (k : ℕ) (l : Link) (u : Inbound) → Follows v (frame_at v k l u)
by_frame v k l (Err r) = refl
by_frame v k l (Ok Ping) = refl
by_frame v k l (Ok (Msgs ms)) = by_session v k l ms l.actor

by_link : (v : Server) (k : ℕ) (u : Inbound) (o : Option Link) → Follows v (serve_from v k u o)
by_link v k u None = refl
by_link v k u (Some l) = by_frame v k l u

pub serve_follows : (v : Server) (k : ℕ) (u : Inbound)
    → (serve v k u).server.state ≡ state_with v.state (serve v k u).entry
serve_follows v k u = by_link v k u (get v.links k)
