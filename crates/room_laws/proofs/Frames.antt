-- What the server does with a frame that an undisturbed client sends.
use Rattle.std.proofs.Common.{◌≡◌, ℕ, ◌==◌, true, false, cond, nat_le, List, [], ◌∷◌, ◌++◌, length, refl, ap, ◌∙◌, append-nil}
use Rattle.std.specs.Prelude.{Option, Some, None, Ok, decimal, codes}
use Rattle.std.specs.Str.{bytes_eq}
use Rattle.std.proofs.lemmas.Bool.{eq-eqb}
use Rattle.std.specs.FinMap.{get}
use Rattle.room_nodes.specs.declared.nodes.Body.{Body}
use Rattle.room_msg.specs.declared.messages.Resume.{Resume}
use Rattle.room_msg.specs.declared.messages.Hello.{Hello}
use Rattle.room_msg.specs.declared.messages.ClientMsg.{ClientMsg}
use Rattle.room_msg.specs.declared.messages.ClientMsg.TheVariants as client
use Rattle.room_msg.specs.declared.messages.ClientFrame.TheVariants as frame
use Rattle.room_log.specs.Log.{Session, session_of, ops_from}
use Rattle.room_log.specs.Taking.{take}
use Rattle.room_model.specs.Access.{barred}
use Rattle.room_msg.specs.declared.reason.Reason.TheVariants as reason
use Rattle.room_model.specs.Server
use Rattle.room_model.specs.World.{room_name}
use Rattle.room_laws.specs.Invariant
use Rattle.room_laws.proofs.Ops.{all_mine}
use Rattle.room_laws.proofs.Popped.{IsTalk}
use Rattle.room_laws.proofs.Acting.{all_from, taken_from, taken_is}

abbrev hello_of : Option Resume → Hello
hello_of resume = record { room = room_name; resume = resume; name = None; «pass» = None }

same_room : bytes_eq room_name room_name ≡ true
same_room = refl

-- the frame of an attached connection
serve_is : (v : Server.Server) (k : ℕ) (inbound : Server.Inbound) (l : Server.Link) → get v.links k ≡ Some l → Server.serve v k inbound ≡ Server.frame_at v k l inbound
serve_is v k inbound l e = ap (Server.serve_from v k inbound) e

decided : (v : Server.Server) (h : Hello) → v.access ≡ None → Server.decision_of v h v.access ≡ None
decided v h e = ap (Server.decision_of v h) e

-- a hello without a session: a new one begins, or the room has no place for it
pub joins : (v : Server.Server) (k : ℕ) (l : Server.Link) → get v.links k ≡ Some l → l.actor ≡ None → v.room ≡ room_name → v.access ≡ None
    → Server.serve v k (Invariant.hello_frame None)
    ≡ cond (nat_le v.limits.sessions (length v.state.sessions)) (Server.shut v k l 4406 (codes "sessions full " ++ decimal (length v.state.sessions))) (Server.join v k l (hello_of None) None)
joins v k l e a r f =
    serve_is v k (Invariant.hello_frame None) l e
    ∙ ap (Server.messages v k l (client.Hello (hello_of None) ∷ [])) a
    ∙ ap (λ b. cond b (Server.greet v k l (hello_of None) None) (Server.bad_frame v k l reason.Room)) (ap (bytes_eq room_name) r ∙ same_room)
    ∙ ap (λ d. cond (nat_le v.limits.sessions (length v.state.sessions)) (Server.shut v k l 4406 (codes "sessions full " ++ decimal (length v.state.sessions))) (Server.admit v k l (hello_of None) d)) (decided v (hello_of None) f)

has_it : (w : Resume) (o : Option Session) (x : Session) → o ≡ Some x → x.key ≡ w.key → (w.key == 0) ≡ false → Server.has_key w.key o ≡ true
has_it w o x e f g = rw e (rw (eq-eqb x.key w.key f, g) refl)

-- a hello with a session that stands: it goes on
pub resumes : (v : Server.Server) (k : ℕ) (l : Server.Link) (w : Resume) (x : Session) → get v.links k ≡ Some l → l.actor ≡ None → v.room ≡ room_name → v.access ≡ None
    → session_of v.state.sessions w.actor ≡ Some x → x.key ≡ w.key → (w.key == 0) ≡ false
    → Server.serve v k (Invariant.hello_frame (Some w)) ≡ Server.resumed v k l w None
resumes v k l w x e a r f g i j =
    serve_is v k (Invariant.hello_frame (Some w)) l e
    ∙ ap (Server.messages v k l (client.Hello (hello_of (Some w)) ∷ [])) a
    ∙ ap (λ b. cond b (Server.greet v k l (hello_of (Some w)) (Some w)) (Server.bad_frame v k l reason.Room)) (ap (bytes_eq room_name) r ∙ same_room)
    ∙ ap (λ b. cond b (Server.admit v k l (hello_of (Some w)) (Server.decision_of v (hello_of (Some w)) v.access)) (Server.shut v k l 4401 (codes "bad resume"))) (has_it w (session_of v.state.sessions w.actor) x g i j)
    ∙ ap (Server.admit v k l (hello_of (Some w))) (decided v (hello_of (Some w)) f)

-- a message of a session that holds no operations is done
pub talks : (v : Server.Server) (k a : ℕ) (l : Server.Link) (m : ClientMsg) → IsTalk m → get v.links k ≡ Some l → l.actor ≡ Some a → l.decision ≡ None
    → Server.serve v k (Ok (frame.Msgs (m ∷ []))) ≡ Server.then_served (Server.nothing v) (Server.acts v k a None m)
talks v k a l (client.Hello h) i e b d = absurd i
talks v k a l (client.Update os) i e b d = absurd i
talks v k a l (client.Presence target patch) i e b d = serve_is v k (Ok (frame.Msgs (client.Presence target patch ∷ []))) l e ∙ ap (Server.messages v k l (client.Presence target patch ∷ [])) b
    ∙ ap (λ o. Server.permitted_unless v k l a (client.Presence target patch ∷ []) (barred o (client.Presence target patch ∷ []))) d ∙ all_from v k a None (client.Presence target patch ∷ [])
talks v k a l (client.Broadcast event) i e b d = serve_is v k (Ok (frame.Msgs (client.Broadcast event ∷ []))) l e ∙ ap (Server.messages v k l (client.Broadcast event ∷ [])) b
    ∙ ap (λ o. Server.permitted_unless v k l a (client.Broadcast event ∷ []) (barred o (client.Broadcast event ∷ []))) d ∙ all_from v k a None (client.Broadcast event ∷ [])
talks v k a l client.Fetch i e b d = serve_is v k (Ok (frame.Msgs (client.Fetch ∷ []))) l e ∙ ap (Server.messages v k l (client.Fetch ∷ [])) b
    ∙ ap (λ o. Server.permitted_unless v k l a (client.Fetch ∷ []) (barred o (client.Fetch ∷ []))) d ∙ all_from v k a None (client.Fetch ∷ [])

-- operations are taken, as they come
pub updates : (v : Server.Server) (k a f : ℕ) (bs : List Body) (l : Server.Link) → get v.links k ≡ Some l → l.actor ≡ Some a → l.decision ≡ None
    → Server.serve v k (Ok (frame.Msgs (client.Update (ops_from a f bs) ∷ []))) ≡ taken_from v k l a (client.Update (ops_from a f bs) ∷ []) (take v.state a (ops_from a f bs))
updates v k a f bs l e b d =
    serve_is v k (Ok (frame.Msgs (client.Update (ops_from a f bs) ∷ []))) l e
    ∙ ap (Server.messages v k l (client.Update (ops_from a f bs) ∷ [])) b
    ∙ ap (λ os. Server.owned v k l a (client.Update (ops_from a f bs) ∷ []) (Server.foreign_in a os)) (append-nil (ops_from a f bs))
    ∙ ap (Server.owned v k l a (client.Update (ops_from a f bs) ∷ [])) (all_mine a f bs)
    ∙ ap (λ o. Server.permitted_unless v k l a (client.Update (ops_from a f bs) ∷ []) (barred o (client.Update (ops_from a f bs) ∷ []))) d
    ∙ taken_is v k l a (client.Update (ops_from a f bs) ∷ []) (take v.state a (ops_from a f bs ++ []))
    ∙ ap (λ os. taken_from v k l a (client.Update (ops_from a f bs) ∷ []) (take v.state a os)) (append-nil (ops_from a f bs))
