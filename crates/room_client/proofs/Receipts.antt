-- Messages are taken one after the other: what they give, and what is left after a refusal.
use Rattle.std.proofs.Common.{◌≡◌, ◌++◌, ◌∙◌, List, [], ◌∷◌, map, Option, Some, None, Result, Ok, Err, IfErr, refl}
use Rattle.std.proofs.Common.{sym, ap}
use Rattle.std.proofs.Common.{subst, inl, inr}
use Rattle.std.proofs.lemmas.List.{append-nil, append_assoc}
use Rattle.room_json.specs.Fields.{and_then}
use Rattle.room_msg.specs.Msg.{IsFaultOf}
use Rattle.room_msg.specs.Written.{client_text}
use Rattle.room_msg.specs.declared.reason.MsgFault.{MsgFault}
use Rattle.room_msg.specs.declared.reason.MsgFault.TheVariants as msg
use Rattle.room_msg.specs.declared.reason.Reason.{Reason}
use Rattle.room_msg.specs.declared.messages.ServerFrame.{ServerFrame}
use Rattle.room_msg.specs.declared.messages.ServerMsg.{ServerMsg}
use Rattle.room_notice.specs.Notices.{notices_in}
use Rattle.room_model.specs.Account.{Account}
use Rattle.room_model.specs.Calls.{lost}
use Rattle.room_model.specs.Receive.{Received, Refusal, FrameFault, frame, or_lost, receive, receive_all, then_more}
use Rattle.room_client.specs.Faults.{FaultsBy, fault_of, of_reading}
use Rattle.room_client.specs.Given.{Given, IsAfterFront, IsRefused, IsStopped, IsStoppedIn, RefusedBy, StoppedBy}
use Rattle.room_client.specs.Given.{given, given_of}
use Rattle.room_client.specs.Given.{messages_in, more_given}
use Rattle.room_client.specs.declared.faults.FrameFault.{FrameFault as RustFault}
use Rattle.room_client.specs.declared.faults.FrameFault.TheVariants as rust
use Rattle.room_client.specs.declared.outcome.Outcome.{Outcome}
use Rattle.room_client.proofs.Calling.{ok_is}

map_append : {X Y : Type 0} (f : X → Y) (xs ys : List X) → map f (xs ++ ys) ≡ map f xs ++ map f ys
map_append f [] ys = refl
map_append f (x ∷ xs) ys = ap (λ zs. f x ∷ zs) (map_append f xs ys)

given_more : (out : Received) (o : Outcome) (r : Result Received Refusal) → map client_text out.replies ≡ o.replies
    → out.events ≡ o.events → out.notices ≡ notices_in o.notices
    → given (then_more out r) ≡ more_given o (given r)
given_more out o (Err refusal) e f g = refl
given_more out o (Ok more) e f g =
    let texts : map client_text (out.replies ++ more.replies) ≡ o.replies ++ map client_text more.replies =
    map_append client_text out.replies more.replies ∙ ap (λ ts. ts ++ map client_text more.replies) e in
    λ i. Ok (record {
      account = more.account;
      replies = texts i;
      events = f i ++ more.events;
      notices = g i ++ more.notices;
    })

one_at : (now : Account) (m : ServerMsg) (rest : List ServerMsg) (next : Account) (o : Outcome)
    (r : Result Received FrameFault) → given r ≡ Ok (given_of next o)
    → given (and_then (or_lost now r) (λ (out : Received). then_more out (receive_all out.account rest)))
    ≡ more_given o (given (receive_all next rest))
one_at now m rest next o (Err fault) h = cc
one_at now m rest next o (Ok out) h =
    let same = ok_is h in
    given_more out o (receive_all out.account rest) (ap (λ (g : Given). g.replies) same)
    (ap (λ (g : Given). g.events) same) (ap (λ (g : Given). g.notices) same)
    ∙ ap (λ (g : Given). more_given o (given (receive_all g.account rest))) same

-- a message is taken, and then the others
one_given : (now : Account) (m : ServerMsg) (rest : List ServerMsg) (next : Account) (o : Outcome)
    → given (receive now m) ≡ Ok (given_of next o)
    → given (receive_all now (m ∷ rest)) ≡ more_given o (given (receive_all next rest))
one_given now m rest next o h = one_at now m rest next o (receive now m) h

-- what was given so far

abbrev pub IsSoFar : (start : Account) (all : List ServerMsg) (so_far : Outcome) (now : Account)
    (rest : List ServerMsg) → Type 0
IsSoFar start all so_far now rest =
    (given (receive_all start all) ≡ more_given so_far (given (receive_all now rest)))
    × ((z : Account) → IsAfterFront now rest z → IsAfterFront start all z)

nothing_first : (o : Outcome) (r : Result Given Refusal) → o ≡ record { replies = []; events = []; notices = [] }
    → r ≡ more_given o r
nothing_first o (Err refusal) e = refl
nothing_first o (Ok g) e = ap (λ (p : Outcome). more_given {F = Refusal} p (Ok g)) (sym e)

pub so_far_first : (start : Account) (all : List ServerMsg) (o : Outcome)
    → o ≡ record { replies = []; events = []; notices = [] } → IsSoFar start all o start all
so_far_first start all o e = (nothing_first o (given (receive_all start all)) e, λ z h. h)

-- one more

abbrev pub added : Outcome → Outcome → Outcome
added a b = record {
  replies = a.replies ++ b.replies;
  events = a.events ++ b.events;
  notices = a.notices ++ b.notices;
}

added_given : (a b : Outcome) (r : Result Given Refusal) → more_given a (more_given b r) ≡ more_given (added a b) r
added_given a b (Err refusal) = refl
added_given a b (Ok g) =
    let ns : notices_in a.notices ++ (notices_in b.notices ++ g.notices)
    ≡ notices_in (a.notices ++ b.notices) ++ g.notices =
    sym (append_assoc (notices_in a.notices) (notices_in b.notices) g.notices)
    ∙ ap (λ ms. ms ++ g.notices) (sym (map_append _ a.notices b.notices)) in
    λ i. Ok (record {
      account = g.account;
      replies = sym (append_assoc a.replies b.replies g.replies) i;
      events = sym (append_assoc a.events b.events g.events) i;
      notices = ns i;
    })

front_more : (now : Account) (m : ServerMsg) (rest : List ServerMsg) (next : Account) (o : Outcome) (z : Account)
    (r : Result Received FrameFault) → receive now m ≡ r → given r ≡ Ok (given_of next o) → IsAfterFront next rest z
    → IsAfterFront now (m ∷ rest) z
front_more now m rest next o z (Err fault) e h f = cc
front_more now m rest next o z (Ok out) e h f =
    let same = ok_is h in
    inr (out, e, subst (λ x. IsAfterFront x rest z) (sym (ap (λ (g : Given). g.account) same)) f)

pub so_far_more : (start : Account) (all : List ServerMsg) (so_far : Outcome) (now : Account) (m : ServerMsg)
    (rest left : List ServerMsg) (next : Account) (o after : Outcome) → left ≡ m ∷ rest
    → IsSoFar start all so_far now left → given (receive now m) ≡ Ok (given_of next o) → after ≡ added so_far o
    → IsSoFar start all after next rest
so_far_more start all so_far now m rest left next o after l h g e = (
  h.0
      ∙ ap (λ ms. more_given so_far (given (receive_all now ms))) l
      ∙ ap (more_given so_far) (one_given now m rest next o g)
      ∙ added_given so_far o (given (receive_all next rest))
      ∙ ap (λ (p : Outcome). more_given p (given (receive_all next rest))) (sym e),
  λ z f.
      h.1 z (subst (λ ms. IsAfterFront now ms z) (sym l) (front_more now m rest next o z (receive now m) refl g f)),
)

-- the end

pub so_far_all : (start : Account) (all : List ServerMsg) (so_far : Outcome) (now : Account)
    → IsSoFar start all so_far now [] → given (receive_all start all) ≡ Ok (given_of now so_far)
so_far_all start all so_far now h =
    h.0
    ∙ (λ i. Ok (record {
      account = now;
      replies = append-nil so_far.replies i;
      events = append-nil so_far.events i;
      notices = append-nil (notices_in so_far.notices) i;
    }))

-- a refusal

pub front_here : (x : Account) (ms : List ServerMsg) → IsAfterFront x ms x
front_here x [] = refl
front_here x (m ∷ ms) = inl refl

refused_given : (r : Result Received Refusal) (refusal : Refusal) → given r ≡ Err refusal → r ≡ Err refusal
refused_given (Err other) refusal h = cc
refused_given (Ok out) refusal h = cc

refused_at : (now : Account) (m : ServerMsg) (rest : List ServerMsg) (fault : FrameFault)
    → receive now m ≡ Err fault
    → receive_all now (m ∷ rest) ≡ Err (record { account = lost now; fault = fault })
refused_at now m rest fault h =
    ap (λ r. and_then (or_lost now r) (λ (out : Received). then_more out (receive_all out.account rest))) h

stopped_by : (start : Account) (all : List ServerMsg) (so_far : Outcome) (now : Account) (m : ServerMsg)
    (rest : List ServerMsg) (f : Option FrameFault) → IsSoFar start all so_far now (m ∷ rest)
    → FaultsBy (receive now m) f → StoppedBy (receive_all start all) start all now f
stopped_by start all so_far now m rest None h e = h.1 now (inl refl)
stopped_by start all so_far now m rest (Some fault) h e =
    refused_given (receive_all start all) (record { account = lost now; fault = fault })
    (h.0 ∙ ap (λ r. more_given so_far (given r)) (refused_at now m rest fault e))

pub stopped : (start : Account) (all : List ServerMsg) (so_far : Outcome) (now : Account) (m : ServerMsg)
    (rest all_left : List ServerMsg) (f : RustFault) → all_left ≡ m ∷ rest → IsSoFar start all so_far now all_left
    → FaultsBy (receive now m) (fault_of f) → IsStoppedIn start all f now
stopped start all so_far now m rest all_left f l h e =
    stopped_by start all so_far now m rest (fault_of f) (subst (IsSoFar start all so_far now) l h) e

-- out of memory, once a message is taken
pub short : {A : Type 0} (q : Result A RustFault) (y : RustFault) (start : Account) (all : List ServerMsg)
    (so_far : Outcome)
    (now : Account) (m : ServerMsg) (rest left : List ServerMsg) (next : Account) (o : Outcome) → q ≡ Err y
    → y ≡ rust.Memory → left ≡ m ∷ rest → IsSoFar start all so_far now left → given (receive now m) ≡ Ok
    (given_of next o)
    → IfErr q (λ f. IsStoppedIn start all f next)
short q y start all so_far now m rest left next o e k l h g =
    let front : IsAfterFront now (m ∷ rest) next =
    front_more now m rest next o next (receive now m) refl g (front_here next rest) in
    subst (λ r. IfErr r (λ f. IsStoppedIn start all f next)) (sym e)
    (subst (λ f. IsStoppedIn start all f next) (sym k) (h.1 next (subst (λ ms. IsAfterFront now ms next)
    (sym l) front)))

-- a frame that isn't read

misread_as : (x : Account) (r : Result ServerFrame Reason) (f : MsgFault) → IsFaultOf r f → IsStopped x r
    (of_reading f) x
misread_as x r msg.Memory h = front_here x (messages_in r)
misread_as x r (msg.Bad reason) h = ap (frame x) h

pub misread : {A : Type 0} (q : Result A RustFault) (y : RustFault) (x : Account) (r : Result ServerFrame Reason)
    (f : MsgFault)
    → IsFaultOf r f → q ≡ Err y → y ≡ of_reading f → IfErr q (λ f. IsStopped x r f x)
misread q y x r f h e k =
    subst (λ p. IfErr p (λ f. IsStopped x r f x)) (sym e) (subst (λ f. IsStopped x r f x) (sym k) (misread_as x r f h))

-- what is lost after a refusal

lost_by : (r : Result Received Refusal) (x : Account) (ms : List ServerMsg) (z w : Account) (o : Option FrameFault)
    → StoppedBy r x ms z o → w ≡ lost z → RefusedBy r x ms w o
lost_by r x ms z w None h e = (z, h, e)
lost_by r x ms z w (Some fault) h e = h ∙ (λ j. Err (record { account = sym e j; fault = fault }))

pub refused_lost : {A : Type 0} (q : Result A RustFault) (x : Account) (read : Result ServerFrame Reason)
    (z w : Account)
    → IfErr q (λ f. IsStopped x read f z) → w ≡ lost z → IfErr q (λ f. IsRefused x read f w)
refused_lost (Ok a) x read z w h e = tt
refused_lost (Err f) x read z w h e = lost_by (frame x read) x (messages_in read) z w (fault_of f) h e
