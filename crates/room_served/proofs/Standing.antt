-- What stands at every moment of a served room: its log is valid and leads to the server's state, and what is to be
-- sent
-- is in the log.
use Rattle.std.proofs.Common.{◌≡◌, ℕ, Bool, true, false, cond, List, [], ◌∷◌, ◌++◌, length, refl, sym, ap, ◌∙◌, subst}
use Rattle.std.proofs.Common.{arith, append_assoc, append-nil}
use Rattle.std.specs.Prelude.{⊤, Option, Some, None}
use Rattle.std.specs.Ordering.{nat_cmp}
use Rattle.std.specs.FinMap.{get, get-empty}
use Rattle.room_hub.specs.declared.hub.Event.{Event}
use Rattle.room_hub.specs.declared.hub.Event.TheVariants.{Opened, Frame, Gone, Quiet, End}
use Rattle.room_hub.specs.declared.hub.Deed.{Deed}
use Rattle.room_hub.specs.declared.hub.Happening.{Happening}
use Rattle.room_hub.specs.declared.hub.Happening.TheVariants.{Gave, Did, Failed}
use Rattle.room_msg.specs.Frame.{client_frame_in}
use Rattle.room_log.specs.Log.{State, Entry, after, state_after}
use Rattle.room_log.specs.Follows.{IsKey, IsValidLog, IsValidState}
use Rattle.room_model.specs.Access.{Access}
use Rattle.room_model.specs.Server
use Rattle.room_model.specs.Server.{Outbound, Link, Served}
use Rattle.room_model.specs.World.{entries_in}
use Rattle.room_serving.specs.Turns.{arrive, turned}
use Rattle.room_serving.specs.Serving
use Rattle.room_serving.specs.Serving.{Serving, opening, served}
use Rattle.room_laws.specs.Validity.{IsSoundServer}
use Rattle.room_laws.proofs.Facts.{none_some}
use Rattle.room_laws.proofs.ReadSound.{read_sound}
use Rattle.room_laws.proofs.SoundMaps.{each_put}
use Rattle.room_laws.proofs.SoundServes.{Goes, Calm, serve_goes, gone_is}
use Rattle.room_laws.proofs.StateItems.{items_of_valid}
use Rattle.room_served.specs.Laws.{AreLogged, AreSound, IsSoundEvent, SentIsLogged, ServedValid, log_of}
use Rattle.room_served.proofs.Logged.{all_logged, all_more, logged-append}
use Rattle.room_served.proofs.Says.{AllSay, serve_says, gone_says}

abbrev AreSoundEvents : List Event → Type 0
AreSoundEvents [] = ⊤
AreSoundEvents (e ∷ es) = IsSoundEvent e × AreSoundEvents es

events-append : (es fs : List Event) → AreSoundEvents es → AreSoundEvents fs → AreSoundEvents (es ++ fs)
events-append [] fs h k = k
events-append (e ∷ es) fs h k = (h.0, events-append es fs h.1 k)

-- one event

still : (v w : Server.Server) → IsSoundServer w → w.state ≡ v.state → Goes v (Server.nothing w)
still v w h e = record { server = h; outs = tt; log = tt; state = e }

opened_goes : (v : Server.Server) (k key : ℕ) (o : Option Link) → get v.links k ≡ o → IsSoundServer v → IsKey key
    → Goes v (Server.nothing (Server.opened_at v k key o))
opened_goes v k key (Some l) e h i = still v v h refl
opened_goes v k key None e h i = still v (Server.opened_at v k key None) (record {
  state = h.state;
  limits = h.limits;
  links = each_put _ v.links h.links k (record { key = key; actor = None; fetched = false; decision = None })
      (record { key = i; actor = tt });
}) refl

calm_goes : (v : Server.Server) (out : Served) → Calm v out → Goes v out
calm_goes v out c = record {
  server = c.server;
  outs = c.outs;
  log = subst (λ e. IsValidLog v.state (entries_in e)) (sym c.none) tt;
  state = c.state ∙ ap (λ e. state_after v.state (entries_in e)) (sym c.none);
}

event_goes : (v : Server.Server) (e : Event) → IsSoundServer v → IsSoundEvent e → Goes v (arrive v e)
event_goes v (Opened k key) h i = opened_goes v k key (get v.links k) refl h i
event_goes v (Frame k text) h i =
    serve_goes items_of_valid v h k (client_frame_in text) (read_sound (client_frame_in text) i)
event_goes v (Gone k) h i = calm_goes v (Server.gone v k) (gone_is items_of_valid v h k)
event_goes v Quiet h i = still v v h refl
event_goes v End h i = still v v h refl

event_says : (v : Server.Server) (e : Event) → AllSay v.state (arrive v e).entry (arrive v e).outs
event_says v (Opened k key) = tt
event_says v (Frame k text) = serve_says v k (client_frame_in text)
event_says v (Gone k) = gone_says v k
event_says v Quiet = tt
event_says v End = tt

-- one log behind another

state_after-append : (s : State) (es fs : List Entry) → state_after s (es ++ fs) ≡ state_after (state_after s es) fs
state_after-append s [] fs = refl
state_after-append s (e ∷ es) fs = state_after-append (after s e) es fs

valid-append : (s : State) (es fs : List Entry) → IsValidLog s es → IsValidLog (state_after s es) fs
    → IsValidLog s (es ++ fs)
valid-append s [] fs h k = k
valid-append s (e ∷ es) fs h k = (h.0, valid-append (after s e) es fs h.1 k)

-- where a log leads

pub record Stands (s : State) (log : List Entry) (v : Server.Server) : Type 0 where
  pub sound : IsSoundServer v
  pub valid : IsValidLog s log
  pub state : v.state ≡ state_after s log

pub record Leads (s : State) (log : List Entry) (v : Server.Server) (outs : List (ℕ × Outbound)) : Type 0 where
  pub stands : Stands s log v
  pub logged : AreLogged s log outs

event_leads : (s : State) (log : List Entry) (v : Server.Server) (e : Event) → Stands s log v → IsSoundEvent e →
    Leads s (log ++ entries_in (arrive v e).entry) (arrive v e).server (arrive v e).outs
event_leads s log v e h i =
    let out = arrive v e in
    let es = entries_in out.entry in
    let g = event_goes v e h.sound i in
    record {
      stands = record {
        sound = g.server;
        valid = valid-append s log es h.valid (subst (λ z. IsValidLog z es) h.state g.log);
        state = g.state ∙ ap (λ z. state_after z es) h.state ∙ sym (state_after-append s log es);
      };
      logged = all_logged s log out.entry h.valid out.outs
          (subst (λ z. AllSay z out.entry out.outs) h.state (event_says v e));
    }

turn_leads : (s : State) (log : List Entry) (v : Server.Server) (es : List Event) → Stands s log v → AreSoundEvents es →
    Leads s (log ++ (turned v es).entries) (turned v es).server (turned v es).outs
turn_leads s log v [] h i = record { stands = subst (λ l. Stands s l v) (sym (append-nil log)) h; logged = tt }
turn_leads s log v (e ∷ es) h i =
    let out = arrive v e in
    let now = entries_in out.entry in
    let more = turned out.server es in
    let first = event_leads s log v e h i.0 in
    let rest = turn_leads s (log ++ now) out.server es first.stands i.1 in
    let all = all_more s (log ++ now) more.entries out.outs first.logged in
    subst (λ l. Leads s l more.server (out.outs ++ more.outs)) (append_assoc log now more.entries)
    (record {
      stands = rest.stands;
      logged = logged-append s ((log ++ now) ++ more.entries) out.outs more.outs all
          rest.logged;
    })

-- the log of the turns

log_of-append : (gs hs : List (List Entry)) → log_of (gs ++ hs) ≡ log_of gs ++ log_of hs
log_of-append [] hs = refl
log_of-append (g ∷ gs) hs = ap (λ l. g ++ l) (log_of-append gs hs) ∙ sym (append_assoc g (log_of gs) (log_of hs))

log_of_group : (es : List Entry) → log_of (Serving.group_of es) ≡ es
log_of_group [] = refl
log_of_group (e ∷ es) = append-nil (e ∷ es)

pub record Holds (s : State) (m : Serving) : Type 0 where
  pub leads : Leads s (log_of m.groups) m.server m.todo
  pub gathered : AreSoundEvents m.gathered

turn_holds : (s : State) (m : Serving) → Stands s (log_of m.groups) m.server → AreSoundEvents m.gathered
    → Holds s (Serving.does_turn m)
turn_holds s m h i =
    let out = turned m.server m.gathered in
    let log : log_of (m.groups ++ Serving.group_of out.entries) ≡ log_of m.groups ++ out.entries =
    log_of-append m.groups (Serving.group_of out.entries) ∙ ap (λ l. log_of m.groups ++ l) (log_of_group out.entries) in
    record {
      leads = subst (λ l. Leads s l out.server out.outs) (sym log)
          (turn_leads s (log_of m.groups) m.server m.gathered h i);
      gathered = tt;
    }

full_holds : (s : State) (m : Serving) (b : Bool) → Holds s m → Holds s (cond b (Serving.does_turn m) m)
full_holds s m true h = turn_holds s m h.leads.stands h.gathered
full_holds s m false h = h

event_holds : (s : State) (m : Serving) (e : Event) → Holds s m → IsSoundEvent e
    → Holds s (Serving.turn_if_full (Serving.with_event (Serving.asked m) e))
event_holds s m e h i =
    let n = Serving.with_event (Serving.asked m) e in
    full_holds s n (Serving.is_full n)
    (record { leads = h.leads; gathered = events-append m.gathered (e ∷ []) h.gathered (i, tt) })

gives_holds : (s : State) (m : Serving) (e : Event) → Holds s m → IsSoundEvent e → Holds s (Serving.gives m e)
gives_holds s m (Opened k key) h i = event_holds s m (Opened k key) h i
gives_holds s m (Frame k text) h i = event_holds s m (Frame k text) h i
gives_holds s m (Gone k) h i = event_holds s m (Gone k) h i
gives_holds s m Quiet h i = turn_holds s (Serving.asked m) h.leads.stands h.gathered
gives_holds s m End h i = turn_holds s (record (Serving.asked m) { ending = Serving.Ended }) h.leads.stands h.gathered

goners_sound : (ks : List ℕ) → AreSoundEvents (Serving.goners ks)
goners_sound [] = tt
goners_sound (k ∷ ks) = (tt, goners_sound ks)

treat_holds : (s : State) (m : Serving) (os : List (ℕ × Outbound)) (ks : List ℕ) → Stands s (log_of m.groups) m.server
    → AreLogged s (log_of m.groups) os → AreSoundEvents m.gathered → Holds s (Serving.treat m os ks)
treat_holds s m (o ∷ os) ks h l g = record { leads = record { stands = h; logged = l }; gathered = g }
treat_holds s m [] [] h l g = record { leads = record { stands = h; logged = tt }; gathered = g }
treat_holds s m [] (k ∷ ks) h l g =
    turn_holds s (record m { gathered = Serving.goners (k ∷ ks) }) h (goners_sound (k ∷ ks))

deed_holds : (s : State) (m : Serving) (os : List (ℕ × Outbound)) (d : Deed) → Holds s m
    → AreLogged s (log_of m.groups) os → Holds s (Serving.after_deed m os d)
deed_holds s m [] d h l = h
deed_holds s m (o ∷ os) d h l = treat_holds s (record m { owed = length m.groups }) os _ h.leads.stands l.1 h.gathered

step_holds : (s : State) (m : Serving) (h : Happening) → Holds s m → AreSound (h ∷ []) → Holds s (Serving.after m h)
step_holds s m (Gave e) g i = gives_holds s m e g i.0
step_holds s m (Did d) g i = deed_holds s m m.todo d g g.leads.logged
step_holds s m Failed g i =
    turn_holds s (record (Serving.asked m) { ending = Serving.Missed }) g.leads.stands g.gathered

run_holds : (s : State) (m : Serving) (hs : List Happening) → Holds s m → AreSound hs → Holds s (served m hs)
run_holds s m [] g i = g
run_holds s m (h ∷ hs) g i = run_holds s (Serving.after m h) hs (step_holds s m h g (i.0, tt)) i.1

begins : (s : State) (room : List ℕ) (access : Option Access) (turns : ℕ) → IsValidState s
    → Holds s (opening s room access turns)
begins s room access turns h = record {
  leads = record {
    stands = record {
      sound = record {
        state = h;
        limits = record { updates = omega arith; sessions = omega arith };
        links = λ k l e. absurd (none_some l (sym (get-empty nat_cmp k) ∙ e));
      };
      valid = tt;
      state = refl;
    };
    logged = tt;
  };
  gathered = tt;
}

pub served_valid : ServedValid
served_valid s room access turns hs h i =
    let all = run_holds s (opening s room access turns) hs (begins s room access turns h) i in
    record { valid = all.leads.stands.valid; state = all.leads.stands.state }

pub sent_is_logged : SentIsLogged
sent_is_logged s room access turns hs h i =
    (run_holds s (opening s room access turns) hs (begins s room access turns h) i).leads.logged
