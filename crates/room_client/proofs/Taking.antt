-- What a message makes of a client's account is what it makes of the account at rest, with what the connection adds.
use Rattle.std.proofs.Common.{◌≡◌, ◌≤◌, ◌+◌, ◌==◌, ◌++◌, ◌∙◌, ◌&&◌, ◌||◌, not, ℕ, Bool, true, false, cond}
use Rattle.std.proofs.Common.{is_some}
use Rattle.std.proofs.Common.{nat_le, List, [], ◌∷◌, map, Option, Some, None, Result, Ok, Err, refl, sym, ap, subst}
use Rattle.std.proofs.Common.{arith}
use Rattle.std.proofs.lemmas.List.{append-nil}
use Rattle.room_json.specs.declared.tree.Json.{Json}
use Rattle.room_nodes.specs.Cells.{is_apart}
use Rattle.room_nodes.specs.Equal.{are_first}
use Rattle.room_nodes.specs.Shape.{Nodes}
use Rattle.room_nodes.specs.Steps.{fold}
use Rattle.room_nodes.specs.declared.nodes.Op.{Op}
use Rattle.room_log.specs.Log.{actor_of, bodies_of, clock_of}
use Rattle.room_items.specs.View.{view}
use Rattle.room_msg.specs.Laws.{IsResumable}
use Rattle.room_msg.specs.declared.messages.Resume.{Resume}
use Rattle.room_model.specs.Account.{Account, Part, Stage, Idle, Dialled, Connected, Synced, actor, all_bodies}
use Rattle.room_model.specs.Account.{beyond, bodies_in}
use Rattle.room_model.specs.Account.{frame_of, is_some_list, issued, last_issued, pending}
use Rattle.room_model.specs.Calls.{tree_or_bare}
use Rattle.room_model.specs.Notices.{Notice, Reset, notices_of_all}
use Rattle.room_model.specs.Presence.{nobody}
use Rattle.room_model.specs.Receive.{Received, FrameFault, AccountFault, Gap, load, load_at, loaded}
use Rattle.room_model.specs.Receive.{loaded_account, none_own, received, reset_to, state_fault, told_by, update_notices}
use Rattle.room_model.specs.Receive.{update_numbered, update_on, update_told, updated_account, welcomed, welcomed_as}
use Rattle.room_model.specs.Sound.{RunsOn}
use Rattle.room_client.specs.Client.{HasCome, Stands, behind, client_of, up_to}
use Rattle.room_editor.specs.Editor.{Outcome, at_rest, taken}
use Rattle.room_client.proofs.Batches.{all_fresh, all_up, behind_beyond, beyond_append, ends_beyond, joined}
use Rattle.room_client.proofs.Batches.{none_behind}
use Rattle.room_client.proofs.Batches.{none_sent, up_beyond}
use Rattle.room_client.proofs.Calling.{ok_is, shown_like}

-- the session is told

module _ (e : Account) (stage : Stage) (c : ℕ) (parts : List Part) (events : List Json) (run : RunsOn e.told
    (issued e)) where
  abbrev client : Account
  client = client_of e stage c parts events

  pub welcomed_is : (a key : ℕ) → (welcomed client a key).account
      ≡ client_of (at_rest (welcomed e a key).account) Connected 0 parts events
  welcomed_is a key =
      let low : 0 ≤ e.told = omega arith in
      let fresh = joined c (issued e) ∙ sym (all_fresh 0 e.told (issued e) run low) in
      let sent = sym (none_sent 0 e.told (issued e) run low) in
      λ i. record e {
        stage = Connected;
        session = Some (record { actor = a; key = key });
        sent = sent i;
        fresh = fresh i;
        unsent = [];
        others = nobody;
        parts = parts;
        events = events;
      }

  pub welcomed_stands : (a key : ℕ) → 1 ≤ a → Stands (at_rest (welcomed e a key).account) Connected 0
  welcomed_stands a key h = record { sent = omega arith; known = h; come = refl }

pub welcomed_like : (x y : Account) (a key : ℕ) (o : Option Resume) → welcomed_as y a key o ≡ Ok (welcomed y a key)
    → welcomed_as x a key o ≡ Ok (welcomed x a key)
welcomed_like x y a key None h = refl
welcomed_like x y a key (Some s) h = welcomed_at (s.actor == a) h
  where
    welcomed_at : (same : Bool)
        → ◌≡◌ {A = Result Received FrameFault} (cond same (Ok (welcomed y a key)) (Err (AccountFault s.actor a)))
        (Ok (welcomed y a key))
        → ◌≡◌ {A = Result Received FrameFault} (cond same (Ok (welcomed x a key)) (Err (AccountFault s.actor a)))
        (Ok (welcomed x a key))
    welcomed_at true h = refl
    welcomed_at false h = cc

pub unwelcome_like : (x y : Account) (a key : ℕ) (o : Option Resume) (f : FrameFault) → welcomed_as y a key o ≡ Err f
    → welcomed_as x a key o ≡ Err f
unwelcome_like x y a key None f h = cc
unwelcome_like x y a key (Some s) f h = unwelcome_at (s.actor == a) h
  where
    unwelcome_at : (same : Bool)
        → cond same (Ok (welcomed y a key)) (Err (AccountFault s.actor a)) ≡ Err f
        → cond same (Ok (welcomed x a key)) (Err (AccountFault s.actor a)) ≡ Err f
    unwelcome_at true h = cc
    unwelcome_at false h = h

-- a state

-- a client that was told all of its state: no part is kept, and all issued batches are sent
abbrev pub synced : Account → List Json → Account
synced y events = client_of y Synced (last_issued y) [] events

abbrev pub resent_with : Account → ℕ → Account → List Notice → Received
resent_with x last y ns = record {
  account = synced y x.events;
  replies = map (frame_of (actor x)) (beyond last (issued x));
  events = [];
  notices = ns;
}

all_sent : (y : Account) (events : List Json) → RunsOn y.told (issued y)
    → synced y events
    ≡ record y { stage = Synced; sent = issued y; fresh = []; parts = []; events = events }
all_sent y events run =
    let le : last_issued y ≤ last_issued y = omega arith in
    let sent = all_up y.told (issued y) (last_issued y) run le in
    let fresh = none_behind y.told (issued y) (last_issued y) run le in
    λ i. record y { stage = Synced; sent = sent i; fresh = fresh i; parts = []; events = events }

-- the account at rest after a state
abbrev rested : Account → ℕ → ℕ → Nodes → Account
rested x seq last t = at_rest (loaded_account (at_rest x) seq last t)

loaded_is : (x : Account) (seq last : ℕ) (t : Nodes) → RunsOn last (issued (rested x seq last t))
    → loaded x seq last t
    ≡ resent_with x last (rested x seq last t) (reset_to (loaded_account (at_rest x) seq last t))
loaded_is x seq last t run =
    let y = rested x seq last t in
    let left : issued y ≡ beyond last (issued x) = append-nil (beyond last (issued x)) in
    let account : synced y x.events ≡ loaded_account x seq last t =
    all_sent y x.events run
    ∙ ap (λ bs. record y { stage = Synced; sent = bs; fresh = []; parts = []; events = x.events }) left in
    λ i. record {
      account = sym account i;
      replies = map (frame_of (actor x)) (beyond last (issued x));
      events = [];
      notices = reset_to (loaded_account x seq last t);
    }

-- the editor after a state: the session is the same
abbrev pub StandsLoaded : Account → Account → Type 0
StandsLoaded x y = (is_some x.session ≡ true) → IsResumable x.session → Stands y Synced (last_issued y)

stands_loaded : (x y : Account) (seq last : ℕ) (t : Nodes) → rested x seq last t ≡ y → StandsLoaded x y
stands_loaded x y seq last t e is known =
    subst (λ z. Stands z Synced (last_issued z)) e (record { sent = omega arith; known = known; come = (is, refl) })

loaded_at : (x y : Account) (seq last : ℕ) (t : Nodes) (ns : List Notice) → rested x seq last t ≡ y
    → reset_to (loaded_account (at_rest x) seq last t) ≡ ns → RunsOn y.told (issued y)
    → loaded x seq last t ≡ resent_with x last y ns
loaded_at x y seq last t ns e n run =
    loaded_is x seq last t (subst (λ (z : Account). RunsOn z.told (issued z)) (sym e) run)
    ∙ (λ i. resent_with x last (e i) (n i))

load_like_at : (x y : Account) (seq last : ℕ) (t : Nodes) (ns : List Notice) (o : Option (ℕ × ℕ))
    → RunsOn y.told (issued y) → taken (load_at (at_rest x) seq last t o) ≡ Ok (record { account = y; notices = ns })
    → (load_at x seq last t o ≡ Ok (resent_with x last y ns)) × StandsLoaded x y
load_like_at x y seq last t ns (Some fault) run h = cc
load_like_at x y seq last t ns None run h =
    let same = ok_is h in
    let e = ap (λ (o : Outcome). o.account) same in (
      ap Ok (loaded_at x y seq last t ns e (ap (λ (o : Outcome). o.notices) same) run),
      stands_loaded x y seq last t e,
    )

pub load_like : (x y : Account) (seq last : ℕ) (t : Nodes) (ns : List Notice) → RunsOn y.told (issued y)
    → taken (load (at_rest x) seq last (Some t)) ≡ Ok (record { account = y; notices = ns })
    → (load x seq last (Some t) ≡ Ok (resent_with x last y ns)) × StandsLoaded x y
load_like x y seq last t ns run h = load_like_at x y seq last t ns (state_fault x seq last) run h

pub load_refused : (x : Account) (seq last : ℕ) (t : Nodes) (o : Option (ℕ × ℕ)) (f : FrameFault)
    → load_at (at_rest x) seq last t o ≡ Err f → load_at x seq last t o ≡ Err f
load_refused x seq last t (Some fault) f h = h
load_refused x seq last t None f h = cc

-- an update

told_at : (a limit c : ℕ) (o : Op) (os : List Op) (told : ℕ) (other next : Bool)
    → ((k : ℕ) → c ≤ k → told_by a limit k os ≡ Ok told → k ≤ limit → (k ≤ told) × (told ≤ limit))
    → not (actor_of o == a) ≡ other → ((clock_of o == c + 1) && nat_le (clock_of o) limit) ≡ next → c ≤ limit
    → cond other (told_by a limit c os) (cond next (told_by a limit (c + 1) os) (Err (c, clock_of o))) ≡ Ok told
    → (c ≤ told) × (told ≤ limit)
told_at a limit c o os told true next again e f le h = again c (omega arith) h le
told_at a limit c o os told false true again e f le h =
    let high : c + 1 ≤ limit = grind (arith, f) in
    let more = again (c + 1) (omega arith) h high in
    (omega (arith, more.0), more.1)
told_at a limit c o os told false false again e f le h = cc

pub told_within : (a limit c : ℕ) (os : List Op) (told : ℕ) → told_by a limit c os ≡ Ok told → c ≤ limit
    → (c ≤ told) × (told ≤ limit)
told_within a limit c [] told h le =
    let same : c ≡ told = ok_is h in (omega (arith, same), omega (arith, same, le))
told_within a limit c (o ∷ os) told h le =
    told_at a limit c o os told _ _ (λ k low e high. told_within a limit k os told e high) refl refl le h

module _ (x : Account) (c : ℕ) (s : x.sent ≡ up_to c (issued x)) (f : x.fresh ≡ behind c (issued x)) where
  -- the account at rest after an update
  abbrev rested_by : List Op → ℕ → Nodes → Account
  rested_by os told t = at_rest (updated_account (at_rest x) os told t)

  updated_is : (os : List Op) (told : ℕ) (t : Nodes)
      → updated_account x os told t ≡ client_of (rested_by os told t) x.stage c x.parts x.events
  updated_is os told t =
      let sent = ap (beyond told) s ∙ sym (up_beyond c told (issued x)) in
      let fresh = ap (beyond told) f ∙ sym (behind_beyond c told (issued x)) in
      λ i. record x {
        confirmed = Some (fold t (bodies_of os));
        n = x.n + 1;
        told = told;
        sent = sent i;
        fresh = fresh i;
      }

  reset_like : (os : List Op) (told : ℕ) (t : Nodes)
      → reset_to (updated_account x os told t) ≡ reset_to (updated_account (at_rest x) os told t)
  reset_like os told t =
      ap (λ bs. Reset (view (fold (fold t (bodies_of os)) (all_bodies bs ++ bodies_in x.batch))) ∷ [])
      (sym (beyond_append told x.sent x.fresh))

  notices_like : (os : List Op) (told : ℕ) (t : Nodes)
      → update_notices x os told t ≡ update_notices (at_rest x) os told t
  notices_like os told t =
      λ i. cond (are_first os (pending x)) [] (
      cond (not (is_some_list (pending x))
      || (none_own (actor x) os && is_apart t (bodies_of os) (bodies_of (pending x))))
      (notices_of_all (tree_or_bare (sym (shown_like x x.confirmed) i)) (bodies_of os))
      (reset_like os told t i)
      )

  -- what an update answers, where the account at rest is y then
  abbrev pub updated_with : Account → List Notice → Received
  updated_with y ns = record (received (client_of y x.stage c x.parts x.events)) { notices = ns }

  updated_at : (y : Account) (os : List Op) (ns : List Notice) (t : Nodes) (told : ℕ)
      → rested_by os told t ≡ y → update_notices (at_rest x) os told t ≡ ns
      → record (received (updated_account x os told t)) { notices = update_notices x os told t } ≡ updated_with y ns
  updated_at y os ns t told e n =
      (λ i. record (received (updated_is os told t i)) { notices = notices_like os told t i })
      ∙ (λ i. updated_with (e i) (n i))

  clocks_stay : (y : Account) (os : List Op) (t : Nodes) (told : ℕ) → RunsOn x.told (issued x)
      → told_by (actor x) (last_issued x) x.told os ≡ Ok told → rested_by os told t ≡ y
      → x.told ≤ last_issued x → last_issued y ≡ last_issued x
  clocks_stay y os t told run h e le =
      let w = told_within (actor x) (last_issued x) x.told os told h le in
      ap last_issued (sym e) ∙ ends_beyond x.told told (issued x) run w.0 w.1

  abbrev StandsOn : Account → Type 0
  StandsOn y = Stands x x.stage c → Stands y x.stage c

  stands_updated : (y : Account) (os : List Op) (t : Nodes) (told : ℕ) → rested_by os told t ≡ y
      → last_issued y ≡ last_issued x → is_some x.confirmed ≡ true → StandsOn y
  stands_updated y os t told e same there st =
      let session : x.session ≡ y.session = ap (λ (z : Account). z.session) e in
      let left = st.sent in
      let tree : is_some y.confirmed ≡ true = ap (λ (z : Account). is_some z.confirmed) (sym e) in
      record {
        sent = omega (arith, left, same);
        known = subst IsResumable session st.known;
        come = subst (λ o. HasCome x.stage o y.confirmed) session
            (has_come x.stage x.session x.confirmed y.confirmed there tree st.come);
      }
    where
      has_come : (g : Stage) (s : Option Resume) (o p : Option Nodes) → is_some o ≡ true → is_some p ≡ true
          → HasCome g s o → HasCome g s p
      has_come Idle s o p a b h = tt
      has_come Dialled s o p a b h = tt
      has_come Connected s o p a b h = h
      has_come Synced s o p a b h = (h.0, b)

  update_like_told : (y : Account) (os : List Op) (ns : List Notice) (t : Nodes) (r : Result ℕ (ℕ × ℕ))
      → is_some x.confirmed ≡ true → RunsOn x.told (issued x) → x.told ≤ last_issued x → told_by (actor x)
      (last_issued x) x.told os ≡ r
      → taken (update_told (at_rest x) os t r) ≡ Ok (record { account = y; notices = ns })
      → (update_told x os t r ≡ Ok (updated_with y ns)) × StandsOn y
  update_like_told y os ns t (Err fault) there run le test h = cc
  update_like_told y os ns t (Ok told) there run le test h =
      let same = ok_is h in
      let e = ap (λ (o : Outcome). o.account) same in (
        ap Ok (updated_at y os ns t told e (ap (λ (o : Outcome). o.notices) same)),
        stands_updated y os t told e (clocks_stay y os t told run test e le) there,
      )

  update_like_on : (y : Account) (os : List Op) (ns : List Notice) (o : Option Nodes) → is_some x.confirmed ≡ true
      → RunsOn x.told (issued x) → x.told ≤ last_issued x
      → taken (update_on (at_rest x) os o) ≡ Ok (record { account = y; notices = ns })
      → (update_on x os o ≡ Ok (updated_with y ns)) × StandsOn y
  update_like_on y os ns None there run le h = cc
  update_like_on y os ns (Some t) there run le h =
      update_like_told y os ns t (told_by (actor x) (last_issued x) x.told os) there run le refl h

  update_like_at : (y : Account) (seq : ℕ) (os : List Op) (ns : List Notice) (next : Bool)
      → is_some x.confirmed ≡ true → RunsOn x.told (issued x)
      → x.told ≤ last_issued x
      → taken (cond next (update_on (at_rest x) os x.confirmed) (Err (Gap (x.n + 1) seq)))
      ≡ Ok (record { account = y; notices = ns })
      → (cond next (update_on x os x.confirmed) (Err (Gap (x.n + 1) seq)) ≡ Ok (updated_with y ns))
      × StandsOn y
  update_like_at y seq os ns true there run le h = update_like_on y os ns x.confirmed there run le h
  update_like_at y seq os ns false there run le h = cc

  pub update_like : (y : Account) (seq : ℕ) (os : List Op) (ns : List Notice) → is_some x.confirmed ≡ true
      → RunsOn x.told (issued x) → x.told ≤ last_issued x
      → taken (update_numbered (at_rest x) seq os) ≡ Ok (record { account = y; notices = ns })
      → (update_numbered x seq os ≡ Ok (updated_with y ns)) × StandsOn y
  update_like y seq os ns there run le h = update_like_at y seq os ns (seq == x.n + 1) there run le h

  -- refused to the account at rest, and refused so

  refused_told : (os : List Op) (t : Nodes) (r : Result ℕ (ℕ × ℕ)) (fault : FrameFault)
      → update_told (at_rest x) os t r ≡ Err fault → update_told x os t r ≡ Err fault
  refused_told os t (Err other) fault h = h
  refused_told os t (Ok told) fault h = cc

  refused_on : (os : List Op) (o : Option Nodes) (fault : FrameFault)
      → update_on (at_rest x) os o ≡ Err fault → update_on x os o ≡ Err fault
  refused_on os None fault h = h
  refused_on os (Some t) fault h = refused_told os t (told_by (actor x) (last_issued x) x.told os) fault h

  refused_at : (seq : ℕ) (os : List Op) (fault : FrameFault) (next : Bool)
      → cond next (update_on (at_rest x) os x.confirmed) (Err (Gap (x.n + 1) seq)) ≡ Err fault
      → cond next (update_on x os x.confirmed) (Err (Gap (x.n + 1) seq)) ≡ Err fault
  refused_at seq os fault true h = refused_on os x.confirmed fault h
  refused_at seq os fault false h = h

  pub update_refused : (seq : ℕ) (os : List Op) (fault : FrameFault)
      → update_numbered (at_rest x) seq os ≡ Err fault → update_numbered x seq os ≡ Err fault
  update_refused seq os fault h = refused_at seq os fault (seq == x.n + 1) h
