-- What the editor makes of a session, a state or an update is what the client makes of it, seen as `now`.
use Rattle.std.proofs.Common.{◌≡◌, ◌≤◌, ◌++◌, ◌∙◌, ℕ, true, List, [], ◌∷◌, map, length, is_some}
use Rattle.std.proofs.Common.{Some}
use Rattle.std.proofs.Common.{Result, Ok, Err, IfErr, refl, sym, ap, subst, arith}
use Rattle.room_json.specs.declared.tree.Json.{Json}
use Rattle.room_nodes.specs.Shape.{Nodes}
use Rattle.room_nodes.specs.declared.nodes.Op.{Op}
use Rattle.room_msg.specs.Written.{client_text}
use Rattle.room_notice.specs.declared.shapes.Notice.{Notice}
use Rattle.room_notice.specs.Notices.{notices_in}
use Rattle.room_overlay.specs.Over as over
use Rattle.room_overlay.specs.declared.faults.OverFault.{OverFault}
use Rattle.room_overlay.specs.declared.faults.OverFault.TheVariants.{Memory, Gap, Account as AccountOf}
use Rattle.room_model.specs.Account.{Account, Part, Stage, Idle, Dialled, Connected, Synced, actor, beyond, ends}
use Rattle.room_model.specs.Account.{frame_of}
use Rattle.room_model.specs.Account.{frame_of_fetch, frame_of_full, is_on, is_synced, issued, last_issued}
use Rattle.room_model.specs.Receive.{FrameFault, load, receive_room, receive_update, state_fault}
use Rattle.room_model.specs.Receive.{update_numbered, welcomed, welcomed_as}
use Rattle.room_model.specs.Sound.{RunsOn}
use Rattle.room_editor.specs.Editor.{at_rest, taken}
use Rattle.room_client.specs.Client.{HasCome, is_dialled, Stands, behind, client_of, parts_of, up_to}
use Rattle.room_client.specs.Faults.{IsFrameFault, of_over}
use Rattle.room_client.specs.Given.{given, given_of}
use Rattle.room_client.specs.declared.faults.FrameFault.{FrameFault as RustFault}
use Rattle.room_client.specs.declared.outcome.Outcome.{Outcome}
use Rattle.room_client.specs.declared.parts.Kept.{Kept}
use Rattle.room_client.proofs.Batches.{joined, rises}
use Rattle.room_client.proofs.Calling.{rests}
use Rattle.room_client.proofs.Taking.{load_like, load_refused, update_like, update_refused, welcomed_is, welcomed_like}

pub two_replies : {t u t' u' : List ℕ} {a b d : List (List ℕ)} → a ≡ [] → b ≡ a ++ t ∷ [] → d ≡ b ++ u ∷ [] → t ≡ t'
    → u ≡ u' → d ≡ t' ∷ u' ∷ []
two_replies {t} {u} {t'} {u'} e f g h i =
    g ∙ ap (λ x. x ++ u ∷ []) f ∙ ap (λ x. (x ++ t ∷ []) ++ u ∷ []) e ∙ (λ j. h j ∷ i j ∷ [])

pub only_replies : {a b d : List (List ℕ)} → b ≡ a ++ d → a ≡ [] → b ≡ d
only_replies {a} {b} {d} e f = e ∙ ap (λ x. x ++ d) f

-- faults go over where refusals do
over_fault : {A B : Type 0} (r : Result A FrameFault) (s : Result B FrameFault)
    → ((m : FrameFault) → s ≡ Err m → r ≡ Err m) → (f : OverFault) → over.IsFaultOf s f → IsFrameFault r (of_over f)
over_fault r s t Memory h = tt
over_fault r s t (Gap m n) h = t _ h
over_fault r s t (AccountOf m n) h = t _ h

passed : {A G : Type 0} (q : Result A G) (P : G → Type 0) (y f : G) → q ≡ Err y → y ≡ f → P f → IfErr q P
passed q P y f e g h = subst (λ z. IfErr z P) (sym e) (subst P (sym g) h)

pub none_kept : (ks : List Kept) → length ks ≡ 0 → parts_of ks ≡ []
none_kept [] h = refl
none_kept (k ∷ ks) h = absurd (omega (arith, h))

module _ (e : Account) (stage : Stage) (c : ℕ) (parts : List Part) (events : List Json) (now : Account)
    (v : client_of e stage c parts events ≡ now) where
  abbrev client : Account
  client = client_of e stage c parts events

  same_issued : issued client ≡ issued e
  same_issued = joined c (issued e)

  runs_on : RunsOn e.told (issued e) → RunsOn client.told (issued client)
  runs_on run = subst (RunsOn e.told) (sym same_issued) run

  -- a session

  room_at : (g : Stage) (a key : ℕ) → is_dialled g ≡ true → welcomed_as e a key e.session ≡ Ok (welcomed e a key)
      → receive_room client a key g ≡ Ok (welcomed client a key)
  room_at Dialled a key d h = welcomed_like client e a key e.session h
  room_at Idle a key d h = cc
  room_at Connected a key d h = cc
  room_at Synced a key d h = cc

  pub told : (y : Account) (a key : ℕ) (o : Outcome) → is_dialled stage ≡ true → RunsOn e.told (issued e)
      → welcomed_as e a key e.session ≡ Ok (welcomed e a key) → y ≡ at_rest (welcomed e a key).account
      → o.replies ≡ client_text (frame_of_full e.me) ∷ client_text frame_of_fetch ∷ [] → o.events ≡ []
      → o.notices ≡ []
      → given (receive_room now a key now.stage) ≡ Ok (given_of (client_of y Connected 0 parts events) o)
  told y a key o d run h i r s n =
      ap (λ x. given (receive_room x a key x.stage)) (sym v)
      ∙ ap given (room_at stage a key d h)
      ∙ (λ j. Ok (record {
        account = (welcomed_is e stage c parts events run a key
            ∙ ap (λ z. client_of z Connected 0 parts events) (sym i)) j;
        replies = sym r j;
        events = sym s j;
        notices = sym (ap notices_in n) j;
      }))

  -- a state

  module _ (rest : at_rest e ≡ e) where
    pub loaded : (y : Account) (seq last : ℕ) (t : Nodes) (o : Outcome) (to : ℕ) (ps : List Part)
        → to ≡ last_issued y → ps ≡ [] → RunsOn y.told (issued y)
        → taken (load e seq last (Some t)) ≡ Ok (record { account = y; notices = notices_in o.notices })
        → o.replies ≡ map client_text (map (frame_of (actor e)) (beyond last (issued e))) → o.events ≡ []
        → given (load now seq last (Some t)) ≡ Ok (given_of (client_of y Synced to ps events) o)
    loaded y seq last t o to ps up none run h r s =
        let same = subst (λ z. taken (load z seq last (Some t)) ≡ Ok (record {
          account = y;
          notices = notices_in
              o.notices;
        }))
        (sym (rests e stage c parts events rest)) h in
        ap (λ x. given (load x seq last (Some t))) (sym v)
        ∙ ap given (load_like client y seq last t (notices_in o.notices) run same).0
        ∙ (λ j. Ok (record {
          account = client_of y Synced (sym up j) (sym none j) events;
          replies = (ap (λ bs. map client_text (map (frame_of (actor e)) (beyond last bs))) same_issued ∙ sym r) j;
          events = sym s j;
          notices = notices_in o.notices;
        }))

    pub stands_loaded : (y : Account) (seq last : ℕ) (t : Nodes) (ns : List Notice) (to : ℕ)
        → to ≡ last_issued y → is_on stage ≡ true
        → Stands e stage c → RunsOn y.told (issued y)
        → taken (load e seq last (Some t)) ≡ Ok (record { account = y; notices = notices_in ns })
        → Stands y Synced to
    stands_loaded y seq last t ns to up on st run h =
        let same = subst (λ z. taken (load z seq last (Some t)) ≡ Ok (record { account = y; notices = notices_in ns }))
        (sym (rests e stage c parts events rest)) h in
        subst (Stands y Synced) (sym up)
        ((load_like client y seq last t (notices_in ns) run same).1 (has_session stage on st.come) st.known)
      where
        has_session : (g : Stage) → is_on g ≡ true → HasCome g e.session e.confirmed → is_some e.session ≡ true
        has_session Idle on h = cc
        has_session Dialled on h = cc
        has_session Connected on h = h
        has_session Synced on h = h.0

    pub unloaded : {A : Type 0} (q : Result A RustFault) (y : RustFault) (f : OverFault) (seq last : ℕ)
        (t : Nodes) → over.IsFaultOf (load e seq last (Some t)) f → q ≡ Err y → y ≡ of_over f
        → IfErr q (IsFrameFault (load now seq last (Some t)))
    unloaded q y f seq last t h i j =
        let same = subst (λ z. over.IsFaultOf (load z seq last (Some t)) f) (sym
        (rests e stage c parts events rest)) h in
        passed q (IsFrameFault (load now seq last (Some t))) y (of_over f) i j
        (subst (λ x. IsFrameFault (load x seq last (Some t)) (of_over f)) v
        (over_fault (load client seq last (Some t)) (load (at_rest client) seq last (Some t))
        (load_refused client seq last t (state_fault client seq last)) f same))

    -- an update

    synced_at : (g : Stage) (ps : List Part) (seq : ℕ) (os : List Op) → is_synced g ≡ true → ps ≡ []
        → receive_update (client_of e g c ps events) seq os g ≡ update_numbered (client_of e g c ps events) seq os
    synced_at Synced [] seq os on none = refl
    synced_at Synced (p ∷ ps) seq os on none = cc
    synced_at Idle ps seq os on none = cc
    synced_at Dialled ps seq os on none = cc
    synced_at Connected ps seq os on none = cc

    has_tree : (g : Stage) → is_synced g ≡ true → HasCome g e.session e.confirmed → is_some e.confirmed ≡ true
    has_tree Synced on h = h.1
    has_tree Idle on h = cc
    has_tree Dialled on h = cc
    has_tree Connected on h = cc

    module _ (run : RunsOn e.told (issued e)) (st : Stands e stage c) (on : is_synced stage ≡ true) where
      low : client.told ≤ last_issued client
      low = omega (arith, rises e.told (issued client) (runs_on run))

      alike : (y : Account) (seq : ℕ) (os : List Op) (ns : List Notice)
          → taken (update_numbered e seq os) ≡ Ok (record { account = y; notices = notices_in ns })
          → taken (update_numbered (at_rest client) seq os) ≡ Ok (record { account = y; notices = notices_in ns })
      alike y seq os ns h =
          subst (λ z. taken (update_numbered z seq os) ≡ Ok (record { account = y; notices = notices_in ns }))
          (sym (rests e stage c parts events rest)) h

      pub updated : (y : Account) (seq : ℕ) (os : List Op) (o : Outcome) → parts ≡ []
          → taken (update_numbered e seq os) ≡ Ok (record { account = y; notices = notices_in o.notices })
          → o.replies ≡ [] → o.events ≡ []
          → given (receive_update now seq os now.stage) ≡ Ok (given_of (client_of y stage c parts events) o)
      updated y seq os o none h r s =
          ap (λ x. given (receive_update x seq os x.stage)) (sym v)
          ∙ ap given (synced_at stage parts seq os on none)
          ∙ ap given (update_like client c (sym (ap (up_to c) same_issued)) (sym (ap
          (behind c) same_issued)) y seq os (notices_in o.notices)
          (has_tree stage on st.come) (runs_on run) low (alike y seq os o.notices h)).0
          ∙ (λ j. Ok (record {
            account = client_of y stage c parts events;
            replies = sym r j;
            events = sym s j;
            notices = notices_in o.notices;
          }))

      pub stands_updated : (y : Account) (seq : ℕ) (os : List Op) (ns : List Notice)
          → taken (update_numbered e seq os) ≡ Ok (record { account = y; notices = notices_in ns })
          → Stands y stage c
      stands_updated y seq os ns h =
          let left = st.sent in
          let same : last_issued client ≡ last_issued e = ap (ends e.told) same_issued in
          (update_like client c (sym (ap (up_to c) same_issued)) (sym (ap (behind c) same_issued)) y seq os
          (notices_in ns)
          (has_tree stage on st.come) (runs_on run) low (alike y seq os ns h)).1 (record {
            sent = omega
                (arith, left, same);
            known = st.known;
            come = st.come;
          })

    pub unupdated : {A : Type 0} (q : Result A RustFault) (y : RustFault) (f : OverFault) (seq : ℕ)
        (os : List Op) → is_synced stage ≡ true → parts ≡ [] → over.IsFaultOf (update_numbered e seq os) f
        → q ≡ Err y → y ≡ of_over f → IfErr q (IsFrameFault (receive_update now seq os now.stage))
    unupdated q y f seq os on none h i j =
        let same = subst (λ z. over.IsFaultOf (update_numbered z seq os) f) (sym
        (rests e stage c parts events rest)) h in
        passed q (IsFrameFault (receive_update now seq os now.stage)) y (of_over f) i j
        (subst (λ x. IsFrameFault (receive_update x seq os x.stage) (of_over f)) v
        (subst (λ r. IsFrameFault r (of_over f)) (sym (synced_at stage parts seq os on none))
        (over_fault (update_numbered client seq os) (update_numbered (at_rest client) seq os)
        (update_refused client c (sym (ap (up_to c) same_issued)) (sym (ap (behind c) same_issued)) seq os) f same)))
