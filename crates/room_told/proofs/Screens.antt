-- A screen that follows the notices of a client shows what the client shows.
use Rattle.std.proofs.Common.{◌≡◌, ◌≤◌, ◌+◌, ◌==◌, ℕ, Bool, true, false, cond, not, ◌&&◌, ◌||◌, nat_le, nat_lt, List, [], ◌∷◌, ◌++◌, length, Option, Some, None, refl, sym, ap, ◌∙◌, subst, arith, append_assoc, append-nil}
use Rattle.std.specs.Prelude.{Result, Ok, Err, ℤ}
use Rattle.room_json.specs.Value.{Value, depth, merged}
use Rattle.room_json.specs.Fields.{and_then}
use Rattle.room_json.specs.View.{json_of}
use Rattle.room_json.specs.declared.tree.Json.{Json}
use Rattle.room_nodes.specs.declared.nodes.Body.{Body}
use Rattle.room_nodes.specs.declared.nodes.Change.{Change}
use Rattle.room_nodes.specs.declared.nodes.Op.{Op}
use Rattle.room_nodes.specs.Cells.{is_apart}
use Rattle.room_nodes.specs.Equal.{are_first}
use Rattle.room_nodes.specs.Ordered.{AreOrderedBodies}
use Rattle.room_nodes.specs.Shape.{Nodes}
use Rattle.room_nodes.specs.Sound.{AreSoundBodies, AreSoundOps}
use Rattle.room_nodes.specs.Steps.{fold}
use Rattle.room_steps.proofs.Commuting.{footprints}
use Rattle.room_steps.proofs.Sound as steps
use Rattle.room_items.specs.Items.{tree_in}
use Rattle.room_items.specs.View.{view}
use Rattle.room_msg.specs.declared.messages.Resume.{Resume}
use Rattle.room_msg.specs.declared.messages.ServerMsg.{ServerMsg}
use Rattle.room_msg.specs.declared.messages.ServerMsg.TheVariants as server
use Rattle.room_msg.specs.declared.messages.ServerFrame.{ServerFrame}
use Rattle.room_msg.specs.declared.messages.ServerFrame.TheVariants.{Pong, Msgs}
use Rattle.room_log.specs.Log.{actor_of, clock_of, bodies_of}
use Rattle.room_model.specs.Account.{Account, Batch, OpenBatch, Part, Stage, Idle, Dialled, Connected, Synced, actor, all_bodies, all_ops, batch_ops, beyond, bodies_in, clocks, is_on, is_synced, issued, is_some_list, last_issued, open_ops, pending, pending_bodies, shown, shown_over}
use Rattle.room_model.specs.Calls as calls
use Rattle.room_model.specs.Edits.{Edit, Made, fields_most}
use Rattle.room_model.specs.Notices.{apply_all, notices_of_all}
use Rattle.room_model.specs.Receive
use Rattle.room_model.specs.Sound.{AreValidChanges, ArePatches, ClocksRunOn, HasTree, IsSound, IsSoundEdit, IsValidTree, RunsOn}
use Rattle.room_laws.specs.Accounts.{IsValidServerMsg}
use Rattle.room_laws.specs.Ledger.{upto}
use Rattle.room_laws.proofs.Alone.{all_bodies-append, back_as, shown_same}
use Rattle.room_laws.proofs.Batches.{Runs-back, Runs-front, beyond_none, upto_above}
use Rattle.room_laws.proofs.EditMakes.{made_valid}
use Rattle.room_laws.proofs.EveryRun.{every_account}
use Rattle.room_laws.proofs.Facts.{ok_is, over, some_is, under}
use Rattle.room_laws.proofs.Histories.{holds_entry}
use Rattle.room_laws.proofs.Open.{edit_as}
use Rattle.room_laws.proofs.Ops.{bodies_again}
use Rattle.room_laws.proofs.OwnUpdate.{own_update}
use Rattle.room_laws.proofs.Settled.{fold-append}
use Rattle.room_laws.proofs.SoundCalls.{actor_bound}
use Rattle.room_laws.proofs.Validity.{changes_append, entry_valid, patches_append, pending_valid, shown_valid}
use Rattle.room_told.specs.Accounts.{AreValidServerMsgs, Follows, IsValidServerFrame, ScreensFollow, ScreensStay, screen}
use Rattle.room_told.proofs.Told.{all_show, then_more}

-- what is shown

same_screen : (x y : Account) → y.confirmed ≡ x.confirmed → pending_bodies y ≡ pending_bodies x → shown y ≡ shown x
same_screen x y c p = ap (shown_over y) c ∙ shown_same x y x.confirmed p

longer : (x y : Account) (c : Option Nodes) (t : Nodes) (bs : List Body) → shown_over x c ≡ Some t → pending_bodies y ≡ pending_bodies x ++ bs → shown_over y c ≡ Some (fold t bs)
longer x y None t bs e p = cc
longer x y (Some c) t bs e p = ap (λ ds. Some (fold c ds)) p ∙ ap Some (fold-append c (pending_bodies x) bs ∙ ap (λ u. fold u bs) (some_is (fold c (pending_bodies x)) t e))

grown : (x y : Account) (t : Nodes) (bs : List Body) → shown x ≡ Some t → y.confirmed ≡ x.confirmed → pending_bodies y ≡ pending_bodies x ++ bs → shown y ≡ Some (fold t bs)
grown x y t bs e c p = ap (shown_over y) c ∙ longer x y x.confirmed t bs e p

-- nothing is told where what is shown stays
quiet : (x y : Account) → shown y ≡ shown x → Follows x [] y
quiet x y e = ap (λ o. (view (calls.tree_or_bare o), true)) (sym e)

-- the notices of operations on what is shown
told : (x y : Account) (t : Nodes) (bs : List Body) → shown x ≡ Some t → shown y ≡ Some (fold t bs) → IsValidTree t → AreSoundBodies bs → Follows x (notices_of_all t bs) y
told x y t bs e d v s =
    ap (λ o. apply_all (notices_of_all t bs) (view (calls.tree_or_bare o))) e
    ∙ all_show t bs v.formed (steps.keeps_sound.ordered t v.sound) (steps.keeps_sound.ordered_bodies bs s)
    ∙ ap (λ o. (view (calls.tree_or_bare o), true)) (sym d)

-- edits

issues_bodies : (x : Account) (bs : List Body) → all_bodies (calls.issues_of x bs) ≡ bs
issues_bodies x [] = refl
issues_bodies x (b ∷ bs) = append-nil (b ∷ bs)

issued_more : (x : Account) (bs : List Body) → all_bodies (x.sent ++ (x.fresh ++ calls.issues_of x bs)) ≡ all_bodies (issued x) ++ bs
issued_more x bs =
    ap all_bodies (sym (append_assoc x.sent x.fresh (calls.issues_of x bs))) ∙ all_bodies-append (issued x) (calls.issues_of x bs)
    ∙ ap (λ cs. all_bodies (issued x) ++ cs) (issues_bodies x bs)

-- issued where no batch is open
closed_more : (x : Account) (bs : List Body) → bodies_in x.batch ≡ [] → all_bodies (x.sent ++ (x.fresh ++ calls.issues_of x bs)) ++ [] ≡ pending_bodies x ++ bs
closed_more x bs e =
    append-nil (all_bodies (x.sent ++ (x.fresh ++ calls.issues_of x bs))) ∙ issued_more x bs
    ∙ ap (λ cs. cs ++ bs) (sym (ap (λ cs. all_bodies (issued x) ++ cs) e ∙ append-nil (all_bodies (issued x))))

edited_more : (x : Account) (t : Nodes) (m : Made) (bs : List Body) (o : Option OpenBatch) → x.batch ≡ o → shown x ≡ Some t → shown (calls.edited_in x t m bs o) ≡ Some (fold t bs)
edited_more x t m bs (Some o) n e = grown x (calls.edited_in x t m bs (Some o)) t bs e refl
    (ap (λ z. all_bodies (issued x) ++ (bodies_in z ++ bs)) (sym n) ∙ sym (append_assoc (all_bodies (issued x)) (bodies_in x.batch) bs))
edited_more x t m [] None n e = e
edited_more x t m (b ∷ bs) None n e = grown x (calls.edited_in x t m (b ∷ bs) None) t (b ∷ bs) e refl
    (ap (λ z. all_bodies (x.sent ++ (x.fresh ++ calls.issues_of x (b ∷ bs))) ++ bodies_in z) n ∙ closed_more x (b ∷ bs) (ap bodies_in n))

edit_follows : (x : Account) (e : Edit) (out : calls.Done) → IsSound x → IsSoundEdit e → calls.edit x e ≡ Ok out → Follows x out.notices out.account
edit_follows x e out h s p =
    let a = edit_as x e (shown x) out p in
    let v : IsValidTree a.tree = shown_valid x a.tree h a.shows in
    let m = made_valid a.tree (clocks x) e a.made v s (actor_bound x.session h.session) h.node h.own.next a.makes in
    subst (λ (d : calls.Done). Follows x d.notices d.account) a.is
    (told x (calls.edited x a.tree a.made).account a.tree (bodies_of a.made.ops) a.shows (edited_more x a.tree a.made (bodies_of a.made.ops) x.batch refl a.shows) v m.bodies.sound)

-- the end of a batch

end_by : (x : Account) (o : Option OpenBatch) (out : calls.Done) → x.batch ≡ o → calls.end_at x o ≡ Ok out → Follows x out.notices out.account
end_by x None out n p = cc
end_by x (Some o) out n p =
    subst (λ (d : calls.Done). Follows x d.notices d.account) (ok_is (calls.closed x o) out p)
    (quiet x (calls.closed x o).account (same_screen x (calls.closed x o).account refl
    (append-nil (all_bodies (x.sent ++ (x.fresh ++ calls.issues_of x o.bodies))) ∙ issued_more x o.bodies ∙ ap (λ z. all_bodies (issued x) ++ bodies_in z) (sym n))))

-- undo and redo

went_by : (way : calls.Direction) (x : Account) (entry : List Change) (o : Option Nodes) → shown x ≡ o → x.batch ≡ None → IsSound x → AreSoundBodies (calls.entry_bodies entry) → (x.confirmed ≡ None → calls.entry_bodies entry ≡ [])
    → Follows x (notices_of_all (calls.tree_or_bare o) (calls.entry_bodies entry)) (calls.went_back way x entry).account
went_by way x entry None e n h s none =
    let y = (calls.went_back way x entry).account in
    let no_tree : x.confirmed ≡ None = bare_by x.confirmed e in
    let nothing = none no_tree in
    ap (λ bs. apply_all (notices_of_all (calls.tree_or_bare None) bs) (screen x)) nothing ∙ quiet x y (ap (shown_over y) no_tree ∙ sym e)
  where
    bare_by : (c : Option Nodes) → shown_over x c ≡ None → c ≡ None
    bare_by None e = refl
    bare_by (Some t) e = cc
went_by way x entry (Some t) e n h s none =
    let bs = calls.entry_bodies entry in
    told x (calls.went_back way x entry).account t bs e
    (grown x (calls.went_back way x entry).account t bs e refl (ap (λ z. all_bodies (x.sent ++ (x.fresh ++ calls.issues_of x bs)) ++ bodies_in z) n ∙ closed_more x bs (ap bodies_in n)))
    (shown_valid x t h e) s

tree_none : (x : Account) (entry : List Change) (way : calls.Direction) (o : Option Nodes) → HasTree x.stage (issued x) x.batch x.history o → calls.entry_of way x.history ≡ Some entry → o ≡ None → calls.entry_bodies entry ≡ []
tree_none x entry way None h f e = holds_entry ArePatches refl patches_append way x.history entry h.1.history f
tree_none x entry way (Some t) h f e = cc

back_follows : (way : calls.Direction) (x : Account) (out : calls.Done) → IsSound x → calls.go_back way x ≡ Ok (Some out) → Follows x out.notices out.account
back_follows way x out h p =
    let a = back_as way x x.batch out refl p in
    let valid : AreValidChanges a.entry = holds_entry AreValidChanges tt changes_append way x.history a.entry h.history a.is_entry in
    subst (λ (d : calls.Done). Follows x d.notices d.account) a.is
    (went_by way x a.entry (shown x) refl a.none h (entry_valid a.entry valid).sound (tree_none x a.entry way x.confirmed h.tree a.is_entry))

-- messages

abbrev ReceivedFollows : Account → Receive.Received → Type 0
ReceivedFollows x out = Follows x out.notices out.account

presence_follows : (x : Account) (a : ℕ) (target : Option ℤ) (patch : List (List ℕ × Value)) → ReceivedFollows x (Receive.received (Receive.presence_taken x a target patch))
presence_follows x a None patch = quiet x (Receive.presence_taken x a None patch) (same_screen x (Receive.presence_taken x a None patch) refl refl)
presence_follows x a (Some target) patch = quiet x (Receive.presence_taken x a (Some target) patch) (same_screen x (Receive.presence_taken x a (Some target) patch) refl refl)

welcomed_follows : (x : Account) (a key : ℕ) → ReceivedFollows x (Receive.welcomed x a key)
welcomed_follows x a key = quiet x (Receive.welcomed x a key).account (same_screen x (Receive.welcomed x a key).account refl refl)

welcomed_by : (x : Account) (a key : ℕ) (b : Bool) (f : Receive.FrameFault) (out : Receive.Received) → cond b (Ok (Receive.welcomed x a key)) (Err f) ≡ Ok out → ReceivedFollows x out
welcomed_by x a key true f out p = subst (ReceivedFollows x) (ok_is (Receive.welcomed x a key) out p) (welcomed_follows x a key)
welcomed_by x a key false f out p = cc

welcomed_as : (x : Account) (a key : ℕ) (o : Option Resume) (out : Receive.Received) → Receive.welcomed_as x a key o ≡ Ok out → ReceivedFollows x out
welcomed_as x a key None out p = subst (ReceivedFollows x) (ok_is (Receive.welcomed x a key) out p) (welcomed_follows x a key)
welcomed_as x a key (Some w) out p = welcomed_by x a key (w.actor == a) (Receive.AccountFault w.actor a) out p

room_follows : (x : Account) (a key : ℕ) (g : Stage) (out : Receive.Received) → Receive.receive_room x a key g ≡ Ok out → ReceivedFollows x out
room_follows x a key Dialled out p = welcomed_as x a key x.session out p
room_follows x a key Idle out p = cc
room_follows x a key Connected out p = cc
room_follows x a key Synced out p = cc

load_by : (x : Account) (seq last : ℕ) (t : Nodes) (o : Option (ℕ × ℕ)) (out : Receive.Received) → Receive.load_at x seq last t o ≡ Ok out → ReceivedFollows x out
load_by x seq last t (Some fault) out p = cc
load_by x seq last t None out p = subst (ReceivedFollows x) (ok_is (Receive.loaded x seq last t) out p) refl

load_follows : (x : Account) (seq last : ℕ) (o : Option Nodes) (out : Receive.Received) → Receive.load x seq last o ≡ Ok out → ReceivedFollows x out
load_follows x seq last None out p = cc
load_follows x seq last (Some t) out p = load_by x seq last t (Receive.state_fault x seq last) out p

part_follows : (x : Account) (seq last : ℕ) (items : List Value) (more : Bool) (o : Option (ℕ × ℕ)) (out : Receive.Received) → Receive.receive_part x seq last items more o ≡ Ok out → ReceivedFollows x out
part_follows x seq last items more (Some fault) out p = cc
part_follows x seq last items true None out p =
    let y = Receive.keeps_part x seq last items in
    subst (ReceivedFollows x) (ok_is y out p) (quiet x y.account (same_screen x y.account refl refl))
part_follows x seq last items false None out p = load_follows x seq last (tree_in (Receive.parts_items x.parts ++ items)) out p

state_by : (x : Account) (b : Bool) (f : Receive.FrameFault) (r : Result Receive.Received Receive.FrameFault) (out : Receive.Received) → (r ≡ Ok out → ReceivedFollows x out) → cond b (Err f) r ≡ Ok out → ReceivedFollows x out
state_by x true f r out h p = cc
state_by x false f r out h p = h p

-- an update

ops_sound : (os : List Op) → AreSoundOps os → AreSoundBodies (bodies_of os)
ops_sound [] h = tt
ops_sound (o ∷ os) h = (h.0.1, ops_sound os h.1)

bodies_append : (os qs : List Op) → bodies_of (os ++ qs) ≡ bodies_of os ++ bodies_of qs
bodies_append [] qs = refl
bodies_append (o ∷ os) qs = ap (λ bs. o.body ∷ bs) (bodies_append os qs)

bodies_all : (a : ℕ) (bs : List Batch) → bodies_of (all_ops a bs) ≡ all_bodies bs
bodies_all a [] = refl
bodies_all a (b ∷ bs) = bodies_append (batch_ops a b) (all_ops a bs) ∙ (λ i. bodies_again a b.first b.bodies i ++ bodies_all a bs i)

bodies_pending : (x : Account) → bodies_of (pending x) ≡ pending_bodies x
bodies_pending x = bodies_append (all_ops (actor x) (issued x)) (open_ops x) ∙ (λ i. bodies_all (actor x) (issued x) i ++ bodies_again (actor x) (last_issued x + 1) (bodies_in x.batch) i)

-- none of its own leaves what is told
none_told : (a limit c told : ℕ) (os : List Op) → Receive.none_own a os ≡ true → Receive.told_by a limit c os ≡ Ok told → told ≡ c
none_told a limit c told [] h p = sym (ok_is c told p)
none_told a limit c told (o ∷ os) h p = by (not (actor_of o == a)) h p (λ g q. none_told a limit c told os g q)
  where
    by : (b : Bool) → (b && Receive.none_own a os) ≡ true → cond b (Receive.told_by a limit c os) (cond ((clock_of o == c + 1) && nat_le (clock_of o) limit) (Receive.told_by a limit (c + 1) os) (Err (c, clock_of o))) ≡ Ok told
        → (Receive.none_own a os ≡ true → Receive.told_by a limit c os ≡ Ok told → told ≡ c) → told ≡ c
    by true h p more = more h p
    by false h p more = cc

all_beyond : (x : Account) (told : ℕ) → ClocksRunOn x → told ≡ x.told → beyond told x.sent ++ beyond told x.fresh ≡ issued x
all_beyond x told runs is =
    let first = beyond_none x.told told x.sent (Runs-front x.told x.sent x.fresh runs) (omega (arith, is)) in
    let above = upto_above x.told x.sent in
    let rest = beyond_none (upto x.told x.sent) told x.fresh (Runs-back x.told x.sent x.fresh runs) (omega (arith, is, above)) in
    λ i. first i ++ rest i

none_issued : (c : ℕ) (bs : List Batch) → RunsOn c bs → all_bodies bs ≡ [] → bs ≡ []
none_issued c [] h e = refl
none_issued c (b ∷ bs) h e = absurd (some_bodies b.bodies (all_bodies bs) h.some e)
  where
    some_bodies : (xs ys : List Body) → 1 ≤ length xs → xs ++ ys ≡ [] → ⊥
    some_bodies [] ys h e = omega (arith, h)
    some_bodies (x ∷ xs) ys h e = cc

front_none : {A : Type 0} (xs ys : List A) → xs ++ ys ≡ [] → (xs ≡ []) × (ys ≡ [])
front_none [] ys e = (refl, e)
front_none (x ∷ xs) ys e = cc

-- nothing pending, nothing pending then
none_pending : (x : Account) (told : ℕ) → ClocksRunOn x → pending_bodies x ≡ [] → all_bodies (beyond told x.sent ++ beyond told x.fresh) ++ bodies_in x.batch ≡ []
none_pending x told runs e =
    let a = front_none (all_bodies (issued x)) (bodies_in x.batch) e in
    let b = front_none x.sent x.fresh (none_issued x.told (issued x) runs a.0) in
    (λ i. all_bodies (beyond told (b.0 i) ++ beyond told (b.1 i)) ++ a.1 i)

no_ops : (os : List Op) → is_some_list os ≡ false → bodies_of os ≡ []
no_ops [] e = refl
no_ops (o ∷ os) e = cc

module _ (x : Account) (os : List Op) (now : ℕ) (t : Nodes) (h : IsSound x) (v : IsValidTree t) (s : AreSoundOps os) (there : x.confirmed ≡ Some t) (tells : Receive.told_by (actor x) (last_issued x) x.told os ≡ Ok now) where
  abbrev y : Account
  y = Receive.updated_account x os now t

  abbrev mine : List Body
  mine = pending_bodies x

  abbrev came : List Body
  came = bodies_of os

  shows : shown x ≡ Some (fold t mine)
  shows = ap (shown_over x) there

  sound_came : AreSoundBodies came
  sound_came = ops_sound os s

  sound_mine : AreOrderedBodies mine
  sound_mine = steps.keeps_sound.ordered_bodies mine (pending_valid x h).sound

  -- the new tree is the old one with what came behind
  behind : fold (fold t came) (pending_bodies y) ≡ fold (fold t mine) came → Follows x (notices_of_all (calls.tree_or_bare (shown x)) came) y
  behind e =
      ap (λ o. apply_all (notices_of_all (calls.tree_or_bare o) came) (screen x)) shows
      ∙ told x y (fold t mine) came shows (ap Some e) (shown_valid x (fold t mine) h shows) sound_came

  nothing_pending : is_some_list (pending x) ≡ false → fold (fold t came) (pending_bodies y) ≡ fold (fold t mine) came
  nothing_pending e =
      let none : mine ≡ [] = sym (bodies_pending x) ∙ no_ops (pending x) e in
      ap (fold (fold t came)) (none_pending x now h.own.runs none) ∙ ap (λ bs. fold (fold t bs) came) (sym none)

  all_apart : Receive.none_own (actor x) os ≡ true → is_apart t came (bodies_of (pending x)) ≡ true → fold (fold t came) (pending_bodies y) ≡ fold (fold t mine) came
  all_apart none apart =
      ap (λ bs. fold (fold t came) (all_bodies bs ++ bodies_in x.batch)) (all_beyond x now h.own.runs (none_told (actor x) (last_issued x) x.told now os none tells))
      ∙ footprints.either_order t came mine v.formed (steps.keeps_sound.ordered t v.sound) (steps.keeps_sound.ordered_bodies came sound_came) sound_mine (ap (λ bs. is_apart t came bs) (sym (bodies_pending x)) ∙ apart)

  told_by_case : (b c d e : Bool) → are_first os (pending x) ≡ b → is_some_list (pending x) ≡ c → Receive.none_own (actor x) os ≡ d → is_apart t came (bodies_of (pending x)) ≡ e
      → Follows x (cond b [] (cond (not c || (d && e)) (notices_of_all (calls.tree_or_bare (shown x)) came) (Receive.reset_to y))) y
  told_by_case true c d e i j k l = quiet x y (own_update x os now t h.own.runs there tells i)
  told_by_case false false d e i j k l = behind (nothing_pending j)
  told_by_case false true true true i j k l = behind (all_apart k l)
  told_by_case false true true false i j k l = refl
  told_by_case false true false e i j k l = refl

  update_follows : Follows x (Receive.update_notices x os now t) y
  update_follows = told_by_case (are_first os (pending x)) (is_some_list (pending x)) (Receive.none_own (actor x) os) (is_apart t came (bodies_of (pending x))) refl refl refl refl

update_told : (x : Account) (os : List Op) (t : Nodes) (r : Result ℕ (ℕ × ℕ)) (out : Receive.Received) → Receive.told_by (actor x) (last_issued x) x.told os ≡ r → IsSound x → IsValidTree t → AreSoundOps os → x.confirmed ≡ Some t
    → Receive.update_told x os t r ≡ Ok out → ReceivedFollows x out
update_told x os t (Err f) out e h v s there p = cc
update_told x os t (Ok now) out e h v s there p =
    subst (ReceivedFollows x) (ok_is (record (Receive.received (Receive.updated_account x os now t)) { notices = Receive.update_notices x os now t }) out p)
    (update_follows x os now t h v s there e)

update_on : (x : Account) (os : List Op) (o : Option Nodes) (out : Receive.Received) → x.confirmed ≡ o → HasTree x.stage (issued x) x.batch x.history o → IsSound x → AreSoundOps os → Receive.update_on x os o ≡ Ok out → ReceivedFollows x out
update_on x os None out e k h s p = cc
update_on x os (Some t) out e k h s p = update_told x os t (Receive.told_by (actor x) (last_issued x) x.told os) out refl h k s e p

update_numbered : (x : Account) (b : Bool) (f : Receive.FrameFault) (r : Result Receive.Received Receive.FrameFault) (out : Receive.Received) → (r ≡ Ok out → ReceivedFollows x out) → cond b r (Err f) ≡ Ok out → ReceivedFollows x out
update_numbered x true f r out h p = h p
update_numbered x false f r out h p = cc

update_synced : (x : Account) (seq : ℕ) (os : List Op) (ps : List Part) (out : Receive.Received) → IsSound x → AreSoundOps os → Receive.update_synced x seq os ps ≡ Ok out → ReceivedFollows x out
update_synced x seq os [] out h s p =
    update_numbered x (seq == x.n + 1) (Receive.Gap (x.n + 1) seq) (Receive.update_on x os x.confirmed) out (λ q. update_on x os x.confirmed out refl h.tree h s q) p
update_synced x seq os (q ∷ ps) out h s p = cc

update_by : (x : Account) (seq : ℕ) (os : List Op) (g : Stage) (out : Receive.Received) → IsSound x → AreSoundOps os → Receive.receive_update x seq os g ≡ Ok out → ReceivedFollows x out
update_by x seq os Synced out h s p = update_synced x seq os x.parts out h s p
update_by x seq os Idle out h s p = cc
update_by x seq os Dialled out h s p = cc
update_by x seq os Connected out h s p = cc

-- each message

on_by : (x : Account) (kind : ℕ) (res out : Receive.Received) → ReceivedFollows x res → Receive.once_on x kind res ≡ Ok out → ReceivedFollows x out
on_by x kind res out h p = subst (ReceivedFollows x) (over (is_on x.stage) (Receive.Unexpected kind) res out p) h

forgets_follows : (x : Account) (a : ℕ) → Follows x [] (Receive.forgets x a)
forgets_follows x a = quiet x (Receive.forgets x a) (same_screen x (Receive.forgets x a) refl refl)

receive_follows : (x : Account) (m : ServerMsg) (out : Receive.Received) → IsSound x → IsValidServerMsg m → Receive.receive x m ≡ Ok out → ReceivedFollows x out
receive_follows x (server.Presence a target patch) out h m p = on_by x 100 (Receive.received (Receive.presence_taken x a target patch)) out (presence_follows x a target patch) p
receive_follows x (server.Joined a) out h m p = on_by x 101 _ out (forgets_follows x a) p
receive_follows x (server.Left a) out h m p = on_by x 102 _ out (forgets_follows x a) p
receive_follows x (server.Broadcast a e) out h m p = on_by x 103 _ out refl p
receive_follows x (server.RoomState a key users) out h m p = room_follows x a key x.stage out p
receive_follows x (server.State seq last items more) out h m p =
    state_by x (not (is_on x.stage)) (Receive.Unexpected 200) (Receive.receive_part x seq last items more (Receive.other_parts x.parts seq last)) out (λ q. part_follows x seq last items more (Receive.other_parts x.parts seq last) out q) p
receive_follows x (server.Update seq os) out h m p = update_by x seq os x.stage out h m.1 p

-- a frame

abbrev More : Receive.Received → List ServerMsg → Type 0
More first ms = (out : Receive.Received) → Receive.receive_all first.account ms ≡ Ok out → Follows first.account out.notices out.account

more_by : (x : Account) (first : Receive.Received) (r : Result Receive.Received Receive.Refusal) (out : Receive.Received) → ReceivedFollows x first → ((more : Receive.Received) → r ≡ Ok more → Follows first.account more.notices more.account)
    → Receive.then_more first r ≡ Ok out → ReceivedFollows x out
more_by x first (Err refusal) out h k p = cc
more_by x first (Ok more) out h k p =
    subst (ReceivedFollows x) (ok_is (Receive.then_received first more) out p)
    (then_more first.notices more.notices (screen x) (screen first.account) h ∙ k more refl)

all_by : (x : Account) (ms : List ServerMsg) (r : Result Receive.Received Receive.FrameFault) (out : Receive.Received) → ((first : Receive.Received) → r ≡ Ok first → ReceivedFollows x first × More first ms)
    → and_then (Receive.or_lost x r) (λ (first : Receive.Received). Receive.then_more first (Receive.receive_all first.account ms)) ≡ Ok out → ReceivedFollows x out
all_by x ms (Err fault) out h p = cc
all_by x ms (Ok first) out h p = let a = h first refl in more_by x first (Receive.receive_all first.account ms) out a.0 a.1 p

all_follow : (ms : List ServerMsg) (x : Account) (out : Receive.Received) → IsSound x → AreValidServerMsgs ms → Receive.receive_all x ms ≡ Ok out → ReceivedFollows x out
all_follow [] x out h k p = subst (ReceivedFollows x) (ok_is (Receive.received x) out p) refl
all_follow (m ∷ ms) x out h k p =
    all_by x ms (Receive.receive x m) out (λ first e. (
      receive_follows x m first h k.0 e,
      λ more q. all_follow ms first.account more (every_account.receive x m first h k.0 e) k.1 q,
    )) p

frame_follows : (x : Account) (f : ServerFrame) (out : Receive.Received) → IsSound x → IsValidServerFrame f → Receive.receive_frame x f ≡ Ok out → ReceivedFollows x out
frame_follows x Pong out h k p = subst (ReceivedFollows x) (ok_is (Receive.received x) out p) refl
frame_follows x (Msgs ms) out h k p = all_follow ms x out h k p

pub screens_follow : ScreensFollow
screens_follow = record {
  edit = edit_follows;
  batch_end = λ x out h p. end_by x x.batch out refl p;
  go_back = back_follows;
  receive = receive_follows;
  frame = frame_follows;
}

-- calls that tell nothing

shown_as : (x y : Account) → shown y ≡ shown x → screen y ≡ screen x
shown_as x y e = ap (λ o. view (calls.tree_or_bare o)) e

begin_by : (x y : Account) (o : Option OpenBatch) → x.batch ≡ o → calls.begin_at x o ≡ Ok y → screen y ≡ screen x
begin_by x y (Some o) n p = cc
begin_by x y None n p =
    let z : Account = record x { batch = Some (record { bodies = []; changes = []; keys = [] }) } in
    subst (λ (v : Account). screen v ≡ screen x) (ok_is z y p) (shown_as x z (same_screen x z refl (ap (λ w. all_bodies (issued x) ++ bodies_in w) (sym n))))

patched_bodies : (back : List Change) (patch : List (List ℕ × Value)) (o : Option OpenBatch) → bodies_in (calls.open_patched back patch o) ≡ bodies_in o
patched_bodies back patch None = refl
patched_bodies back patch (Some o) = refl

presence_by : (x y : Account) (patch : List (List ℕ × Value)) (in_history : Bool) (b : Bool) (f : calls.SayFault) (size : ℕ) → cond b (Err f) (calls.presence_sized x patch in_history size) ≡ Ok y → screen y ≡ screen x
presence_by x y patch in_history true f size p = cc
presence_by x y patch in_history false f size p =
    let back = calls.back_noted x patch in_history in
    let z = calls.patched_me x patch back in
    subst (λ (v : Account). screen v ≡ screen x) (under (nat_lt _ size) _ z y p)
    (shown_as x z (same_screen x z refl (ap (λ bs. all_bodies (issued x) ++ bs) (patched_bodies back patch x.batch))))

event_by : (x y : Account) (e : Json) (b c : Bool) (f g : calls.SayFault) (size : ℕ) → cond b (Err f) (cond c (Err g) (calls.event_sized x e size)) ≡ Ok y → screen y ≡ screen x
event_by x y e true c f g size p = cc
event_by x y e false true f g size p = cc
event_by x y e false false f g size p =
    let z : Account = record x { events = x.events ++ e ∷ [] } in
    subst (λ (v : Account). screen v ≡ screen x) (under (nat_lt _ size) _ z y p) (shown_as x z (same_screen x z refl refl))

either : (x y z : Account) (b : Bool) → screen y ≡ screen x → screen z ≡ screen x → screen (cond b y z) ≡ screen x
either x y z true h k = h
either x y z false h k = k

-- what was sent stands in front of what was not
turned : (x : Account) (b : Bool) → cond b (issued x) x.sent ++ cond b [] x.fresh ≡ issued x
turned x true = append-nil (issued x)
turned x false = refl

flushed_by : (x : Account) → screen (calls.flushed x) ≡ screen x
flushed_by x =
    let z : Account = record x { unsent = _; events = []; sent = cond (is_synced x.stage) (issued x) x.sent; fresh = cond (is_synced x.stage) [] x.fresh } in
    either x x z (not (is_on x.stage)) refl (shown_as x z (same_screen x z refl (ap (λ bs. all_bodies bs ++ bodies_in x.batch) (turned x (is_synced x.stage)))))

resent_by : (x : Account) → screen (calls.resent x) ≡ screen x
resent_by x =
    let z : Account = record x { sent = issued x; fresh = [] } in
    either x z x (is_synced x.stage) (shown_as x z (same_screen x z refl (ap (λ bs. all_bodies bs ++ bodies_in x.batch) (append-nil (issued x))))) refl

pub screens_stay : ScreensStay
screens_stay = record {
  lost = λ x. shown_as x (calls.lost x) (same_screen x (calls.lost x) refl refl);
  dialled = λ x. shown_as x (calls.dialled x) (same_screen x (calls.dialled x) refl refl);
  batch_begin = λ x y p. begin_by x y x.batch refl p;
  presence = λ x y patch in_history p. presence_by x y patch in_history (nat_lt 50 (fields_most patch)) (calls.ValueTooDeep (fields_most patch)) (calls.presence_size (merged x.me patch)) p;
  event = λ x y e p. event_by x y e (not (is_on x.stage)) (nat_lt 50 (depth (json_of e))) calls.NotConnected (calls.ValueTooDeep (depth (json_of e))) _ p;
  pause = λ x. shown_as x (calls.pause x) (same_screen x (calls.pause x) refl refl);
  resume = λ x. shown_as x (calls.resume x) (same_screen x (calls.resume x) refl refl);
  clear = λ x. shown_as x (calls.clear x) (same_screen x (calls.clear x) refl refl);
  flushed = flushed_by;
  resent = resent_by;
}
