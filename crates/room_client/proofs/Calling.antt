-- What a user's call makes of a client's account is what it makes of the account at rest, with what the connection
-- adds.
use Rattle.std.proofs.Common.{◌≡◌, ◌≤◌, ◌++◌, ◌∙◌, ℕ, Bool, true, false, cond, nat_lt, List, [], ◌∷◌, length, Option}
use Rattle.std.proofs.Common.{◌&&◌, ◌+◌, Some, None, Result, Ok, Err, refl, sym, ap, subst, arith}
use Rattle.std.proofs.lemmas.List.{append-nil}
use Rattle.room_json.specs.Value.{Value, merged}
use Rattle.room_json.specs.declared.tree.Json.{Json}
use Rattle.room_nodes.specs.Shape.{Nodes}
use Rattle.room_nodes.specs.declared.nodes.Body.{Body}
use Rattle.room_nodes.specs.declared.nodes.Change.{Change}
use Rattle.room_log.specs.Log.{bodies_of, ops_from}
use Rattle.room_msg.specs.Laws.{IsResumable}
use Rattle.room_model.specs.Account.{Account, Batch, OpenBatch, Part, Stage, Idle, actor, clocks, ends, frame_of_ops}
use Rattle.room_model.specs.Account.{issued, last_clock}
use Rattle.room_model.specs.Account.{last_issued, most_bytes, open_ops, shown, shown_over, size_of, is_some_list}
use Rattle.room_model.specs.Calls.{Done, Direction, UndoFault, edit, edit_on, edit_made, edited}
use Rattle.room_model.specs.Calls.{edited_in, edit_issues, issues_of, end_at, back_at}
use Rattle.room_model.specs.Calls.{back_entry, back_clocked, back_presence, went_back, entry_bodies}
use Rattle.room_model.specs.Calls.{entry_of, entry_presence, entry_names, entry_reversal, gone, presence_size}
use Rattle.room_model.specs.Calls.{BatchFault, SayFault, TooLarge, ValueTooDeep, back_noted, begin_at, patched_me}
use Rattle.room_model.specs.Calls.{presence, presence_sized, tree_or_bare, UndoTooLarge, UndoBatchTooLarge}
use Rattle.room_model.specs.Edits as edits
use Rattle.room_model.specs.Edits.{Edit, EditFault, Made, fields_most, make, spent}
use Rattle.room_model.specs.Notices.{Notice, notices_of_all}
use Rattle.room_model.specs.Sound.{RunsOn}
use Rattle.room_client.specs.Client.{HasCome, Stands, behind, client_of, up_to}
use Rattle.room_editor.specs.Editor.{Outcome, WentBack, at_rest, done}
use Rattle.room_client.proofs.Batches.{clock_on, joined, more_behind, more_up, rises}

pub ok_is : {X E : Type 0} {x y : X} → ◌≡◌ {A = Result X E} (Ok x) (Ok y) → x ≡ y
ok_is h = cc

pub some_is : {X : Type 0} {x y : X} → Some x ≡ Some y → x ≡ y
some_is h = cc

-- y, an account at rest, with the connection of x, where these batches were issued
abbrev pub on_line : Account → Account → List Batch → Account
on_line x y issues = record y {
  stage = x.stage;
  sent = x.sent;
  fresh = x.fresh ++ issues;
  parts = x.parts;
  events = x.events;
}

-- what was done with x, and with x at rest
pub record AreLike (x : Account) (d e : Done) : Type 0 where
  pub account : d.account ≡ on_line x e.account e.issues
  pub notices : d.notices ≡ e.notices
  pub issued : issued e.account ≡ issued x ++ e.issues
  pub told : e.account.told ≡ x.told
  pub session : e.account.session ≡ x.session
  pub confirmed : e.account.confirmed ≡ x.confirmed

abbrev pub ResultsLike : {F : Type 0} → Account → Result Done F → Result Done F → Type 0
ResultsLike x (Ok d) (Ok e) = AreLike x d e
ResultsLike x (Err f) (Err g) = f ≡ g
ResultsLike x (Ok d) (Err g) = ⊥
ResultsLike x (Err f) (Ok e) = ⊥

-- edits

edited_like : (x : Account) (t : Nodes) (m : Made) (bs : List Body) (o : Option OpenBatch) (ns : List Notice)
    → AreLike x (record { account = edited_in x t m bs o; issues = edit_issues x bs o; notices = ns })
    (record {
      account = edited_in (at_rest x) t m bs o;
      issues = edit_issues (at_rest x) bs o;
      notices = ns;
    })
edited_like x t m bs (Some o) ns = record {
  account = ap (λ xs. record (edited_in x t m bs (Some o)) { fresh = xs }) (sym (append-nil x.fresh));
  notices = refl;
  issued = sym (append-nil (issued x));
  told = refl;
  session = refl;
  confirmed = refl;
}
edited_like x t m [] None ns = record {
  account = ap (λ xs. record x { fresh = xs }) (sym (append-nil x.fresh));
  notices = refl;
  issued = sym (append-nil (issued x));
  told = refl;
  session = refl;
  confirmed = refl;
}
edited_like x t m (b ∷ bs) None ns = record {
  account = refl;
  notices = refl;
  issued = refl;
  told = refl;
  session = refl;
  confirmed = refl;
}

edit_like_at : (x : Account) (t : Nodes) (m : Made) (size : ℕ) (big : Bool)
    → ResultsLike {F = EditFault} x (cond big (Err (edits.BatchTooLarge size)) (Ok (edited x t m)))
    (cond big (Err (edits.BatchTooLarge size)) (Ok (edited (at_rest x) t m)))
edit_like_at x t m size true = refl
edit_like_at x t m size false = edited_like x t m (bodies_of m.ops) x.batch _

edit_like_made : (x : Account) (t : Nodes) (r : Result Made EditFault)
    → ResultsLike x (edit_made x t r) (edit_made (at_rest x) t r)
edit_like_made x t (Err f) = refl
edit_like_made x t (Ok m) =
    let size = size_of (frame_of_ops (open_ops x ++ m.ops)) in
    edit_like_at x t m size (nat_lt most_bytes size)

edit_like_on : (x : Account) (e : Edit) (t : Option Nodes)
    → ResultsLike x (edit_on x e t) (edit_on (at_rest x) e t)
edit_like_on x e None = refl
edit_like_on x e (Some t) = edit_like_made x t (make t (clocks x) e)

edit_like_shown : (x : Account) (e : Edit) (c : Option Nodes)
    → ResultsLike x (edit_on x e (shown_over x c)) (edit_on (at_rest x) e (shown_over (at_rest x) c))
edit_like_shown x e None = edit_like_on x e None
edit_like_shown x e (Some t) = edit_like_on x e (shown_over x (Some t))

pub edit_like : (x : Account) (e : Edit) → ResultsLike x (edit x e) (edit (at_rest x) e)
edit_like x e = edit_like_shown x e x.confirmed

-- the end of a batch

pub end_like : (x : Account) (o : Option OpenBatch) → ResultsLike x (end_at x o) (end_at (at_rest x) o)
end_like x None = refl
end_like x (Some o) = record {
  account = refl;
  notices = refl;
  issued = refl;
  told = refl;
  session = refl;
  confirmed = refl;
}

-- undo and redo

abbrev pub OptionsLike : {F : Type 0} → Account → Result (Option Done) F → Result (Option Done) F → Type 0
OptionsLike x (Ok None) (Ok None) = Unit {0}
OptionsLike x (Ok (Some d)) (Ok (Some e)) = AreLike x d e
OptionsLike x (Err f) (Err g) = f ≡ g
OptionsLike x (Ok (Some d)) (Ok None) = ⊥
OptionsLike x (Ok None) (Ok (Some d)) = ⊥
OptionsLike x (Ok d) (Err g) = ⊥
OptionsLike x (Err f) (Ok e) = ⊥

pub shown_like : (x : Account) (c : Option Nodes) → shown_over (at_rest x) c ≡ shown_over x c
shown_like x None = refl
shown_like x (Some t) = refl

-- what an entry makes of an account whose tree is the one in s
abbrev gone_at : Direction → Account → List Change → Option Nodes → Done
gone_at way x entry s = record {
  account = record x {
    fresh = x.fresh ++ issues_of x (entry_bodies entry);
    me = entry_presence x.me entry;
    unsent = entry_names x.unsent entry;
    history = gone way (entry_reversal (tree_or_bare s) x.me entry) x.history;
  };
  issues = issues_of x (entry_bodies entry);
  notices = notices_of_all (tree_or_bare s) (entry_bodies entry);
}

gone_like : (way : Direction) (x : Account) (entry : List Change) (s : Option Nodes)
    → AreLike x (gone_at way x entry s) (gone_at way (at_rest x) entry s)
gone_like way x entry s = record {
  account = refl;
  notices = refl;
  issued = refl;
  told = refl;
  session = refl;
  confirmed = refl;
}

went_like : (way : Direction) (x : Account) (entry : List Change)
    → AreLike x (went_back way x entry) (went_back way (at_rest x) entry)
went_like way x entry =
    subst (λ s. AreLike x (went_back way x entry) (gone_at way (at_rest x) entry s)) (sym (shown_like x x.confirmed))
    (gone_like way x entry (shown x))

back_like_presence : (way : Direction) (x : Account) (entry : List Change) (size : ℕ) (big : Bool)
    → OptionsLike {F = UndoFault} x (cond big (Err (UndoTooLarge size)) (Ok (Some (went_back way x entry))))
    (cond big (Err (UndoTooLarge size)) (Ok (Some (went_back way (at_rest x) entry))))
back_like_presence way x entry size true = refl
back_like_presence way x entry size false = went_like way x entry

back_like_sized : (way : Direction) (x : Account) (entry : List Change) (size p : ℕ) (big : Bool)
    → OptionsLike {F = UndoFault} x (cond big (Err (UndoBatchTooLarge size)) (back_presence way x entry p))
    (cond big (Err (UndoBatchTooLarge size)) (back_presence way (at_rest x) entry p))
back_like_sized way x entry size p true = refl
back_like_sized way x entry size p false = back_like_presence way x entry p (nat_lt most_bytes p)

back_like_clocked : (way : Direction) (x : Account) (entry : List Change) (bs : List Body) (o : Option ℕ)
    → OptionsLike x (back_clocked way x entry bs o) (back_clocked way (at_rest x) entry bs o)
back_like_clocked way x entry bs (Some last) = refl
back_like_clocked way x entry bs None =
    let size = size_of (frame_of_ops (ops_from (actor x) (last_issued x + 1) bs)) in
    back_like_sized way x entry size (presence_size (entry_presence x.me entry))
    (is_some_list bs && nat_lt most_bytes size)

back_like_entry : (way : Direction) (x : Account) (o : Option (List Change))
    → OptionsLike x (back_entry way x o) (back_entry way (at_rest x) o)
back_like_entry way x None = tt
back_like_entry way x (Some entry) =
    back_like_clocked way x entry (entry_bodies entry) (spent (last_issued x + 1) (length (entry_bodies entry)))

pub back_like : (way : Direction) (x : Account) (o : Option OpenBatch)
    → OptionsLike x (back_at way x o) (back_at way (at_rest x) o)
back_like way x (Some o) = refl
back_like way x None = back_like_entry way x (entry_of way x.history)

-- the editor's account e becomes y, and the client's becomes what y is with the same connection

ends_more : (d : ℕ) (bs more : List Batch) → RunsOn d (bs ++ more) → ends d bs ≤ ends d (bs ++ more)
ends_more d [] more r = rises d more r
ends_more d (b ∷ bs) more r =
    ends_more (last_clock b) bs more (subst (λ k. RunsOn k (bs ++ more)) (sym (clock_on d b (bs ++ more) r)) r.more)

module _ (e : Account) (stage : Stage) (c : ℕ) (parts : List Part) (events : List Json) where
  abbrev pub client : Account → Account
  client y = client_of y stage c parts events

  pub rests : at_rest e ≡ e → at_rest (client e) ≡ e
  rests r =
      ap (λ bs. record e { stage = Idle; sent = []; fresh = bs; parts = []; events = [] }) (joined c (issued e)) ∙ r

  -- what is sent stays, and what was issued is fresh
  module _ (y : Account) (issues : List Batch) (i : issued y ≡ issued e ++ issues) (t : y.told ≡ e.told)
      (run : RunsOn y.told (issued y)) (le : c ≤ last_issued e) where
    on : RunsOn e.told (issued e ++ issues)
    on = subst (λ k. RunsOn k (issued e ++ issues)) t (subst (RunsOn y.told) i run)

    carry : on_line (client e) y issues ≡ client y
    carry =
        let sent = sym (ap (up_to c) i ∙ more_up c e.told (issued e) issues on le) in
        let fresh = sym (ap (behind c) i ∙ more_behind c e.told (issued e) issues on le) in
        λ j. record y { stage = stage; sent = sent j; fresh = fresh j; parts = parts; events = events }

    within : c ≤ last_issued y
    within =
        let same : last_issued y ≡ ends e.told (issued e ++ issues) = λ j. ends (t j) (i j) in
        omega (arith, same, le, ends_more e.told (issued e) issues on)

  module _ (y : Account) (ns : List Notice) (run : RunsOn y.told (issued y)) (st : Stands e stage c) where
    done_carried : (d k : Done) → AreLike (client e) d k → k.account ≡ y → k.notices ≡ ns
        → (d.account ≡ client y) × (d.notices ≡ ns) × Stands y stage c
    done_carried d k l a n =
        let i : issued y ≡ issued e ++ k.issues =
        ap issued (sym a) ∙ l.issued ∙ ap (λ bs. bs ++ k.issues) (joined c (issued e)) in
        let t : y.told ≡ e.told = ap (λ (z : Account). z.told) (sym a) ∙ l.told in
        let s : y.session ≡ e.session = ap (λ (z : Account). z.session) (sym a) ∙ l.session in
        let f : y.confirmed ≡ e.confirmed = ap (λ (z : Account). z.confirmed) (sym a) ∙ l.confirmed in (
          l.account ∙ ap (λ z. on_line (client e) z k.issues) a ∙ carry y k.issues i t run st.sent,
          l.notices ∙ n,
          record {
            sent = within y k.issues i t run st.sent;
            known = subst IsResumable (sym s) st.known;
            come = subst (λ o. HasCome stage o y.confirmed) (sym s) (subst (HasCome stage e.session) (sym f) st.come);
          },
        )

    -- a call's result on the client's account, where the editor's was this
    pub carried : {F : Type 0} (r s : Result Done F) → ResultsLike (client e) r s
        → done s ≡ Ok (record { account = y; notices = ns })
        → (done r ≡ Ok (record { account = client y; notices = ns })) × Stands y stage c
    carried (Ok d) (Ok k) l h =
        let same = ok_is h in
        let all = done_carried d k l (ap (λ (o : Outcome). o.account) same) (ap (λ (o : Outcome). o.notices) same) in
        ((λ i. Ok (record { account = all.0 i; notices = all.1 i })), all.2)
    carried (Err f) (Err g) l h = cc
    carried (Ok d) (Err g) l h = absurd l
    carried (Err f) (Ok k) l h = absurd l

  pub went_carried : {F : Type 0} (y : Account) (r s : Result (Option Done) F) (o : Option (List Notice))
      → RunsOn y.told (issued y) → Stands e stage c → OptionsLike (client e) r s → WentBack s e y o
      → WentBack r (client e) (client y) o × Stands y stage c
  went_carried y (Ok None) (Ok None) None run st l h =
      ((refl, ap client h.1), subst (λ z. Stands z stage c) (sym h.1) st)
  went_carried y (Ok (Some d)) (Ok (Some k)) (Some ns) run st l h =
      let same = some_is (ok_is h) in
      let all =
      done_carried y ns run st d k l (ap (λ (o : Outcome). o.account) same) (ap (λ (o : Outcome). o.notices) same) in
      ((λ i. Ok (Some (record { account = all.0 i; notices = all.1 i }))), all.2)
  went_carried y (Ok None) (Ok None) (Some ns) run st l h = cc
  went_carried y (Ok (Some d)) (Ok (Some k)) None run st l h = let e = h.0 in cc
  went_carried y (Err f) (Err g) None run st l h = let e = h.0 in cc
  went_carried y (Err f) (Err g) (Some ns) run st l h = cc
  went_carried y (Ok None) (Ok (Some k)) o run st l h = absurd l
  went_carried y (Ok (Some d)) (Ok None) o run st l h = absurd l
  went_carried y (Ok None) (Err g) o run st l h = absurd l
  went_carried y (Ok (Some d)) (Err g) o run st l h = absurd l
  went_carried y (Err f) (Ok k) o run st l h = absurd l

  -- calls that issue nothing

  pub begun : (y : Account) (o : Option OpenBatch) → Stands e stage c → begin_at e o ≡ Ok y
      → (begin_at (client e) o ≡ Ok (client y)) × Stands y stage c
  begun y None st h =
      let same = ok_is h in (
        ap (λ z. Ok (client z)) same,
        subst (λ z. Stands z stage c) same (record { sent = st.sent; known = st.known; come = st.come }),
      )
  begun y (Some o) st h = cc

  said_at : (y : Account) (patch : List (List ℕ × Value)) (back : List Change) (size : ℕ) (big : Bool)
      → Stands e stage c → ◌≡◌ {A = Result Account SayFault} (cond big (Err (TooLarge size)) (Ok
      (patched_me e patch back))) (Ok y)
      → ◌≡◌ {A = Result Account SayFault} (cond big (Err (TooLarge size)) (Ok (patched_me (client e) patch back)))
      (Ok (client y))
      × Stands y stage c
  said_at y patch back size true st h = cc
  said_at y patch back size false st h =
      let same = ok_is h in (
        ap (λ z. Ok (client z)) same,
        subst (λ z. Stands z stage c) same (record { sent = st.sent; known = st.known; come = st.come }),
      )

  said_deep : (y : Account) (patch : List (List ℕ × Value)) (in_history : Bool) (d size : ℕ) (deep : Bool)
      → Stands e stage c
      → cond deep (Err (ValueTooDeep d)) (presence_sized e patch in_history size) ≡ Ok y
      → (cond deep (Err (ValueTooDeep d)) (presence_sized (client e) patch in_history size)
      ≡ Ok (client y))
      × Stands y stage c
  said_deep y patch in_history d size true st h = cc
  said_deep y patch true d size false st h =
      said_at y patch (back_noted e patch true) size (nat_lt most_bytes size) st h
  said_deep y patch false d size false st h =
      said_at y patch (back_noted e patch false) size (nat_lt most_bytes size) st h

  pub said : (y : Account) (patch : List (List ℕ × Value)) (in_history : Bool) → Stands e stage c
      → presence e patch in_history ≡ Ok y → (presence (client e) patch in_history ≡ Ok (client y)) × Stands y stage c
  said y patch in_history st h =
      said_deep y patch in_history (fields_most patch) (presence_size (merged e.me patch)) (nat_lt 50
      (fields_most patch))
      st h

  unsaid_at : (patch : List (List ℕ × Value)) (back : List Change) (size : ℕ) (big : Bool) (f : SayFault)
      → cond big (Err (TooLarge size)) (Ok (patched_me e patch back)) ≡ Err f
      → cond big (Err (TooLarge size)) (Ok (patched_me (client e) patch back)) ≡ Err f
  unsaid_at patch back size true f h = h
  unsaid_at patch back size false f h = cc

  unsaid_deep : (patch : List (List ℕ × Value)) (in_history : Bool) (d size : ℕ) (deep : Bool) (f : SayFault)
      → cond deep (Err (ValueTooDeep d)) (presence_sized e patch in_history size) ≡ Err f
      → cond deep (Err (ValueTooDeep d)) (presence_sized (client e) patch in_history size) ≡ Err f
  unsaid_deep patch in_history d size true f h = h
  unsaid_deep patch true d size false f h =
      unsaid_at patch (back_noted e patch true) size (nat_lt most_bytes size) f h
  unsaid_deep patch false d size false f h =
      unsaid_at patch (back_noted e patch false) size (nat_lt most_bytes size) f h

  pub unsaid : (patch : List (List ℕ × Value)) (in_history : Bool) (f : SayFault) → presence e patch in_history ≡ Err f
      → presence (client e) patch in_history ≡ Err f
  unsaid patch in_history f h =
      unsaid_deep patch in_history (fields_most patch) (presence_size (merged e.me patch))
      (nat_lt 50 (fields_most patch)) f h

-- a call that is refused to the account at rest is refused so

pub refused_like : {F : Type 0} (x : Account) (r s : Result Done F) (f : F) → ResultsLike x r s → s ≡ Err f → r ≡ Err f
refused_like x (Ok d) (Ok k) f l h = cc
refused_like x (Err g) (Err k) f l h = ap Err l ∙ h
refused_like x (Ok d) (Err k) f l h = absurd l
refused_like x (Err g) (Ok k) f l h = absurd l

pub refused_both : {F : Type 0} (x : Account) (r s : Result (Option Done) F) (f : F) → OptionsLike x r s → s ≡ Err f
    → r ≡ Err f
refused_both x (Ok None) (Ok None) f l h = cc
refused_both x (Ok (Some d)) (Ok (Some k)) f l h = cc
refused_both x (Err g) (Err k) f l h = ap Err l ∙ h
refused_both x (Ok None) (Ok (Some k)) f l h = absurd l
refused_both x (Ok (Some d)) (Ok None) f l h = absurd l
refused_both x (Ok None) (Err k) f l h = absurd l
refused_both x (Ok (Some d)) (Err k) f l h = absurd l
refused_both x (Err g) (Ok k) f l h = absurd l

pub refused_begin : (x y : Account) (o : Option OpenBatch) (f : BatchFault) → begin_at y o ≡ Err f
    → begin_at x o ≡ Err f
refused_begin x y (Some o) f h = cc
refused_begin x y None f h = cc
