-- A batch that is taken back is taken back by its reversal where it was made.
use Rattle.std.proofs.Common.{◌≡◌, ℕ, true, List, [], ◌∷◌, ◌++◌, refl, sym, ap, ◌∙◌, subst, append-nil}
use Rattle.std.specs.Prelude.{Option, Some, None, Result, Ok, Err}
use Rattle.room_nodes.specs.declared.nodes.Body.{Body}
use Rattle.room_nodes.specs.declared.nodes.Change.{Change}
use Rattle.room_nodes.specs.Reversal.{reverse_all}
use Rattle.room_nodes.specs.Shape.{Nodes}
use Rattle.room_log.specs.Log.{bodies_of}
use Rattle.room_model.specs.Account.{Account, Batch, OpenBatch, bodies_in, shown}
use Rattle.room_model.specs.Calls as calls
use Rattle.room_model.specs.Edits.{Edit, EditFault}
use Rattle.room_model.specs.History
use Rattle.room_model.specs.History.{History}
use Rattle.room_model.specs.Lines as lines
use Rattle.room_model.specs.Lines.{Line}
use Rattle.room_model.specs.World
use Rattle.room_model.specs.World.{World, Slot, slot, account}
use Rattle.room_model.specs.Run.{Run, run}
use Rattle.room_laws.specs.Back.{in_bag}
use Rattle.room_laws.specs.Events.{Event, Called, Arrived, Ended, happened, happen, events}
use Rattle.room_laws.specs.Open.{IsOpenOn, GoesBack, Notes, brings_none}
use Rattle.room_laws.specs.Undo as undo
use Rattle.room_laws.specs.Undo.{Maker, Ends, Edits, Turns, Course, AreQuiet, IsQuiet, Begins, EachReversed, EndsNone, call_of, call_of_direction, taking_back}
use Rattle.room_laws.proofs.Alone.{back_as, reversal_is}
use Rattle.room_laws.proofs.Bare.{Bare, always_bare}
use Rattle.room_laws.proofs.Calls.{slot_same}
use Rattle.room_laws.proofs.Facts.{some_is}
use Rattle.room_laws.proofs.Happens.{Keeps, keeps_event}
use Rattle.room_laws.proofs.Open.{base_at, edit_as, keeps_open}
use Rattle.room_laws.proofs.Slots.{follows_events}

-- an open batch stays on its tree

begins_none : (t : Nodes) (x y : Account) (o : Option OpenBatch) → GoesBack t o → calls.begin_at x o ≡ Ok y → IsOpenOn t y
begins_none t x y None g p = absurd g
begins_none t x y (Some o) g p = cc

backs_none : (t : Nodes) (direction : calls.Direction) (x : Account) (out : calls.Done) (o : Option OpenBatch) → GoesBack t o → calls.back_at direction x o ≡ Ok (Some out) → IsOpenOn t out.account
backs_none t direction x out None g p = absurd g
backs_none t direction x out (Some o) g p = cc

open_keeps : (t : Nodes) → Keeps (IsOpenOn t) EndsNone (λ m. brings_none m ≡ true)
open_keeps t = record {
  edit = λ x e out a h p. keeps_open.edit t x e out h p;
  begin = λ x y a h p. begins_none t x y x.batch h.back p;
  end = λ x out a h p. absurd a;
  undo = λ x out a h p. backs_none t calls.Undo x out x.batch h.back p;
  redo = λ x out a h p. backs_none t calls.Redo x out x.batch h.back p;
  paused = keeps_open.pause t;
  resumed = keeps_open.resume t;
  cleared = λ x a h. keeps_open.clear t x h;
  presence = λ x y patch in_history a h p. keeps_open.presence t x y patch in_history h p;
  event = λ x y e a h p. keeps_open.event t x y e h p;
  flushed = keeps_open.flushed t;
  resent = keeps_open.resent t;
  lost = keeps_open.lost t;
  dialled = keeps_open.dialled t;
  receive = λ x m out a h p. keeps_open.receive t x m out a h p;
}

open_event : (t : Nodes) (x : Account) (e : Event) → IsQuiet e → IsOpenOn t x → IsOpenOn t (happened x e)
open_event t x (Called call) q h = keeps_event (IsOpenOn t) EndsNone (λ m. brings_none m ≡ true) (open_keeps t) x (Called call) q h
open_event t x (Arrived m) q h = keeps_event (IsOpenOn t) EndsNone (λ m. brings_none m ≡ true) (open_keeps t) x (Arrived m) q h
open_event t x Ended q h = keeps_open.lost t x h

open_after : (t : Nodes) (x : Account) (es : List Event) → AreQuiet es → IsOpenOn t x → IsOpenOn t (happen x es)
open_after t x [] q h = h
open_after t x (e ∷ es) q h = open_after t (happened x e) es q.1 (open_event t x e q.0 h)

-- without operations it stands on what is shown
starts : (t : Nodes) (x : Account) (o : OpenBatch) → x.batch ≡ Some o → o.bodies ≡ [] → Bare x.batch → shown x ≡ Some t → IsOpenOn t x
starts t x o e b bare shows = record {
  stands = base_at x x.confirmed t (ap bodies_in e ∙ b) shows;
  back = subst (GoesBack t) (sym e) (subst Bare e bare b ∙ ap (reverse_all t) (sym b));
}

-- the entry that was noted

noted_entry : (cs : List Change) (u r : List (List Change)) (b : Option (List Change)) (g : History) (entry : List Change) → g ≡ History.note cs (record { undo = u; redo = r; bag = b })
    → in_bag b ≡ [] → (g ≡ record { undo = u; redo = r; bag = b } → ⊥) → History.undo_entry g ≡ Some entry → calls.entry_bodies entry ≡ calls.entry_bodies cs
noted_entry [] u r b g entry e f n p = absurd (n e)
noted_entry (c ∷ cs) u r None g entry e f n p = ap calls.entry_bodies (sym (some_is (c ∷ cs) entry (ap History.undo_entry (sym e) ∙ p)))
noted_entry (c ∷ cs) u r (Some []) g entry e f n p = ap calls.entry_bodies (sym (some_is ((c ∷ cs) ++ []) entry (ap History.undo_entry (sym e) ∙ p)) ∙ append-nil (c ∷ cs))
noted_entry (c ∷ cs) u r (Some (d ∷ ds)) g entry e f n p = cc

-- and the one that a redo leaves
redone_entry : (rev : List Change) (u r : List (List Change)) (b : Option (List Change)) → History.undo_entry (History.redone rev (record { undo = u; redo = r; bag = b })) ≡ Some rev
redone_entry rev u r None = refl
redone_entry rev u r (Some []) = refl
redone_entry rev u r (Some (c ∷ cs)) = refl

-- what a call gave

head_is : {A : Type 0} (x y : A) → x ∷ [] ≡ y ∷ [] → x ≡ y
head_is x y e = cc

one_issued : (c : ℕ) (bs : List Batch) (b : Batch) → World.issued_by c bs ≡ (c, b) ∷ [] → bs ≡ b ∷ []
one_issued c [] b e = cc
one_issued c (x ∷ []) b e = ap (λ (z : ℕ × Batch). z.1 ∷ []) (head_is (c, x) (c, b) e)
one_issued c (x ∷ y ∷ ys) b e = cc

-- the call is done as `out`, which issues the batch, and the account is then y
record Gave (b : Batch) (y : Account) (out : calls.Done) : Type 0 where
  issues : out.issues ≡ b ∷ []
  after : y ≡ out.account

gave : (w : World) (c : ℕ) (ns : List _) (b : Batch) (out : calls.Done) → World.issued_by c out.issues ≡ (c, b) ∷ [] → Gave b (account (World.with_slot w c (record { account = out.account; present = (slot w c).present; noticed = ns })) c) out
gave w c ns b out i = record { issues = one_issued c out.issues b i; after = ap (λ (z : Slot). z.account) (slot_same w c (record { account = out.account; present = (slot w c).present; noticed = ns })) }

ends_gave : (w : World) (n c : ℕ) (b : Batch) (r : Result calls.Done calls.BatchFault) → (World.end_out w n c (slot w c) r).issues ≡ (c, b) ∷ []
    → (out : calls.Done) × (r ≡ Ok out) × Gave b (account (World.end_out w n c (slot w c) r).world c) out
ends_gave w n c b (Err fault) i = cc
ends_gave w n c b (Ok out) i = (out, refl, gave w c (slot w c).noticed b out i)

edits_gave : (w : World) (n c : ℕ) (b : Batch) (r : Result calls.Done EditFault) → (World.edit_out w n c (slot w c) r).issues ≡ (c, b) ∷ []
    → (out : calls.Done) × (r ≡ Ok out) × Gave b (account (World.edit_out w n c (slot w c) r).world c) out
edits_gave w n c b (Err fault) i = cc
edits_gave w n c b (Ok out) i = (out, refl, gave w c out.notices b out i)

backs_gave : (w : World) (n c : ℕ) (b : Batch) (r : Result (Option calls.Done) calls.UndoFault) → (World.back_out w n c (slot w c) r).issues ≡ (c, b) ∷ []
    → (out : calls.Done) × (r ≡ Ok (Some out)) × Gave b (account (World.back_out w n c (slot w c) r).world c) out
backs_gave w n c b (Err fault) i = cc
backs_gave w n c b (Ok None) i = cc
backs_gave w n c b (Ok (Some out)) i = (out, refl, gave w c out.notices b out i)

-- an entry that is taken back

undoes_at : (w : World) (n c : ℕ) (b : Batch) (direction : calls.Direction) (entry : List Change) → calls.entry_of direction (account w c).history ≡ Some entry → (World.step w n (lines.OfClient c (call_of_direction direction))).issues ≡ (c, b) ∷ []
    → b.bodies ≡ calls.entry_bodies entry
undoes_at w n c b calls.Undo entry f i = let g = backs_gave w n c b (calls.go_back calls.Undo (account w c)) i in keeps_open.go_back calls.Undo (account w c) entry b g.0 f g.1 g.2.issues
undoes_at w n c b calls.Redo entry f i = let g = backs_gave w n c b (calls.go_back calls.Redo (account w c)) i in keeps_open.go_back calls.Redo (account w c) entry b g.0 f g.1 g.2.issues

-- the entry of a batch is its reversal, by what made it

abbrev IsBack : Nodes → Batch → List Change → Type 0
IsBack t b entry = calls.entry_bodies entry ≡ reverse_all t b.bodies

of_notes : (t : Nodes) (x y : Account) (b : Batch) (out : calls.Done) (entry : List Change) → Notes t x b out → y ≡ out.account → (in_bag x.history.bag ≡ []) × (y.history ≡ x.history → ⊥) → History.undo_entry y.history ≡ Some entry → IsBack t b entry
of_notes t x y b out entry h e one p =
    noted_entry h.changes x.history.undo x.history.redo x.history.bag y.history entry (ap (λ (z : Account). z.history) e ∙ h.noted) one.0 one.1 p ∙ h.back

not_open : (x : Account) (bs : List Body) (b : Batch) (o : Option OpenBatch) → calls.edit_issues x bs o ≡ b ∷ [] → o ≡ None
not_open x bs b None e = refl
not_open x bs b (Some o) e = cc

edit_alone : (x : Account) (e : Edit) (b : Batch) (out : calls.Done) → calls.edit x e ≡ Ok out → out.issues ≡ b ∷ [] → x.batch ≡ None
edit_alone x e b out p i = let a = edit_as x e (shown x) out p in not_open x (bodies_of a.made.ops) b x.batch (ap (λ (d : calls.Done). d.issues) a.is ∙ i)

gone_back : (t : Nodes) (x y : Account) (b : Batch) (out : calls.Done) (entry : List Change) → shown x ≡ Some t → calls.go_back calls.Undo x ≡ Ok (Some out) → out.issues ≡ b ∷ [] → y ≡ out.account
    → History.redo_entry y.history ≡ Some entry → IsBack t b entry
gone_back t x y b out entry shows p i e q =
    let a = back_as calls.Undo x x.batch out refl p in
    let rev = calls.entry_reversal (calls.tree_or_bare (shown x)) x.me a.entry in
    let after : History.redo_entry (History.undone rev x.history) ≡ Some entry = ap (λ (d : calls.Done). History.redo_entry d.account.history) a.is ∙ ap (λ (z : Account). History.redo_entry z.history) (sym e) ∙ q in
    ap calls.entry_bodies (sym (some_is rev entry after)) ∙ reversal_is (calls.tree_or_bare (shown x)) x.me a.entry
    ∙ ap (λ o. reverse_all (calls.tree_or_bare o) (calls.entry_bodies a.entry)) shows ∙ ap (reverse_all t) (sym (keeps_open.go_back calls.Undo x a.entry b out a.is_entry p i))

gone_forth : (t : Nodes) (x y : Account) (b : Batch) (out : calls.Done) (entry : List Change) → shown x ≡ Some t → calls.go_back calls.Redo x ≡ Ok (Some out) → out.issues ≡ b ∷ [] → y ≡ out.account
    → History.undo_entry y.history ≡ Some entry → IsBack t b entry
gone_forth t x y b out entry shows p i e q =
    let a = back_as calls.Redo x x.batch out refl p in
    let rev = calls.entry_reversal (calls.tree_or_bare (shown x)) x.me a.entry in
    let after : History.undo_entry (History.redone rev x.history) ≡ Some entry = ap (λ (d : calls.Done). History.undo_entry d.account.history) a.is ∙ ap (λ (z : Account). History.undo_entry z.history) (sym e) ∙ q in
    ap calls.entry_bodies (sym (some_is rev entry (sym (redone_entry rev x.history.undo x.history.redo x.history.bag) ∙ after))) ∙ reversal_is (calls.tree_or_bare (shown x)) x.me a.entry
    ∙ ap (λ o. reverse_all (calls.tree_or_bare o) (calls.entry_bodies a.entry)) shows ∙ ap (reverse_all t) (sym (keeps_open.go_back calls.Redo x a.entry b out a.is_entry p i))

module _ (c n : ℕ) (t : Nodes) (b : Batch) (entry : List Change) (r : Run) (bare : Bare (account r.world c).batch) (shows : shown (account r.world c) ≡ Some t) where
  abbrev Entry : Maker → List (ℕ × Line) → Type 0
  Entry m within =
      let w = (run r within).world in
      let out = World.step w n (lines.OfClient c (call_of m)) in
      out.issues ≡ (c, b) ∷ [] → undo.IsOfOne m (account w c).history (account out.world c).history → calls.entry_of (taking_back m) (account out.world c).history ≡ Some entry → IsBack t b entry

  at_once : (m : Maker) (within : List (ℕ × Line)) → within ≡ [] → Entry m [] → Entry m within
  at_once m within e f = subst (Entry m) (sym e) f

  by_edit : (e : Edit) → Entry (Edits e) []
  by_edit e i one p =
      let w = r.world in
      let x = account w c in
      let g = edits_gave w n c b (calls.edit x e) i in
      of_notes t x (account (World.step w n (lines.OfClient c (lines.Edits e))).world c) b g.0 entry (keeps_open.alone t x e b g.0 (edit_alone x e b g.0 g.1 g.2.issues) shows g.1 g.2.issues) g.2.after one p

  by_direction : (direction : calls.Direction) → Entry (Turns direction) []
  by_direction calls.Undo i one p = let g = backs_gave r.world n c b (calls.go_back calls.Undo (account r.world c)) i in gone_back t (account r.world c) _ b g.0 entry shows g.1 g.2.issues g.2.after p
  by_direction calls.Redo i one p = let g = backs_gave r.world n c b (calls.go_back calls.Redo (account r.world c)) i in gone_forth t (account r.world c) _ b g.0 entry shows g.1 g.2.issues g.2.after p

  by_end : (within : List (ℕ × Line)) → Begins Ends r c within → Entry Ends within
  by_end within h i one p =
      let w = (run r within).world in
      let x = account w c in
      let stands : IsOpenOn t x = subst (IsOpenOn t) (sym (follows_events r c within)) (open_after t (account r.world c) (events r.world c within) h.quiet (starts t (account r.world c) h.batch h.stands h.bare bare shows)) in
      let g = ends_gave w n c b (calls.batch_end x) i in
      of_notes t x (account (World.step w n (lines.OfClient c lines.End)).world c) b g.0 entry (keeps_open.batch_end t x b g.0 stands g.1 g.2.issues) g.2.after one p

  by_maker : (m : Maker) (within : List (ℕ × Line)) → Begins m r c within → Entry m within
  by_maker Ends within h = by_end within h
  by_maker (Edits e) within h = at_once (Edits e) within h (by_edit e)
  by_maker (Turns direction) within h = at_once (Turns direction) within h (by_direction direction)

pub each_reversed : EachReversed
each_reversed s q c t made back g =
    undoes_at (undo.until s q c).world q.back c back (taking_back q.maker) g.entry g.next g.undoes
    ∙ by_maker c q.last t made g.entry (undo.before s q) (always_bare s q.before c) g.shows q.maker q.within g.begins g.issues g.one g.noted
