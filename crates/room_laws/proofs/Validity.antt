-- Batches, changes and trees that are valid, put together; and an account after a call.
use Rattle.std.proofs.Common.{◌≡◌, ◌≢◌, ◌≤◌, ◌+◌, ◌-◌, ℕ, zero, suc, Bool, true, false, cond, List, [], ◌∷◌, ◌++◌, map, length, drop, Option, Some, None, is_some, refl, sym, ap, ◌∙◌, subst, arith, append_assoc, append-nil, nat_lt}
use Rattle.std.specs.FinMap.{get, get-from_sorted}
use Rattle.std.proofs.lemmas.Str.{IsUtf8-nil}
use Rattle.std.specs.List.Sorted.{IsStrictlySortedBy}
use Rattle.room_json.specs.Value.{Value, merged}
use Rattle.room_ids.specs.Laws.{IsNodeInRange}
use Rattle.room_ids.specs.declared.ids.NodeId.{NodeId}
use Rattle.room_ids.specs.declared.ids.NodeId.TheVariants.{Root}
use Rattle.room_ids.specs.Order.{node_cmp, is_same}
use Rattle.room_nodes.specs.declared.nodes.Node.{Node}
use Rattle.room_nodes.specs.declared.nodes.Body.{Body}
use Rattle.room_nodes.specs.declared.nodes.Change.{Change}
use Rattle.room_nodes.specs.declared.nodes.Change.TheVariants.{Op as OpChange, Presence as PresenceChange}
use Rattle.room_nodes.specs.Reversal.{reverse}
use Rattle.room_nodes.specs.Shallow.{is_shallow_kind}
use Rattle.room_nodes.specs.Shape.{Nodes, empty_tree, bare_root}
use Rattle.room_nodes.specs.Sound.{IsSoundNode}
use Rattle.room_nodes.specs.Steps.{step, fold}
use Rattle.room_nodes.proofs.EmptyTree.{formed-empty}
use Rattle.room_nodes.proofs.Gets.{same}
use Rattle.room_nodes.proofs.Steps.{formed-fold}
use Rattle.room_steps.proofs.Shallow.{keeps_shallow}
use Rattle.room_steps.proofs.Sound.{keeps_sound}
use Rattle.room_log.specs.Follows.{most}
use Rattle.room_model.specs.History.{History}
use Rattle.room_model.specs.Presence.{back_of}
use Rattle.room_model.specs.Account.{Account, Batch, OpenBatch, Stage, Synced, issued, ends, last_clock, last_issued, rest_of, beyond, all_bodies, bodies_in, pending_bodies, shown, shown_over, most_bytes}
use Rattle.room_model.specs.Calls.{op_change, entry_bodies, entry_presence, entry_reversal, tree_or_bare, issues_of, batch_of, presence_size}
use Rattle.room_model.specs.Sound.{IsValidTree, AreValidBodies, IsValidPatch, AreValidChanges, HoldsOnly, RunsOn, AreValidBatches, AreOwn, ArePatches, MadeNothing, HasTree, IsSound}
use Rattle.room_laws.proofs.Batches.{ends-append, ends_beyond, runs_beyond}
use Rattle.room_laws.proofs.Open.{entry-append}
use Rattle.room_laws.proofs.Patches.{valid_merged, valid_back}
use Rattle.room_laws.proofs.Reversals.{EachValid, each_of, of_each, valid_append, valid_reverse, valid_step}
use Rattle.room_laws.proofs.Facts.{some_is, none_some}

-- batches

pub no_bodies : AreValidBodies []
no_bodies = record { sound = tt; shallow = tt }

drop_valid : (n : ℕ) (bs : List Body) → EachValid bs → EachValid (drop n bs)
drop_valid zero bs h = h
drop_valid (suc n) [] h = tt
drop_valid (suc n) (b ∷ bs) h = drop_valid n bs h.1

beyond_by : (b : Bool) (c : ℕ) (d : Batch) (bs : List Batch) → AreValidBodies d.bodies → AreValidBatches bs → AreValidBatches (cond b (rest_of c d ∷ bs) bs)
beyond_by true c d bs h k = (of_each (rest_of c d).bodies (drop_valid (c + 1 - d.first) d.bodies (each_of d.bodies h)), k)
beyond_by false c d bs h k = k

pub beyond_valid : (c : ℕ) (bs : List Batch) → AreValidBatches bs → AreValidBatches (beyond c bs)
beyond_valid c [] h = tt
beyond_valid c (b ∷ bs) h = beyond_by (nat_lt c (last_clock b)) c b (beyond c bs) h.0 (beyond_valid c bs h.1)

pub batches_append : (bs cs : List Batch) → AreValidBatches bs → AreValidBatches cs → AreValidBatches (bs ++ cs)
batches_append [] cs h k = k
batches_append (b ∷ bs) cs h k = (h.0, batches_append bs cs h.1 k)

all_valid : (bs : List Batch) → AreValidBatches bs → AreValidBodies (all_bodies bs)
all_valid [] h = no_bodies
all_valid (b ∷ bs) h = valid_append b.bodies (all_bodies bs) h.0 (all_valid bs h.1)

-- changes

pub changes_append : (xs ys : List Change) → AreValidChanges xs → AreValidChanges ys → AreValidChanges (xs ++ ys)
changes_append [] ys h k = k
changes_append (x ∷ xs) ys h k = (h.0, changes_append xs ys h.1 k)

ops_by : (bs : List Body) → EachValid bs → AreValidChanges (map op_change bs)
ops_by [] h = tt
ops_by (b ∷ bs) h = (h.0, ops_by bs h.1)

pub ops_valid : (bs : List Body) → AreValidBodies bs → AreValidChanges (map op_change bs)
ops_valid bs h = ops_by bs (each_of bs h)

each_entry : (cs : List Change) → AreValidChanges cs → EachValid (entry_bodies cs)
each_entry [] h = tt
each_entry (OpChange b ∷ cs) h = (h.0, each_entry cs h.1)
each_entry (PresenceChange p ∷ cs) h = each_entry cs h.1

pub entry_valid : (cs : List Change) → AreValidChanges cs → AreValidBodies (entry_bodies cs)
entry_valid cs h = of_each (entry_bodies cs) (each_entry cs h)

pub presence_valid : (me : List (List ℕ × Value)) (cs : List Change) → IsValidPatch me → AreValidChanges cs → IsValidPatch (entry_presence me cs)
presence_valid me [] m h = m
presence_valid me (OpChange b ∷ cs) m h = presence_valid me cs m h.1
presence_valid me (PresenceChange p ∷ cs) m h = presence_valid (merged me p) cs (valid_merged me p m h.0) h.1

pub patches_append : (xs ys : List Change) → ArePatches xs → ArePatches ys → ArePatches (xs ++ ys)
patches_append xs ys h k = entry-append xs ys ∙ ap (λ (bs : List Body). bs ++ entry_bodies ys) h ∙ k

pub patches_back : (t : Nodes) (me : List (List ℕ × Value)) (cs : List Change) → ArePatches cs → ArePatches (entry_reversal t me cs)
patches_back t me [] h = refl
patches_back t me (OpChange b ∷ cs) h = cc
patches_back t me (PresenceChange p ∷ cs) h = patches_append (entry_reversal t (merged me p) cs) (PresenceChange (back_of me p) ∷ []) (patches_back t (merged me p) cs h) refl

-- trees

bare_at : (b : Bool) (x : NodeId) (n : Node) → is_same x Root ≡ b → cond b (Some bare_root) None ≡ Some n → (x ≡ Root) × (bare_root ≡ n)
bare_at true x n e h = (same x Root e, some_is bare_root n h)
bare_at false x n e h = absurd (none_some n h)

bare_there : (x : NodeId) (n : Node) → get empty_tree x ≡ Some n → (x ≡ Root) × (bare_root ≡ n)
bare_there x n e = bare_at (is_same x Root) x n refl (sym (get-from_sorted node_cmp ((Root, bare_root) ∷ []) x tt) ∙ e)

sound_bare : IsSoundNode bare_root
unfolding IsStrictlySortedBy
sound_bare = record { parent = tt; key = IsUtf8-nil; kind = record { ordered = tt; json = tt } }

pub valid_empty : IsValidTree empty_tree
valid_empty = record {
  formed = formed-empty;
  sound = λ x n e. let h = bare_there x n e in (subst (λ (y : NodeId). IsNodeInRange y) (sym h.0) tt, subst IsSoundNode h.1 sound_bare);
  shallow = λ x n e. let h = bare_there x n e in ap (λ (m : Node). is_shallow_kind m.kind) (sym h.1);
}

pub valid_fold : (t : Nodes) (bs : List Body) → IsValidTree t → AreValidBodies bs → IsValidTree (fold t bs)
valid_fold t bs h k = record {
  formed = formed-fold t h.formed bs;
  sound = keeps_sound.fold t bs h.formed h.sound k.sound;
  shallow = keeps_shallow.fold t bs h.shallow k.shallow;
}

pub pending_valid : (x : Account) → IsSound x → AreValidBodies (pending_bodies x)
pending_valid x h = valid_append (all_bodies (issued x)) (bodies_in x.batch) (all_valid (issued x) h.own.closed) h.own.bodies

shown_by : (x : Account) (o : Option Nodes) (t : Nodes) → IsSound x → HasTree x.stage (issued x) x.batch x.history o → shown_over x o ≡ Some t → IsValidTree t
shown_by x None t h k e = absurd (none_some t e)
shown_by x (Some u) t h k e = subst IsValidTree (some_is (fold u (pending_bodies x)) t e) (valid_fold u (pending_bodies x) k (pending_valid x h))

-- what it shows
pub shown_valid : (x : Account) (t : Nodes) → IsSound x → shown x ≡ Some t → IsValidTree t
shown_valid x t h e = shown_by x x.confirmed t h h.tree e

or_bare : (x : Account) (o : Option Nodes) → shown x ≡ o → IsSound x → IsValidTree (tree_or_bare o)
or_bare x None e h = valid_empty
or_bare x (Some t) e h = shown_valid x t h e

pub bare_valid : (x : Account) → IsSound x → IsValidTree (tree_or_bare (shown x))
bare_valid x h = or_bare x (shown x) refl h

pub reversal_valid : (t : Nodes) (me : List (List ℕ × Value)) (cs : List Change) → IsValidTree t → IsValidPatch me → AreValidChanges cs → AreValidChanges (entry_reversal t me cs)
reversal_valid t me [] v m h = tt
reversal_valid t me (OpChange b ∷ cs) v m h =
    changes_append (entry_reversal (step t b) me cs) (map op_change (reverse t b)) (reversal_valid (step t b) me cs (valid_step t b v h.0) m h.1) (ops_by (reverse t b) (valid_reverse t v b h.0.0))
reversal_valid t me (PresenceChange p ∷ cs) v m h =
    changes_append (entry_reversal t (merged me p) cs) (PresenceChange (back_of me p) ∷ []) (reversal_valid t (merged me p) cs v (valid_merged me p m h.0) h.1) (valid_back me p m h.0.sound, tt)

-- the own operations

issued_next : (x : Account) (b : Body) (bs : List Body) → ends x.told (x.sent ++ (x.fresh ++ issues_of x (b ∷ bs))) ≡ last_issued x + length (b ∷ bs)
issued_next x b bs =
    ap (ends x.told) (sym (append_assoc x.sent x.fresh (issues_of x (b ∷ bs)))) ∙ ends-append x.told (issued x) (issues_of x (b ∷ bs)) ∙ let e : last_clock (batch_of x (b ∷ bs)) ≡ last_issued x + length (b ∷ bs) = omega arith in e

-- a batch of these bodies is issued, and none is open
pub own_issued : (x : Account) (bs : List Body) → RunsOn x.told (x.sent ++ (x.fresh ++ issues_of x bs)) → AreValidBatches (issued x) → AreValidBodies bs → last_issued x + 1 + length bs ≤ most + 1
    → AreOwn x.told (x.sent ++ (x.fresh ++ issues_of x bs)) None
own_issued x [] runs h k l = record {
  runs = runs;
  closed = subst (λ (ds : List Batch). AreValidBatches (x.sent ++ ds)) (sym (append-nil x.fresh)) h;
  bodies = no_bodies;
  changes = tt;
  next = subst (λ (ds : List Batch). ends x.told (x.sent ++ ds) + 1 + 0 ≤ most + 1) (sym (append-nil x.fresh)) l;
}
own_issued x (b ∷ bs) runs h k l = record {
  runs = runs;
  closed = subst AreValidBatches (append_assoc x.sent x.fresh (issues_of x (b ∷ bs))) (batches_append (issued x) (issues_of x (b ∷ bs)) h (k, tt));
  bodies = no_bodies;
  changes = tt;
  next = omega (arith, issued_next x b bs, l);
}

-- those beyond a clock that was issued
pub own_beyond : (told c : ℕ) (bs : List Batch) (o : Option OpenBatch) → told ≤ c → c ≤ ends told bs → AreOwn told bs o → AreOwn c (beyond c bs) o
own_beyond told c bs o l m h = record {
  runs = runs_beyond told c bs h.runs l;
  closed = beyond_valid c bs h.closed;
  bodies = h.bodies;
  changes = h.changes;
  next = omega (arith, ends_beyond told c bs h.runs l m, h.next);
}

-- before a state nothing was issued, and nothing is
pub nothing_issued : (x : Account) (bs : List Body) → issued x ≡ [] → bs ≡ [] → x.sent ++ (x.fresh ++ issues_of x bs) ≡ []
nothing_issued x bs h e = ap (λ (ds : List Body). x.sent ++ (x.fresh ++ issues_of x ds)) e ∙ ap (λ (ds : List Batch). x.sent ++ ds) (append-nil x.fresh) ∙ h

-- whether or not there is a tree
pub remade : (stage : Stage) (bs cs : List Batch) (o p : Option OpenBatch) (h k : History) (t : Option Nodes) → (MadeNothing bs o h → MadeNothing cs p k) → HasTree stage bs o h t → HasTree stage cs p k t
remade stage bs cs o p h k None f g = (g.0, f g.1)
remade stage bs cs o p h k (Some t) f g = g

pub restaged : (before after : Stage) (bs : List Batch) (o : Option OpenBatch) (h : History) (t : Option Nodes) → after ≢ Synced → HasTree before bs o h t → HasTree after bs o h t
restaged before after bs o h None e g = (e, g.1)
restaged before after bs o h (Some t) e g = g

pub still_shown : (stage : Stage) (bs cs : List Batch) (o p : Option OpenBatch) (h k : History) (t : Option Nodes) → is_some t ≡ true → HasTree stage bs o h t → HasTree stage cs p k t
still_shown stage bs cs o p h k None e g = cc
still_shown stage bs cs o p h k (Some t) e g = g

-- an account after a call of its user
pub called : (x : Account) (fresh : List Batch) (batch : Option OpenBatch) (node : ℕ) (me : List (List ℕ × Value)) (unsent : List (List ℕ)) (history : History) → IsSound x
    → HasTree x.stage (x.sent ++ fresh) batch history x.confirmed → node ≤ most + 1 → AreOwn x.told (x.sent ++ fresh) batch → HoldsOnly AreValidChanges history → IsValidPatch me → presence_size me ≤ most_bytes
    → IsSound (record x { fresh = fresh; batch = batch; node = node; me = me; unsent = unsent; history = history })
called x fresh batch node me unsent history h tree n own past mine fits = record {
  room = h.room;
  session = h.session;
  tree = tree;
  number = h.number;
  node = n;
  own = own;
  history = past;
  presence = record { own = mine; fits = fits; known = h.presence.known };
  events = h.events;
  parts = h.parts;
}
