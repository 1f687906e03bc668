-- What is taken back: one more at the end, and one less.
use Rattle.std.proofs.Common.{map, ◌≡◌, ◌≤◌, ◌+◌, ◌-◌, ℕ, zero, suc, List, [], ◌∷◌, ◌++◌, ◌∙◌, length, take, refl, sym, ap, subst, arith}
use Rattle.std.specs.Prelude.{Option, Some, None, slice_get}
use Rattle.std.specs.FinMap.{len}
use Rattle.std.proofs.lemmas.List.{length-append}
use Rattle.std.proofs.Math.Seq.{take-append_seam}
use Rattle.room_nodes.specs.Shape.{Nodes}
use Rattle.room_nodes.specs.declared.nodes.Body.{Body}
use Rattle.room_apply.specs.Ways.{Way, CanGoBack, AreEdits, before, nodes_of}
use Rattle.room_log.specs.Log.{Session, State, Update, joined, updated, last_of, last_in, with_last, with_last_at}
use Rattle.room_bytes.specs.declared.entries.Session.{Session as Here}
use Rattle.room_snapshot.specs.Bounds.{kept, state_of}
use Rattle.room_store.specs.Stored.{held_state}
use Rattle.room_store.specs.Undoing.{gone, undone_by, undone, before_of, CanLeave, CanGo, CanUndoBy, CanUndo}
use Rattle.room_store.specs.declared.undo.Undo.{Undo}
use Rattle.room_store.specs.declared.undo.Undo.TheVariants.{Joined, Updated}

-- steps

pub gone_push : (t : Nodes) (es : List Way) (e : Way) → gone t (es ++ e ∷ []) ≡ gone (before t e) es
gone_push t [] e = refl
gone_push t (x ∷ es) e = ap (λ u. before u x) (gone_push t es e)

leave_more : (m n : ℕ) (t : Nodes) (e : Way) → CanLeave m t e → m ≤ n → CanLeave n t e
leave_more m n t e h le =
    record { undone = h.undone; can = h.can; place = let p = h.place in omega (arith, p, le) }

pub go_more : (m n : ℕ) (t : Nodes) (es : List Way) → CanGo m t es → m ≤ n → CanGo n t es
go_more m n t [] h le = tt
go_more m n t (e ∷ es) h le = (leave_more m n (gone t es) e h.0 le, go_more m n t es h.1 le)

go_push : (m : ℕ) (t : Nodes) (es : List Way) (e : Way) → CanGo m (before t e) es → CanLeave m t e → CanGo m t (es ++ e ∷ [])
go_push m t [] e h g = (g, tt)
go_push m t (x ∷ es) e h g =
    (subst (λ u. CanLeave m u x) (sym (gone_push t es e)) h.0, go_push m t es e h.1 g)

go_pop : (m : ℕ) (t : Nodes) (es : List Way) (e : Way) → CanGo m t (es ++ e ∷ []) → CanGo m (before t e) es × CanLeave m t e
go_pop m t [] e h = (tt, h.0)
go_pop m t (x ∷ es) e h =
    let p = go_pop m t es e h.1 in ((subst (λ u. CanLeave m u x) (gone_push t es e) h.0, p.0), p.1)

-- a step's edits, where there are spare places for them

leave_of : (t : Nodes) (b : Body) (u : Nodes) (e : Way) (d : ℕ) → AreEdits t b u e → nodes_of e ≤ d → CanLeave (len u + d) u e
leave_of t b u e d h le = record {
  undone = h.goes.undone;
  can = h.can;
  place = let p = h.removed in let n = h.nodes in omega (arith, p, n, le);
}

pub step_gone : (t : Nodes) (b : Body) (u : Nodes) (es all : List Way) (e : Way) → all ≡ es ++ e ∷ [] → AreEdits t b u e → gone u all ≡ gone t es
step_gone t b u es all e is h = ap (gone u) is ∙ gone_push u es e ∙ ap (λ v. gone v es) h.before

pub step_can : (t : Nodes) (a : ℕ) (b : Body) (u : Nodes) (d : ℕ) (es all : List Way) (e : Way) → all ≡ es ++ e ∷ [] → AreEdits t b u e → nodes_of e ≤ d → len t + a ≤ len u + d
    → CanGo (len t + a) t es → CanGo (len u + d) u all
step_can t a b u d es all e is h le sum can =
    subst (λ xs. CanGo (len u + d) u xs) (sym is)
    (go_push (len u + d) u es e
    (subst (λ v. CanGo (len u + d) v es) (sym h.before) (go_more (len t + a) (len u + d) t es can sum))
    (leave_of t b u e d h le))

-- a step goes back

pub can_back : (all es : List Way) (e : Way) (u : Nodes) (b : ℕ) → all ≡ es ++ e ∷ [] → CanGo (len u + b) u all → CanGoBack u b e
can_back all es e u b last h =
    let p = (go_pop (len u + b) u es e (subst (λ xs. CanGo (len u + b) u xs) last h)).1 in
    (p.undone, (p.can, (let q = p.place in omega (arith, q))))

pub back_can : (all es : List Way) (e : Way) (u v : Nodes) (b d : ℕ) → all ≡ es ++ e ∷ [] → v ≡ before u e → len v + d ≡ len u + b → CanGo (len u + b) u all → CanGo (len v + d) v es
back_can all es e u v b d last there sum h =
    subst (λ w. CanGo (len v + d) w es) (sym there)
    (go_more (len u + b) (len v + d) (before u e) es
    (go_pop (len u + b) u es e (subst (λ xs. CanGo (len u + b) u xs) last h)).0 (omega (arith, sum)))

pub back_gone : (all es : List Way) (e : Way) (u v w : Nodes) → all ≡ es ++ e ∷ [] → v ≡ before u e → gone u all ≡ w → gone v es ≡ w
back_gone all es e u v w last there is =
    ap (λ x. gone x es) there ∙ sym (gone_push u es e) ∙ sym (ap (gone u) last) ∙ is

-- entries

pub undone_push : (s : State) (us : List Undo) (u : Undo) → undone s (us ++ u ∷ []) ≡ undone (undone_by s u) us
undone_push s [] u = refl
undone_push s (x ∷ us) u = ap (λ t. undone_by t x) (undone_push s us u)

pub before_push : (s : State) (us : List Undo) (u : Undo) → before_of s (us ++ u ∷ []) ≡ Some (undone (undone_by s u) us)
before_push s [] u = refl
before_push s (x ∷ us) u = ap (λ t. Some t) (undone_push s (x ∷ us) u)

pub held_undone : (s : State) (us : List Undo) → held_state (before_of s us) s ≡ undone s us
held_undone s [] = refl
held_undone s (u ∷ us) = refl

by_more : (m n : ℕ) (s : State) (u : Undo) → CanUndoBy m s u → m ≤ n → CanUndoBy n s u
by_more m n s Joined h le = tt
by_more m n s (Updated count actor last steps) h le = go_more m n s.tree steps h le

pub undo_more : (m n : ℕ) (s : State) (us : List Undo) → CanUndo m s us → m ≤ n → CanUndo n s us
undo_more m n s [] h le = tt
undo_more m n s (u ∷ us) h le = (by_more m n (undone s us) u h.0 le, undo_more m n s us h.1 le)

pub undo_push : (m : ℕ) (s : State) (us : List Undo) (u : Undo) → CanUndo m (undone_by s u) us → CanUndoBy m s u → CanUndo m s (us ++ u ∷ [])
undo_push m s [] u h g = (g, tt)
undo_push m s (x ∷ us) u h g =
    (subst (λ t. CanUndoBy m t x) (sym (undone_push s us u)) h.0, undo_push m s us u h.1 g)

pub undo_pop : (m : ℕ) (s : State) (us : List Undo) (u : Undo) → CanUndo m s (us ++ u ∷ []) → CanUndo m (undone_by s u) us × CanUndoBy m s u
undo_pop m s [] u h = (tt, h.0)
undo_pop m s (x ∷ us) u h =
    let p = undo_pop m s us u h.1 in ((subst (λ t. CanUndoBy m t x) (undone_push s us u) h.0, p.0), p.1)

-- the entry before is back

but_last : (ss : List Session) (x : Session) → take (length (ss ++ x ∷ []) - 1) (ss ++ x ∷ []) ≡ ss
but_last ss x =
    let sum : length (ss ++ x ∷ []) ≡ length ss + 1 = length-append ss (x ∷ []) in
    let same : length (ss ++ x ∷ []) - 1 ≡ length ss = omega (arith, sum) in
    ap (λ n. take n (ss ++ x ∷ [])) same ∙ take-append_seam ss (x ∷ [])

pub unjoined : (s : State) (key : ℕ) (name : List ℕ) → undone_by (joined s key name) Joined ≡ s
unjoined s key name = ap (λ l. record s { sessions = l }) (but_last s.sessions (record { key = key; last = 0; name = name }))

set_more : (x : Session) (xs : List Session) (i c : ℕ) (o : Option Session) → with_last_at (x ∷ xs) (suc i) c o ≡ x ∷ with_last_at xs i c o
set_more x xs i c None = refl
set_more x xs i c (Some s) = refl

set_back : (ss : List Session) (i c : ℕ)
    → with_last_at (with_last_at ss i c (slice_get ss i)) i (last_in (slice_get ss i)) (slice_get (with_last_at ss i c (slice_get ss i)) i) ≡ ss
set_back [] i c = refl
set_back (x ∷ xs) zero c = refl
set_back (x ∷ xs) (suc i) c =
    let o = slice_get xs i in
    let ys = with_last_at xs i c o in
    ap (λ l. with_last_at l (suc i) (last_in o) (slice_get l (suc i))) (set_more x xs i c o)
    ∙ set_more x ys i (last_in o) (slice_get ys i) ∙ ap (λ l. x ∷ l) (set_back xs i c)

pub last_back : (ss : List Session) (a c : ℕ) → with_last (with_last ss a c) a (last_of ss a) ≡ ss
last_back ss zero c = refl
last_back ss (suc i) c = set_back ss i c

pub unupdated : (s : State) (u : Update) (steps : List Way) → gone (updated s u).tree steps ≡ s.tree
    → undone_by (updated s u) (Updated s.count u.actor (last_of s.sessions u.actor) steps) ≡ s
unupdated s u steps is =
    ap (λ l. record { count = s.count; sessions = l; tree = gone (updated s u).tree steps }) (last_back s.sessions u.actor _)
    ∙ ap (λ t. record { count = s.count; sessions = s.sessions; tree = t }) is

-- an entry is taken back

pub can_undo : (m : ℕ) (s : State) (all us : List Undo) (u : Undo) → all ≡ us ++ u ∷ [] → CanUndo m s all → CanUndoBy m s u
can_undo m s all us u last h = (undo_pop m s us u (subst (λ xs. CanUndo m s xs) last h)).1

pub undo_can : (m n : ℕ) (s t : State) (all us : List Undo) (u : Undo) → all ≡ us ++ u ∷ [] → t ≡ undone_by s u → n ≡ m → CanUndo m s all → CanUndo n t us
undo_can m n s t all us u last there same h =
    subst (λ v. CanUndo n v us) (sym there)
    (undo_more m n (undone_by s u) us (undo_pop m s us u (subst (λ xs. CanUndo m s xs) last h)).0 (omega (arith, same)))

pub undo_gone : (s t w : State) (all us : List Undo) (u : Undo) → all ≡ us ++ u ∷ [] → t ≡ undone_by s u → undone s all ≡ w → undone t us ≡ w
undo_gone s t w all us u last there is =
    ap (λ x. undone x us) there ∙ sym (undone_push s us u) ∙ sym (ap (undone s) last) ∙ is

-- an entry is added

kept_more : (ss : List Here) (x : Here) → map kept (ss ++ x ∷ []) ≡ map kept ss ++ kept x ∷ []
kept_more [] x = refl
kept_more (s ∷ ss) x = ap (λ l. kept s ∷ l) (kept_more ss x)

pub joined_as : (count : ℕ) (ss : List Here) (tree : Nodes) (key : ℕ) (name text : List ℕ) → text ≡ name
    → state_of count (ss ++ record { key = key; last = 0; name = text } ∷ []) tree ≡ joined (state_of count ss tree) key name
joined_as count ss tree key name text is =
    ap (λ l. record { count = count; sessions = l; tree = tree }) (kept_more ss (record { key = key; last = 0; name = text }))
    ∙ ap (λ x. joined (state_of count ss tree) key x) is

pub joined_can : (m : ℕ) (s t : State) (us all : List Undo) (key : ℕ) (name : List ℕ) → t ≡ joined s key name → all ≡ us ++ Joined ∷ [] → CanUndo m s us → CanUndo m t all
joined_can m s t us all key name at last can =
    subst (λ v. CanUndo m v all) (sym at) (subst (λ xs. CanUndo m (joined s key name) xs) (sym last)
    (undo_push m (joined s key name) us Joined (subst (λ v. CanUndo m v us) (sym (unjoined s key name)) can) tt))

pub joined_before : (s t : State) (us all : List Undo) (key : ℕ) (name : List ℕ) → t ≡ joined s key name → all ≡ us ++ Joined ∷ [] → before_of t all ≡ Some (undone s us)
joined_before s t us all key name at last =
    ap (λ v. before_of v all) at ∙ ap (before_of (joined s key name)) last ∙ before_push (joined s key name) us Joined
    ∙ ap (λ v. Some (undone v us)) (unjoined s key name)

updated_back : (s : State) (u : Update) (last : ℕ) (steps : List Way) → last ≡ last_of s.sessions u.actor → gone (updated s u).tree steps ≡ s.tree
    → undone_by (updated s u) (Updated s.count u.actor last steps) ≡ s
updated_back s u last steps at is = ap (λ n. undone_by (updated s u) (Updated s.count u.actor n steps)) at ∙ unupdated s u steps is

pub updated_can : (m n : ℕ) (s t : State) (us all : List Undo) (u : Update) (last : ℕ) (steps : List Way) → t ≡ updated s u → all ≡ us ++ Updated s.count u.actor last steps ∷ [] → last ≡ last_of s.sessions u.actor
    → gone (updated s u).tree steps ≡ s.tree → m ≤ n → CanGo n (updated s u).tree steps → CanUndo m s us → CanUndo n t all
updated_can m n s t us all u last steps at more is back le go can =
    subst (λ v. CanUndo n v all) (sym at) (subst (λ xs. CanUndo n (updated s u) xs) (sym more)
    (undo_push n (updated s u) us (Updated s.count u.actor last steps)
    (subst (λ v. CanUndo n v us) (sym (updated_back s u last steps is back)) (undo_more m n s us can le)) go))

pub updated_before : (s t : State) (us all : List Undo) (u : Update) (last : ℕ) (steps : List Way) → t ≡ updated s u → all ≡ us ++ Updated s.count u.actor last steps ∷ [] → last ≡ last_of s.sessions u.actor
    → gone (updated s u).tree steps ≡ s.tree → before_of t all ≡ Some (undone s us)
updated_before s t us all u last steps at more is back =
    ap (λ v. before_of v all) at ∙ ap (before_of (updated s u)) more ∙ before_push (updated s u) us (Updated s.count u.actor last steps)
    ∙ ap (λ v. Some (undone v us)) (updated_back s u last steps is back)

-- nothing is added

pub same_can : (m n : ℕ) (s t : State) (us vs : List Undo) → t ≡ s → vs ≡ us → m ≤ n → CanUndo m s us → CanUndo n t vs
same_can m n s t us vs at is le can =
    subst (λ v. CanUndo n v vs) (sym at) (subst (λ l. CanUndo n s l) (sym is) (undo_more m n s us can le))
