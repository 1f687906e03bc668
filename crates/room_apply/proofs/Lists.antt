-- Lists of changes, one behind the other, and what they need and leave.
use Rattle.std.proofs.Common.{◌≡◌, ◌≤◌, ◌+◌, ◌-◌, ℕ, suc, true, cond, List, [], ◌∷◌, ◌++◌, length, Option}
use Rattle.std.proofs.Common.{Some, None}
use Rattle.std.proofs.Common.{is_some, refl, sym, ap, ◌∙◌, subst, arith, append_assoc}
use Rattle.std.specs.FinMap.{get, insert, remove, len, len-insert, len-remove}
use Rattle.room_ids.proofs.IdOrder.{node_cmp-total}
use Rattle.room_ids.specs.declared.ids.NodeId.{NodeId}
use Rattle.room_nodes.specs.Shape.{Nodes, IsFormed}
use Rattle.room_nodes.specs.Turns.{turned, reverse, put_of, CanTurn}
use Rattle.room_nodes.specs.declared.cells.Cell.{Cell}
use Rattle.room_nodes.specs.declared.nodes.Node.{Node}
use Rattle.room_nodes.specs.declared.turns.Turn.{Turn}
use Rattle.room_nodes.specs.declared.turns.Turn.TheVariants.{Put, Cut, Fields, Key}
use Rattle.room_nodes.proofs.Cutting.{some_len}
use Rattle.room_nodes.proofs.Fitting.{some_of}
use Rattle.room_nodes.proofs.StepForm.{at_node, object_there}
use Rattle.room_apply.specs.Edits.{turned_all, reverse_all, CanTurnAll, places, HasPlace, places_all, HasPlaces}
use Rattle.room_apply.specs.Edits.{put_count, cut_count, puts_in, cuts_in}
use Rattle.room_apply.specs.Within.{FieldsOf, RunsIn, IsWithin, ArePuts, AreMoves}
use Rattle.room_apply.proofs.AgainAll.{again_all}

pub turned_append : (t : Nodes) (cs ds : List Turn) → turned_all t (cs ++ ds) ≡ turned_all (turned_all t ds) cs
turned_append t [] ds = refl
turned_append t (c ∷ cs) ds = ap (λ (u : Nodes). turned u c) (turned_append t cs ds)

pub can_append : (t : Nodes) (cs ds : List Turn) → CanTurnAll t (cs ++ ds) → CanTurnAll (turned_all t ds) cs
    × CanTurnAll t ds
can_append t [] ds h = (tt, h)
can_append t (c ∷ cs) ds h =
    let r = can_append t cs ds h.1 in
    ((subst (λ (u : Nodes). CanTurn u c) (turned_append t cs ds) h.0, r.0), r.1)

pub append_can : (t : Nodes) (cs ds : List Turn) → CanTurnAll (turned_all t ds) cs → CanTurnAll t ds
    → CanTurnAll t (cs ++ ds)
append_can t [] ds h k = k
append_can t (c ∷ cs) ds h k =
    (subst (λ (u : Nodes). CanTurn u c) (sym (turned_append t cs ds)) h.0, append_can t cs ds h.1 k)

pub reverse_append : (t : Nodes) (cs ds : List Turn)
    → reverse_all t (cs ++ ds) ≡ reverse_all t ds ++ reverse_all (turned_all t ds) cs
reverse_append t [] ds = sym (end (reverse_all t ds))
  where
    end : (rs : List Turn) → rs ++ [] ≡ rs
    end [] = refl
    end (r ∷ rs) = ap (λ es. r ∷ es) (end rs)
reverse_append t (c ∷ cs) ds =
    ap (λ rs. rs ++ reverse (turned_all t (cs ++ ds)) c ∷ []) (reverse_append t cs ds)
    ∙ append_assoc (reverse_all t ds) (reverse_all (turned_all t ds) cs) (reverse (turned_all t (cs ++ ds)) c ∷ [])
    ∙ ap (λ (u : Nodes). reverse_all t ds ++ (reverse_all (turned_all t ds) cs ++ reverse u c ∷ []))
    (turned_append t cs ds)

pub places_append : (s : ℕ) (cs ds : List Turn) → places_all s (cs ++ ds) ≡ places_all (places_all s ds) cs
places_append s [] ds = refl
places_append s (c ∷ cs) ds = ap (λ n. places n c) (places_append s cs ds)

pub place_append : (s : ℕ) (cs ds : List Turn) → HasPlaces s (cs ++ ds) → HasPlaces (places_all s ds) cs
    × HasPlaces s ds
place_append s [] ds h = (tt, h)
place_append s (c ∷ cs) ds h =
    let r = place_append s cs ds h.1 in
    ((subst (λ n. HasPlace n c) (places_append s cs ds) h.0, r.0), r.1)

pub puts_append : (cs ds : List Turn) → puts_in (cs ++ ds) ≡ puts_in cs + puts_in ds
puts_append [] ds = omega arith
puts_append (c ∷ cs) ds = let r = puts_append cs ds in omega arith

pub cuts_append : (cs ds : List Turn) → cuts_in (cs ++ ds) ≡ cuts_in cs + cuts_in ds
cuts_append [] ds = omega arith
cuts_append (c ∷ cs) ds = let r = cuts_append cs ds in omega arith

pub puts_only : (cs : List Turn) → ArePuts cs → (puts_in cs ≡ length cs) × (cuts_in cs ≡ 0)
puts_only [] h = (refl, refl)
puts_only (Put x n ∷ cs) h = let r = puts_only cs h.1 in (omega (arith, r.0), omega (arith, r.1))
puts_only (Cut x ∷ cs) h = absurd h.0
puts_only (Fields x fs ∷ cs) h = absurd h.0
puts_only (Key x k ∷ cs) h = absurd h.0

pub puts_move : (cs : List Turn) → ArePuts cs → AreMoves cs
puts_move [] h = tt
puts_move (Put x n ∷ cs) h = (tt, puts_move cs h.1)
puts_move (Cut x ∷ cs) h = absurd h.0
puts_move (Fields x fs ∷ cs) h = absurd h.0
puts_move (Key x k ∷ cs) h = absurd h.0

pub puts_last : (cs : List Turn) (x : NodeId) (n : Node) → ArePuts cs → ArePuts (cs ++ Put x n ∷ [])
puts_last [] x n h = (tt, tt)
puts_last (c ∷ cs) x n h = (h.0, puts_last cs x n h.1)

-- spare places for the nodes that are put

one_place : (d p : ℕ) (c : Turn) (us ss : ℕ) → put_count c + us ≤ d → d + ss ≡ p + us
    → HasPlace p c × (d + (cut_count c + ss) ≡ places p c + (put_count c + us))
one_place d p (Put x n) us ss h e = (omega arith, omega arith)
one_place d p (Cut x) us ss h e = (tt, omega arith)
one_place d p (Fields x fs) us ss h e = (tt, omega arith)
one_place d p (Key x k) us ss h e = (tt, omega arith)

less : (c : Turn) (us d : ℕ) → put_count c + us ≤ d → us ≤ d
less c us d h = omega arith

pub enough : (d : ℕ) (cs : List Turn) → puts_in cs ≤ d
    → HasPlaces d cs × (d + cuts_in cs ≡ places_all d cs + puts_in cs)
enough d [] h = (tt, refl)
enough d (c ∷ cs) h =
    let r = enough d cs (less c (puts_in cs) d h) in
    let one = one_place d (places_all d cs) c (puts_in cs) (cuts_in cs) h r.1 in
    ((one.0, r.0), one.1)

-- places that are there are spent one by one
spent_one : (p : ℕ) (c : Turn) (s us ss : ℕ) → HasPlace p c → s + ss ≡ p + us
    → s + (cut_count c + ss) ≡ places p c + (put_count c + us)
spent_one p (Put x n) s us ss h e = omega (arith, h, e)
spent_one p (Cut x) s us ss h e = omega (arith, e)
spent_one p (Fields x fs) s us ss h e = omega (arith, e)
spent_one p (Key x k) s us ss h e = omega (arith, e)

pub spent : (s : ℕ) (cs : List Turn) → HasPlaces s cs → s + cuts_in cs ≡ places_all s cs + puts_in cs
spent s [] h = refl
spent s (c ∷ cs) h = spent_one (places_all s cs) c s (puts_in cs) (cuts_in cs) h.0 (spent s cs h.1)

-- how many nodes there are then

in_place : (t : Nodes) (x : NodeId) (n : Node) → is_some (get t x) ≡ true → len (insert t x n) ≡ len t
in_place t x n h = len-insert node_cmp-total t x n ∙ ap (λ b. cond b (len t) (len t + 1)) h

one_len : (t : Nodes) → IsFormed t → (c : Turn) → CanTurn t c → len (turned t c) + cut_count c ≡ len t + put_count c
one_len t f (Put x n) h =
    let e = len-insert node_cmp-total t x n ∙ ap (λ b. cond b (len t) (len t + 1)) h.fresh in
    omega (arith, e)
one_len t f (Cut x) h =
    let n = some_of (get t x) h.there in
    let e : len (remove t x) ≡ len t - 1 = len-remove node_cmp-total t x
    ∙ ap (λ b. cond b (len t - 1) (len t)) h.there in
    let some : 1 ≤ len t = some_len t x n.0 n.1 in
    omega (arith, e, some)
one_len t f (Fields x fs) h =
    let n = object_there (get t x) h.object in
    let e : len (turned t (Fields x fs)) ≡ len t = ap len (at_node t x _ n.0 n.1) ∙ in_place t x _ (ap is_some n.1) in
    omega (arith, e)
one_len t f (Key x k) h =
    let n = some_of (get t x) h.there in
    let e : len (turned t (Key x k)) ≡ len t = ap len (at_node t x _ n.0 n.1) ∙ in_place t x _ (ap is_some n.1) in
    omega (arith, e)

pub len_all : (t : Nodes) → IsFormed t → (cs : List Turn) → CanTurnAll t cs
    → len (turned_all t cs) + cuts_in cs ≡ len t + puts_in cs
len_all t f [] h = refl
len_all t f (c ∷ cs) h =
    let r = len_all t f cs h.1 in
    let u = turned_all t cs in
    let one = one_len u (again_all t f cs h.1).formed c h.0 in
    omega (arith, r, one)

-- the reversals put where the changes take out

one_count : (t : Nodes) (c : Turn) → CanTurn t c → (put_count (reverse t c) ≡ cut_count c)
    × (cut_count (reverse t c) ≡ put_count c)
one_count t (Put x n) h = (refl, refl)
one_count t (Cut x) h =
    let n = some_of (get t x) h.there in
    (ap (λ o. put_count (put_of x o)) n.1, ap (λ o. cut_count (put_of x o)) n.1)
one_count t (Fields x fs) h = (refl, refl)
one_count t (Key x k) h = (refl, refl)

pub reverse_counts : (t : Nodes) (cs : List Turn) → CanTurnAll t cs
    → (puts_in (reverse_all t cs) ≡ cuts_in cs) × (cuts_in (reverse_all t cs) ≡ puts_in cs)
reverse_counts t [] h = (refl, refl)
reverse_counts t (c ∷ cs) h =
    let r = reverse_counts t cs h.1 in
    let one = one_count (turned_all t cs) c h.0 in
    let d = reverse (turned_all t cs) c in
    let a = puts_append (reverse_all t cs) (d ∷ []) in
    let b = cuts_append (reverse_all t cs) (d ∷ []) in
    (omega (arith, r.0, one.0, a), omega (arith, r.1, one.1, b))

pub reverse_length : (t : Nodes) (cs : List Turn) → length (reverse_all t cs) ≡ length cs
reverse_length t [] = refl
reverse_length t (c ∷ cs) = longer (reverse_all t cs) (reverse (turned_all t cs) c) ∙ ap suc (reverse_length t cs)
  where
    longer : (rs : List Turn) (r : Turn) → length (rs ++ r ∷ []) ≡ suc (length rs)
    longer [] r = refl
    longer (q ∷ rs) r = ap suc (longer rs r)

-- runs

module _ (cs : List Cell) (ns : FieldsOf) where
  pub runs_can : (t : Nodes) (es : List Turn) → RunsIn cs ns t es → CanTurnAll t es
  runs_can t [] h = tt
  runs_can t (e ∷ es) h = (h.0.0, runs_can t es h.1)

  pub runs_append : (t : Nodes) (es ds : List Turn) → RunsIn cs ns t (es ++ ds) → RunsIn cs ns (turned_all t ds) es
      × RunsIn cs ns t ds
  runs_append t [] ds h = (tt, h)
  runs_append t (e ∷ es) ds h =
      let r = runs_append t es ds h.1 in
      ((subst (λ (u : Nodes). CanTurn u e × IsWithin cs ns u e) (turned_append t es ds) h.0, r.0), r.1)

  pub append_runs : (t : Nodes) (es ds : List Turn) → RunsIn cs ns (turned_all t ds) es → RunsIn cs ns t ds
      → RunsIn cs ns t (es ++ ds)
  append_runs t [] ds h k = k
  append_runs t (e ∷ es) ds h k = (
    subst (λ (u : Nodes). CanTurn u e × IsWithin cs ns u e)
        (sym (turned_append t es ds)) h.0,
    append_runs t es ds h.1 k,
  )

pub puts_after : (es : List Turn) (x : NodeId) (o : Option Node) → is_some o ≡ true → ArePuts es
    → ArePuts (es ++ put_of x o ∷ [])
puts_after es x None e h = cc
puts_after es x (Some n) e h = puts_last es x n h
