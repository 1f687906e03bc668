-- Edits that go back and forth, also on another tree that agrees on the cells.
use Rattle.std.proofs.Common.{◌≡◌, ◌≤◌, ◌+◌, ◌++◌, ℕ, true, false, List, [], ◌∷◌, length, Option, Some, None}
use Rattle.std.proofs.Common.{option_map}
use Rattle.std.proofs.Common.{is_some, refl, sym, ap, ◌∙◌, subst, arith, append_assoc}
use Rattle.std.specs.FinMap.{get, len}
use Rattle.room_ids.specs.declared.ids.NodeId.{NodeId}
use Rattle.room_nodes.specs.Cells.{AgreesOn, overlaps, overlaps_some}
use Rattle.room_nodes.specs.Shape.{Nodes, IsFormed}
use Rattle.room_nodes.specs.Turns.{reverse, put_of}
use Rattle.room_nodes.specs.declared.cells.Cell.{Cell}
use Rattle.room_nodes.specs.declared.cells.Cell.TheVariants.{Node as NodeOf, Slot, All}
use Rattle.room_nodes.specs.declared.nodes.Node.{Node}
use Rattle.room_nodes.specs.declared.turns.Turn.{Turn}
use Rattle.room_nodes.specs.declared.turns.Turn.TheVariants.{Put, Cut, Fields, Key}
use Rattle.room_nodes.proofs.Steps.{neither}
use Rattle.room_steps.proofs.Touching.{Framed}
use Rattle.room_apply.specs.Edits.{turned_all, reverse_all, CanTurnAll, HasPlaces, places_all, some_turn, puts_in}
use Rattle.room_apply.specs.Edits.{cuts_in}
use Rattle.room_apply.specs.Ways.{Way, backs, forths, before, after, gone_back, gone_forth, CanGoBack, CanGoForth}
use Rattle.room_apply.specs.Ways.{GoesBack, GoesForth}
use Rattle.room_apply.specs.Ways.{IsWithCells, Meets, SameObject, node_count, object_in, nodes_of, MayGoBack}
use Rattle.room_apply.specs.Ways.{MayGoForth}
use Rattle.room_apply.specs.Within.{RunsIn, IsMove, AreMoves, IsOfFields, IsGiving, IsTaking}
use Rattle.room_apply.proofs.AgainAll.{again_all}
use Rattle.room_apply.proofs.AllTurns.{AllSame, AreToo, framed_all, reverse_runs, same_append, same_moves, turns_too}
use Rattle.room_apply.proofs.Lists.{can_append, enough, len_all, reverse_append, reverse_counts, reverse_length}
use Rattle.room_apply.proofs.Lists.{runs_can, turned_append}
use Rattle.room_apply.proofs.Lists.{place_append, places_append}

-- elsewhere

slot_under : (x : NodeId) (k : List ℕ) (d : Cell) → overlaps (All x) d ≡ false → overlaps (Slot x k) d ≡ false
slot_under x k (NodeOf y) e = refl
slot_under x k (Slot y j) e = rw e refl
slot_under x k (All y) e = e

slots_under : (x : NodeId) (k : List ℕ) (cs : List Cell) → overlaps_some (All x) cs ≡ false
    → overlaps_some (Slot x k) cs ≡ false
slots_under x k [] e = refl
slots_under x k (d ∷ cs) e =
    let a = neither (overlaps (All x) d) _ e in
    rw (slot_under x k d a.0, slots_under x k cs a.1) refl

pub elsewhere : (cs : List Cell) (t u : Nodes) → Framed t u cs → (c : Cell) → overlaps_some c cs ≡ false
    → AgreesOn t u c
elsewhere cs t u a (NodeOf x) e = a.node x e
elsewhere cs t u a (Slot x k) e = a.slot x k e
elsewhere cs t u a (All x) e = λ k. a.slot x k (slots_under x k cs e)

-- kinds of changes

same_met : (t u : Nodes) (o : Option Turn) → SameObject t u (object_in o) → AllSame t u (some_turn o)
same_met t u None h = tt
same_met t u (Some (Put x n)) h = (tt, tt)
same_met t u (Some (Cut x)) h = (tt, tt)
same_met t u (Some (Fields x fs)) h = (h, tt)
same_met t u (Some (Key x k)) h = (tt, tt)

pub taking_moves : (o : Option Turn) → IsTaking o → AreMoves (some_turn o)
taking_moves None h = tt
taking_moves (Some (Put x n)) h = absurd h
taking_moves (Some (Cut x)) h = (tt, tt)
taking_moves (Some (Fields x fs)) h = absurd h
taking_moves (Some (Key x k)) h = (tt, tt)

pub giving_moves : (o : Option Turn) → IsGiving o → AreMoves (some_turn o)
giving_moves None h = tt
giving_moves (Some (Put x n)) h = (tt, tt)
giving_moves (Some (Cut x)) h = absurd h
giving_moves (Some (Fields x fs)) h = absurd h
giving_moves (Some (Key x k)) h = (tt, tt)

put_gives : (x : NodeId) (o : Option Node) → is_some o ≡ true → IsGiving (Some (put_of x o))
put_gives x None e = cc
put_gives x (Some n) e = tt

pub taking_gives : (t : Nodes) (o : Option Turn) → CanTurnAll t (some_turn o) → IsTaking o
    → IsGiving (option_map (reverse t) o)
taking_gives t None can h = tt
taking_gives t (Some (Put x n)) can h = absurd h
taking_gives t (Some (Cut x)) can h = put_gives x (get t x) can.0.there
taking_gives t (Some (Fields x fs)) can h = absurd h
taking_gives t (Some (Key x k)) can h = tt

pub giving_takes : (t : Nodes) (o : Option Turn) → IsGiving o → IsTaking (option_map (reverse t) o)
giving_takes t None h = tt
giving_takes t (Some (Put x n)) h = tt
giving_takes t (Some (Cut x)) h = absurd h
giving_takes t (Some (Fields x fs)) h = absurd h
giving_takes t (Some (Key x k)) h = tt

pub fields_still : (t : Nodes) (o : Option Turn) → IsOfFields o → IsOfFields (option_map (reverse t) o)
fields_still t None h = tt
fields_still t (Some (Put x n)) h = absurd h
fields_still t (Some (Cut x)) h = absurd h
fields_still t (Some (Fields x fs)) h = tt
fields_still t (Some (Key x k)) h = absurd h

put_object : (x : NodeId) (o : Option Node) → object_in (Some (put_of x o)) ≡ None
put_object x None = refl
put_object x (Some n) = refl

pub object_still : (t : Nodes) (o : Option Turn) → object_in (option_map (reverse t) o) ≡ object_in o
object_still t None = refl
object_still t (Some (Put x n)) = refl
object_still t (Some (Cut x)) = put_object x (get t x)
object_still t (Some (Fields x fs)) = refl
object_still t (Some (Key x k)) = refl

put_moves : (x : NodeId) (o : Option Node) → IsMove (put_of x o)
put_moves x None = tt
put_moves x (Some n) = tt

move_back : (t : Nodes) (c : Turn) → IsMove c → IsMove (reverse t c)
move_back t (Put x n) h = tt
move_back t (Cut x) h = put_moves x (get t x)
move_back t (Fields x fs) h = absurd h
move_back t (Key x k) h = tt

moves_last : (es : List Turn) (c : Turn) → AreMoves es → IsMove c → AreMoves (es ++ c ∷ [])
moves_last [] c h m = (m, tt)
moves_last (e ∷ es) c h m = (h.0, moves_last es c h.1 m)

pub moves_back : (t : Nodes) (es : List Turn) → AreMoves es → AreMoves (reverse_all t es)
moves_back t [] h = tt
moves_back t (c ∷ es) h = moves_last (reverse_all t es) (reverse (turned_all t es) c) (moves_back t es h.1)
    (move_back (turned_all t es) c h.0)

-- the way on another tree

pub back_too : (cs : List Cell) (t u : Nodes) (e : Way) → GoesBack cs t e → IsFormed u → Meets cs t u e
    → AreToo cs e.names t u (backs e)
back_too cs t u e g f m = turns_too cs e.names t u g.formed f m.0 (backs e) g.runs
    (same_append t u e.done (some_turn e.fields ++ some_turn e.last) (same_moves t u e.done g.moves)
    (same_append t u (some_turn e.fields) (some_turn e.last) (same_met t u e.fields m.1)
    (same_moves t u (some_turn e.last) (taking_moves e.last g.last))))

pub forth_too : (cs : List Cell) (t u : Nodes) (e : Way) → GoesForth cs t e → IsFormed u → Meets cs t u e
    → AreToo cs e.names t u (forths e)
forth_too cs t u e g f m = turns_too cs e.names t u g.formed f m.0 (forths e) g.runs
    (same_append t u (some_turn e.last) (some_turn e.fields ++ e.undone)
    (same_moves t u (some_turn e.last) (giving_moves e.last g.last))
    (same_append t u (some_turn e.fields) e.undone (same_met t u e.fields m.1) (same_moves t u e.undone g.moves)))

pub may_go_back : MayGoBack
may_go_back cs t u d e g f m le = (g.undone, (runs_can cs e.names u (backs e) (back_too cs t u e g f m).runs, le))

pub may_go_forth : MayGoForth
may_go_forth cs t u d e g f m le = (g.done, (runs_can cs e.names u (forths e) (forth_too cs t u e g f m).runs, le))

-- what takes them back then

pub one_back : (t : Nodes) (o : Option Turn) → some_turn (option_map (reverse t) o) ≡ reverse_all t (some_turn o)
one_back t None = refl
one_back t (Some c) = refl

pub forths_gone : (t : Nodes) (e : Way) → e.undone ≡ [] → forths (gone_back t e) ≡ reverse_all t (backs e)
forths_gone t e none =
    let l = some_turn e.last in
    let f = some_turn e.fields in
    let u = turned_all t l in
    let v = turned_all t (f ++ l) in
    let rs = reverse_all v e.done in
    ap (λ ls. ls ++ (some_turn (option_map (reverse u) e.fields) ++ (e.undone ++ rs))) (one_back t e.last)
    ∙ ap (λ fs. reverse_all t l ++ (fs ++ (e.undone ++ rs))) (one_back u e.fields)
    ∙ ap (λ es. reverse_all t l ++ (reverse_all u f ++ (es ++ rs))) none
    ∙ sym (append_assoc (reverse_all t l) (reverse_all u f) rs)
    ∙ ap (λ es. es ++ rs) (sym (reverse_append t f l))
    ∙ sym (reverse_append t e.done (f ++ l))

pub backs_gone : (t : Nodes) (e : Way) → e.done ≡ [] → backs (gone_forth t e) ≡ reverse_all t (forths e)
backs_gone t e none =
    let l = some_turn e.last in
    let f = some_turn e.fields in
    let u = turned_all t e.undone in
    let v = turned_all t (f ++ e.undone) in
    let rs = reverse_all t e.undone in
    ap (λ es. (es ++ rs) ++ (some_turn (option_map (reverse u) e.fields) ++ some_turn (option_map (reverse v) e.last)))
    none
    ∙ ap (λ fs. rs ++ (fs ++ some_turn (option_map (reverse v) e.last))) (one_back u e.fields)
    ∙ ap (λ ls. rs ++ (reverse_all u f ++ ls)) (one_back v e.last)
    ∙ sym (append_assoc rs (reverse_all u f) (reverse_all v l))
    ∙ ap (λ es. es ++ reverse_all v l) (sym (reverse_append t f e.undone))
    ∙ sym (reverse_append t l (f ++ e.undone))

pub count_is : (o : Option Turn) → node_count o ≡ puts_in (some_turn o) + cuts_in (some_turn o)
count_is None = refl
count_is (Some c) = omega arith

count_back : (t : Nodes) (o : Option Turn) → CanTurnAll t (some_turn o)
    → node_count (option_map (reverse t) o) ≡ node_count o
count_back t o can =
    let r = reverse_counts t (some_turn o) can in
    let a = count_is o in
    let b = count_is (option_map (reverse t) o) in
    let p : puts_in (some_turn (option_map (reverse t) o)) ≡ cuts_in (some_turn o) = ap puts_in (one_back t o) ∙ r.0 in
    let q : cuts_in (some_turn (option_map (reverse t) o)) ≡ puts_in (some_turn o) = ap cuts_in (one_back t o) ∙ r.1 in
    omega (arith, a, b, p, q)

-- three lists of changes, made one after the other from the last

module _ (xs ys zs : List Turn) where
  pub three_can : (t u v : Nodes) → CanTurnAll t (xs ++ (ys ++ zs)) → u ≡ turned_all t zs → v ≡ turned_all u ys
      → CanTurnAll t zs × (CanTurnAll u ys × CanTurnAll v xs)
  three_can t u v h a b =
      let r = can_append t xs (ys ++ zs) h in
      let q = can_append t ys zs r.1 in
      let c : v ≡ turned_all t (ys ++ zs) = b ∙ ap (λ (w : Nodes). turned_all w ys) a ∙ sym (turned_append t ys zs) in
      (q.1, (subst (λ (w : Nodes). CanTurnAll w ys) (sym a) q.0, subst (λ (w : Nodes). CanTurnAll w xs) (sym c) r.0))

  pub three_place : (d p q : ℕ) → puts_in (xs ++ (ys ++ zs)) ≤ d → p ≡ places_all d zs → q ≡ places_all p ys
      → HasPlaces d zs × (HasPlaces p ys × HasPlaces q xs)
  three_place d p q le a b =
      let r = place_append d xs (ys ++ zs) (enough d (xs ++ (ys ++ zs)) le).0 in
      let k = place_append d ys zs r.1 in
      let c : q ≡ places_all d (ys ++ zs) = b ∙ ap (λ n. places_all n ys) a ∙ sym (places_append d ys zs) in
      (k.1, (subst (λ n. HasPlaces n ys) (sym a) k.0, subst (λ n. HasPlaces n xs) (sym c) r.0))

  pub three_nodes : (t u v w : Nodes) → u ≡ turned_all t zs → v ≡ turned_all u ys → w ≡ turned_all v xs
      → w ≡ turned_all t (xs ++ (ys ++ zs))
  three_nodes t u v w a b c =
      c ∙ ap (λ (k : Nodes). turned_all k xs) (b ∙ ap (λ (k : Nodes). turned_all k ys) a ∙ sym (turned_append t ys zs))
      ∙ sym (turned_append t xs (ys ++ zs))

  pub three_spare : (d p q r : ℕ) → p ≡ places_all d zs → q ≡ places_all p ys → r ≡ places_all q xs
      → r ≡ places_all d (xs ++ (ys ++ zs))
  three_spare d p q r a b c =
      c ∙ ap (λ n. places_all n xs) (b ∙ ap (λ n. places_all n ys) a ∙ sym (places_append d ys zs))
      ∙ sym (places_append d xs (ys ++ zs))

-- gone back

module _ (t : Nodes) (f : IsFormed t) (d : ℕ) (e : Way) (can : CanGoBack t d e) where
  back_can_last : CanTurnAll t (some_turn e.last)
  back_can_last = (can_append t (some_turn e.fields) (some_turn e.last) (can_append t e.done _ can.1.0).1).1

  pub back_again : CanTurnAll (before t e) (forths (gone_back t e)) × (after (before t e) (gone_back t e) ≡ t)
  back_again =
      let r = again_all t f (backs e) can.1.0 in
      let is = forths_gone t e can.0 in
      (subst (CanTurnAll (before t e)) (sym is) r.can, ap (turned_all (before t e)) is ∙ r.back)

  pub back_can : CanGoForth (before t e) (places_all d (backs e)) (gone_back t e)
  back_can =
      let r = reverse_counts t (backs e) can.1.0 in
      let n = ap puts_in (forths_gone t e can.0) ∙ r.0 in
      let s = (enough d (backs e) can.1.1).1 in
      (refl, (back_again.0, omega (arith, n, s, can.1.1)))

  pub back_sum : len (before t e) + places_all d (backs e) ≡ len t + d
  back_sum =
      let a = len_all t f (backs e) can.1.0 in
      let b = (enough d (backs e) can.1.1).1 in
      omega (arith, a, b)

  pub back_turned : (puts_in (forths (gone_back t e)) ≡ cuts_in (backs e))
      × (cuts_in (forths (gone_back t e)) ≡ puts_in (backs e))
  back_turned =
      let r = reverse_counts t (backs e) can.1.0 in
      let is = forths_gone t e can.0 in
      (ap puts_in is ∙ r.0, ap cuts_in is ∙ r.1)

  pub back_count : nodes_of (gone_back t e) ≡ nodes_of e
  back_count =
      let v = turned_all t (some_turn e.fields ++ some_turn e.last) in
      let a : length (e.undone ++ reverse_all v e.done)
      ≡ length e.done = ap (λ es. length (es ++ reverse_all v e.done)) can.0 ∙ reverse_length v e.done in
      let b : length e.undone ≡ 0 = ap length can.0 in
      let c = count_back t e.last back_can_last in
      omega (arith, a, b, c)

  pub back_goes : (cs : List Cell) (u : Nodes) → GoesBack cs u e → Meets cs u t e
      → GoesForth cs (before t e) (gone_back t e)
  back_goes cs u g m = record {
    formed = (again_all t f (backs e) can.1.0).formed;
    done = refl;
    moves = subst (λ es. AreMoves (es ++ reverse_all (turned_all t (some_turn e.fields ++ some_turn e.last)) e.done))
        (sym can.0)
        (moves_back (turned_all t (some_turn e.fields ++ some_turn e.last)) e.done g.moves);
    fields = fields_still (turned_all t (some_turn e.last)) e.fields g.fields;
    last = taking_gives t e.last back_can_last g.last;
    runs = subst (RunsIn cs e.names (before t e)) (sym (forths_gone t e can.0))
        (reverse_runs cs e.names t f (backs e) (back_too cs u t e g f m).runs);
  }

  pub back_cells : (cs : List Cell) (u : Nodes) → GoesBack cs u e → Meets cs u t e
      → IsWithCells cs (before u e) t (before t e)
  back_cells cs u g m =
      let r = back_too cs u t e g f m in
      record { cells = r.agrees; elsewhere = elsewhere cs t (before t e) (framed_all cs e.names t f (backs e) r.runs) }

-- gone forth

module _ (t : Nodes) (f : IsFormed t) (d : ℕ) (e : Way) (can : CanGoForth t d e) where
  forth_can_last : CanTurnAll (turned_all t (some_turn e.fields ++ e.undone)) (some_turn e.last)
  forth_can_last = (can_append t (some_turn e.last) (some_turn e.fields ++ e.undone) can.1.0).0

  pub forth_again : CanTurnAll (after t e) (backs (gone_forth t e)) × (before (after t e) (gone_forth t e) ≡ t)
  forth_again =
      let r = again_all t f (forths e) can.1.0 in
      let is = backs_gone t e can.0 in
      (subst (CanTurnAll (after t e)) (sym is) r.can, ap (turned_all (after t e)) is ∙ r.back)

  pub forth_can : CanGoBack (after t e) (places_all d (forths e)) (gone_forth t e)
  forth_can =
      let r = reverse_counts t (forths e) can.1.0 in
      let n = ap puts_in (backs_gone t e can.0) ∙ r.0 in
      let s = (enough d (forths e) can.1.1).1 in
      (refl, (forth_again.0, omega (arith, n, s, can.1.1)))

  pub forth_sum : len (after t e) + places_all d (forths e) ≡ len t + d
  forth_sum =
      let a = len_all t f (forths e) can.1.0 in
      let b = (enough d (forths e) can.1.1).1 in
      omega (arith, a, b)

  pub forth_turned : (puts_in (backs (gone_forth t e)) ≡ cuts_in (forths e))
      × (cuts_in (backs (gone_forth t e)) ≡ puts_in (forths e))
  forth_turned =
      let r = reverse_counts t (forths e) can.1.0 in
      let is = backs_gone t e can.0 in
      (ap puts_in is ∙ r.0, ap cuts_in is ∙ r.1)

  pub forth_count : nodes_of (gone_forth t e) ≡ nodes_of e
  forth_count =
      let a : length (e.done ++ reverse_all t e.undone)
      ≡ length e.undone = ap (λ es. length (es ++ reverse_all t e.undone)) can.0 ∙ reverse_length t e.undone in
      let b : length e.done ≡ 0 = ap length can.0 in
      let c = count_back (turned_all t (some_turn e.fields ++ e.undone)) e.last forth_can_last in
      omega (arith, a, b, c)

  pub forth_goes : (cs : List Cell) (u : Nodes) → GoesForth cs u e → Meets cs u t e
      → GoesBack cs (after t e) (gone_forth t e)
  forth_goes cs u g m = record {
    formed = (again_all t f (forths e) can.1.0).formed;
    undone = refl;
    moves = subst (λ es. AreMoves (es ++ reverse_all t e.undone)) (sym can.0) (moves_back t e.undone g.moves);
    fields = fields_still (turned_all t e.undone) e.fields g.fields;
    last = giving_takes (turned_all t (some_turn e.fields ++ e.undone)) e.last g.last;
    runs = subst (RunsIn cs e.names (after t e)) (sym (backs_gone t e can.0))
        (reverse_runs cs e.names t f (forths e) (forth_too cs u t e g f m).runs);
  }

  pub forth_cells : (cs : List Cell) (u : Nodes) → GoesForth cs u e → Meets cs u t e
      → IsWithCells cs (after u e) t (after t e)
  forth_cells cs u g m =
      let r = forth_too cs u t e g f m in
      record { cells = r.agrees; elsewhere = elsewhere cs t (after t e) (framed_all cs e.names t f (forths e) r.runs) }
