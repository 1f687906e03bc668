-- Lists of operations that are apart may be done in either order.
use Rattle.std.proofs.Common.{◌≡◌, inl, inr, ℕ, Bool, true, false, not, ◌&&◌, List, [], ◌∷◌, ◌++◌, Option, Some, None, refl, sym, ap, ◌∙◌}
use Rattle.std.specs.Cmp.Lexicographic.{slice_cmp}
use Rattle.std.specs.FinMap.{get, find, same_map}
use Rattle.std.specs.Ordering.{nat_cmp, eq_by_cmp}
use Rattle.room_ids.proofs.IdOrder.{node_cmp-total, node_cmp-exact}
use Rattle.room_ids.specs.Order.{is_same}
use Rattle.room_ids.specs.declared.ids.NodeId.{NodeId}
use Rattle.room_nodes.specs.Cells.{Agrees, SameSlot, IsApart, bare, cells_all, meets, overlaps, overlaps_some, reads, writes, writes_all}
use Rattle.room_nodes.specs.Primitives.{fields_in, kind_fields}
use Rattle.room_nodes.specs.Shape.{Nodes, IsFormed}
use Rattle.room_nodes.specs.Steps.{fields_kind, fold, step}
use Rattle.room_nodes.specs.declared.cells.Cell.{Cell}
use Rattle.room_nodes.specs.declared.cells.Cell.TheVariants.{Node as NodeOf, Slot, All}
use Rattle.room_nodes.specs.declared.nodes.Body.{Body}
use Rattle.room_nodes.specs.declared.nodes.Kind.{Kind}
use Rattle.room_nodes.specs.declared.nodes.Kind.TheVariants.{Object, List as Listed, Map as Mapped, Register}
use Rattle.room_nodes.specs.declared.nodes.Node.{Node}
use Rattle.room_nodes.proofs.Gets.{same, same_self, some_inj, some_none, true_false}
use Rattle.room_nodes.proofs.Fitting.{both, not_true}
use Rattle.room_nodes.proofs.Steps.{formed-step, formed-fold, neither}
use Rattle.room_steps.specs.Laws.{Outside, Footprints}
use Rattle.room_nodes.specs.Ordered.{AreOrderedBodies, IsOrderedKind, IsOrderedTree}
use Rattle.room_steps.proofs.Booleans.{by_no, or_parts, or_left, or_right, and_both, and_false}
use Rattle.room_steps.proofs.Agreement.{framed, local}
use Rattle.room_steps.proofs.Alike.{Alike, parent_alike, key_alike}
use Rattle.room_steps.proofs.Changing.{AreMatched, Kept}
use Rattle.room_steps.proofs.Covering.{Agrees-append, covered-append}
use Rattle.room_steps.proofs.Fields.{key_self, same_fields, same_name}
use Rattle.room_steps.proofs.Touching.{Framed, framed_then, kept_then}
use Rattle.room_steps.proofs.OrderedSteps.{ordered_fold}

-- lists of operations

framed_left : (t u : Nodes) (ds es : List Cell) → Framed t u ds → Framed t u (ds ++ es)
framed_left t u ds es h = record {
  node = λ q off. h.node q (neither (overlaps_some (NodeOf q) ds) _ (sym (covered-append (NodeOf q) ds es) ∙ off)).0;
  slot = λ q k off. h.slot q k (neither (overlaps_some (Slot q k) ds) _ (sym (covered-append (Slot q k) ds es) ∙ off)).0;
}

framed_right : (t u : Nodes) (ds es : List Cell) → Framed t u es → Framed t u (ds ++ es)
framed_right t u ds es h = record {
  node = λ q off. h.node q (neither (overlaps_some (NodeOf q) ds) _ (sym (covered-append (NodeOf q) ds es) ∙ off)).1;
  slot = λ q k off. h.slot q k (neither (overlaps_some (Slot q k) ds) _ (sym (covered-append (Slot q k) ds es) ∙ off)).1;
}

pub framed_fold : (t : Nodes) → IsFormed t → (bs : List Body) → Framed t (fold t bs) (writes_all t bs)
framed_fold t f [] = record { node = λ q off. refl; slot = λ q k off. (refl, refl) }
framed_fold t f (b ∷ bs) =
    let u = step t b in
    framed_then t u (fold u bs) (writes t b ++ writes_all u bs) (framed_left t u (writes t b) (writes_all u bs) (framed t f b)) (framed_right u (fold u bs) (writes t b) (writes_all u bs) (framed_fold u (formed-step t f b) bs))

pub agrees_kept : (t u t2 u2 : Nodes) → Kept t u t2 u2 → (ds : List Cell) → Agrees t u ds → Agrees t2 u2 ds
agrees_kept t u t2 u2 k [] h = tt
agrees_kept t u t2 u2 k (NodeOf x ∷ ds) h = (k.node x h.0, agrees_kept t u t2 u2 k ds h.1)
agrees_kept t u t2 u2 k (Slot x j ∷ ds) h = (k.slot x j h.0, agrees_kept t u t2 u2 k ds h.1)
agrees_kept t u t2 u2 k (All x ∷ ds) h = (λ j. k.slot x j (h.0 j), agrees_kept t u t2 u2 k ds h.1)

-- the cells of the first operation, and of the others behind it
module _ (t u : Nodes) (f : IsFormed t) (g : IsFormed u) (b : Body) (bs : List Body) (h : Agrees t u (cells_all t (b ∷ bs))) where
  pub agrees_first : Agrees t u (reads t b ++ writes t b)
  agrees_first = (Agrees-append t u (reads t b ++ writes t b) (cells_all (step t b) bs) h).0

  pub agrees_rest : Agrees (step t b) (step u b) (cells_all (step t b) bs)
  agrees_rest = agrees_kept t u (step t b) (step u b) (local t u f g b agrees_first).kept (cells_all (step t b) bs) (Agrees-append t u (reads t b ++ writes t b) (cells_all (step t b) bs) h).1

pub kept_fold : (t u : Nodes) → IsFormed t → IsFormed u → (bs : List Body) → Agrees t u (cells_all t bs) → Kept t u (fold t bs) (fold u bs) × (writes_all t bs ≡ writes_all u bs)
kept_fold t u f g [] h = (record { node = λ q e. e; slot = λ q k e. e; matched = λ e. e }, refl)
kept_fold t u f g (b ∷ bs) h =
    let l = local t u f g b (agrees_first t u f g b bs h) in
    let r = kept_fold (step t b) (step u b) (formed-step t f b) (formed-step u g b) bs (agrees_rest t u f g b bs h) in (
      kept_then t u (step t b) (step u b) (fold (step t b) bs) (fold (step u b) bs) l.kept r.0,
      ap (λ ds. ds ++ writes_all (step t b) bs) l.cells ∙ ap (λ ds. writes u b ++ ds) r.1,
    )

pub alike_fold : (t u : Nodes) → IsFormed t → IsFormed u → (bs : List Body) → Agrees t u (cells_all t bs) → Agrees (fold t bs) (fold u bs) (cells_all t bs)
alike_fold t u f g bs h = agrees_kept t u (fold t bs) (fold u bs) (kept_fold t u f g bs h).0 (cells_all t bs) h

-- cells that don't meet

same_sym : (x y : NodeId) → is_same x y ≡ false → is_same y x ≡ false
same_sym x y e = by_no (is_same y x) (λ h. true_false (sym (same_self x) ∙ ap (is_same x) (sym (same y x h)) ∙ e))

name_sym : (j k : List ℕ) → eq_by_cmp (slice_cmp nat_cmp) j k ≡ true → eq_by_cmp (slice_cmp nat_cmp) k j ≡ true
name_sym j k e = ap (eq_by_cmp (slice_cmp nat_cmp) k) (same_name j k e) ∙ key_self k

both_sym : (x y : NodeId) (j k : List ℕ) → (is_same x y && eq_by_cmp (slice_cmp nat_cmp) j k) ≡ false → (is_same y x && eq_by_cmp (slice_cmp nat_cmp) k j) ≡ false
both_sym x y j k e = by_no (is_same y x && eq_by_cmp (slice_cmp nat_cmp) k j) (λ h.
    let p = both (is_same y x) _ h in
    true_false (sym (and_both (is_same x y) _ (ap (is_same x) (same y x p.0) ∙ same_self x) (name_sym k j p.1)) ∙ e))

-- a cell w against a cell of the other list, turned round

node_off : (w : Cell) (q : NodeId) → overlaps w (NodeOf q) ≡ false → overlaps (NodeOf q) w ≡ false
node_off (NodeOf x) q e = same_sym x q e
node_off (Slot x k) q e = refl
node_off (All x) q e = refl

slot_off : (w : Cell) (q : NodeId) (k : List ℕ) → overlaps w (Slot q k) ≡ false → overlaps (Slot q k) w ≡ false
slot_off (NodeOf x) q k e = refl
slot_off (Slot x j) q k e = both_sym x q j k e
slot_off (All x) q k e = same_sym x q e

all_off : (w : Cell) (q : NodeId) (k : List ℕ) → overlaps w (All q) ≡ false → overlaps (Slot q k) w ≡ false
all_off (NodeOf x) q k e = refl
all_off (Slot x j) q k e = and_false (is_same q x) _ (same_sym x q e)
all_off (All x) q k e = same_sym x q e

-- the first cell of the other list against all
first_off : (ws : List Cell) (d : Cell) (ds : List Cell) → meets ws (d ∷ ds) ≡ false → (c : Cell) → ((w : Cell) → overlaps w d ≡ false → overlaps c w ≡ false) → overlaps_some c ws ≡ false
first_off [] d ds e c h = refl
first_off (w ∷ ws) d ds e c h =
    let a = neither (overlaps_some w (d ∷ ds)) _ e in
    let b = neither (overlaps w d) _ a.0 in
    rw (h w b.0, first_off ws d ds a.1 c h) refl

rest_off : (ws : List Cell) (d : Cell) (ds : List Cell) → meets ws (d ∷ ds) ≡ false → meets ws ds ≡ false
rest_off [] d ds e = refl
rest_off (w ∷ ws) d ds e =
    let a = neither (overlaps_some w (d ∷ ds)) _ e in
    let b = neither (overlaps w d) _ a.0 in
    rw (b.1, rest_off ws d ds a.1) refl

-- what is framed by cells that ds doesn't meet agrees on ds
pub agrees_off : (t u : Nodes) (ws : List Cell) → Framed t u ws → (ds : List Cell) → meets ws ds ≡ false → Agrees t u ds
agrees_off t u ws h [] e = tt
agrees_off t u ws h (NodeOf x ∷ ds) e = (h.node x (first_off ws (NodeOf x) ds e (NodeOf x) (λ w o. node_off w x o)), agrees_off t u ws h ds (rest_off ws (NodeOf x) ds e))
agrees_off t u ws h (Slot x k ∷ ds) e = (h.slot x k (first_off ws (Slot x k) ds e (Slot x k) (λ w o. slot_off w x k o)), agrees_off t u ws h ds (rest_off ws (Slot x k) ds e))
agrees_off t u ws h (All x ∷ ds) e = (λ k. h.slot x k (first_off ws (All x) ds e (Slot x k) (λ w o. all_off w x k o)), agrees_off t u ws h ds (rest_off ws (All x) ds e))

-- what is written is among the cells
written_there : (c : Cell) (t : Nodes) (bs : List Body) → overlaps_some c (writes_all t bs) ≡ true → overlaps_some c (cells_all t bs) ≡ true
written_there c t [] e = cc
written_there c t (b ∷ bs) e =
    covered-append c (reads t b ++ writes t b) (cells_all (step t b) bs)
    ∙ elim (or_parts (overlaps_some c (writes t b)) _ (sym (covered-append c (writes t b) (writes_all (step t b) bs)) ∙ e)) [
      | inl a ↦ or_left _ _ (covered-append c (reads t b) (writes t b) ∙ or_right (overlaps_some c (reads t b)) _ a)
      | inr a ↦ or_right (overlaps_some c (reads t b ++ writes t b)) _ (written_there c (step t b) bs a)
    ]

-- a node or slot that two cells cover, they meet at

node_meets : (q : NodeId) (w d : Cell) → overlaps (NodeOf q) w ≡ true → overlaps (NodeOf q) d ≡ true → overlaps w d ≡ true
node_meets q (NodeOf x) (NodeOf y) a b = ap (λ z. is_same z y) (sym (same q x a)) ∙ b
node_meets q (NodeOf x) (Slot y k) a b = cc
node_meets q (NodeOf x) (All y) a b = cc
node_meets q (Slot x k) d a b = cc
node_meets q (All x) d a b = cc

slot_meets : (q : NodeId) (k : List ℕ) (w d : Cell) → overlaps (Slot q k) w ≡ true → overlaps (Slot q k) d ≡ true → overlaps w d ≡ true
slot_meets q k (NodeOf x) d a b = cc
slot_meets q k (Slot x j) (NodeOf y) a b = cc
slot_meets q k (Slot x j) (Slot y i) a b =
    let p = both (is_same q x) _ a in
    let r = both (is_same q y) _ b in
    and_both (is_same x y) _ (ap (λ z. is_same z y) (sym (same q x p.0)) ∙ r.0) (ap (λ z. eq_by_cmp (slice_cmp nat_cmp) z i) (sym (same_name k j p.1)) ∙ r.1)
slot_meets q k (Slot x j) (All y) a b = ap (λ z. is_same z y) (sym (same q x (both (is_same q x) _ a).0)) ∙ b
slot_meets q k (All x) (NodeOf y) a b = cc
slot_meets q k (All x) (Slot y i) a b = ap (λ z. is_same z y) (sym (same q x a)) ∙ (both (is_same q y) _ b).0
slot_meets q k (All x) (All y) a b = ap (λ z. is_same z y) (sym (same q x a)) ∙ b

module _ (c : Cell) (meet : (w d : Cell) → overlaps c w ≡ true → overlaps c d ≡ true → overlaps w d ≡ true) where
  some_meets : (w : Cell) (ds : List Cell) → overlaps c w ≡ true → overlaps_some c ds ≡ true → overlaps_some w ds ≡ true
  some_meets w [] a b = cc
  some_meets w (d ∷ ds) a b = elim (or_parts (overlaps c d) _ b) [ inl e ↦ or_left _ _ (meet w d a e) | inr e ↦ or_right (overlaps w d) _ (some_meets w ds a e) ]

  all_meet : (ws ds : List Cell) → overlaps_some c ws ≡ true → overlaps_some c ds ≡ true → meets ws ds ≡ true
  all_meet [] ds a b = cc
  all_meet (w ∷ ws) ds a b = elim (or_parts (overlaps c w) _ a) [ inl e ↦ or_left _ _ (some_meets w ds e b) | inr e ↦ or_right (overlaps_some w ds) _ (all_meet ws ds e b) ]

  apart_off : (t : Nodes) (ws : List Cell) (bs : List Body) → meets ws (cells_all t bs) ≡ false → overlaps_some c ws ≡ true → overlaps_some c (writes_all t bs) ≡ false
  apart_off t ws bs e a = by_no (overlaps_some c (writes_all t bs)) (λ h. true_false (sym (all_meet ws (cells_all t bs) a (written_there c t bs h)) ∙ e))

-- trees that agree everywhere are one

kinds_one : (a b : Kind) → fields_kind (λ _. []) a ≡ fields_kind (λ _. []) b → IsOrderedKind a → IsOrderedKind b
    → ((k : List ℕ) → find (slice_cmp nat_cmp) k (kind_fields a) ≡ find (slice_cmp nat_cmp) k (kind_fields b)) → a ≡ b
kinds_one (Object es) (Object fs) e o p h = ap Object (same_fields es fs o p h)
kinds_one (Object es) Listed e o p h = cc
kinds_one (Object es) Mapped e o p h = cc
kinds_one (Object es) (Register v) e o p h = cc
kinds_one Listed (Object fs) e o p h = cc
kinds_one Listed Listed e o p h = refl
kinds_one Listed Mapped e o p h = cc
kinds_one Listed (Register v) e o p h = cc
kinds_one Mapped (Object fs) e o p h = cc
kinds_one Mapped Listed e o p h = cc
kinds_one Mapped Mapped e o p h = refl
kinds_one Mapped (Register v) e o p h = cc
kinds_one (Register w) (Object fs) e o p h = cc
kinds_one (Register w) Listed e o p h = cc
kinds_one (Register w) Mapped e o p h = cc
kinds_one (Register w) (Register v) e o p h = e

module _ (t u : Nodes) (matched : AreMatched t u) (q : NodeId) (slots : (k : List ℕ) → SameSlot t u q k) where
  found_same : (m n : Node) → get t q ≡ Some m → get u q ≡ Some n → (k : List ℕ) → find (slice_cmp nat_cmp) k (kind_fields m.kind) ≡ find (slice_cmp nat_cmp) k (kind_fields n.kind)
  found_same m n a b k = sym (ap (λ z. find (slice_cmp nat_cmp) k (fields_in z)) a) ∙ (slots k).0 ∙ ap (λ z. find (slice_cmp nat_cmp) k (fields_in z)) b

  nodes_one : (m n : Node) → get t q ≡ Some m → get u q ≡ Some n → bare m ≡ bare n → m ≡ n
  nodes_one m n a b e =
      let kind : m.kind ≡ n.kind = elim (matched q m n a b) [ inl o ↦ kinds_one m.kind n.kind (ap (λ (v : Node). v.kind) e) o.0 o.1 (found_same m n a b) | inr is ↦ is ] in
      λ i. record { parent = parent_alike m n e i; key = key_alike m n e i; depth = (e i).depth; kind = kind i }

  at_one : (a b : Option Node) → get t q ≡ a → get u q ≡ b → Alike a b → a ≡ b
  at_one None None ea eb e = refl
  at_one None (Some n) ea eb e = absurd (some_none (bare n) (sym e))
  at_one (Some m) None ea eb e = absurd (some_none (bare m) e)
  at_one (Some m) (Some n) ea eb e = ap Some (nodes_one m n ea eb (some_inj (bare m) (bare n) e))

  -- a node that is alike with all its slots is the same
  pub one_node : Alike (get t q) (get u q) → get t q ≡ get u q
  one_node e = at_one (get t q) (get u q) refl refl e

pub ordered_matched : (t u : Nodes) → IsOrderedTree t → IsOrderedTree u → AreMatched t u
ordered_matched t u o p q m n a b = inl (o q m a, p q n b)

one_tree : (t u : Nodes) → AreMatched t u → ((q : NodeId) → Alike (get t q) (get u q)) → ((q : NodeId) (k : List ℕ) → SameSlot t u q k) → t ≡ u
one_tree t u matched nodes slots = same_map node_cmp-total node_cmp-exact t u (λ q. one_node t u matched q (slots q) (nodes q))

module _ (t : Nodes) (bs cs : List Body) (f : IsFormed t) (o : IsOrderedTree t) (hb : AreOrderedBodies bs) (hc : AreOrderedBodies cs) (apart : IsApart t bs cs) where
  abbrev tb : Nodes
  tb = fold t bs

  abbrev tc : Nodes
  tc = fold t cs

  off_c : meets (writes_all t bs) (cells_all t cs) ≡ false
  off_c = not_true _ (both (not (meets (writes_all t bs) (cells_all t cs))) _ apart).0

  off_b : meets (writes_all t cs) (cells_all t bs) ≡ false
  off_b = not_true _ (both (not (meets (writes_all t bs) (cells_all t cs))) _ apart).1

  after_b : Kept t tb tc (fold tb cs) × (writes_all t cs ≡ writes_all tb cs)
  after_b = kept_fold t tb f (formed-fold t f bs) cs (agrees_off t tb (writes_all t bs) (framed_fold t f bs) (cells_all t cs) off_c)

  after_c : Kept t tc tb (fold tc bs) × (writes_all t bs ≡ writes_all tc bs)
  after_c = kept_fold t tc f (formed-fold t f cs) bs (agrees_off t tc (writes_all t cs) (framed_fold t f cs) (cells_all t bs) off_b)

  node_either : (q : NodeId) (b : Bool) → overlaps_some (NodeOf q) (writes_all t bs) ≡ b → Alike (get (fold tb cs) q) (get (fold tc bs) q)
  node_either q false e =
      sym (after_b.0.node q ((framed_fold t f bs).node q e)) ∙ (framed_fold tc (formed-fold t f cs) bs).node q (ap (overlaps_some (NodeOf q)) (sym after_c.1) ∙ e)
  node_either q true e =
      let off = apart_off (NodeOf q) (node_meets q) t (writes_all t bs) cs off_c e in
      sym ((framed_fold tb (formed-fold t f bs) cs).node q (ap (overlaps_some (NodeOf q)) (sym after_b.1) ∙ off)) ∙ after_c.0.node q ((framed_fold t f cs).node q off)

  slot_sym : (t u : Nodes) (q : NodeId) (k : List ℕ) → SameSlot t u q k → SameSlot u t q k
  slot_sym t u q k s = (sym s.0, sym s.1)

  slot_trans : (t u v : Nodes) (q : NodeId) (k : List ℕ) → SameSlot t u q k → SameSlot u v q k → SameSlot t v q k
  slot_trans t u v q k s r = (s.0 ∙ r.0, s.1 ∙ r.1)

  slot_either : (q : NodeId) (k : List ℕ) (b : Bool) → overlaps_some (Slot q k) (writes_all t bs) ≡ b → SameSlot (fold tb cs) (fold tc bs) q k
  slot_either q k false e = slot_trans (fold tb cs) tc (fold tc bs) q k
      (slot_sym tc (fold tb cs) q k (after_b.0.slot q k ((framed_fold t f bs).slot q k e)))
      ((framed_fold tc (formed-fold t f cs) bs).slot q k (ap (overlaps_some (Slot q k)) (sym after_c.1) ∙ e))
  slot_either q k true e =
      let off = apart_off (Slot q k) (slot_meets q k) t (writes_all t bs) cs off_c e in
      slot_trans (fold tb cs) tb (fold tc bs) q k
      (slot_sym tb (fold tb cs) q k ((framed_fold tb (formed-fold t f bs) cs).slot q k (ap (overlaps_some (Slot q k)) (sym after_b.1) ∙ off)))
      (after_c.0.slot q k ((framed_fold t f cs).slot q k off))

  pub either_order : fold (fold t bs) cs ≡ fold (fold t cs) bs
  either_order = one_tree (fold tb cs) (fold tc bs) (ordered_matched (fold tb cs) (fold tc bs) (ordered_fold tb cs (ordered_fold t bs o hb) hc) (ordered_fold tc bs (ordered_fold t cs o hc) hb))
      (λ q. node_either q _ refl) (λ q k. slot_either q k _ refl)

-- the three laws

all_covers : (x : NodeId) (k : List ℕ) (ds : List Cell) → overlaps_some (All x) ds ≡ false → overlaps_some (Slot x k) ds ≡ false
all_covers x k [] e = refl
all_covers x k (d ∷ ds) e = let a = neither (overlaps (All x) d) _ e in rw (one_covers x k d a.0, all_covers x k ds a.1) refl
  where
    one_covers : (x : NodeId) (k : List ℕ) (d : Cell) → overlaps (All x) d ≡ false → overlaps (Slot x k) d ≡ false
    one_covers x k (NodeOf y) e = refl
    one_covers x k (Slot y j) e = and_false (is_same x y) _ e
    one_covers x k (All y) e = e

outside : Outside
outside t bs (NodeOf x) f e = (framed_fold t f bs).node x e
outside t bs (Slot x k) f e = (framed_fold t f bs).slot x k e
outside t bs (All x) f e = λ k. (framed_fold t f bs).slot x k (all_covers x k (writes_all t bs) e)

pub footprints : Footprints
footprints = record { outside = outside; alike = λ t u bs f g h. alike_fold t u f g bs h; either_order = λ t bs cs f o hb hc apart. either_order t bs cs f o hb hc apart }
