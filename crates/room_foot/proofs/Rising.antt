-- The ids of a removal: a list that rises, as the entries of a tree do.
use Rattle.std.proofs.Common.{◌≡◌, ◌≢◌, ◌⊎◌, inl, inr, zero, suc, Bool, true, false, cond, T, List, [], ◌∷◌, Some, Less, Equal, refl, sym, ap, ◌∙◌, subst, arith}
use Rattle.std.specs.List.{AllByRecursion, Contains}
use Rattle.std.specs.List.Sorted.{IsStrictlySortedBy}
use Rattle.std.proofs.lemmas.Cmp.{tied_itself}
use Rattle.std.proofs.lemmas.Map.Keys.{sorted_head, sorted_tail}
use Rattle.std.specs.FinMap.{get, entries, entries_sorted, is_sorted}
use Rattle.std.specs.FinMap.Entries.{below_all}
use Rattle.room_ids.proofs.IdOrder.{node_cmp-total, node_cmp-exact}
use Rattle.room_ids.specs.Order.{node_cmp}
use Rattle.room_ids.specs.declared.ids.NodeId.{NodeId}
use Rattle.room_ids.specs.declared.ids.NodeId.TheVariants.{Root}
use Rattle.room_nodes.specs.Cells.{removal_among, removal_cells}
use Rattle.room_nodes.specs.Preorder.{preorder}
use Rattle.room_nodes.specs.Shape.{Nodes, IsFormed, is_below}
use Rattle.room_nodes.specs.declared.cells.Cell.{Cell}
use Rattle.room_nodes.specs.declared.cells.Cell.TheVariants.{Node as NodeOf, All}
use Rattle.room_nodes.specs.declared.nodes.Node.{Node}
use Rattle.room_nodes.proofs.Children.{answer_of, entry_of}
use Rattle.room_nodes.proofs.Listing.{Has, has_above, parts}
use Rattle.room_nodes.proofs.Tours.{has_below, is_within}
use Rattle.room_foot.specs.Rising.{ids_cells}

-- among the items of a list, as two words say it

pub has_contains : {A : Type 0} (x : A) (xs : List A) → Contains xs x → Has x xs
has_contains x [] (k, less, is) = absurd (omega arith)
has_contains x (y ∷ ys) (zero, less, is) = inl is
has_contains x (y ∷ ys) (suc k, less, is) = inr (has_contains x ys (k, omega arith, is))

pub contains_has : {A : Type 0} (x : A) (xs : List A) → Has x xs → Contains xs x
contains_has x [] h = absurd h
contains_has x (y ∷ ys) (inl e) = (0, omega arith, e)
contains_has x (y ∷ ys) (inr h) = let r = contains_has x ys h in (suc r.0, omega (arith, r.1), r.2)

-- ids that rise

abbrev Rises : List NodeId → Type 0
Rises [] = Unit {0}
Rises (x ∷ xs) = ((q : NodeId) → Has q xs → node_cmp x q ≡ Less) × Rises xs

all_has : (P : NodeId → Type 0) (xs : List NodeId) (q : NodeId) → AllByRecursion P xs → Has q xs → P q
all_has P [] q a h = absurd h
all_has P (x ∷ xs) q a (inl e) = subst P e a.0
all_has P (x ∷ xs) q a (inr h) = all_has P xs q a.1 h

pub rises_of : (xs : List NodeId) → IsStrictlySortedBy node_cmp xs → Rises xs
rises_of [] s = tt
rises_of (x ∷ xs) s = (λ q h. all_has (λ z. node_cmp x z ≡ Less) xs q (sorted_head node_cmp x xs s) h, rises_of xs (sorted_tail node_cmp x xs s))

not_less_itself : (x : NodeId) → node_cmp x x ≡ Less → ⊥
not_less_itself x e = let h : Equal ≡ Less = sym (tied_itself node_cmp-total x) ∙ e in cc

not_both : (x y : NodeId) → node_cmp x y ≡ Less → node_cmp y x ≡ Less → ⊥
not_both x y a b = not_less_itself x (node_cmp-total.trans x y x a b)

module _ (x y : NodeId) (xs ys : List NodeId) (rx : Rises (x ∷ xs)) (ry : Rises (y ∷ ys)) (to : (q : NodeId) → Has q (x ∷ xs) → Has q (y ∷ ys)) (from : (q : NodeId) → Has q (y ∷ ys) → Has q (x ∷ xs)) where
  heads_same : x ≡ y
  heads_same = elim (to x (inl refl)) [
    | inl e ↦ sym e
    | inr h ↦ elim (from y (inl refl)) [ inl e ↦ e | inr g ↦ absurd (not_both x y (rx.0 y g) (ry.0 x h)) ]
  ]

  tail_to : (q : NodeId) → Has q xs → Has q ys
  tail_to q h = elim (to q (inr h)) [
    | inl e ↦ absurd (not_less_itself q (subst (λ z. node_cmp z q ≡ Less) (heads_same ∙ e) (rx.0 q h)))
    | inr g ↦ g
  ]

  tail_from : (q : NodeId) → Has q ys → Has q xs
  tail_from q h = elim (from q (inr h)) [
    | inl e ↦ absurd (not_less_itself q (subst (λ z. node_cmp z q ≡ Less) (sym heads_same ∙ e) (ry.0 q h)))
    | inr g ↦ g
  ]

-- two that have the same ids are one
rising_same : (xs ys : List NodeId) → Rises xs → Rises ys → ((q : NodeId) → Has q xs → Has q ys) → ((q : NodeId) → Has q ys → Has q xs) → xs ≡ ys
rising_same [] [] rx ry to from = refl
rising_same [] (y ∷ ys) rx ry to from = absurd (from y (inl refl))
rising_same (x ∷ xs) [] rx ry to from = absurd (to x (inl refl))
rising_same (x ∷ xs) (y ∷ ys) rx ry to from =
    let e = heads_same x y xs ys rx ry to from in
    let es = rising_same xs ys rx.1 ry.1 (tail_to x y xs ys rx ry to from) (tail_from x y xs ys rx ry to from) in
    λ i. e i ∷ es i

-- the ids of a removal

module _ (t : Nodes) (top : NodeId) where
  abbrev pub ids_among : List (NodeId × Node) → List NodeId
  ids_among [] = []
  ids_among (e ∷ es) = cond (is_below t top e.0) (e.0 ∷ ids_among es) (ids_among es)

  cells_by : (b : Bool) (x : NodeId) (ds : List Cell) (xs : List NodeId) → ds ≡ ids_cells xs → cond b (NodeOf x ∷ All x ∷ ds) ds ≡ ids_cells (cond b (x ∷ xs) xs)
  cells_by true x ds xs e = ap (λ cs. NodeOf x ∷ All x ∷ cs) e
  cells_by false x ds xs e = e

  pub among_cells : (es : List (NodeId × Node)) → removal_among t top es ≡ ids_cells (ids_among es)
  among_cells [] = refl
  among_cells (e ∷ es) = cells_by (is_below t top e.0) e.0 (removal_among t top es) (ids_among es) (among_cells es)

  among_by : (b : Bool) (q x : NodeId) (xs : List NodeId) → is_below t top x ≡ b → Has q (cond b (x ∷ xs) xs) → ((x ≡ q) × (is_below t top x ≡ true)) ⊎ Has q xs
  among_by true q x xs e (inl h) = inl (h, e)
  among_by true q x xs e (inr h) = inr h
  among_by false q x xs e h = inr h

  -- what is among them
  among_has : (q : NodeId) (es : List (NodeId × Node)) → Has q (ids_among es) → (n : Node) × Has (q, n) es × (is_below t top q ≡ true)
  among_has q [] h = absurd h
  among_has q (e ∷ es) h = elim (among_by _ q e.0 (ids_among es) refl h) [
    | inl r ↦ (e.1, inl (λ i. (r.0 i, e.1)), ap (is_below t top) (sym r.0) ∙ r.1)
    | inr r ↦ let m = among_has q es r in (m.0, inr m.1, m.2)
  ]

  by_head : (b : Bool) (q x : NodeId) (xs : List NodeId) → x ≡ q → is_below t top x ≡ b → is_below t top q ≡ true → Has q (cond b (x ∷ xs) xs)
  by_head true q x xs e g h = inl e
  by_head false q x xs e g h = let no : true ≡ false = sym h ∙ ap (is_below t top) (sym e) ∙ g in cc

  by_tail : (b : Bool) (q x : NodeId) (xs : List NodeId) → Has q xs → Has q (cond b (x ∷ xs) xs)
  by_tail true q x xs h = inr h
  by_tail false q x xs h = h

  has_among : (q : NodeId) (n : Node) (es : List (NodeId × Node)) → Has (q, n) es → is_below t top q ≡ true → Has q (ids_among es)
  has_among q n [] h b = absurd h
  has_among q n (e ∷ es) (inl is) b = by_head _ q e.0 (ids_among es) (ap (λ (g : NodeId × Node). g.0) is) refl b
  has_among q n (e ∷ es) (inr h) b = by_tail (is_below t top e.0) q e.0 (ids_among es) (has_among q n es h b)

  rises_by : (b : Bool) (x : NodeId) (xs : List NodeId) → ((q : NodeId) → Has q xs → node_cmp x q ≡ Less) → Rises xs → Rises (cond b (x ∷ xs) xs)
  rises_by true x xs h r = (h, r)
  rises_by false x xs h r = r

  among_rises : (es : List (NodeId × Node)) → T (is_sorted node_cmp es) → Rises (ids_among es)
  among_rises [] s = tt
  among_rises (e ∷ es) s =
      let p = parts (below_all node_cmp e.0 es) _ s in
      rises_by (is_below t top e.0) e.0 (ids_among es)
      (λ q h. let m = among_has q es h in has_above node_cmp node_cmp-exact node_cmp-total e.0 (q, m.0) es p.0 m.1)
      (among_rises es p.1)

  -- an id is among them where its node is there and lies below
  pub removal_has : (q : NodeId) (n : Node) → get t q ≡ Some n → is_below t top q ≡ true → Has q (ids_among (entries t))
  removal_has q n e b = has_among q n (entries t) (entry_of t q n e) b

  pub has_removal : (q : NodeId) → Has q (ids_among (entries t)) → (n : Node) × (get t q ≡ Some n) × (is_below t top q ≡ true)
  has_removal q h = let m = among_has q (entries t) h in (m.0, answer_of t (q, m.0) m.1, m.2)

  module _ (f : IsFormed t) (made : top ≢ Root) where
    -- a list that rises and has what the preorder of the node has
    pub rising_cells : (xs : List NodeId) → Rises xs → ((q : NodeId) → Has q (preorder t top) → Has q xs) → ((q : NodeId) → Has q xs → (n : Node) × (get t q ≡ Some n) × Has q (preorder t top)) → ids_cells xs ≡ removal_cells t top
    rising_cells xs r to from =
        ap ids_cells (rising_same xs (ids_among (entries t)) r (among_rises (entries t) (entries_sorted t))
        (λ q h. let n = from q h in removal_has q n.0 n.1 (is_within t f top q n.2))
        (λ q h. let m = has_removal q h in to q (has_below t f top made q m.0 m.1 m.2)))
        ∙ sym (among_cells (entries t))
