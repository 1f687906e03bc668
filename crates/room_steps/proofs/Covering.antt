-- Which cells a list of cells covers.
use Rattle.std.proofs.Common.{◌≡◌, ◌⊎◌, inl, inr, ℕ, Bool, true, false, cond, ◌&&◌, ◌||◌, List, [], ◌∷◌, ◌++◌, Option, Some, None, is_some, refl, sym, ap, ◌∙◌, subst}
use Rattle.std.specs.FinMap.{get, entries}
use Rattle.room_ids.specs.Order.{is_same}
use Rattle.room_ids.specs.declared.ids.NodeId.{NodeId}
use Rattle.room_nodes.specs.Cells.{Agrees, AgreesOn, SameSlot, overlaps, overlaps_some, removal_among, removal_cells}
use Rattle.room_nodes.specs.Shape.{Nodes, is_below}
use Rattle.room_nodes.specs.declared.cells.Cell.{Cell}
use Rattle.room_nodes.specs.declared.cells.Cell.TheVariants.{Node as NodeOf, Slot, All}
use Rattle.room_nodes.specs.declared.nodes.Node.{Node}
use Rattle.room_nodes.proofs.Children.{entry_of}
use Rattle.room_nodes.proofs.Gets.{same, same_self, true_false}
use Rattle.room_nodes.proofs.Listing.{Has}
use Rattle.room_nodes.proofs.Fitting.{both}
use Rattle.room_steps.proofs.Booleans.{or_parts, or_left, or_right}
use Rattle.room_steps.proofs.Fields.{same_name}

-- a cell against two lists, one behind the other

assoc : (a b c : Bool) → (a || (b || c)) ≡ ((a || b) || c)
assoc true b c = refl
assoc false b c = refl

pub covered-append : (c : Cell) (ds es : List Cell) → overlaps_some c (ds ++ es) ≡ (overlaps_some c ds || overlaps_some c es)
covered-append c [] es = refl
covered-append c (d ∷ ds) es = ap (λ b. overlaps c d || b) (covered-append c ds es) ∙ assoc (overlaps c d) (overlaps_some c ds) (overlaps_some c es)

-- trees that agree on a list agree on each node and slot that it covers

module _ (t u : Nodes) where
  pub Agrees-append : (ds es : List Cell) → Agrees t u (ds ++ es) → Agrees t u ds × Agrees t u es
  Agrees-append [] es h = (tt, h)
  Agrees-append (d ∷ ds) es h = let r = Agrees-append ds es h.1 in ((h.0, r.0), r.1)

  node_by : (q : NodeId) (d : Cell) → AgreesOn t u d → overlaps (NodeOf q) d ≡ true → AgreesOn t u (NodeOf q)
  node_by q (NodeOf x) h e = subst (λ z. AgreesOn t u (NodeOf z)) (sym (same q x e)) h
  node_by q (Slot x k) h e = cc
  node_by q (All x) h e = cc

  slot_by : (q : NodeId) (k : List ℕ) (d : Cell) → AgreesOn t u d → overlaps (Slot q k) d ≡ true → AgreesOn t u (Slot q k)
  slot_by q k (NodeOf x) h e = cc
  slot_by q k (Slot x j) h e =
      let p = both (is_same q x) _ e in
      subst (λ z. SameSlot t u z k) (sym (same q x p.0)) (subst (λ i. SameSlot t u x i) (sym (same_name k j p.1)) h)
  slot_by q k (All x) h e = subst (λ z. SameSlot t u z k) (sym (same q x e)) (h k)

  pub on_node : (q : NodeId) (ds : List Cell) → Agrees t u ds → overlaps_some (NodeOf q) ds ≡ true → AgreesOn t u (NodeOf q)
  on_node q [] h e = cc
  on_node q (d ∷ ds) h e = elim (or_parts (overlaps (NodeOf q) d) _ e) [ inl a ↦ node_by q d h.0 a | inr b ↦ on_node q ds h.1 b ]

  pub on_slot : (q : NodeId) (k : List ℕ) (ds : List Cell) → Agrees t u ds → overlaps_some (Slot q k) ds ≡ true → AgreesOn t u (Slot q k)
  on_slot q k [] h e = cc
  on_slot q k (d ∷ ds) h e = elim (or_parts (overlaps (Slot q k) d) _ e) [ inl a ↦ slot_by q k d h.0 a | inr b ↦ on_slot q k ds h.1 b ]

-- the removal of y covers the nodes below it that are there, with all their slots

abbrev pub is_hit : Nodes → NodeId → NodeId → Bool
is_hit t y q = is_some (get t q) && is_below t y q

module _ (t : Nodes) (y : NodeId) where
  abbrev Covers : Cell → NodeId → Type 0
  Covers c q = (overlaps c (NodeOf q) ≡ true) ⊎ (overlaps c (All q) ≡ true)

  covers_entry : (c : Cell) (q : NodeId) → Covers c q → (e : NodeId × Node) → e.0 ≡ q → (b : Bool) → is_below t y e.0 ≡ b → is_below t y q ≡ true → (es : List (NodeId × Node))
      → overlaps_some c (cond b (NodeOf e.0 ∷ All e.0 ∷ removal_among t y es) (removal_among t y es)) ≡ true
  covers_entry c q h e is true g below es = elim h [
    | inl a ↦ or_left _ _ (ap (λ z. overlaps c (NodeOf z)) is ∙ a)
    | inr a ↦ or_right (overlaps c (NodeOf e.0)) _ (or_left _ _ (ap (λ z. overlaps c (All z)) is ∙ a))
  ]
  covers_entry c q h e is false g below es = absurd (true_false (sym below ∙ ap (is_below t y) (sym is) ∙ g))

  covers_later : (c : Cell) (e : NodeId × Node) (b : Bool) (ds : List Cell) → overlaps_some c ds ≡ true → overlaps_some c (cond b (NodeOf e.0 ∷ All e.0 ∷ ds) ds) ≡ true
  covers_later c e true ds h = or_right (overlaps c (NodeOf e.0)) _ (or_right (overlaps c (All e.0)) _ h)
  covers_later c e false ds h = h

  covers_among : (c : Cell) (q : NodeId) (n : Node) → Covers c q → is_below t y q ≡ true → (es : List (NodeId × Node)) → Has (q, n) es → overlaps_some c (removal_among t y es) ≡ true
  covers_among c q n h below [] m = absurd m
  covers_among c q n h below (e ∷ es) m = elim m [
    | inl is ↦ covers_entry c q h e (ap (λ (z : NodeId × Node). z.0) is) _ refl below es
    | inr g ↦ covers_later c e (is_below t y e.0) (removal_among t y es) (covers_among c q n h below es g)
  ]

  hit_node : (q : NodeId) (o : Option Node) → get t q ≡ o → (is_some o && is_below t y q) ≡ true → (n : Node) × (get t q ≡ Some n) × (is_below t y q ≡ true)
  hit_node q None e h = cc
  hit_node q (Some n) e h = (n, e, h)

  pub hit_is : (q : NodeId) → is_hit t y q ≡ true → (n : Node) × (get t q ≡ Some n) × (is_below t y q ≡ true)
  hit_is q h = hit_node q (get t q) refl h

  pub hit_of : (q : NodeId) (n : Node) → get t q ≡ Some n → is_below t y q ≡ true → is_hit t y q ≡ true
  hit_of q n e h = rw (e, h) refl

  pub covers_node : (q : NodeId) → is_hit t y q ≡ true → overlaps_some (NodeOf q) (removal_cells t y) ≡ true
  covers_node q h = let b = hit_is q h in covers_among (NodeOf q) q b.0 (inl (same_self q)) b.2 (entries t) (entry_of t q b.0 b.1)

  pub covers_slot : (q : NodeId) (k : List ℕ) → is_hit t y q ≡ true → overlaps_some (Slot q k) (removal_cells t y) ≡ true
  covers_slot q k h = let b = hit_is q h in covers_among (Slot q k) q b.0 (inr (same_self q)) b.2 (entries t) (entry_of t q b.0 b.1)
