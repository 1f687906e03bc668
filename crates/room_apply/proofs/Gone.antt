-- What a step removes lies in the operation's cells.
use Rattle.std.proofs.Common.{◌≡◌, ◌≢◌, ◌⊎◌, inl, inr, ℕ, Bool, true, false, cond, ◌||◌, List, [], ◌∷◌}
use Rattle.std.proofs.Common.{Option, Some, None, option_map, is_some, refl, sym, ap, ◌∙◌}
use Rattle.std.specs.FinMap.{get, entries}
use Rattle.room_ids.specs.Order.{is_same}
use Rattle.room_ids.specs.declared.ids.NodeId.{NodeId}
use Rattle.room_ids.specs.declared.ids.NodeId.TheVariants.{Root}
use Rattle.room_nodes.specs.Cells.{bare, overlaps, overlaps_some, reads, writes, effect_cells, create_reads}
use Rattle.room_nodes.specs.Cells.{delete_reads, set_key_reads}
use Rattle.room_nodes.specs.Cells.{removal_among, removal_cells, removal_of, slot_cells, slots_cells, replaced_cells}
use Rattle.room_nodes.specs.Primitives.{key_in}
use Rattle.room_nodes.specs.Shape.{Nodes, IsFormed, child_at, is_below, parent_of, up}
use Rattle.room_nodes.specs.Steps.{effect, holds_list, is_under, is_void}
use Rattle.room_nodes.specs.declared.cells.Cell.{Cell}
use Rattle.room_nodes.specs.declared.cells.Cell.TheVariants.{Node as NodeOf, Slot, All}
use Rattle.room_nodes.specs.declared.nodes.Body.{Body}
use Rattle.room_nodes.specs.declared.nodes.Body.TheVariants.{SetKey, Create, Update, Delete, DeleteKey}
use Rattle.room_nodes.specs.declared.nodes.Node.{Node}
use Rattle.room_nodes.proofs.Fitting.{both, the_root}
use Rattle.room_nodes.proofs.Gets.{get_here, same, same_self, some_none, true_false}
use Rattle.room_nodes.proofs.StepForm.{at_node}
use Rattle.room_nodes.proofs.Steps.{neither, not_false}
use Rattle.room_steps.proofs.Booleans.{or_parts, or_left, or_right}
use Rattle.room_steps.proofs.Covering.{covered-append}
use Rattle.room_steps.proofs.Kin.{child_of, found}
use Rattle.room_steps.proofs.Operations.{writes_by}
use Rattle.room_steps.proofs.Touching.{Framed}
use Rattle.room_apply.specs.Within.{FieldsOf, IsPlaceIn, cells}

-- among the cells of an operation

pub in_reads : (c : Cell) (t : Nodes) (b : Body) → overlaps_some c (reads t b) ≡ true
    → overlaps_some c (cells t b) ≡ true
in_reads c t b e = covered-append c (reads t b) (writes t b) ∙ or_left _ _ e

pub in_writes : (c : Cell) (t : Nodes) (b : Body) → overlaps_some c (writes t b) ≡ true
    → overlaps_some c (cells t b) ≡ true
in_writes c t b e = covered-append c (reads t b) (writes t b) ∙ or_right (overlaps_some c (reads t b)) _ e

pub in_effect : (c : Cell) (t : Nodes) (b : Body) → is_void t b ≡ false → overlaps_some c (effect_cells t b) ≡ true
    → overlaps_some c (cells t b) ≡ true
in_effect c t b live e = in_writes c t b (ap (overlaps_some c) (writes_by t b false live) ∙ e)

-- a removal has each of its nodes with all slots

module _ (t : Nodes) (q : NodeId) (j : List ℕ) where
  entry_same : (b : Bool) (x : NodeId) (ds : List Cell) → overlaps_some (NodeOf q) ds ≡ overlaps_some (Slot q j) ds
      → overlaps_some (NodeOf q) (cond b (NodeOf x ∷ All x ∷ ds) ds)
      ≡ overlaps_some (Slot q j) (cond b (NodeOf x ∷ All x ∷ ds) ds)
  entry_same true x ds e = ap (λ r. is_same q x || r) e
  entry_same false x ds e = e

  among_same : (y : NodeId) (es : List (NodeId × Node))
      → overlaps_some (NodeOf q) (removal_among t y es) ≡ overlaps_some (Slot q j) (removal_among t y es)
  among_same y [] = refl
  among_same y (e ∷ es) = entry_same (is_below t y e.0) e.0 (removal_among t y es) (among_same y es)

  pub removal_same : (o : Option NodeId)
      → overlaps_some (NodeOf q) (removal_of t o) ≡ overlaps_some (Slot q j) (removal_of t o)
  removal_same None = refl
  removal_same (Some y) = among_same y (entries t)

  replaced_by : (y : NodeId) (b : Bool) → overlaps_some (NodeOf q) (cond b (removal_cells t y) [])
      ≡ overlaps_some (Slot q j) (cond b (removal_cells t y) [])
  replaced_by y true = among_same y (entries t)
  replaced_by y false = refl

  replaced_same : (p : NodeId) (r : Option NodeId)
      → overlaps_some (NodeOf q) (replaced_cells t p r) ≡ overlaps_some (Slot q j) (replaced_cells t p r)
  replaced_same p None = refl
  replaced_same p (Some y) = replaced_by y (is_under p y (get t y))

  -- a node among the slots of x has all its slots there
  slot_all : (x : NodeId) (k : List ℕ) → overlaps_some (NodeOf q) (slot_cells t x k) ≡ true
      → overlaps_some (Slot q j) (slot_cells t x k) ≡ true
  slot_all x k e = or_right (overlaps (Slot q j) (Slot x k)) _ (sym (removal_same (child_at t x k)) ∙ e)

  slots_all : (x : NodeId) (fs : FieldsOf) → overlaps_some (NodeOf q) (slots_cells t x fs) ≡ true
      → overlaps_some (Slot q j) (slots_cells t x fs) ≡ true
  slots_all x [] e = cc
  slots_all x (f ∷ fs) e =
      covered-append (Slot q j) (slot_cells t x f.0) (slots_cells t x fs)
      ∙ elim (or_parts (overlaps_some (NodeOf q) (slot_cells t x f.0)) _
      (sym (covered-append (NodeOf q) (slot_cells t x f.0) (slots_cells t x fs)) ∙ e)) [
        | inl a ↦ or_left _ _ (slot_all x f.0 a)
        | inr b ↦ or_right (overlaps_some (Slot q j) (slot_cells t x f.0)) _ (slots_all x fs b)
      ]

  create_all : (x p : NodeId) (k : List ℕ) (r : Option NodeId) (b : Bool)
      → overlaps_some (NodeOf q) (NodeOf x ∷ All x ∷ cond b (All p ∷ replaced_cells t p r) (slot_cells t p k)) ≡ true
      → overlaps_some (Slot q j) (NodeOf x ∷ All x ∷ cond b (All p ∷ replaced_cells t p r) (slot_cells t p k)) ≡ true
  create_all x p k r b e = elim (or_parts (is_same q x) _ e) [
    | inl a ↦ or_left _ _ a
    | inr c ↦ or_right (is_same q x) _ (create_rest p k r b c)
  ]
    where
      create_rest : (p : NodeId) (k : List ℕ) (r : Option NodeId) (b : Bool)
          → overlaps_some (NodeOf q) (cond b (All p ∷ replaced_cells t p r) (slot_cells t p k)) ≡ true
          → overlaps_some (Slot q j) (cond b (All p ∷ replaced_cells t p r) (slot_cells t p k)) ≡ true
      create_rest p k r true e = or_right (is_same q p) _ (sym (replaced_same p r) ∙ e)
      create_rest p k r false e = slot_all p k e

  first_all : (b : Bool) (p : NodeId) (k : List ℕ) (ds : List Cell)
      → overlaps_some (NodeOf q) ds ≡ overlaps_some (Slot q j) ds
      → overlaps_some (NodeOf q) (cond b (All p) (Slot p k) ∷ ds) ≡ true
      → overlaps_some (Slot q j) (cond b (All p) (Slot p k) ∷ ds) ≡ true
  first_all true p k ds h e = or_right (is_same q p) _ (sym h ∙ e)
  first_all false p k ds h e = or_right (overlaps (Slot q j) (Slot p k)) _ (sym h ∙ e)

  -- a node that an operation writes has all its slots there, but for a key that is set
  all_slots : (b : Body) → get (effect t b) q ≡ None → (n : Node) → get t q ≡ Some n
      → overlaps_some (NodeOf q) (effect_cells t b) ≡ true → overlaps_some (Slot q j) (effect_cells t b) ≡ true
  all_slots (SetKey x k) gone n there e =
      let is : q ≡ x = same q x (elim (or_parts (is_same q x) _ e) [ inl a ↦ a | inr c ↦ absurd (true_false (sym c)) ])
      in
      let at = at_node t x (λ v. record v { key = k }) n (ap (get t) (sym is) ∙ there) in
      absurd (some_none (record n { key = k }) (sym (get_here t x (record n { key = k }))
      ∙ ap (λ (v : Nodes). get v x) (sym at) ∙ ap (get (effect t (SetKey x k))) (sym is) ∙ gone))
  all_slots (Create x p k r kind) gone n there e = create_all x p k r (holds_list (get t p)) e
  all_slots (Update x fs) gone n there e = slots_all x fs e
  all_slots (Delete x) gone n there e = first_all (holds_list (get t (up t x))) (up t x) (key_in (get t x))
      (removal_cells t x) (among_same x (entries t)) e
  all_slots (DeleteKey x k) gone n there e = slot_all x k e

-- a slot that an operation writes has its node among the cells

abbrev HasNode : NodeId → NodeId → List Cell → Type 0
HasNode q x ds = (q ≡ x) ⊎ (overlaps_some (NodeOf q) ds ≡ true)

module _ (t : Nodes) (q : NodeId) (j : List ℕ) where
  slot_node : (x : NodeId) (k : List ℕ) → overlaps_some (Slot q j) (slot_cells t x k) ≡ true
      → HasNode q x (slot_cells t x k)
  slot_node x k e = elim (or_parts (overlaps (Slot q j) (Slot x k)) _ e) [
    | inl a ↦ inl (same q x (both (is_same q x) _ a).0)
    | inr b ↦ inr (removal_same t q j (child_at t x k) ∙ b)
  ]

  slots_node : (x : NodeId) (fs : FieldsOf) → overlaps_some (Slot q j) (slots_cells t x fs) ≡ true
      → HasNode q x (slots_cells t x fs)
  slots_node x [] e = cc
  slots_node x (f ∷ fs) e =
      let split = covered-append (NodeOf q) (slot_cells t x f.0) (slots_cells t x fs) in
      elim (or_parts (overlaps_some (Slot q j) (slot_cells t x f.0)) _
      (sym (covered-append (Slot q j) (slot_cells t x f.0) (slots_cells t x fs)) ∙ e)) [
        | inl a ↦ elim (slot_node x f.0 a) [ inl i ↦ inl i | inr h ↦ inr (split ∙ or_left _ _ h) ]
        | inr b ↦ elim (slots_node x fs b) [
          | inl i ↦ inl i
          | inr h ↦ inr (split
              ∙ or_right (overlaps_some (NodeOf q) (slot_cells t x f.0)) _ h)
        ]
      ]

  first_node : (b : Bool) (p : NodeId) (k : List ℕ) (ds : List Cell)
      → overlaps_some (NodeOf q) ds ≡ overlaps_some (Slot q j) ds
      → overlaps_some (Slot q j) (cond b (All p) (Slot p k) ∷ ds) ≡ true → HasNode q p (cond b (All p) (Slot p k) ∷ ds)
  first_node true p k ds h e = elim (or_parts (is_same q p) _ e) [ inl a ↦ inl (same q p a) | inr b ↦ inr (h ∙ b) ]
  first_node false p k ds h e = elim (or_parts (overlaps (Slot q j) (Slot p k)) _ e) [
    | inl a ↦ inl
        (same q p (both (is_same q p) _ a).0)
    | inr b ↦ inr (h ∙ b)
  ]

  create_node : (x p : NodeId) (k : List ℕ) (r : Option NodeId) (b : Bool)
      → overlaps_some (Slot q j) (NodeOf x ∷ All x ∷ cond b (All p ∷ replaced_cells t p r) (slot_cells t p k)) ≡ true
      → HasNode q p (NodeOf x ∷ All x ∷ cond b (All p ∷ replaced_cells t p r) (slot_cells t p k))
  create_node x p k r b e = elim (or_parts (is_same q x) _ e) [
    | inl a ↦ inr (or_left _ _ a)
    | inr c ↦ elim (rest b c) [ inl i ↦ inl i | inr h ↦ inr (or_right (is_same q x) _ h) ]
  ]
    where
      rest : (b : Bool) → overlaps_some (Slot q j) (cond b (All p ∷ replaced_cells t p r) (slot_cells t p k)) ≡ true
          → HasNode q p (cond b (All p ∷ replaced_cells t p r) (slot_cells t p k))
      rest true e = elim (or_parts (is_same q p) _ e) [
        | inl a ↦ inl (same q p a)
        | inr h ↦ inr (replaced_same t q j p r
            ∙ h)
      ]
      rest false e = slot_node p k e

  pub read_create : (x p : NodeId) (r : Option NodeId) (b : Bool)
      → overlaps_some (NodeOf p) (create_reads x p r b) ≡ true
  read_create x p r true = or_right (is_same p x) _ (or_left _ _ (same_self p))
  read_create x p r false = or_right (is_same p x) _ (or_left _ _ (same_self p))

  pub read_above : (x : NodeId) (o : Option Node) → is_some o ≡ true
      → overlaps_some (NodeOf (parent_of o)) (delete_reads x o) ≡ true
  read_above x None e = cc
  read_above x (Some n) e = or_right (is_same n.parent x) _ (or_left _ _ (same_self n.parent))

  pub read_beside : (x : NodeId) (o : Option Node) → is_some o ≡ true
      → overlaps_some (NodeOf (parent_of o)) (set_key_reads t x o) ≡ true
  read_beside x None e = cc
  read_beside x (Some n) e = or_right (is_same n.parent x) _ (or_left _ _ (same_self n.parent))

  from : (x : NodeId) (b : Body) → is_void t b ≡ false → overlaps_some (NodeOf x) (reads t b) ≡ true
      → HasNode q x (effect_cells t b) → overlaps_some (NodeOf q) (cells t b) ≡ true
  from x b live read h = elim h [
    | inl i ↦ in_reads (NodeOf q) t b (ap (λ z. overlaps_some (NodeOf z) (reads t b)) i ∙ read)
    | inr e ↦ in_effect (NodeOf q) t b live e
  ]

  node_too : (b : Body) → is_void t b ≡ false → overlaps_some (Slot q j) (effect_cells t b) ≡ true
      → overlaps_some (NodeOf q) (cells t b) ≡ true
  node_too (SetKey x k) live e =
      let there = not_false _ (neither _ _ live).0 in
      from (up t x) (SetKey x k) live (read_beside x (get t x) there)
      (elim (or_parts (is_same q (up t x)) _ e) [
        | inl a ↦ inl (same q (up t x) a)
        | inr c ↦ absurd
            (true_false (sym c))
      ])
  node_too (Create x p k r kind) live e = from p (Create x p k r kind) live (read_create x p r (holds_list (get t p)))
      (create_node x p k r (holds_list (get t p)) e)
  node_too (Update x fs) live e = from x (Update x fs) live (or_left _ _ (same_self x)) (slots_node x fs e)
  node_too (Delete x) live e =
      let there = not_false _ (neither _ _ live).0 in
      from (up t x) (Delete x) live (read_above x (get t x) there)
      (first_node (holds_list (get t (up t x))) (up t x) (key_in (get t x)) (removal_cells t x)
      (among_same t q j x (entries t)) e)
  node_too (DeleteKey x k) live e = from x (DeleteKey x k) live (or_left _ _ (same_self x)) (slot_node x k e)

-- a node that a step removes

by_test : (b : Bool) → (b ≡ false → ⊥) → b ≡ true
by_test true h = refl
by_test false h = absurd (h refl)

module _ (t : Nodes) (f : IsFormed t) (b : Body) (live : is_void t b ≡ false) (g : IsFormed (effect t b))
    (framed : Framed t (effect t b) (effect_cells t b)) where
  abbrev u : Nodes
  u = effect t b

  module _ (x : NodeId) (n : Node) (there : get t x ≡ Some n) (gone : get u x ≡ None) where
    made : x ≢ Root
    made e = let r = the_root u g in some_none r.0 (sym r.1 ∙ ap (get u) (sym e) ∙ gone)

    node_in : overlaps_some (NodeOf x) (effect_cells t b) ≡ true
    node_in = by_test _ (λ off. some_none (bare n) (sym (ap (option_map bare) there) ∙ framed.node x off
        ∙ ap (option_map bare) gone))

    slot_in : overlaps_some (Slot n.parent n.key) (effect_cells t b) ≡ true
    slot_in = by_test _ (λ off.
        let s = framed.slot n.parent n.key off in
        let c = child_of u n.parent n.key x (sym s.1
        ∙ found t f n.parent n.key x (record { node = n; there = there; made = made; parent = refl; key = refl }))
        in
        some_none c.node (sym c.there ∙ gone))

    pub place_gone : IsPlaceIn (cells t b) x n.parent n.key
    place_gone = record {
      node = in_effect (NodeOf x) t b live node_in;
      slots = λ j. in_effect (Slot x j) t b live (all_slots t x j b gone n there node_in);
      parent = node_too t n.parent n.key b live slot_in;
      slot = in_effect (Slot n.parent n.key) t b live slot_in;
    }
