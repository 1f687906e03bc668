-- Written cells meet where what leads one side's parts is among the other's cells.
use Rattle.std.proofs.Common.{◌≡◌, ◌≢◌, ◌+◌, ◌⊎◌, inl, inr, ℕ, zero, suc, Bool, true, false, cond, not, ◌&&◌, ◌||◌, List, [], ◌∷◌, ◌++◌, Option, Some, None, is_some, refl, sym, ap, ◌∙◌, subst, arith, append-nil, append_assoc}
use Rattle.std.specs.FinMap.{get}
use Rattle.std.specs.Cmp.Lexicographic.{slice_cmp}
use Rattle.std.specs.Ordering.{nat_cmp, eq_by_cmp}
use Rattle.room_json.specs.Value.{Value}
use Rattle.room_ids.specs.Order.{is_same}
use Rattle.room_ids.specs.declared.ids.NodeId.{NodeId}
use Rattle.room_ids.specs.declared.ids.NodeId.TheVariants.{Root}
use Rattle.room_nodes.specs.Cells.{effect_cells, is_apart, meets, overlaps, overlaps_some, reads, removal_cells, removal_of, replaced_cells, slot_cells, slots_cells, writes}
use Rattle.room_nodes.specs.Shape.{Nodes, IsFormed, child_at, is_below}
use Rattle.room_nodes.specs.Steps.{holds_list, is_under, is_void}
use Rattle.room_nodes.specs.declared.cells.Cell.{Cell}
use Rattle.room_nodes.specs.declared.cells.Cell.TheVariants.{Node as NodeOf, Slot, All}
use Rattle.room_nodes.specs.declared.nodes.Body.{Body}
use Rattle.room_nodes.specs.declared.nodes.Body.TheVariants.{SetKey, Create, Update, Delete, DeleteKey}
use Rattle.room_nodes.specs.declared.nodes.Node.{Node}
use Rattle.room_nodes.proofs.Below.{below_self, below_step, leads_root}
use Rattle.room_nodes.proofs.Fitting.{both, some_of, the_parent}
use Rattle.room_nodes.proofs.Gets.{one_or_two, same, same_self}
use Rattle.room_nodes.proofs.Listing.{Has}
use Rattle.room_nodes.proofs.Steps.{neither, not_false}
use Rattle.room_steps.proofs.Booleans.{both_ways, or_left, or_parts, or_right}
use Rattle.room_steps.proofs.Covering.{hit_is, hit_of, is_hit}
use Rattle.room_steps.proofs.Fields.{key_self, same_name}
use Rattle.room_steps.proofs.Kin.{child_of}
use Rattle.room_steps.proofs.Operations.{writes_by}
use Rattle.room_foot.proofs.Removals.{covered_both, covers_has, has_covers, one_owner, removal_covers, removal_has_top, removal_owner}
use Rattle.room_foot.specs.Parts.{Part, one, removal, cells_in, cells_of, effect_parts, head_of, heads, removal_part, replaced_parts, slot_parts, slots_parts, write_parts}
use Rattle.room_foot.specs.Spots.{owner, place_cell}

-- overlap goes both ways

swap_id : (x y : NodeId) → is_same x y ≡ true → is_same y x ≡ true
swap_id x y e = ap (is_same y) (same x y e) ∙ same_self y

swapped : (c d : Cell) → overlaps c d ≡ true → overlaps d c ≡ true
swapped (NodeOf x) (NodeOf y) e = swap_id x y e
swapped (NodeOf x) (Slot y k) e = cc
swapped (NodeOf x) (All y) e = cc
swapped (Slot x j) (NodeOf y) e = cc
swapped (Slot x j) (Slot y k) e =
    let p = both (is_same x y) _ e in
    ap (λ b. b && eq_by_cmp (slice_cmp nat_cmp) k j) (swap_id x y p.0) ∙ ap (eq_by_cmp (slice_cmp nat_cmp) k) (same_name j k p.1) ∙ key_self k
swapped (Slot x j) (All y) e = swap_id x y e
swapped (All x) (NodeOf y) e = cc
swapped (All x) (Slot y k) e = swap_id x y e
swapped (All x) (All y) e = swap_id x y e

-- meeting as a relation

meets_of : (c : Cell) (cs ds : List Cell) → Has c cs → overlaps_some c ds ≡ true → meets cs ds ≡ true
meets_of c [] ds h o = absurd h
meets_of c (e ∷ cs) ds (inl is) o = or_left _ _ (ap (λ z. overlaps_some z ds) is ∙ o)
meets_of c (e ∷ cs) ds (inr h) o = or_right (overlaps_some e ds) _ (meets_of c cs ds h o)

of_meets : (cs ds : List Cell) → meets cs ds ≡ true → (c : Cell) × Has c cs × (overlaps_some c ds ≡ true)
of_meets [] ds e = cc
of_meets (c ∷ cs) ds e = elim (or_parts (overlaps_some c ds) _ e) [
  | inl a ↦ (c, inl refl, a)
  | inr b ↦ let r = of_meets cs ds b in (r.0, inr r.1, r.2)
]

turned : (cs ds : List Cell) → meets cs ds ≡ true → meets ds cs ≡ true
turned cs ds e =
    let c = of_meets cs ds e in
    let d = covers_has c.0 ds c.2 in
    meets_of d.0 ds cs d.1 (has_covers d.0 c.0 cs c.1 (swapped c.0 d.0 d.2))

pub meets_turned : (cs ds : List Cell) → meets cs ds ≡ meets ds cs
meets_turned cs ds = both_ways (meets cs ds) (meets ds cs) (turned cs ds) (turned ds cs)

or_assoc : (a b c : Bool) → ((a || b) || c) ≡ (a || (b || c))
or_assoc true b c = refl
or_assoc false b c = refl

pub meets_more : (cs es ds : List Cell) → meets (cs ++ es) ds ≡ (meets cs ds || meets es ds)
meets_more [] es ds = refl
meets_more (c ∷ cs) es ds = ap (λ b. overlaps_some c ds || b) (meets_more cs es ds) ∙ sym (or_assoc (overlaps_some c ds) (meets cs ds) (meets es ds))

meets_both : (cs ds es : List Cell) → meets cs (ds ++ es) ≡ (meets cs ds || meets cs es)
meets_both cs ds es = meets_turned cs (ds ++ es) ∙ meets_more ds es cs ∙ (λ i. meets_turned ds cs i || meets_turned es cs i)

meets_none : (cs : List Cell) → meets cs [] ≡ false
meets_none [] = refl
meets_none (c ∷ cs) = meets_none cs

-- of two nodes above one, one is above the other

module _ (t : Nodes) (f : IsFormed t) (y z : NodeId) where
  chain_from : (d : ℕ) (q : NodeId) (n : Node) → get t q ≡ Some n → n.depth ≡ d → q ≢ Root → is_below t y q ≡ true → is_below t z q ≡ true
      → ((m : Node) → get t n.parent ≡ Some m → m.depth + 1 ≡ d → is_below t y n.parent ≡ true → is_below t z n.parent ≡ true → (is_below t z y ≡ true) ⊎ (is_below t y z ≡ true))
      → (is_below t z y ≡ true) ⊎ (is_below t y z ≡ true)
  chain_from d q n e deep other a b more = elim (or_parts (is_same q y) _ (sym (below_step t f y q n other e) ∙ a)) [
    | inl s ↦ inl (ap (is_below t z) (sym (same q y s)) ∙ b)
    | inr up ↦ elim (or_parts (is_same q z) _ (sym (below_step t f z q n other e) ∙ b)) [
      | inl s ↦ inr (ap (is_below t y) (sym (same q z s)) ∙ a)
      | inr up2 ↦
          let p = the_parent t f q n other e in
          let h : n.depth ≡ p.0.depth + 1 = p.2.depth in
          more p.0 p.1 (sym h ∙ deep) up up2
    ]
  ]

  at_root : (q : NodeId) → q ≡ Root → is_below t y q ≡ true → is_below t z q ≡ true → is_below t z y ≡ true
  unfolding is_below
  at_root q r a b =
      let root : Root ≡ y = same Root y (sym (leads_root t f 60 y) ∙ ap (is_below t y) (sym r) ∙ a) in
      ap (is_below t z) (sym root ∙ sym r) ∙ b

  chain_at : (d : ℕ) (q : NodeId) (n : Node) → get t q ≡ Some n → n.depth ≡ d → is_below t y q ≡ true → is_below t z q ≡ true → (is_below t z y ≡ true) ⊎ (is_below t y z ≡ true)
  chain_at zero q n e deep a b = elim (one_or_two q Root) [
    | inl r ↦ inl (at_root q r a b)
    | inr other ↦ chain_from zero q n e deep other a b (λ m h less u v. absurd (omega (arith, less)))
  ]
  chain_at (suc d) q n e deep a b = elim (one_or_two q Root) [
    | inl r ↦ inl (at_root q r a b)
    | inr other ↦ chain_from (suc d) q n e deep other a b (λ m h less u v. chain_at d n.parent m h (omega (arith, less)) u v)
  ]

  chain : (q : NodeId) → is_hit t y q ≡ true → is_hit t z q ≡ true → (is_below t z y ≡ true) ⊎ (is_below t y z ≡ true)
  chain q a b = let m = hit_is t y q a in chain_at m.0.depth q m.0 m.1 refl m.2 (hit_is t z q b).2

-- parts

module _ (t : Nodes) where
  abbrev pub AreThere : List Part → Type 0
  AreThere [] = Unit {0}
  AreThere (one c ∷ ps) = AreThere ps
  AreThere (removal y ∷ ps) = (is_some (get t y) ≡ true) × AreThere ps

  top_hit : (y : NodeId) → is_some (get t y) ≡ true → is_hit t y y ≡ true
  top_hit y h = let n = some_of (get t y) h in hit_of t y y n.0 n.1 (below_self t y)

  has_left : (c : Cell) (cs ds : List Cell) → Has c cs → Has c (cs ++ ds)
  has_left c [] ds h = absurd h
  has_left c (e ∷ cs) ds (inl is) = inl is
  has_left c (e ∷ cs) ds (inr h) = inr (has_left c cs ds h)

  has_right : (c : Cell) (cs ds : List Cell) → Has c ds → Has c (cs ++ ds)
  has_right c [] ds h = h
  has_right c (e ∷ cs) ds h = inr (has_right c cs ds h)

  has_either : (c : Cell) (cs ds : List Cell) → Has c (cs ++ ds) → Has c cs ⊎ Has c ds
  has_either c [] ds h = inr h
  has_either c (e ∷ cs) ds (inl is) = inl (inl is)
  has_either c (e ∷ cs) ds (inr h) = elim (has_either c cs ds h) [ inl a ↦ inl (inr a) | inr b ↦ inr b ]

  -- a cell of parts leads one, or is taken by a removal
  led : (c : Cell) (ps : List Part) → Has c (cells_of t ps) → Has c (heads ps) ⊎ ((y : NodeId) × Has (removal y) ps × (is_hit t y (owner c) ≡ true))
  led c [] h = absurd h
  led c (one d ∷ ps) (inl is) = inl (inl is)
  led c (one d ∷ ps) (inr h) = elim (led c ps h) [ inl a ↦ inl (inr a) | inr b ↦ inr (b.0, inr b.1, b.2) ]
  led c (removal y ∷ ps) h = elim (has_either c (removal_cells t y) (cells_of t ps) h) [
    | inl a ↦ inr (y, inl refl, removal_owner t y c a)
    | inr g ↦ elim (led c ps g) [ inl a ↦ inl (inr a) | inr b ↦ inr (b.0, inr b.1, b.2) ]
  ]

  head_has : (y : NodeId) (ps : List Part) → Has (removal y) ps → Has (NodeOf y) (heads ps)
  head_has y [] h = absurd h
  head_has y (p ∷ ps) (inl is) = inl (ap head_of is)
  head_has y (p ∷ ps) (inr h) = inr (head_has y ps h)

  -- those that lead are cells too
  heads_in : (c : Cell) (ps : List Part) → AreThere ps → Has c (heads ps) → Has c (cells_of t ps)
  heads_in c [] a h = absurd h
  heads_in c (one d ∷ ps) a (inl is) = inl is
  heads_in c (one d ∷ ps) a (inr h) = inr (heads_in c ps a h)
  heads_in c (removal y ∷ ps) a (inl is) = has_left c (removal_cells t y) (cells_of t ps) (subst (λ d. Has d (removal_cells t y)) is (removal_has_top t y (top_hit y a.0)))
  heads_in c (removal y ∷ ps) a (inr h) = has_right c (removal_cells t y) (cells_of t ps) (heads_in c ps a.1 h)

  taken : (y : NodeId) (ps : List Part) → Has (removal y) ps → (c : Cell) → is_hit t y (owner c) ≡ true → overlaps_some c (cells_of t ps) ≡ true
  taken y [] h c e = absurd h
  taken y (p ∷ ps) (inl is) c e = covered_both c (cells_in t p) (cells_of t ps) ∙ or_left _ _ (ap (λ z. overlaps_some c (cells_in t z)) is ∙ removal_covers t y c e)
  taken y (p ∷ ps) (inr h) c e = covered_both c (cells_in t p) (cells_of t ps) ∙ or_right (overlaps_some c (cells_in t p)) _ (taken y ps h c e)

  there_of : (y : NodeId) (ps : List Part) → AreThere ps → Has (removal y) ps → is_some (get t y) ≡ true
  there_of y [] a h = absurd h
  there_of y (one d ∷ ps) a (inl is) = cc
  there_of y (one d ∷ ps) a (inr h) = there_of y ps a h
  there_of y (removal z ∷ ps) a (inl is) = let e : z ≡ y = cc in ap (λ x. is_some (get t x)) (sym e) ∙ a.0
  there_of y (removal z ∷ ps) a (inr h) = there_of y ps a.1 h

  module _ (f : IsFormed t) (ps qs : List Part) (ap1 : AreThere ps) (aq : AreThere qs) where
    abbrev Leads : Type 0
    Leads = (meets (heads ps) (cells_of t qs) || meets (heads qs) (cells_of t ps)) ≡ true

    lead_left : (c : Cell) → Has c (heads ps) → overlaps_some c (cells_of t qs) ≡ true → Leads
    lead_left c h o = or_left _ _ (meets_of c (heads ps) (cells_of t qs) h o)

    lead_right : (d : Cell) → Has d (heads qs) → overlaps_some d (cells_of t ps) ≡ true → Leads
    lead_right d h o = or_right (meets (heads ps) (cells_of t qs)) _ (meets_of d (heads qs) (cells_of t ps) h o)

    removals : (y z q : NodeId) → Has (removal y) ps → Has (removal z) qs → is_hit t y q ≡ true → is_hit t z q ≡ true → Leads
    removals y z q hy hz a b = elim (chain t f y z q a b) [
      | inl e ↦ let n = some_of (get t y) (there_of y ps ap1 hy) in lead_left (NodeOf y) (head_has y ps hy) (taken z qs hz (NodeOf y) (hit_of t z y n.0 n.1 e))
      | inr e ↦ let n = some_of (get t z) (there_of z qs aq hz) in lead_right (NodeOf z) (head_has z qs hz) (taken y ps hy (NodeOf z) (hit_of t y z n.0 n.1 e))
    ]

    meet_leads : meets (cells_of t ps) (cells_of t qs) ≡ true → Leads
    meet_leads e =
        let c = of_meets (cells_of t ps) (cells_of t qs) e in
        let d = covers_has c.0 (cells_of t qs) c.2 in
        elim (led c.0 ps c.1) [
          | inl h ↦ lead_left c.0 h c.2
          | inr y ↦ elim (led d.0 qs d.1) [
            | inl h ↦ lead_right d.0 h (has_covers d.0 c.0 (cells_of t ps) c.1 (swapped c.0 d.0 d.2))
            | inr z ↦ removals y.0 z.0 (owner c.0) y.1 z.1 y.2 (ap (is_hit t z.0) (one_owner c.0 d.0 d.2) ∙ z.2)
          ]
        ]

    leads_meet : Leads → meets (cells_of t ps) (cells_of t qs) ≡ true
    leads_meet e = elim (or_parts (meets (heads ps) (cells_of t qs)) _ e) [
      | inl a ↦ let c = of_meets (heads ps) (cells_of t qs) a in meets_of c.0 (cells_of t ps) (cells_of t qs) (heads_in c.0 ps ap1 c.1) c.2
      | inr b ↦ let d = of_meets (heads qs) (cells_of t ps) b in turned (cells_of t qs) (cells_of t ps) (meets_of d.0 (cells_of t qs) (cells_of t ps) (heads_in d.0 qs aq d.1) d.2)
    ]

    pub meets_led : meets (cells_of t ps) (cells_of t qs) ≡ (meets (heads ps) (cells_of t qs) || meets (heads qs) (cells_of t ps))
    meets_led = both_ways _ _ meet_leads leads_meet

  -- the parts of an operation are its cells

  cells_more : (ps qs : List Part) → cells_of t (ps ++ qs) ≡ cells_of t ps ++ cells_of t qs
  cells_more [] qs = refl
  cells_more (p ∷ ps) qs = ap (λ cs. cells_in t p ++ cs) (cells_more ps qs) ∙ sym (append_assoc (cells_in t p) (cells_of t ps) (cells_of t qs))

  there_more : (ps qs : List Part) → AreThere ps → AreThere qs → AreThere (ps ++ qs)
  there_more [] qs a b = b
  there_more (one c ∷ ps) qs a b = there_more ps qs a b
  there_more (removal y ∷ ps) qs a b = (a.0, there_more ps qs a.1 b)

  removal_is : (o : Option NodeId) → cells_of t (removal_part o) ≡ removal_of t o
  removal_is None = refl
  removal_is (Some y) = append-nil (removal_cells t y)

  slot_is : (x : NodeId) (k : List ℕ) → cells_of t (slot_parts t x k) ≡ slot_cells t x k
  slot_is x k = ap (λ cs. Slot x k ∷ cs) (removal_is (child_at t x k))

  slots_is : (x : NodeId) (es : List (List ℕ × Value)) → cells_of t (slots_parts t x es) ≡ slots_cells t x es
  slots_is x [] = refl
  slots_is x (e ∷ es) = cells_more (slot_parts t x e.0) (slots_parts t x es) ∙ (λ i. slot_is x e.0 i ++ slots_is x es i)

  replaced_by : (y : NodeId) (b : Bool) → cells_of t (cond b (removal y ∷ []) []) ≡ cond b (removal_cells t y) []
  replaced_by y true = append-nil (removal_cells t y)
  replaced_by y false = refl

  replaced_is : (p : NodeId) (r : Option NodeId) → cells_of t (replaced_parts t p r) ≡ replaced_cells t p r
  replaced_is p None = refl
  replaced_is p (Some y) = replaced_by y (is_under p y (get t y))

  place_by : (p : NodeId) (k : List ℕ) (r : Option NodeId) (b : Bool) → cells_of t (cond b (one (All p) ∷ replaced_parts t p r) (slot_parts t p k)) ≡ cond b (All p ∷ replaced_cells t p r) (slot_cells t p k)
  place_by p k r true = ap (λ cs. All p ∷ cs) (replaced_is p r)
  place_by p k r false = slot_is p k

  effect_is : (b : Body) → cells_of t (effect_parts t b) ≡ effect_cells t b
  effect_is (SetKey x k) = refl
  effect_is (Create x p k r kind) = ap (λ cs. NodeOf x ∷ All x ∷ cs) (place_by p k r (holds_list (get t p)))
  effect_is (Update x fs) = slots_is x fs
  effect_is (Delete x) = ap (λ cs. place_cell t x ∷ cs) (append-nil (removal_cells t x))
  effect_is (DeleteKey x k) = slot_is x k

  -- what they take is there

  slot_there_by : (x : NodeId) (k : List ℕ) (o : Option NodeId) → child_at t x k ≡ o → AreThere (removal_part o)
  slot_there_by x k None e = tt
  slot_there_by x k (Some y) e = let c = child_of t x k y e in (rw c.there refl, tt)

  slot_there : (x : NodeId) (k : List ℕ) → AreThere (slot_parts t x k)
  slot_there x k = slot_there_by x k (child_at t x k) refl

  slots_there : (x : NodeId) (es : List (List ℕ × Value)) → AreThere (slots_parts t x es)
  slots_there x [] = tt
  slots_there x (e ∷ es) = there_more (slot_parts t x e.0) (slots_parts t x es) (slot_there x e.0) (slots_there x es)

  under_there : (p y : NodeId) (o : Option Node) → is_under p y o ≡ true → is_some o ≡ true
  under_there p y None e = e
  under_there p y (Some n) e = refl

  replaced_there_by : (p y : NodeId) (b : Bool) → is_under p y (get t y) ≡ b → AreThere (cond b (removal y ∷ []) [])
  replaced_there_by p y true e = (under_there p y (get t y) e, tt)
  replaced_there_by p y false e = tt

  replaced_there : (p : NodeId) (r : Option NodeId) → AreThere (replaced_parts t p r)
  replaced_there p None = tt
  replaced_there p (Some y) = replaced_there_by p y _ refl

  place_there : (p : NodeId) (k : List ℕ) (r : Option NodeId) (b : Bool) → AreThere (cond b (one (All p) ∷ replaced_parts t p r) (slot_parts t p k))
  place_there p k r true = replaced_there p r
  place_there p k r false = slot_there p k

  effect_there : (b : Body) → is_void t b ≡ false → AreThere (effect_parts t b)
  effect_there (SetKey x k) v = tt
  effect_there (Create x p k r kind) v = place_there p k r (holds_list (get t p))
  effect_there (Update x fs) v = slots_there x fs
  effect_there (Delete x) v = (not_false _ (neither _ _ v).0, tt)
  effect_there (DeleteKey x k) v = slot_there x k

  writes_is : (b : Body) (v : Bool) → is_void t b ≡ v → cells_of t (cond v [] (effect_parts t b)) ≡ cond v [] (effect_cells t b)
  writes_is b true e = refl
  writes_is b false e = effect_is b

  writes_there : (b : Body) (v : Bool) → is_void t b ≡ v → AreThere (cond v [] (effect_parts t b))
  writes_there b true e = tt
  writes_there b false e = effect_there b e

  -- two operations

  and_no : (b : Bool) → (b && false) ≡ false
  and_no true = refl
  and_no false = refl

  and_self : (b : Bool) → b ≡ (b && b)
  and_self true = refl
  and_self false = refl

  sides : (r1 r2 h1 h2 : Bool) → (not (r1 || h1) && not (r2 || h2)) ≡ (not (r2 || (h1 || h2)) && not (r1 || (h1 || h2)))
  sides true r2 h1 h2 = sym (and_no (not (r2 || (h1 || h2))))
  sides false true h1 h2 = and_no (not h1)
  sides false false true h2 = refl
  sides false false false h2 = and_self (not h2)

  module _ (f : IsFormed t) (a b : Body) where
    abbrev ws : Body → List Cell
    ws c = writes t c

    parts_are : (c : Body) → cells_of t (write_parts t c) ≡ ws c
    parts_are c = writes_is c (is_void t c) refl

    write_led : meets (ws a) (ws b) ≡ (meets (heads (write_parts t a)) (ws b) || meets (heads (write_parts t b)) (ws a))
    write_led =
        let pa = write_parts t a in
        let pb = write_parts t b in
        (λ i. meets (sym (parts_are a) i) (sym (parts_are b) i))
        ∙ meets_led f pa pb (writes_there a (is_void t a) refl) (writes_there b (is_void t b) refl)
        ∙ (λ i. meets (heads pa) (parts_are b i) || meets (heads pb) (parts_are a i))

    one_side : (x y : Body) → meets (ws x ++ []) ((reads t y ++ ws y) ++ []) ≡ (meets (reads t y) (ws x) || meets (ws x) (ws y))
    one_side x y =
        (λ i. meets (append-nil (ws x) i) (append-nil (reads t y ++ ws y) i))
        ∙ meets_both (ws x) (reads t y) (ws y)
        ∙ ap (λ z. z || meets (ws x) (ws y)) (meets_turned (ws x) (reads t y))

    pub apart_is : (not (meets (reads t a) (ws b) || meets (heads (write_parts t a)) (ws b)) && not (meets (reads t b) (ws a) || meets (heads (write_parts t b)) (ws a))) ≡ is_apart t (a ∷ []) (b ∷ [])
    apart_is =
        sides (meets (reads t a) (ws b)) (meets (reads t b) (ws a)) (meets (heads (write_parts t a)) (ws b)) (meets (heads (write_parts t b)) (ws a))
        ∙ (λ i. not (meets (reads t b) (ws a) || sym write_led i) && not (meets (reads t a) (ws b) || (sym write_led ∙ meets_turned (ws a) (ws b)) i))
        ∙ (λ i. not (sym (one_side a b) i) && not (sym (one_side b a) i))

-- of a void operation nothing is met
pub clear_of_none : (cs hs ws : List Cell) → ws ≡ [] → true ≡ not (meets cs ws || meets hs ws)
clear_of_none cs hs ws e = sym (ap (λ z. not (meets cs z || meets hs z)) e ∙ (λ i. not (meets_none cs i || meets_none hs i)))

pub void_writes : (t : Nodes) (b : Body) → is_void t b ≡ true → writes t b ≡ []
void_writes t b v = writes_by t b true v

pub heads_more : (ps qs : List Part) → heads (ps ++ qs) ≡ heads ps ++ heads qs
heads_more [] qs = refl
heads_more (p ∷ ps) qs = ap (λ cs. head_of p ∷ cs) (heads_more ps qs)

-- a loop over the slots of an update
pub slots_meet_more : (ps qs : List Part) (ds : List Cell) → meets (heads (ps ++ qs)) ds ≡ (meets (heads ps) ds || meets (heads qs) ds)
slots_meet_more ps qs ds = ap (λ cs. meets cs ds) (heads_more ps qs) ∙ meets_more (heads ps) (heads qs) ds
