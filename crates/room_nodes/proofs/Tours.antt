-- The preorder of a well-formed tree: each node once, behind its parent, and all of them.
use Rattle.std.proofs.Common.{◌≡◌, ◌≢◌, ◌⊎◌, inl, inr, ◌+◌, ◌<◌, ℕ, zero, suc, Bool, true, false, ◌||◌, List, [], ◌∷◌, ◌++◌, flat_map, T, Option, Some, None, Less, refl, sym, ap, ◌∙◌, subst, arith, append_assoc, append-nil}
use Rattle.std.specs.Cmp.Lexicographic.{slice_cmp}
use Rattle.std.specs.FinMap.{get, entries, is_sorted}
use Rattle.std.specs.FinMap.Entries.{below_all}
use Rattle.std.specs.Ordering.{nat_cmp}
use Rattle.std.proofs.lemmas.Cmp.{nat_list_cmp_total}
use Rattle.room_ids.specs.declared.ids.NodeId.{NodeId}
use Rattle.room_ids.specs.declared.ids.NodeId.TheVariants.{Root}
use Rattle.room_ids.specs.Order.{is_same}
use Rattle.room_nodes.specs.Shape.{Nodes, IsFormed, children, child_at, up, parent_of, leads_to, is_below}
use Rattle.room_nodes.specs.Steps.{depth_in}
use Rattle.room_nodes.specs.declared.nodes.Node.{Node}
use Rattle.room_nodes.proofs.Below.{below_step, below_root}
use Rattle.room_nodes.proofs.Children.{text_exact, is_child_of, answer_of, child_at_none, child_at_some}
use Rattle.room_nodes.proofs.Fitting.{the_parent}
use Rattle.room_nodes.proofs.Gets.{one_or_two, same, same_self, some_inj, true_false}
use Rattle.room_nodes.proofs.Listing.{Has, has_above, parts, find_has}
use Rattle.room_nodes.proofs.Places.{children_sorted, not_below_itself}
use Rattle.room_nodes.specs.Preorder.{preorder, preorder_within}
use Rattle.room_nodes.proofs.Childs.{Kid}
use Rattle.room_nodes.proofs.Walks.{Walk, Step, rev_on, rev_on-append, rev_keeps, rev_has}

or_parts : (a b : Bool) → (a || b) ≡ true → (a ≡ true) ⊎ (b ≡ true)
or_parts true b e = inl refl
or_parts false b e = inr e

or_right : (a b : Bool) → b ≡ true → (a || b) ≡ true
or_right true b e = refl
or_right false b e = e

-- what a list of lists has

has_left : {A : Type 0} (y : A) (xs ys : List A) → Has y xs → Has y (xs ++ ys)
has_left y [] ys h = absurd h
has_left y (x ∷ xs) ys h = elim h [ inl e ↦ inl e | inr g ↦ inr (has_left y xs ys g) ]

has_right : {A : Type 0} (y : A) (xs ys : List A) → Has y ys → Has y (xs ++ ys)
has_right y [] ys h = h
has_right y (x ∷ xs) ys h = inr (has_right y xs ys h)

has_either : {A : Type 0} (y : A) (xs ys : List A) → Has y (xs ++ ys) → Has y xs ⊎ Has y ys
has_either y [] ys h = inr h
has_either y (x ∷ xs) ys h = elim h [
  | inl e ↦ inl (inl e)
  | inr g ↦ elim (has_either y xs ys g) [ inl k ↦ inl (inr k) | inr k ↦ inr k ]
]

flat_has : {X A : Type 0} (f : X → List A) (y : A) (es : List X) → Has y (flat_map f es) → (e : X) × Has e es × Has y (f e)
flat_has f y [] h = absurd h
flat_has f y (e ∷ es) h = elim (has_either y (f e) (flat_map f es) h) [
  | inl g ↦ (e, inl refl, g)
  | inr g ↦ let r = flat_has f y es g in (r.0, inr r.1, r.2)
]

has_flat : {X A : Type 0} (f : X → List A) (y : A) (e : X) (es : List X) → Has e es → Has y (f e) → Has y (flat_map f es)
has_flat f y e [] h g = absurd h
has_flat f y e (x ∷ es) h g = elim h [
  | inl q ↦ has_left y (f x) (flat_map f es) (subst (λ z. Has y (f z)) (sym q) g)
  | inr k ↦ has_right y (f x) (flat_map f es) (has_flat f y e es k g)
]

-- a child that stands behind another has a greater key
behind : (before : List Kid) (e : Kid) (es : List Kid) (d : Kid) → T (is_sorted (slice_cmp nat_cmp) (before ++ e ∷ es)) → Has d es → slice_cmp nat_cmp e.0 d.0 ≡ Less
behind [] e es d h m = has_above (slice_cmp nat_cmp) text_exact nat_list_cmp_total e.0 d es (parts (below_all (slice_cmp nat_cmp) e.0 es) _ h).0 m
behind (b ∷ before) e es d h m = behind before e es d (parts (below_all (slice_cmp nat_cmp) b.0 (before ++ e ∷ es)) _ h).1 m

module _ (t : Nodes) (f : IsFormed t) where
  abbrev depth_at : NodeId → ℕ
  depth_at x = depth_in (get t x)

  abbrev above : ℕ → NodeId → NodeId
  above zero y = y
  above (suc k) y = up t (above k y)

  abbrev below : ℕ → NodeId → List NodeId
  below n x = flat_map (λ (e : List ℕ × NodeId). preorder_within n t e.1) (children t x)

  -- a child
  record IsKid (x : NodeId) (e : Kid) : Type 0 where
    node : Node
    there : get t e.1 ≡ Some node
    made : e.1 ≢ Root
    parent : node.parent ≡ x
    key : node.key ≡ e.0
    depth : depth_at e.1 ≡ depth_at x + 1

  kid_of : (x : NodeId) (e : Kid) → Has e (children t x) → IsKid x e
  kid_of x e h =
      let c = is_child_of x (entries t) e h in
      let there = answer_of t (e.1, c.node) c.has in
      let p = the_parent t f e.1 c.node c.made there in
      record {
        node = c.node;
        there = there;
        made = c.made;
        parent = c.parent;
        key = c.key;
        depth = ap depth_in there ∙ p.2.depth ∙ ap (λ (o : Option Node). depth_in o + 1) (sym p.1 ∙ ap (get t) c.parent);
      }

  -- where a node of a preorder stands
  record Lies (x y : NodeId) : Type 0 where
    steps : ℕ
    leads : above steps y ≡ x
    depth : depth_at y ≡ depth_at x + steps

  lies_itself : (x y : NodeId) → x ≡ y → Lies x y
  lies_itself x y e = record { steps = 0; leads = sym e; depth = ap depth_at (sym e) ∙ omega arith }

  lies_below : (x y : NodeId) (e : Kid) → Has e (children t x) → Lies e.1 y → Lies x y
  lies_below x y e h l =
      let k = kid_of x e h in
      record {
        steps = suc l.steps;
        leads = ap (up t) l.leads ∙ ap parent_of k.there ∙ k.parent;
        depth = omega (arith, l.depth, k.depth);
      }

  lies : (n : ℕ) (x y : NodeId) → Has y (preorder_within n t x) → Lies x y
  unfolding preorder_within
  lies zero x y h = elim h [ inl e ↦ lies_itself x y e | inr g ↦ absurd g ]
  lies (suc n) x y h = elim h [
    | inl e ↦ lies_itself x y e
    | inr g ↦ let r = flat_has (λ (e : List ℕ × NodeId). preorder_within n t e.1) y (children t x) g in lies_below x y r.0 r.1 (lies n r.0.1 y r.2)
  ]

  has_itself : (n : ℕ) (x : NodeId) → Has x (preorder_within n t x)
  unfolding preorder_within
  has_itself zero x = inl refl
  has_itself (suc n) x = inl refl

  -- two children have nothing below them in common
  apart : (x y : NodeId) (d e : Kid) → Has d (children t x) → Has e (children t x) → Lies d.1 y → Lies e.1 y → d.1 ≡ e.1
  apart x y d e hd he l m =
      let p = kid_of x d hd in
      let q = kid_of x e he in
      let same_steps : l.steps ≡ m.steps = omega (arith, l.depth, m.depth, p.depth, q.depth) in
      sym l.leads ∙ ap (λ k. above k y) same_steps ∙ m.leads

  same_key : (x : NodeId) (d e : Kid) → Has d (children t x) → Has e (children t x) → d.1 ≡ e.1 → d.0 ≡ e.0
  same_key x d e hd he one =
      let p = kid_of x d hd in
      let q = kid_of x e he in
      sym p.key ∙ ap (λ (n : Node). n.key) (some_inj p.node q.node (sym p.there ∙ ap (get t) one ∙ q.there)) ∙ q.key

  -- ---- each once

  abbrev Fresh : List NodeId → List NodeId → Type 0
  Fresh xs done = (y : NodeId) → Has y xs → Has y done → ⊥

  abbrev Tour : ℕ → Type 0
  Tour n = (x : NodeId) (done more : List NodeId) → Step t done x → Fresh (preorder_within n t x) done → Walk t (rev_on (preorder_within n t x) done) more → Walk t done (preorder_within n t x ++ more)

  module _ (n : ℕ) (tour : Tour n) (x : NodeId) where
    abbrev each : Kid → List NodeId
    each e = preorder_within n t e.1

    tour_kids : (before es : List Kid) → children t x ≡ before ++ es → (done more : List NodeId) → Has x done → Fresh (flat_map each es) done
        → Walk t (rev_on (flat_map each es) done) more → Walk t done (flat_map each es ++ more)
    tour_kids before [] all done more has fresh rest = rest
    tour_kids before (e ∷ es) all done more has fresh rest =
        let he : Has e (children t x) = subst (Has e) (sym all) (has_right e before (e ∷ es) (inl refl)) in
        let k = kid_of x e he in
        let first : Fresh (each e) done = λ y h. fresh y (has_left y (each e) (flat_map each es) h) in
        let step : Step t done e.1 = record { node = k.node; there = k.there; made = k.made; parent = subst (λ p. Has p done) (sym k.parent) has; fresh = first e.1 (has_itself n e.1) } in
        let sorted = subst (λ cs. T (is_sorted (slice_cmp nat_cmp) cs)) all (children_sorted x (entries t)) in
        let later : Fresh (flat_map each es) (rev_on (each e) done) = λ y h g. elim (rev_has y (each e) done g) [
          | inr k2 ↦ fresh y (has_right y (each e) (flat_map each es) h) k2
          | inl k2 ↦
              let r = flat_has each y es h in
              let hd : Has r.0 (children t x) = subst (Has r.0) (sym all) (has_right r.0 before (e ∷ es) (inr r.1)) in
              let one = apart x y e r.0 he hd (lies n e.1 y k2) (lies n r.0.1 y r.2) in
              not_below_itself r.0.0 (ap (λ z. slice_cmp nat_cmp z r.0.0) (sym (same_key x e r.0 he hd one)) ∙ behind before e es r.0 sorted r.1)
        ] in
        let after = tour_kids (before ++ e ∷ []) es (all ∙ sym (append_assoc before (e ∷ []) es)) (rev_on (each e) done) more (rev_keeps x (each e) done has) later
        (subst (λ ds. Walk t ds more) (rev_on-append (each e) (flat_map each es) done) rest) in
        subst (Walk t done) (sym (append_assoc (each e) (flat_map each es) more)) (tour e.1 done (flat_map each es ++ more) step first after)

  tour : (n : ℕ) → Tour n
  unfolding preorder_within
  tour zero x done more step fresh rest = (step, rest)
  tour (suc n) x done more step fresh rest = (
    step,
    tour_kids n (tour n) x [] (children t x) refl (x ∷ done) more (inl refl)
        (λ y h g. elim g [
          | inl e ↦
              let r = flat_has (λ (e : List ℕ × NodeId). preorder_within n t e.1) y (children t x) h in
              let l = lies n r.0.1 y r.2 in
              let k = kid_of x r.0 r.1 in
              let same_depth : depth_at x ≡ depth_at y = ap depth_at e in
              omega (arith, l.depth, k.depth, same_depth)
          | inr g2 ↦ fresh y (inr h) g2
        ])
        rest,
  )

  -- what lies below a node, behind it
  pub tour_under : (x : NodeId) → Walk t (x ∷ []) (below 59 x)
  tour_under x = subst (Walk t (x ∷ [])) (append-nil (below 59 x)) (tour_kids 59 (tour 59) x [] (children t x) refl (x ∷ []) [] (inl refl)
      (λ y h g. elim g [
        | inl e ↦
            let r = flat_has (λ (e : List ℕ × NodeId). preorder_within 59 t e.1) y (children t x) h in
            let l = lies 59 r.0.1 y r.2 in
            let k = kid_of x r.0 r.1 in
            let same_depth : depth_at x ≡ depth_at y = ap depth_at e in
            omega (arith, l.depth, k.depth, same_depth)
        | inr g2 ↦ g2
      ])
      tt)

  -- below the root
  pub tour_root : Walk t (Root ∷ []) (below 59 Root)
  tour_root = tour_under Root

  -- ---- all of them

  listed_by : (y : NodeId) (m : Node) → y ≢ Root → get t y ≡ Some m → (o : Option NodeId) → child_at t m.parent m.key ≡ o → Has (m.key, y) (children t m.parent)
  listed_by y m made there None e = absurd (child_at_none t m.parent m.key e y m made there refl refl)
  listed_by y m made there (Some c) e =
      let n = child_at_some t m.parent m.key c e in
      let one : c ≡ y = same c y (f.keys c y n.0 m n.2 made n.1 there n.3 n.4) in
      subst (λ (z : NodeId). Has (m.key, z) (children t m.parent)) one (find_has (slice_cmp nat_cmp) text_exact m.key c (children t m.parent) e)

  further : (n : ℕ) (x p y : NodeId) (m : Node) → y ≢ Root → get t y ≡ Some m → m.parent ≡ p → Has p (preorder_within n t x) → depth_at p < depth_at x + n → Has y (preorder_within n t x)
  unfolding preorder_within
  further zero x p y m made there parent h small = elim h [
    | inl e ↦ let d : depth_at x ≡ depth_at p = ap depth_at e in absurd (omega (arith, small, d))
    | inr g ↦ absurd g
  ]
  further (suc n) x p y m made there parent h small = elim h [
    | inl e ↦ inr (has_flat (λ (e : List ℕ × NodeId). preorder_within n t e.1) y (m.key, y) (children t x)
        (subst (λ z. Has (m.key, y) (children t z)) (parent ∙ sym e) (listed_by y m made there _ refl)) (has_itself n y))
    | inr g ↦
        let r = flat_has (λ (e : List ℕ × NodeId). preorder_within n t e.1) p (children t x) g in
        let k = kid_of x r.0 r.1 in
        inr (has_flat (λ (e : List ℕ × NodeId). preorder_within n t e.1) y r.0 (children t x) r.1 (further n r.0.1 p y m made there parent r.2 (omega (arith, small, k.depth))))
  ]

  pub all_there : (d : ℕ) (y : NodeId) (m : Node) → get t y ≡ Some m → m.depth ≡ d → Has y (preorder_within 60 t Root)
  all_there zero y m there deep = elim (one_or_two y Root) [
    | inl e ↦ subst (λ z. Has z (preorder_within 60 t Root)) (sym e) (has_itself 60 Root)
    | inr made ↦ let p = the_parent t f y m made there in absurd (omega (arith, p.2.depth, deep))
  ]
  all_there (suc d) y m there deep = elim (one_or_two y Root) [
    | inl e ↦ subst (λ z. Has z (preorder_within 60 t Root)) (sym e) (has_itself 60 Root)
    | inr made ↦
        let p = the_parent t f y m made there in
        let q : depth_at m.parent ≡ p.0.depth = ap depth_in p.1 in
        further 60 Root m.parent y m made there refl (all_there d m.parent p.0 p.1 (omega (arith, p.2.depth, deep))) (omega (arith, p.2.depth, p.2.deep, q))
  ]

  -- ---- what the preorder of a node has is just what lies below it

  leads_here : (n : ℕ) (x y : NodeId) → y ≡ x → leads_to n t x y ≡ true
  leads_here zero x y e = ap (λ z. is_same z x) e ∙ same_self x
  leads_here (suc n) x y e = ap (λ b. b || leads_to n t x (up t y)) (ap (λ z. is_same z x) e ∙ same_self x)

  -- from below a child
  leads_more : (n : ℕ) (x c y : NodeId) → up t c ≡ x → leads_to n t c y ≡ true → leads_to (suc n) t x y ≡ true
  leads_more zero x c y u h = or_right (is_same y x) _ (leads_here 0 x (up t y) (ap (up t) (same y c h) ∙ u))
  leads_more (suc n) x c y u h = elim (or_parts (is_same y c) _ h) [
    | inl e ↦ or_right (is_same y x) _ (leads_here (suc n) x (up t y) (ap (up t) (same y c e) ∙ u))
    | inr g ↦ or_right (is_same y x) _ (leads_more n x c (up t y) u g)
  ]

  within : (n : ℕ) (x y : NodeId) → Has y (preorder_within n t x) → leads_to n t x y ≡ true
  unfolding preorder_within
  within zero x y h = elim h [ inl e ↦ leads_here 0 x y (sym e) | inr g ↦ absurd g ]
  within (suc n) x y h = elim h [
    | inl e ↦ leads_here (suc n) x y (sym e)
    | inr g ↦
        let r = flat_has (λ (e : List ℕ × NodeId). preorder_within n t e.1) y (children t x) g in
        let k = kid_of x r.0 r.1 in
        leads_more n x r.0.1 y (ap parent_of k.there ∙ k.parent) (within n r.0.1 y r.2)
  ]

  pub is_within : (x y : NodeId) → Has y (preorder t x) → is_below t x y ≡ true
  unfolding preorder is_below
  is_within x y h = within 60 x y h

  module _ (x : NodeId) (made : x ≢ Root) where
    not_root : (y : NodeId) → is_below t x y ≡ true → y ≢ Root
    not_root y h e = true_false (sym h ∙ ap (is_below t x) e ∙ below_root t f x made)

    reached : (d : ℕ) (y : NodeId) (m : Node) → get t y ≡ Some m → m.depth ≡ d → is_below t x y ≡ true → Has y (preorder_within 60 t x)
    reached zero y m there deep h = let p = the_parent t f y m (not_root y h) there in absurd (omega (arith, p.2.depth, deep))
    reached (suc d) y m there deep h =
        let other = not_root y h in
        let p = the_parent t f y m other there in
        let q : depth_at m.parent ≡ p.0.depth = ap depth_in p.1 in
        elim (or_parts (is_same y x) _ (sym (below_step t f x y m other there) ∙ h)) [
          | inl e ↦ subst (λ z. Has z (preorder_within 60 t x)) (sym (same y x e)) (has_itself 60 x)
          | inr g ↦ further 60 x m.parent y m other there refl (reached d m.parent p.0 p.1 (omega (arith, p.2.depth, deep)) g) (omega (arith, p.2.depth, p.2.deep, q))
        ]

    pub has_below : (y : NodeId) (m : Node) → get t y ≡ Some m → is_below t x y ≡ true → Has y (preorder t x)
    unfolding preorder
    has_below y m there h = reached m.depth y m there refl h
