-- What lies below a node of a well-formed tree.
use Rattle.std.proofs.Common.{◌≡◌, ◌≢◌, ◌≤◌, ◌+◌, ℕ, zero, suc, ◌⊎◌, inl, inr, Bool, true, false, ◌||◌, Some, refl, sym, ap, ◌∙◌, arith}
use Rattle.std.specs.FinMap.{get}
use Rattle.room_nodes.specs.Shape.{Nodes, IsFormed, up, parent_of, leads_to, is_below}
use Rattle.room_ids.specs.Order.{is_same}
use Rattle.room_nodes.proofs.Gets.{some_inj, same, same_self, differ, one_or_two}
use Rattle.room_nodes.proofs.Fitting.{the_root, the_parent}
use Rattle.room_ids.specs.declared.ids.NodeId.{NodeId}
use Rattle.room_ids.specs.declared.ids.NodeId.TheVariants.{Root}
use Rattle.room_nodes.specs.declared.nodes.Node.{Node}

or_false : (b : Bool) → (b || b) ≡ b
or_false true = refl
or_false false = refl

module _ (t : Nodes) (f : IsFormed t) where
  up_root : up t Root ≡ Root
  up_root = ap parent_of (the_root t f).1 ∙ (the_root t f).2.parent

  pub up_node : (y : NodeId) (n : Node) → get t y ≡ Some n → up t y ≡ n.parent
  up_node y n e = ap parent_of e

  pub leads_root : (n : ℕ) (x : NodeId) → leads_to n t x Root ≡ is_same Root x
  leads_root zero x = refl
  leads_root (suc n) x = ap (λ y. is_same Root x || leads_to n t x y) up_root ∙ ap (λ b. is_same Root x || b) (leads_root n x) ∙ or_false (is_same Root x)

  -- the depth of a node that isn't the root is above 0
  pub depth_above : (y : NodeId) (n : Node) → y ≢ Root → get t y ≡ Some n → 1 ≤ n.depth
  depth_above y n other e = let p = the_parent t f y n other e in let h : n.depth ≡ p.0.depth + 1 = p.2.depth in omega arith

  pub is_root : (y : NodeId) (n : Node) → get t y ≡ Some n → n.depth ≡ 0 → y ≡ Root
  is_root y n e d = elim (one_or_two y Root) [
    | inl h ↦ h
    | inr h ↦ absurd (let up : 1 ≤ n.depth = depth_above y n h e in omega arith)
  ]

  pub root_depth : (n : Node) → get t Root ≡ Some n → n.depth ≡ 0
  root_depth n e = ap (λ (m : Node). m.depth) (some_inj n (the_root t f).0 (sym e ∙ (the_root t f).1)) ∙ (the_root t f).2.depth

  not_root : (y : NodeId) (n : Node) (d : ℕ) → get t y ≡ Some n → n.depth ≡ suc d → y ≢ Root
  not_root y n d e is h = let z : n.depth ≡ 0 = root_depth n (ap (get t) (sym h) ∙ e) in omega arith

  -- more steps than the depth lead no further
  stable : (d m : ℕ) (x y : NodeId) (n : Node) → d ≤ m → get t y ≡ Some n → n.depth ≡ d → leads_to m t x y ≡ leads_to d t x y
  stable zero m x y n le e is = let r = is_root y n e is in ap (leads_to m t x) r ∙ leads_root m x ∙ ap (λ z. is_same z x) (sym r)
  stable (suc d) zero x y n le e is = absurd (omega arith)
  stable (suc d) (suc m) x y n le e is =
      let p = the_parent t f y n (not_root y n d e is) e in
      let deep : n.depth ≡ p.0.depth + 1 = p.2.depth in
      let here : get t (up t y) ≡ Some p.0 = ap (get t) (up_node y n e) ∙ p.1 in
      ap (λ b. is_same y x || b) (stable d m x (up t y) p.0 (omega arith) here (omega arith))

  step : (m : ℕ) (x y : NodeId) (n : Node) → 59 ≤ m → y ≢ Root → get t y ≡ Some n → leads_to (suc m) t x y ≡ (is_same y x || leads_to (suc m) t x n.parent)
  step m x y n le other e =
      let p = the_parent t f y n other e in
      let deep : n.depth ≡ p.0.depth + 1 = p.2.depth in
      let low : n.depth ≤ 60 = p.2.deep in
      ap (λ z. is_same y x || leads_to m t x z) (up_node y n e)
      ∙ ap (λ b. is_same y x || b) (stable p.0.depth m x n.parent p.0 (omega arith) p.1 refl ∙ sym (stable p.0.depth (suc m) x n.parent p.0 (omega arith) p.1 refl))

  -- a node lies below x where it is x, or its parent lies below x
  pub below_step : (x y : NodeId) (n : Node) → y ≢ Root → get t y ≡ Some n → is_below t x y ≡ (is_same y x || is_below t x n.parent)
  unfolding is_below
  below_step x y n other e = step 59 x y n (omega arith) other e

  pub below_root : (x : NodeId) → x ≢ Root → is_below t x Root ≡ false
  unfolding is_below
  below_root x other = leads_root 60 x ∙ differ Root x (λ e. other (sym e))

or_parts : (a b : Bool) → (a || b) ≡ true → (a ≡ true) ⊎ (b ≡ true)
or_parts true b e = inl refl
or_parts false b e = inr e

module _ (t : Nodes) (f : IsFormed t) where
  -- steps to the parent lead to nodes that are no deeper
  same_depth : (x y : NodeId) (m n : Node) → get t x ≡ Some m → get t y ≡ Some n → is_same y x ≡ true → m.depth ≤ n.depth
  same_depth x y m n a b e =
      let d : m.depth ≡ n.depth = ap (λ (v : Node). v.depth) (some_inj m n (sym a ∙ ap (get t) (sym (same y x e)) ∙ b)) in omega arith

  no_deeper : (k : ℕ) (x y : NodeId) (m n : Node) → get t x ≡ Some m → get t y ≡ Some n → leads_to k t x y ≡ true → m.depth ≤ n.depth
  no_deeper zero x y m n a b h = same_depth x y m n a b h
  no_deeper (suc k) x y m n a b h = elim (or_parts (is_same y x) _ h) [
    | inl s ↦ same_depth x y m n a b s
    | inr s ↦ elim (one_or_two y Root) [
      | inl r ↦ no_deeper k x y m n a b (ap (leads_to k t x) (r ∙ sym (up_root t f) ∙ ap (up t) (sym r)) ∙ s)
      | inr r ↦
          let p = the_parent t f y n r b in
          let d : n.depth ≡ p.0.depth + 1 = p.2.depth in
          let more : m.depth ≤ p.0.depth = no_deeper k x n.parent m p.0 a p.1 (ap (leads_to k t x) (sym (up_node t f y n b)) ∙ s) in
          omega arith
    ]
  ]

  by_no : (b : Bool) → (b ≡ true → ⊥) → b ≡ false
  by_no true h = absurd (h refl)
  by_no false h = refl

  -- a parent isn't below its child
  pub parent_not_below : (c : NodeId) (n : Node) → c ≢ Root → get t c ≡ Some n → is_below t c n.parent ≡ false
  unfolding is_below
  parent_not_below c n made e = by_no _ (λ h.
      let p = the_parent t f c n made e in
      let d : n.depth ≡ p.0.depth + 1 = p.2.depth in
      let le : n.depth ≤ p.0.depth = no_deeper 60 c n.parent n p.0 e p.1 h in
      absurd (omega arith))

leads_self : (n : ℕ) (t : Nodes) (x : NodeId) → leads_to n t x x ≡ true
leads_self zero t x = same_self x
leads_self (suc n) t x = ap (λ b. b || leads_to n t x (up t x)) (same_self x)

pub below_self : (t : Nodes) (x : NodeId) → is_below t x x ≡ true
unfolding is_below
below_self t x = leads_self 60 t x
