-- A change at one node, and what is shown of the others.
use Rattle.std.proofs.Common.{◌≡◌, ◌≢◌, ◌≤◌, ◌<◌, ◌+◌, ℕ, zero, suc, inl, inr, Bool, false, cond, List, [], ◌∷◌, map, Some, refl, sym, ap, ◌∙◌, subst, arith}
use Rattle.std.specs.FinMap.{get, entries}
use Rattle.room_ids.specs.Order.{is_same}
use Rattle.room_ids.specs.declared.ids.NodeId.{NodeId}
use Rattle.room_ids.specs.declared.ids.NodeId.TheVariants.{Root}
use Rattle.room_json.specs.Value.{Value}
use Rattle.room_nodes.specs.declared.nodes.Node.{Node}
use Rattle.room_nodes.specs.Shape.{Nodes, IsFormed, children}
use Rattle.room_nodes.proofs.Children.{Child, is_child_of, answer_of}
use Rattle.room_nodes.proofs.Fitting.{the_parent}
use Rattle.room_nodes.proofs.Gets.{one_or_two, same_self, differ, some_inj}
use Rattle.room_nodes.proofs.Listing.{Has}
use Rattle.room_items.specs.View.{view_within, view_at, node_view, kind_view}
use Rattle.room_effect.specs.Effect.{shown_within}

abbrev pub Kid : Type 0
Kid = List ℕ × NodeId

abbrev pub Pair : Type 0
Pair = List ℕ × Value

pub map_has : (f g : Kid → Pair) (es : List Kid) → ((e : Kid) → Has e es → f e ≡ g e) → map f es ≡ map g es
map_has f g [] h = refl
map_has f g (e ∷ es) h = λ i. h e (inl refl) i ∷ map_has f g es (λ k m. h k (inr m)) i

-- a child is there, and one deeper
module _ (t : Nodes) (f : IsFormed t) (y : NodeId) (v : Node) (there : get t y ≡ Some v) (e : Kid) (has : Has e (children t y)) where
  pub kid : Child y (entries t) e.0 e.1
  kid = is_child_of y (entries t) e has

  pub kid_there : get t e.1 ≡ Some kid.node
  kid_there = answer_of t (e.1, kid.node) kid.has

  pub kid_deep : (kid.node.depth ≡ v.depth + 1) × (kid.node.depth ≤ 60)
  kid_deep =
      let p = the_parent t f e.1 kid.node kid.made kid_there in
      let is : p.0 ≡ v = some_inj p.0 v (sym p.1 ∙ ap (get t) kid.parent ∙ there) in
      (p.2.depth ∙ ap (λ (m : Node). m.depth + 1) is, p.2.deep)

-- enough levels show all

no_kids : (t : Nodes) → IsFormed t → (y : NodeId) (v : Node) → get t y ≡ Some v → 60 ≤ v.depth → (es : List Kid) → children t y ≡ es → es ≡ []
no_kids t f y v there deep [] is = refl
no_kids t f y v there deep (e ∷ es) is =
    let has : Has e (children t y) = subst (Has e) (sym is) (inl refl) in
    let d = kid_deep t f y v there e has in
    absurd (omega (arith, d.0, d.1, deep))

pub enough : (t : Nodes) → IsFormed t → (n m : ℕ) (y : NodeId) (v : Node) → get t y ≡ Some v → 60 ≤ n + v.depth → 60 ≤ m + v.depth → view_within n t y ≡ view_within m t y
unfolding view_within
enough t f zero zero y v there a b = refl
enough t f zero (suc m) y v there a b = ap (λ es. node_view (get t y) (map (λ (e : Kid). (e.0, view_within m t e.1)) es)) (sym (no_kids t f y v there (omega (arith, a)) (children t y) refl))
enough t f (suc n) zero y v there a b = ap (λ es. node_view (get t y) (map (λ (e : Kid). (e.0, view_within n t e.1)) es)) (no_kids t f y v there (omega (arith, b)) (children t y) refl)
enough t f (suc n) (suc m) y v there a b =
    ap (node_view (get t y)) (map_has (λ e. (e.0, view_within n t e.1)) (λ e. (e.0, view_within m t e.1)) (children t y) (λ e h.
    let d = kid_deep t f y v there e h in
    let one : suc n + v.depth ≡ n + (v.depth + 1) = omega arith in
    let two : suc m + v.depth ≡ m + (v.depth + 1) = omega arith in
    ap (λ w. (e.0, w)) (enough t f n m e.1 (kid t f y v there e h).node (kid_there t f y v there e h) (omega (arith, a, d.0, one)) (omega (arith, b, d.0, two)))))

-- w is t changed at x, without the nodes that are gone
pub record IsLocal (t w : Nodes) (x : NodeId) (gone : NodeId → Bool) : Type 0 where
  pub node : (q : NodeId) (n : Node) → get t q ≡ Some n → gone q ≡ false → q ≢ x → (m : Node) × (get w q ≡ Some m) × (m.kind ≡ n.kind)
  pub kids : (q : NodeId) (n : Node) → get t q ≡ Some n → gone q ≡ false → q ≢ x → children w q ≡ children t q
  pub closed : (q : NodeId) (n : Node) → get t q ≡ Some n → q ≢ Root → n.parent ≢ x → gone n.parent ≡ false → gone q ≡ false

module _ (t w : Nodes) (f : IsFormed t) (x : NodeId) (gone : NodeId → Bool) (l : IsLocal t w x gone) (a : Node) (at : get t x ≡ Some a) where
  same_at : (y : NodeId) (n : Node) → get t y ≡ Some n → gone y ≡ false → y ≢ x → (us vs : List Pair) → us ≡ vs → node_view (get w y) us ≡ node_view (get t y) vs
  same_at y n there stays other us vs e =
      let m = l.node y n there stays other in
      ap (λ o. node_view o us) m.1 ∙ (λ i. kind_view (m.2 i) (e i)) ∙ sym (ap (λ o. node_view o vs) there)

  kid_stays : (y : NodeId) (n : Node) (there : get t y ≡ Some n) → gone y ≡ false → y ≢ x → (e : Kid) (h : Has e (children t y)) → gone e.1 ≡ false
  kid_stays y n there stays other e h =
      let c = kid t f y n there e h in
      l.closed e.1 c.node (kid_there t f y n there e h) c.made (λ p. other (sym c.parent ∙ p)) (ap gone c.parent ∙ stays)

  deeper : (y : NodeId) (v : Node) → get t y ≡ Some v → a.depth < v.depth → y ≢ x
  deeper y v there deep is =
      let d : v.depth ≡ a.depth = ap (λ (m : Node). m.depth) (some_inj v a (sym there ∙ ap (get t) is ∙ at)) in
      omega (arith, d, deep)

  -- what is deeper than x and stays is shown as before
  pub beside : (n : ℕ) (y : NodeId) (v : Node) → get t y ≡ Some v → gone y ≡ false → a.depth < v.depth → view_within n w y ≡ view_within n t y
  unfolding view_within
  beside zero y v there stays deep = same_at y v there stays (deeper y v there deep) [] [] refl
  beside (suc n) y v there stays deep =
      let other = deeper y v there deep in
      same_at y v there stays other _ _
      (ap (map (λ (e : Kid). (e.0, view_within n w e.1))) (l.kids y v there stays other)
      ∙ map_has (λ e. (e.0, view_within n w e.1)) (λ e. (e.0, view_within n t e.1)) (children t y) (λ e h.
      let d = kid_deep t f y v there e h in
      ap (λ z. (e.0, z)) (beside n e.1 (kid t f y v there e h).node (kid_there t f y v there e h) (kid_stays y v there stays other e h) (omega (arith, d.0, deep)))))

  here : (n : ℕ) (y : NodeId) (v : Value) → y ≡ x → shown_within n t x v y ≡ v
  unfolding shown_within
  here zero y v is = ap (λ b. cond b v (node_view (get t y) [])) (ap (is_same y) (sym is) ∙ same_self y)
  here (suc n) y v is = ap (λ b. cond b v (node_view (get t y) (map (λ (e : Kid). (e.0, shown_within n t x v e.1)) (children t y)))) (ap (is_same y) (sym is) ∙ same_self y)

  other_zero : (y : NodeId) (v : Value) → y ≢ x → shown_within 0 t x v y ≡ node_view (get t y) []
  unfolding shown_within
  other_zero y v other = ap (λ b. cond b v (node_view (get t y) [])) (differ y x other)

  other_suc : (n : ℕ) (y : NodeId) (v : Value) → y ≢ x → shown_within (suc n) t x v y ≡ node_view (get t y) (map (λ (e : Kid). (e.0, shown_within n t x v e.1)) (children t y))
  unfolding shown_within
  other_suc n y v other = ap (λ b. cond b v (node_view (get t y) (map (λ (e : Kid). (e.0, shown_within n t x v e.1)) (children t y)))) (differ y x other)

  module _ (g : IsFormed w) (b : Node) (too : get w x ≡ Some b) (level : b.depth ≡ a.depth) where
    at_x : (n : ℕ) (y : NodeId) (v : Node) → get t y ≡ Some v → 60 ≤ n + v.depth → y ≡ x → view_within n w y ≡ shown_within n t x (view_at w x) y
    unfolding view_at
    at_x n y v there deep is =
        let d : v.depth ≡ a.depth = ap (λ (m : Node). m.depth) (some_inj v a (sym there ∙ ap (get t) is ∙ at)) in
        ap (view_within n w) is ∙ enough w g n 60 x b too (omega (arith, deep, d, level)) (omega arith) ∙ sym (here n y (view_at w x) is)

    -- and the rest is as before but for x
    pub around : (n : ℕ) (y : NodeId) (v : Node) → get t y ≡ Some v → gone y ≡ false → 60 ≤ n + v.depth → view_within n w y ≡ shown_within n t x (view_at w x) y
    unfolding view_within
    around zero y v there stays deep = elim (one_or_two y x) [
      | inl is ↦ at_x zero y v there deep is
      | inr other ↦ same_at y v there stays other [] [] refl ∙ sym (other_zero y (view_at w x) other)
    ]
    around (suc n) y v there stays deep = elim (one_or_two y x) [
      | inl is ↦ at_x (suc n) y v there deep is
      | inr other ↦
          let one : suc n + v.depth ≡ n + (v.depth + 1) = omega arith in
          same_at y v there stays other _ _
          (ap (map (λ (e : Kid). (e.0, view_within n w e.1))) (l.kids y v there stays other)
          ∙ map_has (λ e. (e.0, view_within n w e.1)) (λ e. (e.0, shown_within n t x (view_at w x) e.1)) (children t y) (λ e h.
          let d = kid_deep t f y v there e h in
          ap (λ z. (e.0, z)) (around n e.1 (kid t f y v there e h).node (kid_there t f y v there e h) (kid_stays y v there stays other e h) (omega (arith, deep, d.0, one)))))
          ∙ sym (other_suc n y (view_at w x) other)
    ]

    pub whole : (r : Node) → get t Root ≡ Some r → gone Root ≡ false → view_at w Root ≡ shown_within 60 t x (view_at w x) Root
    unfolding view_at
    whole r there stays = around 60 Root r there stays (omega arith)
