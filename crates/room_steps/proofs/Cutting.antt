-- A tree without the children of a node at some keys, and what lies below them.
use Rattle.std.proofs.Common.{◌≡◌, ◌≢◌, ◌⊎◌, inl, inr, ℕ, zero, suc, true, false, ◌||◌, List, [], ◌∷◌, Option, Some, None, refl, sym, ap, ◌∙◌, arith}
use Rattle.std.specs.FinMap.{get}
use Rattle.room_ids.specs.Order.{is_same}
use Rattle.room_ids.specs.declared.ids.NodeId.{NodeId}
use Rattle.room_ids.specs.declared.ids.NodeId.TheVariants.{Root}
use Rattle.room_nodes.specs.Shape.{Nodes, IsFormed, child_at, is_below, leads_to, parent_of, removed}
use Rattle.room_nodes.specs.Steps.{without, without_child, without_children}
use Rattle.room_nodes.specs.declared.nodes.Node.{Node}
use Rattle.room_nodes.proofs.Below.{below_root, below_self, below_step, is_root, parent_not_below}
use Rattle.room_nodes.proofs.Children.{child_at_none, child_at_some}
use Rattle.room_nodes.proofs.Fitting.{the_parent, the_root}
use Rattle.room_nodes.proofs.Formed.{formed-removed}
use Rattle.room_nodes.proofs.Gets.{get_kept, kept, one_or_two, same, some_inj, some_none, true_false}
use Rattle.room_steps.proofs.Booleans.{by_no, or_parts}

-- u is t without some nodes: what lies below a node of u lay there before
module _ (t u : Nodes) (g : IsFormed u) (part : (q : NodeId) (m : Node) → get u q ≡ Some m → get t q ≡ Some m) where
  parent_there : (q : NodeId) (m : Node) → get u q ≡ Some m → (p : Node) × (get u m.parent ≡ Some p)
  parent_there q m e = elim (one_or_two q Root) [
    | inl r ↦
        let o = the_root u g in
        let is : m ≡ o.0 = some_inj m o.0 (sym e ∙ ap (get u) r ∙ o.1) in
        (o.0, ap (get u) (ap (λ (v : Node). v.parent) is ∙ o.2.parent) ∙ o.1)
    | inr other ↦ let p = the_parent u g q m other e in (p.0, p.1)
  ]

  leads_same : (k : ℕ) (z q : NodeId) (m : Node) → get u q ≡ Some m → leads_to k u z q ≡ leads_to k t z q
  leads_same zero z q m e = refl
  leads_same (suc k) z q m e =
      let p = parent_there q m e in
      ap (λ y. is_same q z || leads_to k u z y) (ap parent_of e)
      ∙ ap (λ b. is_same q z || b) (leads_same k z m.parent p.0 p.1)
      ∙ ap (λ y. is_same q z || leads_to k t z y) (sym (ap parent_of (part q m e)))

  pub below_same : (z q : NodeId) (m : Node) → get u q ≡ Some m → is_below u z q ≡ is_below t z q
  unfolding is_below
  below_same z q m e = leads_same 60 z q m e

-- nothing lies below two children of one node
module _ (t : Nodes) (f : IsFormed t) (y z : NodeId) (m n : Node) (my : y ≢ Root) (mz : z ≢ Root) (ty : get t y ≡ Some m) (tz : get t z ≡ Some n) (one : m.parent ≡ n.parent) where
  not_root : (q : NodeId) → is_below t y q ≡ true → q ≢ Root
  not_root q a e = true_false (sym a ∙ ap (is_below t y) e ∙ below_root t f y my)

  apart_at : (d : ℕ) (q : NodeId) (v : Node) → get t q ≡ Some v → v.depth ≡ d → is_below t y q ≡ true → is_below t z q ≡ true → y ≡ z
  apart_at zero q v e deep a b = absurd (not_root q a (is_root t f q v e deep))
  apart_at (suc d) q v e deep a b =
      let other = not_root q a in
      let p = the_parent t f q v other e in
      elim (or_parts (is_same q y) _ (sym (below_step t f y q v other e) ∙ a)) [
        | inl qy ↦ elim (or_parts (is_same q z) _ (sym (below_step t f z q v other e) ∙ b)) [
          | inl qz ↦ sym (same q y qy) ∙ same q z qz
          | inr bz ↦
              let is : v ≡ m = some_inj v m (sym e ∙ ap (get t) (same q y qy) ∙ ty) in
              absurd (true_false (sym bz ∙ ap (is_below t z) (ap (λ (w : Node). w.parent) is ∙ one) ∙ parent_not_below t f z n mz tz))
        ]
        | inr ay ↦ elim (or_parts (is_same q z) _ (sym (below_step t f z q v other e) ∙ b)) [
          | inl qz ↦
              let is : v ≡ n = some_inj v n (sym e ∙ ap (get t) (same q z qz) ∙ tz) in
              absurd (true_false (sym ay ∙ ap (is_below t y) (ap (λ (w : Node). w.parent) is ∙ sym one) ∙ parent_not_below t f y m my ty))
          | inr bz ↦ apart_at d v.parent p.0 p.1 (omega (arith, p.2.depth, deep)) ay bz
        ]
      ]

  pub siblings_apart : (q : NodeId) (v : Node) → get t q ≡ Some v → is_below t y q ≡ true → is_below t z q ≡ true → y ≡ z
  siblings_apart q v e a b = apart_at v.depth q v e refl a b

module _ (x : NodeId) where
  -- the children that are left after the one at a key went
  module _ (t : Nodes) (f : IsFormed t) (k : List ℕ) (y : NodeId) (here : child_at t x k ≡ Some y) where
    kept_child : (j : List ℕ) (z : NodeId) → child_at (removed t y) x j ≡ Some z → (o : Option NodeId) → child_at t x j ≡ o → o ≡ Some z
    kept_child j z h None e = let a = child_at_some (removed t y) x j z h in absurd (child_at_none t x j e z a.0 a.2 (kept t y z a.0 a.1).0 a.3 a.4)
    kept_child j z h (Some w) e =
        let a = child_at_some (removed t y) x j z h in
        let b = child_at_some t x j w e in
        ap Some (same w z (f.keys w z b.0 a.0 b.2 a.2 b.1 (kept t y z a.0 a.1).0 (b.3 ∙ sym a.3) (b.4 ∙ sym a.4)))

    child_left : (j : List ℕ) (z : NodeId) → child_at t x j ≡ Some z → y ≢ z → (o : Option NodeId) → child_at (removed t y) x j ≡ o → o ≡ Some z
    child_left j z h other o e =
        let a = child_at_some t x j z h in
        let b = child_at_some t x k y here in
        let left : get (removed t y) z ≡ Some a.0 = get_kept t y z (by_no _ (λ below. other (siblings_apart t f y z b.0 a.0 b.2 a.2 b.1 a.1 (b.3 ∙ sym a.3) z a.0 a.1 below (below_self t z)))) ∙ a.1 in
        elim o as (λ o. child_at (removed t y) x j ≡ o → o ≡ Some z) [
          | None ↦ λ g. absurd (child_at_none (removed t y) x j g z a.0 a.2 left a.3 a.4)
          | Some w ↦ λ g. sym (sym h ∙ kept_child j w g _ refl)
        ] e

  formed_without : (t : Nodes) → IsFormed t → (k : List ℕ) (o : Option NodeId) → child_at t x k ≡ o → IsFormed (without t o)
  formed_without t f k None e = f
  formed_without t f k (Some y) e = formed-removed t y f (child_at_some t x k y e).2

module _ {V : Type 0} (x : NodeId) where
  abbrev pub IsNamed : List ℕ → List (List ℕ × V) → Type 0
  IsNamed k [] = ⊥
  IsNamed k (e ∷ es) = (e.0 ≡ k) ⊎ IsNamed k es

  -- q lies below no child of x at one of these keys
  abbrev pub IsSpared : Nodes → List (List ℕ × V) → NodeId → Type 0
  IsSpared t es q = (k : List ℕ) (z : NodeId) → IsNamed k es → child_at t x k ≡ Some z → is_below t z q ≡ false

  pub record IsCut (t : Nodes) (es : List (List ℕ × V)) (u : Nodes) : Type 0 where
    pub formed : IsFormed u
    pub part : (q : NodeId) (m : Node) → get u q ≡ Some m → get t q ≡ Some m
    pub spared : (q : NodeId) (m : Node) → get u q ≡ Some m → IsSpared t es q
    pub stays : (q : NodeId) (m : Node) → get t q ≡ Some m → IsSpared t es q → get u q ≡ Some m

  cut_one : (t : Nodes) → IsFormed t → (k : List ℕ) (v : V) (es : List (List ℕ × V)) (o : Option NodeId) → child_at t x k ≡ o → IsCut (without t o) es (without_children (without t o) x es)
      → IsCut t ((k, v) ∷ es) (without_children (without t o) x es)
  cut_one t f k v es None e c = record {
    formed = c.formed;
    part = c.part;
    spared = λ q m h j z named at. elim named [
      | inl is ↦ absurd (some_none z (sym at ∙ ap (child_at t x) (sym is) ∙ e))
      | inr g ↦ c.spared q m h j z g at
    ];
    stays = λ q m h s. c.stays q m h (λ j z named at. s j z (inr named) at);
  }
  cut_one t f k v es (Some y) e c =
      let u = removed t y in
      let b = child_at_some t x k y e in
      let g = formed-removed t y f b.2 in
      let over : (q : NodeId) (m : Node) → get u q ≡ Some m → get t q ≡ Some m = λ q m h. (kept t y q m h).0 in
      record {
        formed = c.formed;
        part = λ q m h. over q m (c.part q m h);
        spared = λ q m h j z named at. elim (one_or_two y z) [
          | inl is ↦ ap (λ w. is_below t w q) (sym is) ∙ (kept t y q m (c.part q m h)).1
          | inr other ↦ elim named [
            | inl is ↦ absurd (other (some_inj y z (sym e ∙ ap (child_at t x) is ∙ at)))
            | inr named ↦ sym (below_same t u g over z q m (c.part q m h)) ∙ c.spared q m h j z named (child_left x t f k y e j z at other _ refl)
          ]
        ];
        stays = λ q m h s.
            let left : get u q ≡ Some m = get_kept t y q (s k y (inl refl) e) ∙ h in
            c.stays q m left (λ j z named at. below_same t u g over z q m left ∙ s j z (inr named) (kept_child x t f k y e j z at _ refl));
      }

  pub cut : (t : Nodes) → IsFormed t → (es : List (List ℕ × V)) → IsCut t es (without_children t x es)
  cut t f [] = record { formed = f; part = λ q m h. h; spared = λ q m h k z named at. absurd named; stays = λ q m h s. h }
  cut t f (e ∷ es) = cut_one t f e.0 e.1 es (child_at t x e.0) refl (cut (without_child t x e.0) (formed_without x t f e.0 (child_at t x e.0) refl) es)
