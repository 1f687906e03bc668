-- A tree that changes at one node: what else is shown stays, so a change of that node's view is one of the whole view.
use Rattle.std.proofs.Common.{◌≡◌, ◌≢◌, ℕ, zero, suc, inl, inr, true, false, ◌||◌, List, [], ◌∷◌, map, Some, refl, sym, ap, ◌∙◌, arith}
use Rattle.std.specs.FinMap.{get, entries}
use Rattle.room_json.specs.Value.{Value}
use Rattle.room_ids.specs.Order.{is_same}
use Rattle.room_ids.specs.declared.ids.NodeId.{NodeId}
use Rattle.room_ids.specs.declared.ids.NodeId.TheVariants.{Root}
use Rattle.room_nodes.specs.declared.nodes.Node.{Node}
use Rattle.room_nodes.specs.Shape.{Nodes, IsFormed, children, is_below, is_list}
use Rattle.room_nodes.specs.Steps.{holds_list}
use Rattle.room_nodes.proofs.Below.{below_root, below_self, below_step, is_root, parent_not_below}
use Rattle.room_nodes.proofs.Children.{answer_of, is_child_of}
use Rattle.room_nodes.proofs.Fitting.{the_parent}
use Rattle.room_nodes.proofs.Gets.{differ, one_or_two, same, some_inj, true_false}
use Rattle.room_nodes.proofs.Listing.{Has}
use Rattle.room_steps.proofs.Booleans.{by_no, or_parts, or_right}
use Rattle.room_steps.proofs.Cutting.{siblings_apart}
use Rattle.room_steps.proofs.Kin.{IsChild, same_child, same_children}
use Rattle.room_items.specs.View.{kind_view, node_view, view_within}
use Rattle.room_items.proofs.Levels.{view_none}

abbrev pub Kid : Type 0
Kid = List ℕ × NodeId

-- what lies below

module _ (t : Nodes) (f : IsFormed t) where
  root_above : (a b : NodeId) → is_below t a b ≡ true → is_below t b Root ≡ true → is_below t a Root ≡ true
  root_above a b h k = elim (one_or_two b Root) [
    | inl is ↦ ap (is_below t a) (sym is) ∙ h
    | inr other ↦ absurd (true_false (sym k ∙ below_root t f b other))
  ]

  below_by : (d : ℕ) (a b c : NodeId) (n : Node) → get t c ≡ Some n → n.depth ≡ d → is_below t a b ≡ true → is_below t b c ≡ true → is_below t a c ≡ true
  below_by zero a b c n e deep h k =
      let r = is_root t f c n e deep in
      ap (is_below t a) r ∙ root_above a b h (ap (is_below t b) (sym r) ∙ k)
  below_by (suc d) a b c n e deep h k = elim (one_or_two c Root) [
    | inl r ↦ ap (is_below t a) r ∙ root_above a b h (ap (is_below t b) (sym r) ∙ k)
    | inr other ↦
        let p = the_parent t f c n other e in
        elim (or_parts (is_same c b) _ (sym (below_step t f b c n other e) ∙ k)) [
          | inl s ↦ ap (is_below t a) (same c b s) ∙ h
          | inr k ↦ below_step t f a c n other e ∙ or_right (is_same c a) _ (below_by d a b n.parent p.0 p.1 (omega (arith, p.2.depth, deep)) h k)
        ]
  ]

  -- what lies below a node that lies below a, lies below a
  pub below_more : (a b c : NodeId) (n : Node) → get t c ≡ Some n → is_below t a b ≡ true → is_below t b c ≡ true → is_below t a c ≡ true
  below_more a b c n e h k = below_by n.depth a b c n e refl h k

  pub below_child : (p c : NodeId) (n : Node) → c ≢ Root → get t c ≡ Some n → n.parent ≡ p → is_below t p c ≡ true
  below_child p c n made e is = below_step t f p c n made e ∙ or_right (is_same c p) _ (ap (is_below t p) is ∙ below_self t p)

-- a tree of which one node changes, beside what goes with those of its children that go

abbrev pub IsSpared : Nodes → (NodeId → Type 0) → NodeId → Type 0
IsSpared t G y = (w : NodeId) → G w → is_below t w y ≡ false

pub record IsChange (t u : Nodes) (z : NodeId) (G : NodeId → Type 0) : Type 0 where
  pub before : IsFormed t
  pub after : IsFormed u
  pub node : Node
  pub there : get t z ≡ Some node
  pub out : (w : NodeId) → G w → (n : Node) × (get t w ≡ Some n) × (w ≢ Root) × (n.parent ≡ z)
  pub stays : (y : NodeId) (n : Node) → get t y ≡ Some n → IsSpared t G y
      → (m : Node) × (get u y ≡ Some m) × (m.parent ≡ n.parent) × (y ≢ z → m.kind ≡ n.kind) × (n.parent ≢ z → m.key ≡ n.key)
  pub was : (y : NodeId) (m : Node) → get u y ≡ Some m → m.parent ≢ z → (n : Node) × (get t y ≡ Some n) × (n.parent ≡ m.parent) × (n.key ≡ m.key)

pub map_in : {A B : Type 0} (g h : A → B) (xs : List A) → ((x : A) → Has x xs → g x ≡ h x) → map g xs ≡ map h xs
map_in g h [] is = refl
map_in g h (x ∷ xs) is = λ i. is x (inl refl) i ∷ map_in g h xs (λ y m. is y (inr m)) i

-- the members of children
abbrev pub kids : ℕ → Nodes → NodeId → List (List ℕ × Value)
kids j t x = map (λ (e : Kid). (e.0, view_within j t e.1)) (children t x)

pub view_more : (j : ℕ) (t : Nodes) (x : NodeId) → view_within (suc j) t x ≡ node_view (get t x) (kids j t x)
unfolding view_within
view_more j t x = refl

-- a child in the list of children
pub kid : (t : Nodes) (p : NodeId) (e : Kid) → Has e (children t p) → IsChild t p e.0 e.1
kid t p e h =
    let c = is_child_of p (entries t) e h in
    record { node = c.node; there = answer_of t (e.1, c.node) c.has; made = c.made; parent = c.parent; key = c.key }

module _ (t u : Nodes) (z : NodeId) (G : NodeId → Type 0) (c : IsChange t u z G) where
  f : IsFormed t
  f = c.before

  -- a child of a node that isn't z stays where the node stays
  child_spared : (y : NodeId) → y ≢ z → IsSpared t G y → (k : List ℕ) (e : NodeId) → IsChild t y k e → IsSpared t G e
  child_spared y other s k e d w g =
      let o = c.out w g in
      let apart : is_same e w ≡ false = differ e w (λ is.
      let one : d.node ≡ o.0 = some_inj d.node o.0 (sym d.there ∙ ap (get t) is ∙ o.1) in
      other (sym d.parent ∙ ap (λ (n : Node). n.parent) one ∙ o.3)) in
      below_step t f w e d.node d.made d.there ∙ ap (λ b. b || is_below t w d.node.parent) apart ∙ ap (is_below t w) d.parent ∙ s w g

  pub same_kids : (y : NodeId) → y ≢ z → IsSpared t G y → children t y ≡ children u y
  same_kids y other s = same_children t u y (λ k. same_child t u c.after y k
      (λ e d. let m = c.stays e d.node d.there (child_spared y other s k e d) in
      record { node = m.0; there = m.1; made = d.made; parent = m.2 ∙ d.parent; key = m.4 (λ is. other (sym d.parent ∙ is)) ∙ d.key })
      (λ e d. let n = c.was e d.node d.there (λ is. other (sym d.parent ∙ is)) in
      record { node = n.0; there = n.1; made = d.made; parent = n.2 ∙ d.parent; key = n.3 ∙ d.key }))

  pub same_node : (y : NodeId) (n : Node) → get t y ≡ Some n → y ≢ z → IsSpared t G y → (vs : List (List ℕ × Value)) → node_view (get t y) vs ≡ node_view (get u y) vs
  same_node y n e other s vs =
      let m = c.stays y n e s in
      ap (λ o. node_view o vs) e ∙ ap (λ k. kind_view k vs) (sym (m.3 other)) ∙ sym (ap (λ o. node_view o vs) m.1)

  apart_of : (y : NodeId) → is_below t y z ≡ false → y ≢ z
  apart_of y h is = true_false (sym (below_self t y) ∙ ap (is_below t y) is ∙ h)

  -- what doesn't lead to z is shown as before
  pub same_view : (j : ℕ) (y : NodeId) (n : Node) → get t y ≡ Some n → IsSpared t G y → is_below t y z ≡ false → view_within j t y ≡ view_within j u y
  same_view zero y n e s h = view_none t y ∙ same_node y n e (apart_of y h) s [] ∙ sym (view_none u y)
  same_view (suc j) y n e s h =
      let other = apart_of y h in
      view_more j t y
      ∙ same_node y n e other s (kids j t y)
      ∙ ap (node_view (get u y)) (
      map_in (λ (d : Kid). (d.0, view_within j t d.1)) (λ (d : Kid). (d.0, view_within j u d.1)) (children t y) (λ d m.
      let k = kid t y d m in
      ap (λ v. (d.0, v)) (same_view j d.1 k.node k.there (child_spared y other s d.0 d.1 k) (by_no _ (λ b.
      true_false (sym (below_more t f y d.1 z c.node c.there (below_child t f y d.1 k.node k.made k.there k.parent) b) ∙ h)))))
      ∙ ap (map (λ (d : Kid). (d.0, view_within j u d.1))) (same_kids y other s))
      ∙ sym (view_more j u y)

  -- the nodes from the root to z

  module _ (x : NodeId) (m : Node) (made : x ≢ Root) (here : get t x ≡ Some m) (leads : is_below t x z ≡ true) where
    not_z : m.parent ≢ z
    not_z is = true_false (sym leads ∙ ap (is_below t x) (sym is) ∙ parent_not_below t f x m made here)

    above : (q : Node) × (get t m.parent ≡ Some q)
    above = let p = the_parent t f x m made here in (p.0, p.1)

    -- its parent isn't below z
    outside : is_below t z m.parent ≡ false
    outside = by_no _ (λ h. true_false (sym (below_more t f x z m.parent above.0 above.1 leads h) ∙ parent_not_below t f x m made here))

    pub parent_spared : IsSpared t G m.parent
    parent_spared w g = by_no _ (λ h.
        let o = c.out w g in
        true_false (sym (below_more t f z w m.parent above.0 above.1 (below_child t f z w o.0 o.2 o.1 o.3) h) ∙ outside))

    pub own_spared : IsSpared t G x
    own_spared = child_spared m.parent not_z parent_spared m.key x (record { node = m; there = here; made = made; parent = refl; key = refl })

    pub parent_leads : is_below t m.parent z ≡ true
    parent_leads = below_more t f m.parent x z c.node c.there (below_child t f m.parent x m made here refl) leads

    pub same_siblings : children t m.parent ≡ children u m.parent
    same_siblings = same_kids m.parent not_z parent_spared

    pub same_parent : (vs : List (List ℕ × Value)) → node_view (get t m.parent) vs ≡ node_view (get u m.parent) vs
    same_parent = same_node m.parent above.0 above.1 not_z parent_spared

    pub own_stays : (v : Node) × (get u x ≡ Some v) × (v.parent ≡ m.parent) × (v.key ≡ m.key)
    own_stays = let v = c.stays x m here own_spared in (v.0, v.1, v.2, v.4 not_z)

    pub parent_list : holds_list (get u m.parent) ≡ holds_list (get t m.parent)
    parent_list =
        let v = c.stays m.parent above.0 above.1 parent_spared in
        ap holds_list v.1 ∙ ap is_list (v.3 not_z) ∙ sym (ap holds_list above.1)

    -- the siblings are shown as before
    pub sibling_view : (j : ℕ) (e : Kid) → Has e (children t m.parent) → e.1 ≢ x → view_within j t e.1 ≡ view_within j u e.1
    sibling_view j e h other =
        let k = kid t m.parent e h in
        same_view j e.1 k.node k.there (child_spared m.parent not_z parent_spared e.0 e.1 k) (by_no _ (λ b.
        other (siblings_apart t f e.1 x k.node m k.made made k.there here k.parent z c.node c.there b leads)))

    -- the child x among its siblings
    pub one_key : (e : Kid) → Has e (children t m.parent) → e.1 ≡ x → e.0 ≡ m.key
    one_key e h is = let k = kid t m.parent e h in sym k.key ∙ ap (λ (n : Node). n.key) (some_inj k.node m (sym k.there ∙ ap (get t) is ∙ here))

  pub root_spared : IsSpared t G Root
  root_spared w g = let o = c.out w g in below_root t f w o.2

  -- a child of z that stays is shown as before
  pub child_view : (j : ℕ) (k : List ℕ) (e : NodeId) → IsChild t z k e → IsSpared t G e → view_within j t e ≡ view_within j u e
  child_view j k e d s = same_view j e d.node d.there s (ap (is_below t e) (sym d.parent) ∙ parent_not_below t f e d.node d.made d.there)
