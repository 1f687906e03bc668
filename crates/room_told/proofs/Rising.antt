-- What changes at a node changes so in the whole view, at the path to the node.
use Rattle.std.proofs.Common.{◌≡◌, ◌≢◌, ◌≤◌, ◌+◌, ◌-◌, ℕ, zero, suc, inl, inr, true, cond, List, [], ◌∷◌, ◌++◌, map, Some, refl, sym, ap, ◌∙◌, subst, arith}
use Rattle.std.specs.FinMap.{get, insert}
use Rattle.room_ids.specs.Order.{is_same}
use Rattle.room_ids.specs.declared.ids.NodeId.{NodeId}
use Rattle.room_ids.specs.declared.ids.NodeId.TheVariants.{Root}
use Rattle.room_nodes.specs.declared.nodes.Node.{Node}
use Rattle.room_nodes.specs.Ordered.{IsOrderedTree}
use Rattle.room_nodes.specs.Shape.{Nodes, IsFormed, children, is_below}
use Rattle.room_nodes.proofs.Below.{below_self, is_root, root_depth}
use Rattle.room_nodes.proofs.Fitting.{the_parent}
use Rattle.room_nodes.specs.Steps.{holds_list}
use Rattle.room_nodes.proofs.Gets.{differ, get_here, here_or_old, one_or_two, same_self, some_inj}
use Rattle.room_nodes.proofs.Undoing.{parent_other}
use Rattle.room_nodes.proofs.Listing.{Has}
use Rattle.room_items.specs.View.{kind_view, node_view, view, view_at, view_within}
use Rattle.room_items.proofs.Levels.{view_none}
use Rattle.room_model.specs.Notices.{Index, Key, at_path, index_among, index_in, parent_in, path_of, path_step, path_within, place_of}
use Rattle.room_told.proofs.Following.{Kid, IsChange, IsSpared, kid, kids, own_stays, parent_leads, parent_list, root_spared, same_siblings, view_more}
use Rattle.room_told.proofs.Lifting.{Change, at_place, lifted, path_last}

-- paths, a step at a time

path_more : (n : ℕ) (t : Nodes) (x : NodeId) → path_within (suc n) t x ≡ path_step t x (get t x) (path_within n t (parent_in (get t x)))
unfolding path_within
path_more n t x = refl

path_none : (t : Nodes) (x : NodeId) → path_within 0 t x ≡ []
unfolding path_within
path_none t x = refl

path_root : (n : ℕ) (t : Nodes) (x : NodeId) (m : Node) → get t x ≡ Some m → x ≡ Root → path_within n t x ≡ []
path_root zero t x m e r = path_none t x
path_root (suc n) t x m e r =
    path_more n t x ∙ ap (λ o. path_step t x o (path_within n t (parent_in (get t x)))) e
    ∙ ap (λ b. cond b [] (path_within n t (parent_in (get t x)) ++ place_of t x m ∷ [])) (ap (λ y. is_same y Root) r ∙ same_self Root)

path_down : (n : ℕ) (t : Nodes) (x : NodeId) (m : Node) → get t x ≡ Some m → x ≢ Root → path_within (suc n) t x ≡ path_within n t m.parent ++ place_of t x m ∷ []
path_down n t x m e other =
    path_more n t x ∙ ap (λ o. path_step t x o (path_within n t (parent_in o))) e
    ∙ ap (λ b. cond b [] (path_within n t m.parent ++ place_of t x m ∷ [])) (differ x Root other)

path_whole : (t : Nodes) (x : NodeId) → path_of t x ≡ path_within 60 t x
unfolding path_of
path_whole t x = refl

pub view_whole : (t : Nodes) → view t ≡ view_within 60 t Root
unfolding view_at
view_whole t = refl

-- levels: a node as deep as a node may be has no children

no_kids : (t : Nodes) (x : NodeId) (cs : List Kid) → children t x ≡ cs → ((k : List ℕ) (e : NodeId) (n : Node) → get t e ≡ Some n → e ≢ Root → n.parent ≡ x → ⊥) → cs ≡ []
no_kids t x [] e h = refl
no_kids t x (c ∷ cs) e h = let d = kid t x c (subst (Has c) (sym e) (inl refl)) in absurd (h c.0 c.1 d.node d.there d.made d.parent)

module _ (t : Nodes) (f : IsFormed t) (x : NodeId) (n : Node) (here : get t x ≡ Some n) where
  childless : n.depth ≡ 60 → children t x ≡ []
  childless deep = no_kids t x (children t x) refl (λ k e m there made is.
      let p = the_parent t f e m made there in
      let one : p.0 ≡ n = some_inj p.0 n (sym p.1 ∙ ap (get t) is ∙ here) in
      let low : m.depth ≤ 60 = p.2.deep in
      let up : m.depth ≡ n.depth + 1 = p.2.depth ∙ ap (λ (v : Node). v.depth + 1) one in
      omega (arith, low, up, deep))

  pub deep_enough : n.depth ≤ 60
  deep_enough = elim (one_or_two x Root) [
    | inl r ↦ let d : n.depth ≡ 0 = root_depth t f n (ap (get t) (sym r) ∙ here) in omega (arith, d)
    | inr made ↦ (the_parent t f x n made here).2.deep
  ]

  level_by : (j : ℕ) → 60 - n.depth ≡ j → view_within j t x ≡ kind_view n.kind (kids (59 - n.depth) t x)
  level_by zero e =
      let deep : n.depth ≡ 60 = omega (arith, e, deep_enough) in
      view_none t x ∙ ap (λ o. node_view o []) here
      ∙ ap (λ cs. kind_view n.kind (map (λ (d : Kid). (d.0, view_within (59 - n.depth) t d.1)) cs)) (sym (childless deep))
  level_by (suc j) e =
      let less : 59 - n.depth ≡ j = omega (arith, e) in
      view_more j t x ∙ ap (λ o. node_view o (kids j t x)) here ∙ ap (λ i. kind_view n.kind (kids i t x)) (sym less)

  -- the view of a node at its level
  pub level : view_within (60 - n.depth) t x ≡ kind_view n.kind (kids (59 - n.depth) t x)
  level = level_by (60 - n.depth) refl

module _ (t u : Nodes) (z : NodeId) (G : NodeId → Type 0) (c : IsChange t u z G) (ordered : IsOrderedTree t) where
  rise : (d n : ℕ) (x : NodeId) (m : Node) → get t x ≡ Some m → m.depth ≡ d → d ≤ n → is_below t x z ≡ true → (g : Change) → g (view_within (60 - d) t x) ≡ Some (view_within (60 - d) u x)
      → at_path (path_within n t x) g (view t) ≡ Some (view u)
  rise zero n x m e deep le leads g is =
      let r = is_root t c.before x m e deep in
      ap (λ ss. at_path ss g (view t)) (path_root n t x m e r)
      ∙ ap g (view_whole t ∙ ap (view_within 60 t) (sym r)) ∙ is ∙ ap Some (ap (view_within 60 u) r ∙ sym (view_whole u))
  rise (suc d) zero x m e deep le leads g is = absurd (omega (arith, le))
  rise (suc d) (suc n) x m e deep le leads g is =
      let made : x ≢ Root = λ r. let z : m.depth ≡ 0 = root_depth t c.before m (ap (get t) (sym r) ∙ e) in omega (arith, z, deep) in
      let p = the_parent t c.before x m made e in
      let low : m.depth ≤ 60 = p.2.deep in
      let up : m.depth ≡ p.0.depth + 1 = p.2.depth in
      let next : suc (60 - suc d) ≡ 60 - d = omega (arith, low, deep) in
      let more = lifted t u z G c x m made e leads (60 - suc d) g is ordered in
      ap (λ ss. at_path ss g (view t)) (path_down n t x m e made)
      ∙ path_last (path_within n t m.parent) (place_of t x m) g (view t)
      ∙ rise d n m.parent p.0 p.1 (omega (arith, up, deep)) (omega (arith, le)) (parent_leads t u z G c x m made e leads) (at_place (place_of t x m) g)
      (subst (λ i. at_place (place_of t x m) g (view_within i t m.parent) ≡ Some (view_within i u m.parent)) next more)

  -- a change of the node's view, at the path to it
  pub followed : (m : Node) → get u z ≡ Some m → m.depth ≡ c.node.depth → (g : Change) → g (kind_view c.node.kind (kids (59 - c.node.depth) t z)) ≡ Some (kind_view m.kind (kids (59 - c.node.depth) u z))
      → at_path (path_of t z) g (view t) ≡ Some (view u)
  followed m e deep g is =
      let then_z : view_within (60 - c.node.depth) u z ≡ kind_view m.kind (kids (59 - c.node.depth) u z) =
      subst (λ d. view_within (60 - d) u z ≡ kind_view m.kind (kids (59 - d) u z)) deep (level u c.after z m e) in
      ap (λ ss. at_path ss g (view t)) (path_whole t z)
      ∙ rise c.node.depth 60 z c.node c.there refl (deep_enough t c.before z c.node c.there) (below_self t z) g
      (ap g (level t c.before z c.node c.there) ∙ is ∙ sym (ap Some then_z))

-- the path to the node stays
module _ (t u : Nodes) (z : NodeId) (G : NodeId → Type 0) (c : IsChange t u z G) where
  place_same : (x : NodeId) (m v : Node) → x ≢ Root → get t x ≡ Some m → is_below t x z ≡ true → v.parent ≡ m.parent → v.key ≡ m.key → place_of u x v ≡ place_of t x m
  place_same x m v made e leads parent key =
      (λ i. cond (holds_list (get u (parent i))) (Index (index_in u (parent i) x)) (Key (key i)))
      ∙ ap (λ b. cond b (Index (index_in u m.parent x)) (Key m.key)) (parent_list t u z G c x m made e leads)
      ∙ ap (λ cs. cond (holds_list (get t m.parent)) (Index (index_among x cs)) (Key m.key)) (sym (same_siblings t u z G c x m made e leads))

  steady : (d n : ℕ) (x : NodeId) (m : Node) → get t x ≡ Some m → m.depth ≡ d → is_below t x z ≡ true → path_within n u x ≡ path_within n t x
  steady d zero x m e deep leads = path_none u x ∙ sym (path_none t x)
  steady zero (suc n) x m e deep leads =
      let r = is_root t c.before x m e deep in
      let v = c.stays x m e (subst (IsSpared t G) (sym r) (root_spared t u z G c)) in
      path_root (suc n) u x v.0 v.1 r ∙ sym (path_root (suc n) t x m e r)
  steady (suc d) (suc n) x m e deep leads =
      let made : x ≢ Root = λ r. let z : m.depth ≡ 0 = root_depth t c.before m (ap (get t) (sym r) ∙ e) in omega (arith, z, deep) in
      let p = the_parent t c.before x m made e in
      let up : m.depth ≡ p.0.depth + 1 = p.2.depth in
      let v = own_stays t u z G c x m made e leads in
      path_down n u x v.0 v.1 made
      ∙ (λ i. path_within n u (v.2 i) ++ place_same x m v.0 made e leads v.2 v.3 i ∷ [])
      ∙ ap (λ ss. ss ++ place_of t x m ∷ []) (steady d n m.parent p.0 p.1 (omega (arith, up, deep)) (parent_leads t u z G c x m made e leads))
      ∙ sym (path_down n t x m e made)

  pub same_path : path_of u z ≡ path_of t z
  same_path = path_whole u z ∙ steady c.node.depth 60 z c.node c.there refl (below_self t z) ∙ sym (path_whole t z)

-- a new node has no children yet
pub new_view : (v : Nodes) → IsFormed v → (x : NodeId) (m : Node) → ((n : Node) → get v x ≡ Some n → ⊥) → IsFormed (insert v x m) → view_within (60 - m.depth) (insert v x m) x ≡ kind_view m.kind []
new_view v g x m fresh after =
    let u = insert v x m in
    level u after x m (get_here v x m)
    ∙ ap (λ cs. kind_view m.kind (map (λ (d : Kid). (d.0, view_within (59 - m.depth) u d.1)) cs)) (
    no_kids u x (children u x) refl (λ k e n there made is. elim (here_or_old v x m e n there) [
      | inl i ↦ parent_other u after e n made there (is ∙ sym i.0)
      | inr o ↦ let p = the_parent v g e n made o.1 in fresh p.0 (ap (get v) (sym is) ∙ p.1)
    ]))
