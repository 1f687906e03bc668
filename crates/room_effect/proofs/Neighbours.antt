-- The positions beside a gap of a list are positions, the first below the second.
use Rattle.std.proofs.Common.{◌≡◌, ℕ, zero, suc, inl, inr, Bool, true, false, not, ◌||◌, T, List, [], ◌∷◌, Option, Some, None, refl, sym, ap, ◌∙◌, subst}
use Rattle.std.specs.Prelude.{IfSome, ⊤}
use Rattle.std.specs.Ordering.{nat_cmp}
use Rattle.std.specs.Cmp.Lexicographic.{slice_cmp}
use Rattle.std.specs.FinMap.{get, entries, is_sorted}
use Rattle.std.specs.FinMap.Entries.{below_all}
use Rattle.room_ids.specs.Position.{IsBelow, is_pos}
use Rattle.room_ids.specs.declared.ids.NodeId.{NodeId}
use Rattle.room_nodes.specs.Shape.{Nodes, IsFormed, children, is_list}
use Rattle.room_nodes.proofs.Children.{is_child_of, answer_of}
use Rattle.room_nodes.proofs.Fitting.{the_parent}
use Rattle.room_nodes.proofs.Listing.{Has, less_of, parts}
use Rattle.room_nodes.proofs.Places.{children_sorted}
use Rattle.room_effect.specs.Beside.{Kids, last_by, left_of, right_of, AreNeighbours, IsListAt, is_list_in}
use Rattle.room_effect.proofs.Gaps.{Kid}

abbrev ArePos : Kids → Type 0
ArePos [] = ⊤
ArePos (e ∷ es) = (is_pos e.0 ≡ true) × ArePos es

all_pos : (cs : Kids) → ((g : Kid) → Has g cs → is_pos g.0 ≡ true) → ArePos cs
all_pos [] h = tt
all_pos (e ∷ es) h = (h e (inl refl), all_pos es (λ g m. h g (inr m)))

placed_by : (a b : Bool) → a ≡ true → (not a || b) ≡ true → b ≡ true
placed_by true b e h = h
placed_by false b e h = cc

module _ (t : Nodes) (f : IsFormed t) (p : NodeId) (list : IsListAt t p) where
  pub pos_of : (g : Kid) → Has g (children t p) → is_pos g.0 ≡ true
  pos_of g h =
      let c = is_child_of p (entries t) g h in
      let q = the_parent t f g.1 c.node c.made (answer_of t (g.1, c.node) c.has) in
      let there : get t p ≡ Some q.0 = ap (get t) (sym c.parent) ∙ q.1 in
      let kind : is_list q.0.kind ≡ true = sym (ap is_list_in there) ∙ list in
      ap is_pos (sym c.key) ∙ placed_by (is_list q.0.kind) (is_pos c.node.key) kind q.2.place

  are_pos : ArePos (children t p)
  are_pos = all_pos (children t p) pos_of

last_pos : (k : List ℕ) (o : Option (List ℕ)) → is_pos k ≡ true → IfSome o (λ x. is_pos x ≡ true) → is_pos (last_by k o) ≡ true
last_pos k None a b = a
last_pos k (Some j) a b = b

left_pos : (g : ℕ) (cs : Kids) → ArePos cs → IfSome (left_of g cs) (λ x. is_pos x ≡ true)
left_pos g [] h = tt
left_pos zero (e ∷ es) h = tt
left_pos (suc g) (e ∷ es) h = last_pos e.0 (left_of g es) h.0 (left_pos g es h.1)

right_pos : (g : ℕ) (cs : Kids) → ArePos cs → IfSome (right_of g cs) (λ x. is_pos x ≡ true)
right_pos g [] h = tt
right_pos zero (e ∷ es) h = h.0
right_pos (suc g) (e ∷ es) h = right_pos g es h.1

right_above : (k : List ℕ) (g : ℕ) (cs : Kids) → T (below_all (slice_cmp nat_cmp) k cs) → IfSome (right_of g cs) (λ y. IsBelow k y)
right_above k g [] h = tt
right_above k zero (e ∷ es) h = (less_of (slice_cmp nat_cmp k e.0) _ h).0
right_above k (suc g) (e ∷ es) h = right_above k g es (less_of (slice_cmp nat_cmp k e.0) _ h).1

last_below : (k : List ℕ) (l r : Option (List ℕ)) → IfSome r (λ y. IsBelow k y) → IfSome l (λ x. IfSome r (λ y. IsBelow x y)) → IfSome r (λ y. IsBelow (last_by k l) y)
last_below k None r a b = a
last_below k (Some j) r a b = b

both_below : (g : ℕ) (cs : Kids) → T (is_sorted (slice_cmp nat_cmp) cs) → IfSome (left_of g cs) (λ x. IfSome (right_of g cs) (λ y. IsBelow x y))
both_below g [] h = tt
both_below zero (e ∷ es) h = tt
both_below (suc g) (e ∷ es) h =
    let s = parts (below_all (slice_cmp nat_cmp) e.0 es) _ h in
    last_below e.0 (left_of g es) (right_of g es) (right_above e.0 g es s.0) (both_below g es s.1)

pub neighbours : (t : Nodes) → IsFormed t → (p : NodeId) (g : ℕ) → IsListAt t p → (left right : Option (List ℕ))
    → left ≡ left_of g (children t p) → right ≡ right_of g (children t p) → AreNeighbours left right
neighbours t f p g list left right l r =
    let cs = children t p in
    let all = are_pos t f p list in
    subst (λ (o : Option (List ℕ)). AreNeighbours o right) (sym l)
    (subst (λ (o : Option (List ℕ)). AreNeighbours (left_of g cs) o) (sym r)
    (record { left = left_pos g cs all; right = right_pos g cs all; below = both_below g cs (children_sorted p (entries t)) }))
