-- A walk over the children of a node.
use Rattle.std.proofs.Common.{◌≡◌, inl, inr, ℕ, cond, T, List, [], ◌∷◌, ◌++◌, Some, None, option_map, Greater, refl, sym, ap, ◌∙◌, subst, append_assoc}
use Rattle.std.specs.Ordering.{nat_cmp, is_lt, ordering_reverse}
use Rattle.std.specs.Cmp.Lexicographic.{slice_cmp}
use Rattle.std.proofs.lemmas.Cmp.{nat_list_cmp_total, tied_itself}
use Rattle.std.specs.FinMap.{get, entries, is_sorted}
use Rattle.std.specs.FinMap.Entries.{below_all}
use Rattle.room_ids.specs.declared.ids.NodeId.{NodeId}
use Rattle.room_nodes.specs.declared.nodes.Node.{Node}
use Rattle.room_nodes.specs.Shape.{Nodes, children, next_of}
use Rattle.room_nodes.proofs.Children.{text_exact, is_child_of, answer_of}
use Rattle.room_nodes.proofs.Listing.{Has, has_above, parts}
use Rattle.room_nodes.proofs.Gets.{some_inj, some_none}
use Rattle.room_nodes.proofs.Places.{children_sorted}

abbrev pub Kid : Type 0
Kid = List ℕ × NodeId

abbrev Sorted : List Kid → Type 0
Sorted es = T (is_sorted (slice_cmp nat_cmp) es)

has_middle : (done : List Kid) (e : Kid) (rest : List Kid) → Has e (done ++ e ∷ rest)
has_middle [] e rest = inl refl
has_middle (d ∷ done) e rest = inr (has_middle done e rest)

above_skip : (k : List ℕ) (f : Kid) (es : List Kid) → slice_cmp nat_cmp k f.0 ≡ Greater → next_of (Some k) (f ∷ es) ≡ next_of (Some k) es
above_skip k f es e = ap (λ o. cond (is_lt o) (Some f) (next_of (Some k) es)) e

first_above : (k : List ℕ) (rest : List Kid) → T (below_all (slice_cmp nat_cmp) k rest) → next_of (Some k) rest ≡ next_of None rest
first_above k [] h = refl
first_above k (f ∷ rest) h = ap (λ o. cond (is_lt o) (Some f) (next_of (Some k) rest)) (has_above (slice_cmp nat_cmp) text_exact nat_list_cmp_total k f (f ∷ rest) h (inl refl))

-- the child after e is the first of those behind it
pub next_behind : (done : List Kid) (e : Kid) (rest : List Kid) → Sorted (done ++ e ∷ rest) → next_of (Some e.0) (done ++ e ∷ rest) ≡ next_of None rest
next_behind [] e rest h =
    let p = parts (below_all (slice_cmp nat_cmp) e.0 rest) _ h in
    ap (λ o. cond (is_lt o) (Some e) (next_of (Some e.0) rest)) (tied_itself nat_list_cmp_total e.0) ∙ first_above e.0 rest p.0
next_behind (d ∷ done) e rest h =
    let p = parts (below_all (slice_cmp nat_cmp) d.0 (done ++ e ∷ rest)) _ h in
    let below = has_above (slice_cmp nat_cmp) text_exact nat_list_cmp_total d.0 e (done ++ e ∷ rest) p.0 (has_middle done e rest) in
    above_skip e.0 d (done ++ e ∷ rest) (nat_list_cmp_total.antisymm e.0 d.0 ∙ ap ordering_reverse below) ∙ next_behind done e rest p.1

module _ (t : Nodes) (p : NodeId) (done : List Kid) (e : Kid) (rest : List Kid) (all : children t p ≡ done ++ e ∷ rest) where
  -- the node of a child that was found has its key
  pub kid_node : (n : Node) × (get t e.1 ≡ Some n) × (n.key ≡ e.0)
  kid_node =
      let c = is_child_of p (entries t) e (subst (Has e) (sym all) (has_middle done e rest)) in
      (c.node, answer_of t (e.1, c.node) c.has, c.key)

  pub kid_next : next_of (Some e.0) (children t p) ≡ next_of None rest
  kid_next = ap (next_of (Some e.0)) all ∙ next_behind done e rest (subst Sorted all (children_sorted p (entries t)))

-- one child more is found
pub kid_there : (t : Nodes) (p : NodeId) (done rest : List Kid) (child : NodeId) → children t p ≡ done ++ rest → Some child ≡ option_map (λ e. e.1) (next_of None rest)
    → (n : Node) × (get t child ≡ Some n)
kid_there t p done [] child all is = absurd (some_none child is)
kid_there t p done (e ∷ rest) child all is = let k = kid_node t p done e rest all in (k.0, ap (get t) (some_inj child e.1 is) ∙ k.1)

pub kid_step : (t : Nodes) (p : NodeId) (done rest : List Kid) (child : NodeId) (key : List ℕ) (n : Node) → children t p ≡ done ++ rest → Some child ≡ option_map (λ e. e.1) (next_of None rest)
    → get t child ≡ Some n → key ≡ n.key
    → (more : List Kid) × (children t p ≡ (done ++ (key, child) ∷ []) ++ more) × (next_of (Some key) (children t p) ≡ next_of None more)
kid_step t p done [] child key n all is there named = absurd (some_none child is)
kid_step t p done (e ∷ rest) child key n all is there named =
    let k = kid_node t p done e rest all in
    let same : e.1 ≡ child = sym (some_inj child e.1 is) in
    let nodes : k.0 ≡ n = some_inj k.0 n (sym k.1 ∙ ap (get t) same ∙ there) in
    let keyed : key ≡ e.0 = named ∙ sym (ap (λ (m : Node). m.key) nodes) ∙ k.2 in
    let pair : e ≡ (key, child) = λ i. (sym keyed i, same i) in (
      rest,
      all ∙ sym (append_assoc done (e ∷ []) rest) ∙ ap (λ (x : Kid). (done ++ x ∷ []) ++ rest) pair,
      ap (λ j. next_of (Some j) (children t p)) keyed ∙ kid_next t p done e rest all,
    )

pub none_left : (rest : List Kid) → None ≡ option_map (λ e. e.1) (next_of None rest) → rest ≡ []
none_left [] h = refl
none_left (e ∷ rest) h = absurd (some_none e.1 (sym h))
