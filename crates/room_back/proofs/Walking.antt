-- A walk over the children of a node.
use Rattle.std.proofs.Common.{◌≡◌, ◌<◌, inl, inr, ℕ, suc, Bool, true, false, cond, T, List, [], ◌∷◌, length}
use Rattle.std.proofs.Common.{Option, Some, None, option_map, is_some, refl, sym, ap, ◌∙◌, subst, arith}
use Rattle.std.specs.Ordering.{nat_cmp, is_lt, ordering_reverse}
use Rattle.std.specs.Cmp.Lexicographic.{slice_cmp}
use Rattle.std.proofs.lemmas.Cmp.{nat_list_cmp_total, tied_itself}
use Rattle.std.specs.FinMap.{get, entries, is_sorted}
use Rattle.std.specs.FinMap.Entries.{below_all}
use Rattle.room_ids.specs.declared.ids.NodeId.{NodeId}
use Rattle.room_nodes.specs.Shape.{Nodes, children, next_of}
use Rattle.room_nodes.specs.declared.nodes.Node.{Node}
use Rattle.room_nodes.proofs.Children.{text_exact, next_is_child}
use Rattle.room_nodes.proofs.Childs.{Kid}
use Rattle.room_nodes.proofs.Gets.{some_inj, some_none}
use Rattle.room_nodes.proofs.Listing.{Has, has_above, parts}
use Rattle.room_nodes.proofs.Places.{children_sorted}

abbrev Sorted : List Kid → Type 0
Sorted es = T (is_sorted (slice_cmp nat_cmp) es)

-- the children with a greater key
abbrev pub rest_of : Option (List ℕ) → List Kid → List Kid
rest_of None es = es
rest_of (Some k) [] = []
rest_of (Some k) (e ∷ es) = cond (is_lt (slice_cmp nat_cmp k e.0)) (e ∷ es) (rest_of (Some k) es)

abbrev first_in : List Kid → Option Kid
first_in [] = None
first_in (e ∷ es) = Some e

next_by : (k : List ℕ) (e : Kid) (es : List Kid) (b : Bool) → next_of (Some k) es ≡ first_in (rest_of (Some k) es)
    → cond b (Some e) (next_of (Some k) es) ≡ first_in (cond b (e ∷ es) (rest_of (Some k) es))
next_by k e es true h = refl
next_by k e es false h = h

next_first : (k : Option (List ℕ)) (es : List Kid) → next_of k es ≡ first_in (rest_of k es)
next_first None [] = refl
next_first None (e ∷ es) = refl
next_first (Some k) [] = refl
next_first (Some k) (e ∷ es) = next_by k e es (is_lt (slice_cmp nat_cmp k e.0)) (next_first (Some k) es)

-- all are left where all are above
all_left : (k : List ℕ) (es : List Kid) → T (below_all (slice_cmp nat_cmp) k es) → rest_of (Some k) es ≡ es
all_left k [] h = refl
all_left k (e ∷ es) h =
    ap (λ o. cond (is_lt o) (e ∷ es) (rest_of (Some k) es))
    (has_above (slice_cmp nat_cmp) text_exact nat_list_cmp_total k e (e ∷ es) h (inl refl))

head_goes : (e : Kid) (es : List Kid) → Sorted (e ∷ es) → rest_of (Some e.0) (e ∷ es) ≡ es
head_goes e es h =
    let p = parts (below_all (slice_cmp nat_cmp) e.0 es) _ h in
    ap (λ o. cond (is_lt o) (e ∷ es) (rest_of (Some e.0) es)) (tied_itself nat_list_cmp_total e.0)
    ∙ all_left e.0 es p.0

rest_has_by : (k : List ℕ) (g e : Kid) (es : List Kid) (b : Bool) → Has g (cond b (e ∷ es) (rest_of (Some k) es))
    → (Has g (rest_of (Some k) es) → Has g es) → Has g (e ∷ es)
rest_has_by k g e es true h more = h
rest_has_by k g e es false h more = inr (more h)

rest_has : (k : List ℕ) (g : Kid) (es : List Kid) → Has g (rest_of (Some k) es) → Has g es
rest_has k g [] h = h
rest_has k g (e ∷ es) h = rest_has_by k g e es (is_lt (slice_cmp nat_cmp k e.0)) h (rest_has k g es)

skip_by : (k : List ℕ) (e g : Kid) (es rest : List Kid) (b : Bool) → is_lt (slice_cmp nat_cmp k e.0) ≡ b
    → Sorted (e ∷ es) → cond b (e ∷ es) (rest_of (Some k) es) ≡ g ∷ rest
    → (Sorted es → rest_of (Some k) es ≡ g ∷ rest → rest_of (Some g.0) es ≡ rest)
    → rest_of (Some g.0) (e ∷ es) ≡ rest
skip_by k e g es rest true t h is more =
    let head : e ≡ g = cc in
    let tail : es ≡ rest = cc in
    ap (λ (z : Kid). rest_of (Some z.0) (e ∷ es)) (sym head) ∙ head_goes e es h ∙ tail
skip_by k e g es rest false t h is more =
    let p = parts (below_all (slice_cmp nat_cmp) e.0 es) _ h in
    let there : Has g es = rest_has k g es (subst (Has g) (sym is) (inl refl)) in
    let below = has_above (slice_cmp nat_cmp) text_exact nat_list_cmp_total e.0 g es p.0 there in
    ap (λ o. cond (is_lt o) (e ∷ es) (rest_of (Some g.0) es))
    (nat_list_cmp_total.antisymm g.0 e.0 ∙ ap ordering_reverse below)
    ∙ more p.1 is

-- behind the first of those left come the others
behind : (k : Option (List ℕ)) (g : Kid) (rest es : List Kid) → Sorted es → rest_of k es ≡ g ∷ rest
    → rest_of (Some g.0) es ≡ rest
behind None g rest [] h is = cc
behind None g rest (e ∷ es) h is =
    let head : e ≡ g = cc in
    let tail : es ≡ rest = cc in
    ap (λ (z : Kid). rest_of (Some z.0) (e ∷ es)) (sym head) ∙ head_goes e es h ∙ tail
behind (Some k) g rest [] h is = cc
behind (Some k) g rest (e ∷ es) h is = skip_by k e g es rest _ refl h is (λ s i. behind (Some k) g rest es s i)

module _ (t : Nodes) (p : NodeId) (k : Option (List ℕ)) where
  abbrev Found : NodeId → List Kid → Type 0
  Found child es = (g : Kid) × (rest : List Kid) × (es ≡ g ∷ rest) × (g.1 ≡ child)

  found_in : (child : NodeId) (es : List Kid) → Some child ≡ option_map (λ e. e.1) (first_in es) → Found child es
  found_in child [] h = absurd (some_none child h)
  found_in child (e ∷ es) h = (e, es, refl, sym (some_inj child e.1 h))

  module _ (child : NodeId) (is : Some child ≡ option_map (λ e. e.1) (next_of k (children t p))) where
    found : Found child (rest_of k (children t p))
    found = found_in child _ (is ∙ ap (option_map (λ e. e.1)) (next_first k (children t p)))

    first : next_of k (children t p) ≡ Some found.0
    first = next_first k (children t p) ∙ ap first_in found.2

    pub child_there : is_some (get t child) ≡ true
    child_there = let c = next_is_child t p k found.0 first in rw (sym found.3) (rw c.1 refl)

    -- the child comes next, and behind it those above its key
    pub child_next : (n : Node) → Some n ≡ get t child
        → (g : Kid) × (g.1 ≡ child) × (rest_of k (children t p) ≡ g ∷ rest_of (Some n.key) (children t p))
    child_next n there =
        let c = next_is_child t p k found.0 first in
        let node : c.0 ≡ n = some_inj c.0 n (sym c.1 ∙ ap (get t) found.3 ∙ sym there) in
        let key : found.0.0 ≡ n.key = sym c.4 ∙ ap (λ (m : Node). m.key) node in
        let rest = ap (λ j. rest_of (Some j) (children t p)) (sym key)
        ∙ behind k found.0 found.1 (children t p) (children_sorted p (entries t)) found.2 in
        (found.0, found.3, found.2 ∙ ap (λ es. found.0 ∷ es) (sym rest))

    pub child_less : (n : Node) → Some n ≡ get t child
        → length (rest_of (Some n.key) (children t p)) < length (rest_of k (children t p))
    child_less n there =
        let m = child_next n there in
        let more : length (rest_of k (children t p)) ≡ suc (length (rest_of (Some n.key) (children t p))) =
        ap length m.2 in
        omega (arith, more)

  none_in : (es : List Kid) → None ≡ option_map (λ e. e.1) (first_in es) → es ≡ []
  none_in [] h = refl
  none_in (e ∷ es) h = absurd (some_none e.1 (sym h))

  pub none_next : None ≡ option_map (λ e. e.1) (next_of k (children t p)) → rest_of k (children t p) ≡ []
  none_next h = none_in _ (h ∙ ap (option_map (λ e. e.1)) (next_first k (children t p)))
