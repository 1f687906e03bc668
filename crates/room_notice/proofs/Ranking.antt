-- Walks over the children of a node up to a key, and what a child's index is.
use Rattle.std.proofs.Common.{◌≡◌, ◌≢◌, ◌≤◌, ◌+◌, ℕ, suc, inl, inr, Bool, true, false, cond, not, ◌&&◌, T, List, [], ◌∷◌, length, Option, Some, None, option_map, Ordering, Less, Equal, Greater, refl, sym, ap, ◌∙◌, subst, arith}
use Rattle.std.specs.Ordering.{nat_cmp, is_lt, ordering_reverse}
use Rattle.std.specs.Cmp.Lexicographic.{slice_cmp}
use Rattle.std.proofs.lemmas.Cmp.{nat_list_cmp_total, tied_itself}
use Rattle.std.specs.FinMap.{get, entries, is_sorted, put, len, len-entries}
use Rattle.std.specs.FinMap.Entries.{below_all, by_order}
use Rattle.room_ids.specs.Order.{is_same}
use Rattle.room_ids.specs.declared.ids.NodeId.{NodeId}
use Rattle.room_ids.specs.declared.ids.NodeId.TheVariants.{Root}
use Rattle.room_nodes.specs.declared.nodes.Node.{Node}
use Rattle.room_nodes.specs.Shape.{Nodes, IsFormed, is_child, child_entries, children, next_of}
use Rattle.room_nodes.proofs.Children.{text_exact, is_child_of, answer_of, next_is_child}
use Rattle.room_nodes.proofs.Gets.{some_inj, some_none, same_self, differ, true_false}
use Rattle.room_nodes.proofs.Listing.{Has, find_has, has_above, next_has, parts}
use Rattle.room_nodes.proofs.Places.{children_sorted, not_below_itself}
use Rattle.room_steps.proofs.Booleans.{by_no}
use Rattle.room_steps.proofs.Kin.{found}
use Rattle.room_model.specs.Notices.{index_among, index_in}
use Rattle.room_notice.specs.Ranks.{counted, is_counted, is_skipped, rank, weight}

abbrev pub Kid : Type 0
Kid = List ℕ × NodeId

abbrev pub Sorted : List Kid → Type 0
Sorted es = T (is_sorted (slice_cmp nat_cmp) es)

-- what lies behind a key

abbrev pub behind : Option (List ℕ) → List Kid → List Kid
behind None es = es
behind (Some k) [] = []
behind (Some k) (e ∷ es) = cond (is_lt (slice_cmp nat_cmp k e.0)) (e ∷ es) (behind (Some k) es)

same_behind : (k : List ℕ) (es : List Kid) → T (below_all (slice_cmp nat_cmp) k es) → behind (Some k) es ≡ es
same_behind k [] h = refl
same_behind k (f ∷ es) h = ap (λ o. cond (is_lt o) (f ∷ es) (behind (Some k) es)) (has_above (slice_cmp nat_cmp) text_exact nat_list_cmp_total k f (f ∷ es) h (inl refl))

past : (k : List ℕ) (f : Kid) (es : List Kid) → is_lt (slice_cmp nat_cmp k f.0) ≡ false → behind (Some k) (f ∷ es) ≡ behind (Some k) es
past k f es e = ap (λ b. cond b (f ∷ es) (behind (Some k) es)) e

behind_itself : (f : Kid) (es : List Kid) → Sorted (f ∷ es) → behind (Some f.0) (f ∷ es) ≡ es
behind_itself f es h =
    past f.0 f es (ap is_lt (tied_itself nat_list_cmp_total f.0)) ∙ same_behind f.0 es (parts (below_all (slice_cmp nat_cmp) f.0 es) _ h).0

first_is : (f e : Kid) (es : List Kid) → Sorted (f ∷ es) → f ≡ e → f ∷ es ≡ e ∷ behind (Some e.0) (f ∷ es)
first_is f e es h q = subst (λ (g : Kid). f ∷ es ≡ g ∷ behind (Some g.0) (f ∷ es)) q (ap (λ ys. f ∷ ys) (sym (behind_itself f es h)))

above_not : (j k : List ℕ) → slice_cmp nat_cmp j k ≡ Less → is_lt (slice_cmp nat_cmp k j) ≡ false
above_not j k e = ap is_lt (nat_list_cmp_total.antisymm k j ∙ ap ordering_reverse e)

next_by : (k : List ℕ) (f e : Kid) (es : List Kid) (b : Bool) → Sorted (f ∷ es) → cond b (Some f) (next_of (Some k) es) ≡ Some e
    → (next_of (Some k) es ≡ Some e → behind (Some k) es ≡ e ∷ behind (Some e.0) es) → cond b (f ∷ es) (behind (Some k) es) ≡ e ∷ behind (Some e.0) (f ∷ es)
next_by k f e es true h is more = first_is f e es h (some_inj f e is)
next_by k f e es false h is more =
    let low = has_above (slice_cmp nat_cmp) text_exact nat_list_cmp_total f.0 e es (parts (below_all (slice_cmp nat_cmp) f.0 es) _ h).0 (next_has (Some k) e es is) in
    more is ∙ ap (λ ys. e ∷ ys) (sym (past e.0 f es (above_not f.0 e.0 low)))

-- the next child, and those behind it
pub behind_next : (k : Option (List ℕ)) (e : Kid) (es : List Kid) → Sorted es → next_of k es ≡ Some e → behind k es ≡ e ∷ behind (Some e.0) es
behind_next None e [] h is = absurd (some_none e (sym is))
behind_next None e (f ∷ es) h is = first_is f e es h (some_inj f e is)
behind_next (Some k) e [] h is = absurd (some_none e (sym is))
behind_next (Some k) e (f ∷ es) h is =
    next_by k f e es _ h is (behind_next (Some k) e es (parts (below_all (slice_cmp nat_cmp) f.0 es) _ h).1)

none_by : (k : List ℕ) (f : Kid) (es : List Kid) (b : Bool) → cond b (Some f) (next_of (Some k) es) ≡ None → (next_of (Some k) es ≡ None → behind (Some k) es ≡ []) → cond b (f ∷ es) (behind (Some k) es) ≡ []
none_by k f es true is more = absurd (some_none f is)
none_by k f es false is more = more is

pub behind_none : (k : Option (List ℕ)) (es : List Kid) → next_of k es ≡ None → behind k es ≡ []
behind_none None [] is = refl
behind_none None (f ∷ es) is = absurd (some_none f is)
behind_none (Some k) [] is = refl
behind_none (Some k) (f ∷ es) is = none_by k f es _ is (behind_none (Some k) es)

-- what is counted

none_counted : (k : List ℕ) (o : Option NodeId) (es : List Kid) → ((g : Kid) → Has g es → is_lt (slice_cmp nat_cmp g.0 k) ≡ false) → counted k o es ≡ []
none_counted k o [] h = refl
none_counted k o (e ∷ es) h = ap (λ b. cond (b && not (is_skipped o e.1)) (e ∷ counted k o es) (counted k o es)) (h e (inl refl)) ∙ none_counted k o es (λ g m. h g (inr m))

less_of : (o : Ordering) → is_lt o ≡ true → o ≡ Less
less_of Less e = refl
less_of Equal e = cc
less_of Greater e = cc

-- where the first isn't below the key, none is
pub counted_stop : (k : List ℕ) (o : Option NodeId) (e : Kid) (es : List Kid) → Sorted (e ∷ es) → is_lt (slice_cmp nat_cmp e.0 k) ≡ false → counted k o (e ∷ es) ≡ []
counted_stop k o e es h out = none_counted k o (e ∷ es) (λ g m. elim m [
  | inl is ↦ ap (λ (f : Kid). is_lt (slice_cmp nat_cmp f.0 k)) (sym is) ∙ out
  | inr m ↦ by_no _ (λ low.
      let above = has_above (slice_cmp nat_cmp) text_exact nat_list_cmp_total e.0 g es (parts (below_all (slice_cmp nat_cmp) e.0 es) _ h).0 m in
      true_false (sym (ap is_lt (nat_list_cmp_total.trans e.0 g.0 k above (less_of _ low))) ∙ out))
])

counted_by : (k : List ℕ) (o : Option NodeId) (e : Kid) (es : List Kid) (b : Bool) → is_skipped o e.1 ≡ b → is_lt (slice_cmp nat_cmp e.0 k) ≡ true
    → length (counted k o (e ∷ es)) ≡ length (cond (not b) (e ∷ counted k o es) (counted k o es))
counted_by k o e es b s low =
    ap (λ c. length (cond (c && not (is_skipped o e.1)) (e ∷ counted k o es) (counted k o es))) low
    ∙ ap (λ c. length (cond (not c) (e ∷ counted k o es) (counted k o es))) s

-- the keys that a walk finds

pub kid_is : (t : Nodes) (p : NodeId) (last : Option (List ℕ)) (child : NodeId) (n : Node) → Some child ≡ option_map (λ (e : Kid). e.1) (next_of last (children t p)) → get t child ≡ Some n
    → next_of last (children t p) ≡ Some (n.key, child)
kid_is t p last child n is there = elim (next_of last (children t p)) as (λ o. next_of last (children t p) ≡ o → Some child ≡ option_map (λ (e : Kid). e.1) o → next_of last (children t p) ≡ Some (n.key, child)) [
  | None ↦ λ h e. absurd (some_none child e)
  | Some e ↦ λ h q.
      let c = next_is_child t p last e h in
      let one : e.1 ≡ child = sym (some_inj child e.1 q) in
      let key : e.0 ≡ n.key = sym c.4 ∙ ap (λ (m : Node). m.key) (some_inj c.0 n (sym c.1 ∙ ap (get t) one ∙ there)) in
      h ∙ (λ i. Some (key i, one i))
] refl is

pub kid_there : (t : Nodes) (p : NodeId) (last : Option (List ℕ)) (child : NodeId) → Some child ≡ option_map (λ (e : Kid). e.1) (next_of last (children t p)) → (n : Node) × (get t child ≡ Some n)
kid_there t p last child is = elim (next_of last (children t p)) as (λ o. next_of last (children t p) ≡ o → Some child ≡ option_map (λ (e : Kid). e.1) o → (n : Node) × (get t child ≡ Some n)) [
  | None ↦ λ h e. absurd (some_none child e)
  | Some e ↦ λ h q. let c = next_is_child t p last e h in (c.0, ap (get t) (some_inj child e.1 q) ∙ c.1)
] refl is

sorted_behind : (k : Option (List ℕ)) (es : List Kid) → Sorted es → Sorted (behind k es)
sorted_behind None es h = h
sorted_behind (Some k) [] h = h
sorted_behind (Some k) (e ∷ es) h = by (is_lt (slice_cmp nat_cmp k e.0)) (sorted_behind (Some k) es (parts (below_all (slice_cmp nat_cmp) e.0 es) _ h).1)
  where
    by : (b : Bool) → Sorted (behind (Some k) es) → Sorted (cond b (e ∷ es) (behind (Some k) es))
    by true rest = h
    by false rest = rest

-- how much is left to count
abbrev pub left : Nodes → NodeId → List ℕ → Option NodeId → Option (List ℕ) → ℕ
left t p k o last = length (counted k o (behind last (children t p)))

module _ (t : Nodes) (p : NodeId) (k : List ℕ) (o : Option NodeId) (last : Option (List ℕ)) where
  pub left_none : next_of last (children t p) ≡ None → left t p k o last ≡ 0
  left_none e = ap (λ es. length (counted k o es)) (behind_none last (children t p) e)

  module _ (e : Kid) (is : next_of last (children t p) ≡ Some e) where
    rest : behind last (children t p) ≡ e ∷ behind (Some e.0) (children t p)
    rest = behind_next last e (children t p) (children_sorted p (entries t)) is

    pub fewer : length (behind last (children t p)) ≡ suc (length (behind (Some e.0) (children t p)))
    fewer = ap length rest

    pub left_stop : is_lt (slice_cmp nat_cmp e.0 k) ≡ false → left t p k o last ≡ 0
    left_stop out =
        let h : Sorted (e ∷ behind (Some e.0) (children t p)) = subst Sorted rest (sorted_behind last (children t p) (children_sorted p (entries t))) in
        ap (λ es. length (counted k o es)) rest ∙ ap length (counted_stop k o e (behind (Some e.0) (children t p)) h out)

    by_weight : (b : Bool) → is_skipped o e.1 ≡ b → is_lt (slice_cmp nat_cmp e.0 k) ≡ true → left t p k o last ≡ cond b 0 1 + left t p k o (Some e.0)
    by_weight true s low = omega (arith, ap (λ es. length (counted k o es)) rest ∙ counted_by k o e (behind (Some e.0) (children t p)) true s low)
    by_weight false s low = omega (arith, ap (λ es. length (counted k o es)) rest ∙ counted_by k o e (behind (Some e.0) (children t p)) false s low)

    pub left_step : is_lt (slice_cmp nat_cmp e.0 k) ≡ true → left t p k o last ≡ weight o e.1 + left t p k o (Some e.0)
    left_step low = by_weight (is_skipped o e.1) refl low

-- a tree has more nodes than a node has children

counted_length : (k : List ℕ) (o : Option NodeId) (es : List Kid) → length (counted k o es) ≤ length es
counted_length k o [] = omega arith
counted_length k o (e ∷ es) = by (is_counted k o e) (counted_length k o es)
  where
    by : (b : Bool) → length (counted k o es) ≤ length es → length (cond b (e ∷ counted k o es) (counted k o es)) ≤ suc (length es)
    by true h = omega (arith, h)
    by false h = omega (arith, h)

put_length : (k : List ℕ) (x : NodeId) (es : List Kid) → length (put (slice_cmp nat_cmp) k x es) ≤ suc (length es)
put_length k x [] = omega arith
put_length k x (e ∷ es) = by (slice_cmp nat_cmp k e.0) (put_length k x es)
  where
    by : (o : Ordering) → length (put (slice_cmp nat_cmp) k x es) ≤ suc (length es)
        → length (by_order o ((k, x) ∷ e ∷ es) ((e.0, x) ∷ es) (e ∷ put (slice_cmp nat_cmp) k x es)) ≤ suc (suc (length es))
    by Less h = omega arith
    by Equal h = omega arith
    by Greater h = omega (arith, h)

children_length : (p : NodeId) (es : List (NodeId × Node)) → length (child_entries p es) ≤ length es
children_length p [] = omega arith
children_length p (e ∷ es) = by (is_child p e) (children_length p es) (put_length e.1.key e.0 (child_entries p es))
  where
    by : (b : Bool) → length (child_entries p es) ≤ length es → length (put (slice_cmp nat_cmp) e.1.key e.0 (child_entries p es)) ≤ suc (length (child_entries p es))
        → length (cond b (put (slice_cmp nat_cmp) e.1.key e.0 (child_entries p es)) (child_entries p es)) ≤ suc (length es)
    by true h g = omega (arith, h, g)
    by false h g = omega (arith, h)

pub rank_bound : (t : Nodes) (p : NodeId) (k : List ℕ) (o : Option NodeId) → rank t p k o ≤ len t
rank_bound t p k o = omega (arith, counted_length k o (children t p), children_length p (entries t), len-entries t)

-- a child's index is the number of those below its key

index_by : (x : NodeId) (k : List ℕ) (es : List Kid) → Sorted es → Has (k, x) es → ((g : Kid) → Has g es → g.1 ≡ x → g.0 ≡ k) → index_among x es ≡ length (counted k None es)
index_by x k [] h m one = absurd m
index_by x k (e ∷ es) h m one = elim m [
  | inl is ↦
      ap (λ b. cond b 0 (suc (index_among x es))) (ap (is_same x) (ap (λ (g : Kid). g.1) is) ∙ same_self x)
      ∙ sym (ap length (counted_stop k None e es h (ap (λ (g : Kid). is_lt (slice_cmp nat_cmp g.0 k)) is ∙ ap is_lt (tied_itself nat_list_cmp_total k))))
  | inr m ↦
      let p = parts (below_all (slice_cmp nat_cmp) e.0 es) _ h in
      let low = has_above (slice_cmp nat_cmp) text_exact nat_list_cmp_total e.0 (k, x) es p.0 m in
      let other : x ≢ e.1 = λ s. not_below_itself e.0 (ap (slice_cmp nat_cmp e.0) (one e (inl refl) (sym s)) ∙ low) in
      ap (λ b. cond b 0 (suc (index_among x es))) (differ x e.1 other)
      ∙ ap suc (index_by x k es p.1 m (λ g m. one g (inr m)))
      ∙ sym (counted_by k None e es false refl (ap is_lt low))
]

pub index_rank : (t : Nodes) → IsFormed t → (x : NodeId) (n : Node) → get t x ≡ Some n → x ≢ Root → index_in t n.parent x ≡ rank t n.parent n.key None
index_rank t f x n there made =
    let at = found t f n.parent n.key x (record { node = n; there = there; made = made; parent = refl; key = refl }) in
    index_by x n.key (children t n.parent) (children_sorted n.parent (entries t)) (find_has (slice_cmp nat_cmp) text_exact n.key x (children t n.parent) at) (λ g m is.
    let c = is_child_of n.parent (entries t) g m in
    sym c.key ∙ ap (λ (v : Node). v.key) (some_inj c.node n (sym (answer_of t (g.1, c.node) c.has) ∙ ap (get t) is ∙ there)))

pub none_next : (t : Nodes) (p : NodeId) (last : Option (List ℕ)) → None ≡ option_map (λ (e : Kid). e.1) (next_of last (children t p)) → next_of last (children t p) ≡ None
none_next t p last is = elim (next_of last (children t p)) as (λ o. None ≡ option_map (λ (e : Kid). e.1) o → o ≡ None) [
  | None ↦ λ e. refl
  | Some e ↦ λ q. absurd (some_none e.1 (sym q))
] is
