-- The children of a node, as its tree has them.
use Rattle.std.proofs.Common.{◌≡◌, ◌≢◌, ◌⊎◌, inl, inr, Bool, true, false, cond, not, ◌&&◌, ℕ, List, [], ◌∷◌, Option, Some, None, Ordering, Less, Equal, Greater, refl, sym, ap, ◌∙◌, subst}
use Rattle.std.specs.Ordering.{nat_cmp, eq_by_cmp, is_eq}
use Rattle.std.specs.Cmp.Lexicographic.{slice_cmp}
use Rattle.std.specs.FinMap.{get, entries, entries_sorted, get-entries, put, slice_cmp-IsAntisymmetric, nat_cmp-IsAntisymmetric, IsAntisymmetric, find}
use Rattle.std.specs.FinMap.Entries.{by_order, find-put}
use Rattle.std.proofs.lemmas.Cmp.{nat_list_cmp_total, tied_itself}
use Rattle.room_ids.specs.Order.{node_cmp, is_same}
use Rattle.room_nodes.specs.Shape.{Nodes, is_child, child_entries, children, child_at, next_of}
use Rattle.room_ids.proofs.IdOrder.{node_cmp-total, node_cmp-exact}
use Rattle.room_nodes.proofs.Gets.{same, same_self, differ, true_false}
use Rattle.room_nodes.proofs.Fitting.{both, not_true}
use Rattle.room_nodes.proofs.Listing.{Has, find_has, has_find, put_has, next_has}
use Rattle.room_ids.specs.declared.ids.NodeId.{NodeId}
use Rattle.room_ids.specs.declared.ids.NodeId.TheVariants.{Root}
use Rattle.room_nodes.specs.declared.nodes.Node.{Node}

pub text_exact : IsAntisymmetric (slice_cmp nat_cmp)
text_exact = slice_cmp-IsAntisymmetric nat_cmp-IsAntisymmetric

-- entries and answers

pub entry_of : (t : Nodes) (q : NodeId) (n : Node) → get t q ≡ Some n → Has (q, n) (entries t)
entry_of t q n e = find_has node_cmp node_cmp-exact q n (entries t) (sym (get-entries t q) ∙ e)

pub answer_of : (t : Nodes) (e : NodeId × Node) → Has e (entries t) → get t e.0 ≡ Some e.1
answer_of t e h = get-entries t e.0 ∙ has_find node_cmp node_cmp-exact node_cmp-total e (entries t) (entries_sorted t) h

-- the list of children has the children alone

pub record Child (p : NodeId) (es : List (NodeId × Node)) (k : List ℕ) (c : NodeId) : Type 0 where
  pub node : Node
  pub has : Has (c, node) es
  pub made : c ≢ Root
  pub parent : node.parent ≡ p
  pub key : node.key ≡ k

later : (p : NodeId) (e : NodeId × Node) (es : List (NodeId × Node)) (k : List ℕ) (c : NodeId) → Child p es k c → Child p (e ∷ es) k c
later p e es k c h = record { node = h.node; has = inr h.has; made = h.made; parent = h.parent; key = h.key }

new_child : (p : NodeId) (e : NodeId × Node) (es : List (NodeId × Node)) → is_child p e ≡ true → Child p (e ∷ es) e.1.key e.0
new_child p e es t =
    let a = both (not (is_same e.0 Root)) _ t in
    record { node = e.1; has = inl refl; made = λ r. true_false (sym (same_self Root) ∙ ap (λ x. is_same x Root) (sym r) ∙ not_true _ a.0); parent = same _ _ a.1; key = refl }

child_step : (p : NodeId) (e : NodeId × Node) (es : List (NodeId × Node)) (b : Bool) (g : List ℕ × NodeId) → is_child p e ≡ b
    → Has g (cond b (put (slice_cmp nat_cmp) e.1.key e.0 (child_entries p es)) (child_entries p es)) → (Has g (child_entries p es) → Child p es g.0 g.1) → Child p (e ∷ es) g.0 g.1
child_step p e es true g t h more = elim (put_has (slice_cmp nat_cmp) text_exact e.1.key e.0 g (child_entries p es) h) [
  | inl is ↦ subst (λ (f : List ℕ × NodeId). Child p (e ∷ es) f.0 f.1) is (new_child p e es t)
  | inr m ↦ later p e es g.0 g.1 (more m)
]
child_step p e es false g t h more = later p e es g.0 g.1 (more h)

pub is_child_of : (p : NodeId) (es : List (NodeId × Node)) (g : List ℕ × NodeId) → Has g (child_entries p es) → Child p es g.0 g.1
is_child_of p [] g h = absurd h
is_child_of p (e ∷ es) g h = child_step p e es _ g refl h (is_child_of p es g)

-- and a node with a child has one in its list

some_by : {A : Type 0} (o : Ordering) (a b c : A) (us vs ws : List A) → by_order o (a ∷ us) (b ∷ vs) (c ∷ ws) ≡ [] → ⊥
some_by Less a b c us vs ws e = cc
some_by Equal a b c us vs ws e = cc
some_by Greater a b c us vs ws e = cc

some_put : {K X : Type 0} (R : K → K → Ordering) (k : K) (v : X) (es : List (K × X)) → put R k v es ≡ [] → ⊥
some_put R k v [] e = cc
some_put R k v (f ∷ es) e = some_by (R k f.0) _ _ _ _ _ _ e

none_step : (p : NodeId) (e : NodeId × Node) (es : List (NodeId × Node)) (b : Bool) → cond b (put (slice_cmp nat_cmp) e.1.key e.0 (child_entries p es)) (child_entries p es) ≡ [] → (b ≡ false) × (child_entries p es ≡ [])
none_step p e es true h = absurd (some_put (slice_cmp nat_cmp) e.1.key e.0 (child_entries p es) h)
none_step p e es false h = (refl, h)

child_test : (p c : NodeId) (n : Node) → c ≢ Root → n.parent ≡ p → is_child p (c, n) ≡ true
child_test p c n made is = ap (λ b. not b && is_same n.parent p) (differ c Root made) ∙ ap (λ x. is_same x p) is ∙ same_self p

no_child : (p c : NodeId) (n : Node) (es : List (NodeId × Node)) → child_entries p es ≡ [] → Has (c, n) es → c ≢ Root → n.parent ≡ p → ⊥
no_child p c n [] e h made is = h
no_child p c n (f ∷ es) e h made is = let s = none_step p f es _ e in elim h [
  | inl q ↦ true_false (sym (child_test p c n made is) ∙ ap (is_child p) (sym q) ∙ s.0)
  | inr m ↦ no_child p c n es s.1 m made is
]

no_next : {X : Type 0} (es : List (List ℕ × X)) → next_of None es ≡ None → es ≡ []
no_next [] e = refl
no_next (f ∷ es) e = cc

-- what `next_child` says

module _ (t : Nodes) (p : NodeId) where
  pub bare_of : next_of None (children t p) ≡ None → (c : NodeId) (n : Node) → c ≢ Root → get t c ≡ Some n → n.parent ≡ p → ⊥
  bare_of e c n made h is = no_child p c n (entries t) (no_next (children t p) e) (entry_of t c n h) made is

  pub next_is_child : (k : Option (List ℕ)) (e : List ℕ × NodeId) → next_of k (children t p) ≡ Some e → (n : Node) × (get t e.1 ≡ Some n) × (e.1 ≢ Root) × (n.parent ≡ p) × (n.key ≡ e.0)
  next_is_child k e h =
      let c = is_child_of p (entries t) e (next_has k e (children t p) h) in
      (c.node, answer_of t (e.1, c.node) c.has, c.made, c.parent, c.key)

-- what `child_at` says

no_match : {A : Type 0} (b : Bool) (v : A) (o : Option A) → cond b (Some v) o ≡ None → (b ≡ false) × (o ≡ None)
no_match true v o e = cc
no_match false v o e = (refl, e)

key_self : (k j : List ℕ) → j ≡ k → eq_by_cmp (slice_cmp nat_cmp) k j ≡ true
key_self k j e = ap (λ i. is_eq (slice_cmp nat_cmp k i)) e ∙ ap is_eq (tied_itself nat_list_cmp_total k)

module _ (p : NodeId) (k : List ℕ) (c : NodeId) (n : Node) (made : c ≢ Root) (parent : n.parent ≡ p) (key : n.key ≡ k) where
  missing_step : (f : NodeId × Node) (es : List (NodeId × Node)) (b : Bool) → is_child p f ≡ b
      → find (slice_cmp nat_cmp) k (cond b (put (slice_cmp nat_cmp) f.1.key f.0 (child_entries p es)) (child_entries p es)) ≡ None
      → (f ≡ (c, n)) ⊎ Has (c, n) es → (find (slice_cmp nat_cmp) k (child_entries p es) ≡ None → Has (c, n) es → ⊥) → ⊥
  missing_step f es true t e h more =
      let m = no_match (eq_by_cmp (slice_cmp nat_cmp) k f.1.key) f.0 _ (sym (find-put (slice_cmp nat_cmp) nat_list_cmp_total k f.1.key f.0 (child_entries p es)) ∙ e) in
      elim h [
        | inl q ↦ true_false (sym (key_self k f.1.key (ap (λ (g : NodeId × Node). g.1.key) q ∙ key)) ∙ m.0)
        | inr q ↦ more m.1 q
      ]
  missing_step f es false t e h more = elim h [
    | inl q ↦ true_false (sym (child_test p c n made parent) ∙ ap (is_child p) (sym q) ∙ t)
    | inr q ↦ more e q
  ]

  missing : (es : List (NodeId × Node)) → find (slice_cmp nat_cmp) k (child_entries p es) ≡ None → Has (c, n) es → ⊥
  missing [] e h = h
  missing (f ∷ es) e h = missing_step f es _ refl e h (missing es)

module _ (t : Nodes) (p : NodeId) (k : List ℕ) where
  pub child_at_none : child_at t p k ≡ None → (c : NodeId) (n : Node) → c ≢ Root → get t c ≡ Some n → n.parent ≡ p → n.key ≡ k → ⊥
  child_at_none e c n made h is key = missing p k c n made is key (entries t) e (entry_of t c n h)

  pub child_at_some : (c : NodeId) → child_at t p k ≡ Some c → (n : Node) × (get t c ≡ Some n) × (c ≢ Root) × (n.parent ≡ p) × (n.key ≡ k)
  child_at_some c e =
      let h = is_child_of p (entries t) (k, c) (find_has (slice_cmp nat_cmp) text_exact k c (children t p) e) in
      (h.node, answer_of t (c, h.node) h.has, h.made, h.parent, h.key)
