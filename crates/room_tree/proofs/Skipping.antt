-- The children of a list without one of them, by calls on the whole tree.
use Rattle.std.proofs.Common.{◌≡◌, ◌≢◌, ◌⊎◌, inl, inr, ℕ, true, not, cond, ◌||◌, List, Option, Some, None, option_map, Less, refl, sym, ap, ◌∙◌}
use Rattle.std.specs.Ordering.{nat_cmp}
use Rattle.std.specs.Cmp.Lexicographic.{slice_cmp}
use Rattle.std.proofs.lemmas.Cmp.{nat_list_cmp_total}
use Rattle.std.specs.FinMap.{get, entries}
use Rattle.room_nodes.specs.Shape.{Nodes, IsFormed, is_below, removed, children, child_at, next_of}
use Rattle.room_ids.specs.Order.{is_same}
use Rattle.room_nodes.specs.Steps.{next_key, is_under}
use Rattle.room_tree.specs.Skipped.{skip, next_skip}
use Rattle.room_nodes.proofs.Gets.{some_inj, same, same_self, differ, true_false, kept, get_kept, one_or_two}
use Rattle.room_nodes.proofs.Fitting.{both, not_true}
use Rattle.room_nodes.proofs.Below.{below_self, below_step, parent_not_below}
use Rattle.room_nodes.proofs.Listing.{Has, find_has}
use Rattle.room_nodes.proofs.Children.{text_exact, child_at_some, child_at_none, next_is_child}
use Rattle.room_nodes.proofs.Places.{next_none, next_is, children_sorted, not_below_itself, less_not}
use Rattle.room_ids.specs.declared.ids.NodeId.{NodeId}
use Rattle.room_ids.specs.declared.ids.NodeId.TheVariants.{Root}
use Rattle.room_nodes.specs.declared.nodes.Node.{Node}

-- a child's key is listed
pub listed : (u : Nodes) (p c : NodeId) (m : Node) → c ≢ Root → get u c ≡ Some m → m.parent ≡ p → (d : NodeId) × Has (m.key, d) (children u p)
listed u p c m made e parent = elim (child_at u p m.key) as (λ o. child_at u p m.key ≡ o → (d : NodeId) × Has (m.key, d) (children u p)) [
  | None ↦ λ h. absurd (child_at_none u p m.key h c m made e parent refl)
  | Some d ↦ λ h. (d, find_has (slice_cmp nat_cmp) text_exact m.key d (children u p) h)
] refl

module _ (t : Nodes) (f : IsFormed t) (p x : NodeId) (m : Node) (there : get t x ≡ Some m) (made : x ≢ Root) (parent : m.parent ≡ p) where
  survives : (c : NodeId) (n : Node) → c ≢ Root → get t c ≡ Some n → n.parent ≡ p → c ≢ x → get (removed t x) c ≡ Some n
  survives c n own e is other =
      get_kept t x c (below_step t f x c n own e ∙ ap (λ b. b || is_below t x n.parent) (differ c x other) ∙ ap (is_below t x) (is ∙ sym parent) ∙ parent_not_below t f x m made there) ∙ e

  was : (c : NodeId) (n : Node) → get (removed t x) c ≡ Some n → (get t c ≡ Some n) × (c ≢ x)
  was c n e = let k = kept t x c n e in (k.0, λ s. true_false (sym (ap (is_below t x) s ∙ below_self t x) ∙ k.1))

  one_child : (c d : NodeId) (n v : Node) (k : List ℕ) → c ≢ Root → d ≢ Root → get t c ≡ Some n → get t d ≡ Some v → n.parent ≡ p → v.parent ≡ p → n.key ≡ k → v.key ≡ k → c ≡ d
  one_child c d n v k a b e g h i j l = same c d (f.keys c d n v a b e g (h ∙ sym i) (j ∙ sym l))

  skip_none : (k : List ℕ) → child_at t p k ≡ None → (o : Option NodeId) → child_at (removed t x) p k ≡ o → o ≡ None
  skip_none k e None g = refl
  skip_none k e (Some d) g =
      let h = child_at_some (removed t x) p k d g in
      absurd (child_at_none t p k e d h.0 h.2 (was d h.0 h.1).0 h.3 h.4)

  skip_some : (k : List ℕ) (c : NodeId) → child_at t p k ≡ Some c → (o : Option NodeId) → child_at (removed t x) p k ≡ o → o ≡ skip x (Some c)
  skip_some k c e None g =
      let h = child_at_some t p k c e in
      elim (one_or_two c x) [
        | inl s ↦ sym (ap (λ b. cond b None (Some c)) (ap (is_same c) (sym s) ∙ same_self c))
        | inr s ↦ absurd (child_at_none (removed t x) p k g c h.0 h.2 (survives c h.0 h.2 h.1 h.3 s) h.3 h.4)
      ]
  skip_some k c e (Some d) g =
      let h = child_at_some t p k c e in
      let i = child_at_some (removed t x) p k d g in
      let w = was d i.0 i.1 in
      let is : d ≡ c = one_child d c i.0 h.0 k i.2 h.2 w.0 h.1 i.3 h.3 i.4 h.4 in
      ap Some is ∙ sym (ap (λ b. cond b None (Some c)) (differ c x (λ s. w.1 (is ∙ s))))

  pub child_skip : (k : List ℕ) → child_at (removed t x) p k ≡ skip x (child_at t p k)
  child_skip k = elim (child_at t p k) as (λ o. child_at t p k ≡ o → child_at (removed t x) p k ≡ skip x o) [
    | None ↦ λ e. skip_none k e _ refl
    | Some c ↦ λ e. skip_some k c e _ refl
  ] refl

  -- a child of the smaller tree above k, as one of the greater
  above_in : (k : List ℕ) (e : List ℕ × NodeId) → next_of (Some k) (children (removed t x) p) ≡ Some e → (n : Node) × (get t e.1 ≡ Some n) × (e.1 ≢ Root) × (n.parent ≡ p) × (n.key ≡ e.0) × (e.1 ≢ x) × (slice_cmp nat_cmp k e.0 ≡ Less)
  above_in k e h =
      let c = next_is_child (removed t x) p (Some k) e h in
      let w = was e.1 c.0 c.1 in
      (c.0, w.0, c.2, c.3, c.4, w.1, (next_is k e (children (removed t x) p) (children_sorted p (entries (removed t x))) h).0)

  -- nothing above k there, nothing here
  none_below : (k : List ℕ) → next_of (Some k) (children t p) ≡ None → (o : Option (List ℕ × NodeId)) → next_of (Some k) (children (removed t x) p) ≡ o → option_map (λ e. e.0) o ≡ None
  none_below k h None g = refl
  none_below k h (Some e) g =
      let a = above_in k e g in
      let l = listed t p e.1 a.0 a.2 a.1 a.3 in
      absurd (less_not k a.0.key (ap (slice_cmp nat_cmp k) a.4 ∙ a.6) (next_none k (a.0.key, l.0) (children t p) h l.1))

  -- the first above k that stays is the next one
  least : (k : List ℕ) (e : List ℕ × NodeId) (n : Node) → get t e.1 ≡ Some n → e.1 ≢ Root → n.parent ≡ p → n.key ≡ e.0 → e.1 ≢ x → slice_cmp nat_cmp k e.0 ≡ Less
      → ((y : NodeId) (v : Node) → y ≢ Root → y ≢ x → get t y ≡ Some v → v.parent ≡ p → slice_cmp nat_cmp k v.key ≡ Less → (e.0 ≡ v.key) ⊎ (slice_cmp nat_cmp e.0 v.key ≡ Less))
      → (o : Option (List ℕ × NodeId)) → next_of (Some k) (children (removed t x) p) ≡ o → option_map (λ g. g.0) o ≡ Some e.0
  least k e n h own is key other less first None g =
      let l = listed (removed t x) p e.1 n own (survives e.1 n own h is other) is in
      absurd (less_not k n.key (ap (slice_cmp nat_cmp k) key ∙ less) (next_none k (n.key, l.0) (children (removed t x) p) g l.1))
  least k e n h own is key other less first (Some d) g =
      let a = above_in k d g in
      let l = listed (removed t x) p e.1 n own (survives e.1 n own h is other) is in
      let next = next_is k d (children (removed t x) p) (children_sorted p (entries (removed t x))) g in
      elim (first d.1 a.0 a.2 a.5 a.1 a.3 (ap (slice_cmp nat_cmp k) a.4 ∙ a.6)) [
        | inl s ↦ ap Some (sym (s ∙ a.4))
        | inr s ↦ elim (next.1 (n.key, l.0) l.1 (ap (slice_cmp nat_cmp k) key ∙ less)) [
          | inl q ↦ ap Some (ap (λ (w : List ℕ × NodeId). w.0) q ∙ key)
          | inr q ↦ absurd (not_below_itself e.0 (nat_list_cmp_total.trans e.0 d.0 e.0 (ap (slice_cmp nat_cmp e.0) (sym a.4) ∙ s) (ap (slice_cmp nat_cmp d.0) (sym key) ∙ q)))
        ]
      ]

  module _ (k : List ℕ) (e : List ℕ × NodeId) (h : next_of (Some k) (children t p) ≡ Some e) where
    first_there : (y : NodeId) (v : Node) → y ≢ Root → get t y ≡ Some v → v.parent ≡ p → slice_cmp nat_cmp k v.key ≡ Less → (e.0 ≡ v.key) ⊎ (slice_cmp nat_cmp e.0 v.key ≡ Less)
    first_there y v own g is less =
        let l = listed t p y v own g is in
        elim ((next_is k e (children t p) (children_sorted p (entries t)) h).1 (v.key, l.0) l.1 less) [
          | inl q ↦ inl (ap (λ (w : List ℕ × NodeId). w.0) q)
          | inr q ↦ inr q
        ]

    stays_next : e.1 ≢ x → next_key (removed t x) p k ≡ Some e.0
    stays_next other =
        let a = next_is_child t p (Some k) e h in
        let less = (next_is k e (children t p) (children_sorted p (entries t)) h).0 in
        least k e a.0 a.1 a.2 a.3 a.4 other less (λ y v own away g is more. first_there y v own g is more) _ refl

    -- what is above k beside x is above x
    beyond : e.1 ≡ x → (y : NodeId) (v : Node) → y ≢ Root → y ≢ x → get t y ≡ Some v → v.parent ≡ p → slice_cmp nat_cmp k v.key ≡ Less → slice_cmp nat_cmp e.0 v.key ≡ Less
    beyond is y v own away g at less =
        let a = next_is_child t p (Some k) e h in
        elim (first_there y v own g at less) [
          | inl q ↦ absurd (away (one_child y e.1 v a.0 e.0 own a.2 g a.1 at a.3 (sym q) a.4 ∙ is))
          | inr q ↦ q
        ]

    none_beyond : e.1 ≡ x → next_of (Some e.0) (children t p) ≡ None → (o : Option (List ℕ × NodeId)) → next_of (Some k) (children (removed t x) p) ≡ o → option_map (λ g. g.0) o ≡ None
    none_beyond is n None g = refl
    none_beyond is n (Some d) g =
        let a = above_in k d g in
        let l = listed t p d.1 a.0 a.2 a.1 a.3 in
        absurd (less_not e.0 a.0.key (beyond is d.1 a.0 a.2 a.5 a.1 a.3 (ap (slice_cmp nat_cmp k) a.4 ∙ a.6)) (next_none e.0 (a.0.key, l.0) (children t p) n l.1))

    next_beyond : e.1 ≡ x → (o : Option (List ℕ × NodeId)) → next_of (Some e.0) (children t p) ≡ o → next_key (removed t x) p k ≡ option_map (λ g. g.0) o
    next_beyond is None n = none_beyond is n _ refl
    next_beyond is (Some d) n =
        let a = next_is_child t p (Some k) e h in
        let b = next_is_child t p (Some e.0) d n in
        let less = (next_is k e (children t p) (children_sorted p (entries t)) h).0 in
        let next = next_is e.0 d (children t p) (children_sorted p (entries t)) n in
        let other : d.1 ≢ x = λ s. not_below_itself e.0 (ap (slice_cmp nat_cmp e.0) (sym a.4 ∙ ap (λ (v : Node). v.key) (some_inj a.0 b.0 (sym a.1 ∙ ap (get t) (is ∙ sym s) ∙ b.1)) ∙ b.4) ∙ next.0) in
        least k d b.0 b.1 b.2 b.3 b.4 other (nat_list_cmp_total.trans k e.0 d.0 less next.0) (λ y v own away g at more.
        let l = listed t p y v own g at in
        elim (next.1 (v.key, l.0) l.1 (beyond is y v own away g at more)) [
          | inl q ↦ inl (ap (λ (w : List ℕ × NodeId). w.0) q)
          | inr q ↦ inr q
        ]) _ refl

    some_skip : next_key (removed t x) p k ≡ next_skip t p x (Some e)
    some_skip = elim (one_or_two e.1 x) [
      | inl s ↦ next_beyond s _ refl ∙ sym (ap (λ b. cond b (next_key t p e.0) (Some e.0)) (ap (is_same e.1) (sym s) ∙ same_self e.1))
      | inr s ↦ stays_next s ∙ sym (ap (λ b. cond b (next_key t p e.0) (Some e.0)) (differ e.1 x s))
    ]

  pub next_key_skip : (k : List ℕ) → next_key (removed t x) p k ≡ next_skip t p x (next_of (Some k) (children t p))
  next_key_skip k = elim (next_of (Some k) (children t p)) as (λ o. next_of (Some k) (children t p) ≡ o → next_key (removed t x) p k ≡ next_skip t p x o) [
    | None ↦ λ h. none_below k h _ refl
    | Some e ↦ λ h. some_skip k e h
  ] refl

-- what the test of a child says
pub under_some : (t : Nodes) (p x : NodeId) (o : Option Node) → get t x ≡ o → is_under p x o ≡ true → (m : Node) × (get t x ≡ Some m) × (x ≢ Root) × (m.parent ≡ p)
under_some t p x None e h = cc
under_some t p x (Some m) e h =
    let a = both (not (is_same x Root)) (is_same m.parent p) h in
    (m, e, λ r. true_false (sym (same_self Root) ∙ ap (λ z. is_same z Root) (sym r) ∙ not_true _ a.0), same _ _ a.1)
