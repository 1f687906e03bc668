-- A settled position is a position and free.
use Rattle.std.proofs.Common.{◌≡◌, ◌≢◌, ℕ, ◌⊎◌, inl, inr, Bool, true, false, cond, not, ◌||◌, T, List, [], ◌∷◌, length, Option, Some, None, option_map, nat_le, Ordering, Less, Equal, Greater, refl, sym, ap, ◌∙◌, subst}
use Rattle.std.specs.Ordering.{nat_cmp, is_lt}
use Rattle.std.specs.Cmp.Lexicographic.{slice_cmp}
use Rattle.std.proofs.lemmas.Cmp.{nat_list_cmp_total, tied_itself}
use Rattle.std.specs.FinMap.{get, entries, put, is_sorted}
use Rattle.std.specs.FinMap.Entries.{is_sorted-put, below_all}
use Rattle.room_ids.specs.Position.{is_pos, is_some_text, between}
use Rattle.room_ids.proofs.Orders.{below-above, amid-between, good-above, good-amid, Good}
use Rattle.room_nodes.specs.Shape.{Nodes, IsFormed, is_list, is_child, child_entries, children, child_at, next_of}
use Rattle.room_nodes.specs.Steps.{is_other, next_key, settled_key}
use Rattle.room_nodes.proofs.Gets.{some_inj, some_none, same, true_false}
use Rattle.room_nodes.proofs.Fitting.{Fits, both, the_parent}
use Rattle.room_nodes.proofs.Listing.{Has, has_above, parts, find_has}
use Rattle.room_nodes.proofs.Children.{text_exact, child_at_some, child_at_none, next_is_child}
use Rattle.room_ids.specs.declared.ids.NodeId.{NodeId}
use Rattle.room_ids.specs.declared.ids.NodeId.TheVariants.{Root}
use Rattle.room_nodes.specs.declared.nodes.Node.{Node}

sorted_step : (p : NodeId) (e : NodeId × Node) (cs : List (List ℕ × NodeId)) (b : Bool) → T (is_sorted (slice_cmp nat_cmp) cs) → T (is_sorted (slice_cmp nat_cmp) (cond b (put (slice_cmp nat_cmp) e.1.key e.0 cs) cs))
sorted_step p e cs true h = is_sorted-put (slice_cmp nat_cmp) nat_list_cmp_total e.1.key e.0 cs h
sorted_step p e cs false h = h

pub children_sorted : (p : NodeId) (es : List (NodeId × Node)) → T (is_sorted (slice_cmp nat_cmp) (child_entries p es))
children_sorted p [] = tt
children_sorted p (e ∷ es) = sorted_step p e (child_entries p es) (is_child p e) (children_sorted p es)

pub less_not : (x y : List ℕ) → slice_cmp nat_cmp x y ≡ Less → is_lt (slice_cmp nat_cmp x y) ≡ false → ⊥
less_not x y e h = true_false (sym (ap is_lt e) ∙ h)

equal_less : Equal ≡ Less → ⊥
equal_less e = cc

pub not_below_itself : (x : List ℕ) → slice_cmp nat_cmp x x ≡ Less → ⊥
not_below_itself x e = equal_less (sym (tied_itself nat_list_cmp_total x) ∙ e)

lt_less : (o : Ordering) → is_lt o ≡ true → o ≡ Less
lt_less Less e = refl
lt_less Equal e = cc
lt_less Greater e = cc

module _ {X : Type 0} (k : List ℕ) where
  next_none_step : (f g : List ℕ × X) (es : List (List ℕ × X)) (b : Bool) → is_lt (slice_cmp nat_cmp k f.0) ≡ b → cond b (Some f) (next_of (Some k) es) ≡ None → (f ≡ g) ⊎ Has g es
      → (next_of (Some k) es ≡ None → Has g es → is_lt (slice_cmp nat_cmp k g.0) ≡ false) → is_lt (slice_cmp nat_cmp k g.0) ≡ false
  next_none_step f g es true t e h more = absurd (some_none f e)
  next_none_step f g es false t e h more = elim h [
    | inl q ↦ ap (λ (c : List ℕ × X). is_lt (slice_cmp nat_cmp k c.0)) (sym q) ∙ t
    | inr m ↦ more e m
  ]

  pub next_none : (g : List ℕ × X) (es : List (List ℕ × X)) → next_of (Some k) es ≡ None → Has g es → is_lt (slice_cmp nat_cmp k g.0) ≡ false
  next_none g [] e h = absurd h
  next_none g (f ∷ es) e h = next_none_step f g es _ refl e h (next_none g es)

  abbrev pub IsNext : List ℕ × X → List (List ℕ × X) → Type 0
  IsNext e es = (slice_cmp nat_cmp k e.0 ≡ Less) × ((g : List ℕ × X) → Has g es → slice_cmp nat_cmp k g.0 ≡ Less → (e ≡ g) ⊎ (slice_cmp nat_cmp e.0 g.0 ≡ Less))

  next_step : (f e : List ℕ × X) (es : List (List ℕ × X)) (b : Bool) → is_lt (slice_cmp nat_cmp k f.0) ≡ b → T (below_all (slice_cmp nat_cmp) f.0 es) → cond b (Some f) (next_of (Some k) es) ≡ Some e
      → (next_of (Some k) es ≡ Some e → IsNext e es) → IsNext e (f ∷ es)
  next_step f e es true t below is more =
      let q = some_inj f e is in (
        ap (λ (c : List ℕ × X). slice_cmp nat_cmp k c.0) (sym q) ∙ lt_less _ t,
        λ g h less. elim h [
          | inl s ↦ inl (sym q ∙ s)
          | inr m ↦ inr (ap (λ (c : List ℕ × X). slice_cmp nat_cmp c.0 g.0) (sym q) ∙ has_above (slice_cmp nat_cmp) text_exact nat_list_cmp_total f.0 g es below m)
        ],
      )
  next_step f e es false t below is more = let r = more is in (
    r.0,
    λ g h less. elim h [
      | inl s ↦ absurd (less_not k f.0 (ap (λ (c : List ℕ × X). slice_cmp nat_cmp k c.0) s ∙ less) t)
      | inr m ↦ r.1 g m less
    ],
  )

  pub next_is : (e : List ℕ × X) (es : List (List ℕ × X)) → T (is_sorted (slice_cmp nat_cmp) es) → next_of (Some k) es ≡ Some e → IsNext e es
  next_is e [] h is = absurd (some_none e (sym is))
  next_is e (f ∷ es) h is = let p = parts (below_all (slice_cmp nat_cmp) f.0 es) _ h in next_step f e es _ refl p.0 is (next_is e es p.1)

pos_parts : (k : List ℕ) → is_pos k ≡ true → Good k
pos_parts k h = let a = both (is_some_text k) _ h in let b = both (nat_le (length k) 4096) _ a.1 in (a.0, b.1)

pos_from : (k : List ℕ) → Good k → nat_le (length k) 4096 ≡ true → is_pos k ≡ true
pos_from k g len = rw (g.0, len, g.1) refl

not_false : (b : Bool) → not b ≡ false → b ≡ true
not_false true e = refl
not_false false e = cc

place_of_list : (b c : Bool) → (not b || c) ≡ true → b ≡ true → c ≡ true
place_of_list true c e h = e
place_of_list false c e h = cc

module _ (u : Nodes) (f : IsFormed u) (p : NodeId) (n : Node) (there : get u p ≡ Some n) (list : is_list n.kind ≡ true) (k : List ℕ) (pos : is_pos k ≡ true) where
  -- the keys of its children are positions
  child_pos : (c : NodeId) (m : Node) → c ≢ Root → get u c ≡ Some m → m.parent ≡ p → is_pos m.key ≡ true
  child_pos c m made e parent =
      let q = the_parent u f c m made e in
      let is : q.0 ≡ n = some_inj q.0 n (sym q.1 ∙ ap (get u) parent ∙ there) in
      let g : Fits n m = subst (λ (v : Node). Fits v m) is q.2 in
      place_of_list (is_list n.kind) _ g.place list

  -- a child's key is listed
  listed : (c : NodeId) (m : Node) → c ≢ Root → get u c ≡ Some m → m.parent ≡ p → (d : NodeId) × Has (m.key, d) (children u p)
  listed c m made e parent = elim (child_at u p m.key) as (λ o. child_at u p m.key ≡ o → (d : NodeId) × Has (m.key, d) (children u p)) [
    | None ↦ λ h. absurd (child_at_none u p m.key h c m made e parent refl)
    | Some d ↦ λ h. (d, find_has (slice_cmp nat_cmp) text_exact m.key d (children u p) h)
  ] refl

  abbrev pub IsMade : List ℕ → Type 0
  IsMade z = Good z × ((c : NodeId) (m : Node) → c ≢ Root → get u c ≡ Some m → m.parent ≡ p → m.key ≡ z → ⊥)

  made_key : (o : Option (List ℕ × NodeId)) → next_of (Some k) (children u p) ≡ o → IsMade (between k (option_map (λ e. e.0) o))
  made_key None h =
      let g = pos_parts k pos in (
        good-above k g.1,
        λ c m made e parent key.
            let d = listed c m made e parent in
            less_not k m.key (ap (slice_cmp nat_cmp k) key ∙ below-above k) (next_none k (m.key, d.0) (children u p) h d.1),
      )
  made_key (Some e) h =
      let g = pos_parts k pos in
      let q = next_is_child u p (Some k) e h in
      let r = pos_parts e.0 (ap is_pos (sym q.4) ∙ child_pos e.1 q.0 q.2 q.1 q.3) in
      let next = next_is k e (children u p) (children_sorted p (entries u)) h in
      let lies = amid-between k e.0 g.1 r.1 next.0 in (
        good-amid k e.0 g.1 r.1 next.0,
        λ c m made there parent key.
            let d = listed c m made there parent in
            elim (next.1 (m.key, d.0) d.1 (ap (slice_cmp nat_cmp k) key ∙ lies.0)) [
              | inl s ↦ not_below_itself e.0 (ap (λ z. slice_cmp nat_cmp z e.0) (ap (λ (w : List ℕ × NodeId). w.0) s ∙ key) ∙ lies.1)
              | inr s ↦ not_below_itself e.0 (nat_list_cmp_total.trans e.0 m.key e.0 s (ap (λ z. slice_cmp nat_cmp z e.0) key ∙ lies.1))
            ],
      )

  module _ (own : NodeId) where
    abbrev pub FreeFor : List ℕ → Type 0
    FreeFor z = (c : NodeId) (m : Node) → c ≢ Root → c ≢ own → get u c ≡ Some m → m.parent ≡ p → m.key ≡ z → ⊥

    kept_key : (o : Option NodeId) → child_at u p k ≡ o → is_other own o ≡ false → FreeFor k
    kept_key None h e c m made other there parent key = child_at_none u p k h c m made there parent key
    kept_key (Some d) h e c m made other there parent key =
        let q = child_at_some u p k d h in
        other (same c d (f.keys c d m q.0 made q.2 there q.1 (parent ∙ sym q.3) (key ∙ sym q.4)) ∙ same d own (not_false _ e))

    settled_step : (b : Bool) → is_other own (child_at u p k) ≡ b → nat_le (length (cond b (between k (next_key u p k)) k)) 4096 ≡ true
        → (is_pos (cond b (between k (next_key u p k)) k) ≡ true) × FreeFor (cond b (between k (next_key u p k)) k)
    settled_step true e len = let m = made_key _ refl in (pos_from _ m.0 len, λ c n made other. m.1 c n made)
    settled_step false e len = (pos, kept_key _ refl e)

    -- the position that a node gets
    pub settled_free : nat_le (length (settled_key u p own k)) 4096 ≡ true → (is_pos (settled_key u p own k) ≡ true) × FreeFor (settled_key u p own k)
    settled_free len = settled_step _ refl len
