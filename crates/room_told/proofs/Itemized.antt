-- Items that leave, enter and move in the view of a list.
use Rattle.std.proofs.Common.{◌≡◌, ◌≢◌, ◌≤◌, ◌<◌, ◌-◌, ℕ, inl, inr, true, cond, ◌&&◌, nat_lt, nat_le, List, map, length, Option, Some, None, refl, sym, ap, ◌∙◌, arith}
use Rattle.std.proofs.lemmas.Bool.Decides.{nat_tests}
use Rattle.std.specs.Ordering.{nat_cmp}
use Rattle.std.specs.Cmp.Lexicographic.{slice_cmp}
use Rattle.std.proofs.lemmas.Cmp.{nat_list_cmp_total}
use Rattle.std.specs.List.{insert as inserted, remove, slice_get}
use Rattle.std.specs.FinMap.{get, insert, entries, find}
use Rattle.std.specs.FinMap.Entries.{same_entries}
use Rattle.room_json.specs.Value.{Value, list, values_of}
use Rattle.room_json.proofs.Values.{values_list-values_of}
use Rattle.room_ids.specs.Order.{is_same}
use Rattle.room_ids.specs.declared.ids.NodeId.{NodeId}
use Rattle.room_ids.specs.declared.ids.NodeId.TheVariants.{Root}
use Rattle.room_nodes.specs.declared.nodes.Node.{Node}
use Rattle.room_nodes.specs.Ordered.{IsOrderedTree}
use Rattle.room_nodes.specs.Shape.{Nodes, IsFormed, child_at, children, is_list, removed}
use Rattle.room_nodes.proofs.Children.{text_exact}
use Rattle.room_nodes.proofs.Fitting.{the_parent}
use Rattle.room_nodes.proofs.Gets.{differ, get_here, get_other, one_or_two, same_self, some_inj, some_none}
use Rattle.room_nodes.proofs.Listing.{Has, find_has}
use Rattle.room_nodes.proofs.Places.{children_sorted}
use Rattle.room_steps.proofs.Kin.{IsChild, child_of, found}
use Rattle.room_tree.specs.Skipped.{skip}
use Rattle.room_tree.proofs.Skipping.{child_skip}
use Rattle.room_items.specs.View.{view, view_within}
use Rattle.room_model.specs.Notices.{at_path, index_in, insert_item, move_item, move_items, path_of, take_item}
use Rattle.room_told.proofs.Actions.{added_edit, keyed_change, keyed_parent, keyed_tree, removed_edit, same_edit}
use Rattle.room_told.proofs.Editing.{IsEdit, changes, kid_stays, kid_was}
use Rattle.room_told.proofs.Following.{IsChange, Kid, child_view, kid, map_in}
use Rattle.room_told.proofs.Lifting.{items, list_view}
use Rattle.room_told.proofs.Lists.{AreSorted, found_others, index_below, index_others, inserted_others, item_at, length_others, map_insert, map_length, map_remove, others, removed_others, sorted_others}
use Rattle.room_told.proofs.Rising.{followed}

-- of lists alone

takes : (i : ℕ) (vs : List Value) → i < length vs → take_item i (list (values_of vs)) ≡ Some (list (values_of (remove vs i)))
takes i vs h =
    let t : nat_lt i (length vs) ≡ true = grind (arith, nat_tests, h) in
    ap (λ ws. cond (nat_lt i (length ws)) (Some (list (values_of (remove ws i)))) None) (values_list-values_of vs)
    ∙ ap (λ b. cond b (Some (list (values_of (remove vs i)))) None) t

inserts : (i : ℕ) (w : Value) (vs : List Value) → i ≤ length vs → insert_item i w (list (values_of vs)) ≡ Some (list (values_of (inserted vs i w)))
inserts i w vs h =
    let t : nat_le i (length vs) ≡ true = grind (arith, nat_tests, h) in
    ap (λ ws. cond (nat_le i (length ws)) (Some (list (values_of (inserted ws i w)))) None) (values_list-values_of vs)
    ∙ ap (λ b. cond b (Some (list (values_of (inserted vs i w)))) None) t

moves : (f t : ℕ) (vs : List Value) (w : Value) → f < length vs → t < length vs → slice_get vs f ≡ Some w → move_items f t (list (values_of vs)) ≡ Some (list (values_of (inserted (remove vs f) t w)))
moves f t vs w h g e =
    let a : nat_lt f (length vs) ≡ true = grind (arith, nat_tests, h) in
    let b : nat_lt t (length vs) ≡ true = grind (arith, nat_tests, g) in
    ap (λ ws. cond (nat_lt f (length ws) && nat_lt t (length ws)) (move_item t (list (values_of (remove ws f))) (slice_get ws f)) None) (values_list-values_of vs)
    ∙ ap (λ x. cond (x && nat_lt t (length vs)) (move_item t (list (values_of (remove vs f))) (slice_get vs f)) None) a
    ∙ ap (λ x. cond x (move_item t (list (values_of (remove vs f))) (slice_get vs f)) None) b
    ∙ ap (move_item t (list (values_of (remove vs f)))) e
    ∙ ap (λ ws. Some (list (values_of (inserted ws t w)))) (values_list-values_of (remove vs f))

-- a child among the others

module _ (t : Nodes) (f : IsFormed t) (p : NodeId) (k : List ℕ) (x : NodeId) (c : IsChild t p k x) where
  order : AreSorted (children t p)
  order = children_sorted p (entries t)

  listed : Has (k, x) (children t p)
  listed = find_has (slice_cmp nat_cmp) text_exact k x (children t p) (found t f p k x c)

  alone_there : (e : Kid) → Has e (children t p) → e.1 ≡ x → e.0 ≡ k
  alone_there e h is = let d = kid t p e h in sym d.key ∙ ap (λ (n : Node). n.key) (some_inj d.node c.node (sym d.there ∙ ap (get t) is ∙ c.there)) ∙ c.key

same_lists : (x : NodeId) (cs ds : List Kid) → AreSorted cs → AreSorted ds → ((q : List ℕ) → find (slice_cmp nat_cmp) q cs ≡ find (slice_cmp nat_cmp) q ds) → cs ≡ ds
same_lists x cs ds s d h = same_entries (slice_cmp nat_cmp) nat_list_cmp_total text_exact cs ds s d h

-- the view of each item
abbrev shows : ℕ → Nodes → Kid → Value
shows j t e = view_within j t e.1

-- an item leaves

module _ (t : Nodes) (f : IsFormed t) (r : NodeId) (m n : Node) (here : get t r ≡ Some m) (made : r ≢ Root) (above : get t m.parent ≡ Some n) (holds : is_list n.kind ≡ true) (ordered : IsOrderedTree t) where
  abbrev j : ℕ
  j = 59 - n.depth

  own : IsChild t m.parent m.key r
  own = record { node = m; there = here; made = made; parent = refl; key = refl }

  left_kids : others r (children t m.parent) ≡ children (removed t r) m.parent
  left_kids = same_lists r (others r (children t m.parent)) (children (removed t r) m.parent) (sorted_others r (children t m.parent) (order t f m.parent m.key r own)) (children_sorted m.parent (entries (removed t r))) (λ q.
      found_others r q (children t m.parent) (order t f m.parent m.key r own) ∙ sym (child_skip t f m.parent r m here made refl q))

  left_views : map (shows j t) (children (removed t r) m.parent) ≡ items j (removed t r) m.parent
  left_views = map_in (shows j t) (shows j (removed t r)) (children (removed t r) m.parent) (λ e h.
      let c = removed_edit t f r m n here made above in
      elim (kid_was t (removed t r) m.parent (λ w. w ≡ r) n.kind None c e.0 e.1 (kid (removed t r) m.parent e h)) [
        | inl q ↦ absurd (some_none (e.1, q.0) (sym q.1))
        | inr q ↦ child_view t (removed t r) m.parent (λ w. w ≡ r) (changes t (removed t r) m.parent (λ w. w ≡ r) n.kind None c) j e.0 e.1 q.0 q.1
      ])

  pub take_shows : at_path (path_of t m.parent) (take_item (index_in t m.parent r)) (view t) ≡ Some (view (removed t r))
  take_shows =
      let c = removed_edit t f r m n here made above in
      let cs = children t m.parent in
      let i = index_in t m.parent r in
      let s = order t f m.parent m.key r own in
      let h = listed t f m.parent m.key r own in
      let one = alone_there t f m.parent m.key r own in
      followed t (removed t r) m.parent (λ w. w ≡ r) (changes t (removed t r) m.parent (λ w. w ≡ r) n.kind None c) ordered n c.here refl (take_item i) (
      ap (take_item i) (list_view j t m.parent n.kind holds)
      ∙ takes i (items j t m.parent) (omega (arith, index_below r m.key cs s h one, map_length (shows j t) cs))
      ∙ ap (λ vs. Some (list (values_of vs))) (
      sym (map_remove (shows j t) cs i) ∙ ap (map (shows j t)) (removed_others r m.key cs s h one ∙ left_kids) ∙ left_views)
      ∙ sym (ap Some (list_view j (removed t r) m.parent n.kind holds)))

-- an item enters

module _ (w : Nodes) (g : IsFormed w) (x : NodeId) (m n : Node) (fresh : (v : Node) → get w x ≡ Some v → ⊥) (made : x ≢ Root) (above : get w m.parent ≡ Some n) (holds : is_list n.kind ≡ true) (ordered : IsOrderedTree w) (after : IsFormed (insert w x m)) where
  abbrev i : ℕ
  i = 59 - n.depth

  abbrev u : Nodes
  u = insert w x m

  abbrev none : NodeId → Type 0
  none y = ⊥

  abbrev edit : IsEdit w (insert w x m) m.parent (λ _. ⊥) n.kind (Some (x, m))
  edit = added_edit w w m.parent (λ _. ⊥) n.kind (same_edit w g m.parent n above) x m fresh refl made after

  new : IsChild u m.parent m.key x
  new = record { node = m; there = get_here w x m; made = made; parent = refl; key = refl }

  own_skipped : (y : NodeId) → x ≡ y → skip x (Some y) ≡ None
  own_skipped y is = ap (λ b. cond b None (Some y)) (ap (λ z. is_same z x) (sym is) ∙ same_self x)

  other_kept : (y : NodeId) → y ≢ x → skip x (Some y) ≡ Some y
  other_kept y other = ap (λ b. cond b None (Some y)) (differ y x other)

  other_by : (q : List ℕ) (o : Option NodeId) → child_at w m.parent q ≡ o → (p : Option NodeId) → child_at u m.parent q ≡ p → skip x p ≡ o
  other_by q None e None d = refl
  other_by q None e (Some y) d = elim (kid_was w u m.parent (λ _. ⊥) n.kind (Some (x, m)) edit q y (child_of u m.parent q y d)) [
    | inl r ↦ own_skipped y (ap (λ (pair : NodeId × Node). pair.0) (some_inj (x, m) (y, r.0) r.1))
    | inr r ↦ absurd (some_none y (sym (found w g m.parent q y r.0) ∙ e))
  ]
  other_by q (Some y) e p d =
      let c = child_of w m.parent q y e in
      let is : p ≡ Some y = sym d ∙ found u after m.parent q y (kid_stays w u m.parent (λ _. ⊥) n.kind (Some (x, m)) edit q y c (λ z h. absurd h)) in
      ap (skip x) is ∙ other_kept y (λ r. fresh c.node (ap (get w) (sym r) ∙ c.there))

  others_are : others x (children u m.parent) ≡ children w m.parent
  others_are = same_lists x (others x (children u m.parent)) (children w m.parent) (sorted_others x (children u m.parent) (children_sorted m.parent (entries u))) (children_sorted m.parent (entries w)) (λ q.
      found_others x q (children u m.parent) (children_sorted m.parent (entries u)) ∙ other_by q (child_at w m.parent q) refl (child_at u m.parent q) refl)

  old_views : items i w m.parent ≡ map (shows i u) (children w m.parent)
  old_views = map_in (shows i w) (shows i u) (children w m.parent) (λ e h.
      child_view w u m.parent (λ _. ⊥) (changes w u m.parent (λ _. ⊥) n.kind (Some (x, m)) edit) i e.0 e.1 (kid w m.parent e h) (λ z q. absurd q))

  pub insert_shows : (a : Value) → view_within (59 - n.depth) u x ≡ a → at_path (path_of w m.parent) (insert_item (index_in u m.parent x) a) (view w) ≡ Some (view u)
  insert_shows a shown =
      let cs = children u m.parent in
      let at = index_in u m.parent x in
      let s = order u after m.parent m.key x new in
      let h = listed u after m.parent m.key x new in
      let one = alone_there u after m.parent m.key x new in
      followed w u m.parent (λ _. ⊥) (changes w u m.parent (λ _. ⊥) n.kind (Some (x, m)) edit) ordered n edit.here refl (insert_item at a) (
      ap (insert_item at a) (list_view i w m.parent n.kind holds)
      ∙ inserts at a (items i w m.parent) (omega (arith, index_others x m.key cs s h one, map_length (shows i w) (children w m.parent), ap length others_are))
      ∙ ap (λ vs. Some (list (values_of vs))) (
      (λ k. inserted ((old_views ∙ ap (map (shows i u)) (sym others_are)) k) at (sym shown k))
      ∙ sym (map_insert (shows i u) (others x cs) at (m.key, x))
      ∙ ap (map (shows i u)) (inserted_others x m.key cs s h one))
      ∙ sym (ap Some (list_view i u m.parent n.kind holds)))

-- an item moves

module _ (t : Nodes) (f : IsFormed t) (x : NodeId) (n : Node) (k : List ℕ) (here : get t x ≡ Some n) (made : x ≢ Root) (after : IsFormed (keyed_tree t f x n k here made)) (ordered : IsOrderedTree t) where
  abbrev v : Nodes
  v = insert t x (record n { key = k })

  abbrev list_node : Node
  list_node = (the_parent t f x n made here).0

  abbrev l : ℕ
  l = 59 - list_node.depth

  abbrev change : IsChange t v n.parent (λ _. ⊥)
  change = keyed_change t f x n k here made after

  before_x : IsChild t n.parent n.key x
  before_x = record { node = n; there = here; made = made; parent = refl; key = refl }

  after_x : IsChild v n.parent k x
  after_x = record { node = record n { key = k }; there = get_here t x (record n { key = k }); made = made; parent = refl; key = refl }

  over : (q : List ℕ) (y : NodeId) → y ≢ x → IsChild t n.parent q y → IsChild v n.parent q y
  over q y other c = record { node = c.node; there = get_other t x (record n { key = k }) y other ∙ c.there; made = c.made; parent = c.parent; key = c.key }

  back : (q : List ℕ) (y : NodeId) → y ≢ x → IsChild v n.parent q y → IsChild t n.parent q y
  back q y other c = record { node = c.node; there = sym (get_other t x (record n { key = k }) y other) ∙ c.there; made = c.made; parent = c.parent; key = c.key }

  skipped : (y : NodeId) → y ≡ x → skip x (Some y) ≡ None
  skipped y is = ap (λ b. cond b None (Some y)) (ap (λ z. is_same z x) is ∙ same_self x)

  none_left : (q : List ℕ) → ((y : NodeId) → y ≢ x → IsChild t n.parent q y → ⊥) → (p : Option NodeId) → child_at v n.parent q ≡ p → skip x p ≡ None
  none_left q away None e = refl
  none_left q away (Some y) e = elim (one_or_two y x) [
    | inl is ↦ skipped y is
    | inr other ↦ absurd (away y other (back q y other (child_of v n.parent q y e)))
  ]

  skip_same : (q : List ℕ) (o : Option NodeId) → child_at t n.parent q ≡ o → skip x (child_at v n.parent q) ≡ skip x o
  skip_same q None e = none_left q (λ y other c. some_none y (sym (found t f n.parent q y c) ∙ e)) (child_at v n.parent q) refl
  skip_same q (Some y) e = elim (one_or_two y x) [
    | inl is ↦
        none_left q (λ z other c. other (some_inj z y (sym (found t f n.parent q z c) ∙ e) ∙ is)) (child_at v n.parent q) refl ∙ sym (skipped y is)
    | inr other ↦ ap (skip x) (found v after n.parent q y (over q y other (child_of t n.parent q y e)))
  ]

  same_others : others x (children v n.parent) ≡ others x (children t n.parent)
  same_others =
      let s = children_sorted n.parent (entries v) in
      let d = children_sorted n.parent (entries t) in
      same_lists x (others x (children v n.parent)) (others x (children t n.parent)) (sorted_others x (children v n.parent) s) (sorted_others x (children t n.parent) d) (λ q.
      found_others x q (children v n.parent) s ∙ skip_same q (child_at t n.parent q) refl ∙ sym (found_others x q (children t n.parent) d))

  same_views : items l t n.parent ≡ map (shows l v) (children t n.parent)
  same_views = map_in (shows l t) (shows l v) (children t n.parent) (λ e h. child_view t v n.parent (λ _. ⊥) change l e.0 e.1 (kid t n.parent e h) (λ z q. absurd q))

  pub move_shows : is_list list_node.kind ≡ true → at_path (path_of t n.parent) (move_items (index_in t n.parent x) (index_in v n.parent x)) (view t) ≡ Some (view v)
  move_shows holds =
      let cs = children t n.parent in
      let ds = children v n.parent in
      let from = index_in t n.parent x in
      let to = index_in v n.parent x in
      let s = order t f n.parent n.key x before_x in
      let h = listed t f n.parent n.key x before_x in
      let one = alone_there t f n.parent n.key x before_x in
      let s2 = order v after n.parent k x after_x in
      let h2 = listed v after n.parent k x after_x in
      let one2 = alone_there v after n.parent k x after_x in
      let g = shows l v in
      let p = the_parent t f x n made here in
      followed t v n.parent (λ _. ⊥) change ordered list_node (keyed_parent t f x n k here made p.0 p.1) refl (move_items from to) (
      ap (move_items from to) (list_view l t n.parent list_node.kind holds ∙ ap (λ vs. list (values_of vs)) same_views)
      ∙ moves from to (map g cs) (view_within l v x)
      (omega (arith, index_below x n.key cs s h one, map_length g cs))
      (omega (arith, index_others x k ds s2 h2 one2, map_length g cs, ap length same_others, length_others x n.key cs s h one))
      (item_at x n.key g g cs s h one)
      ∙ ap (λ vs. Some (list (values_of vs))) (
      ap (λ vs. inserted vs to (view_within l v x)) (sym (map_remove g cs from) ∙ ap (map g) (removed_others x n.key cs s h one ∙ sym same_others))
      ∙ sym (map_insert g (others x ds) to (k, x))
      ∙ ap (map g) (inserted_others x k ds s2 h2 one2))
      ∙ sym (ap Some (list_view l v n.parent list_node.kind holds)))
