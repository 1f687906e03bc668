-- A node shown as another value is a change at its path.
use Rattle.std.proofs.Common.{◌≡◌, ◌≢◌, ◌≤◌, ◌<◌, ◌+◌, ◌⊎◌, ℕ, zero, suc, inl, inr, Bool, true, false, cond, T, List, [], ◌∷◌, ◌++◌, map, Option, Some, None, option_map, refl, sym, ap, ◌∙◌, subst, arith}
use Rattle.std.specs.Prelude.{slice_get, slice_set, option_and_then}
use Rattle.std.specs.BTreeMap.{insert_entry, is_at}
use Rattle.std.specs.Map.{lookup}
use Rattle.std.specs.Cmp.Lexicographic.{slice_cmp}
use Rattle.std.specs.FinMap.{get, find, entries, is_sorted}
use Rattle.std.specs.FinMap.Entries.{below_all}
use Rattle.std.specs.Ordering.{nat_cmp, eq_by_cmp}
use Rattle.std.proofs.lemmas.Cmp.{nat_list_cmp_total}
use Rattle.room_ids.specs.Order.{is_same}
use Rattle.room_ids.specs.declared.ids.NodeId.{NodeId}
use Rattle.room_ids.specs.declared.ids.NodeId.TheVariants.{Root}
use Rattle.room_json.proofs.Values.{values_list-values_of, fields_list-fields_of}
use Rattle.room_json.specs.Value.{Value, list, members, values_of, fields_of}
use Rattle.room_nodes.specs.declared.nodes.Kind.{Kind}
use Rattle.room_nodes.specs.declared.nodes.Kind.TheVariants.{Object, List as Listed, Map as Mapped, Register}
use Rattle.room_nodes.specs.declared.nodes.Node.{Node}
use Rattle.room_nodes.specs.Ordered.{AreOrdered, IsOrderedKind, IsOrderedTree}
use Rattle.room_nodes.specs.Primitives.{kind_fields}
use Rattle.room_nodes.specs.Shape.{Nodes, IsFormed, children, child_at, is_list, is_register}
use Rattle.room_nodes.specs.Steps.{holds_list}
use Rattle.room_nodes.proofs.Below.{is_root, root_depth}
use Rattle.room_nodes.proofs.Children.{text_exact}
use Rattle.room_nodes.proofs.Fitting.{the_parent, the_root}
use Rattle.room_nodes.proofs.Gets.{one_or_two, same, same_self, differ, some_inj, some_none, true_false}
use Rattle.room_nodes.proofs.Listing.{Has, has_above, parts, find_has}
use Rattle.room_nodes.proofs.Places.{children_sorted, not_below_itself}
use Rattle.room_steps.proofs.Booleans.{by_no}
use Rattle.room_steps.proofs.Fields.{same_fields, ordered_of, ordered_put, key_self, same_name}
use Rattle.room_steps.proofs.Kin.{child_of, found}
use Rattle.room_items.proofs.Shown.{shown_sorted}
use Rattle.room_items.specs.View.{view_within, view_at, node_view, kind_view, second}
use Rattle.room_model.specs.Edits.{is_keyed}
use Rattle.room_model.specs.Notices.{Place, Key, Index, at_path, step_into, step_out, path_of, path_within, path_step, parent_in, place_of, index_among}
use Rattle.room_effect.specs.Effect.{shown_within}
use Rattle.room_effect.proofs.Items.{items_of, list_view}
use Rattle.room_effect.proofs.Keyed.{kids_of, find_kids, kids_ordered, keyed_view, keyed_kind, members_shown, find_shown, ordered_shown}
use Rattle.room_effect.proofs.Local.{Kid, Pair, map_has, kid, kid_there, kid_deep, enough}
use Rattle.room_effect.proofs.Members.{or_else, find_map, find_insert, insert_put}

-- a path with a last step

abbrev step_at : Place → (Value → Option Value) → Value → Option Value
step_at s f v = option_and_then (λ (w : Value). option_map (λ (y : Value). step_out s v y) (f w)) (step_into s v)

pub path_last : (ss : List Place) (s : Place) (f : Value → Option Value) (v : Value) → at_path (ss ++ s ∷ []) f v ≡ at_path ss (step_at s f) v
path_last [] s f v = refl
path_last (r ∷ ss) s f v = ap (λ (h : Value → Option Value). option_and_then h (step_into r v)) (λ i w. option_map (λ (y : Value). step_out r v y) (path_last ss s f w i))

step_is : (s : Place) (f : Value → Option Value) (v u w z : Value) → step_into s v ≡ Some u → f u ≡ Some w → step_out s v w ≡ z → step_at s f v ≡ Some z
step_is s f v u w z into made out =
    ap (option_and_then (λ (o : Value). option_map (λ (y : Value). step_out s v y) (f o))) into ∙ ap (option_map (λ (y : Value). step_out s v y)) made ∙ ap Some out

lookup_is : (k : List ℕ) (fs : List Pair) → lookup (is_at (slice_cmp nat_cmp k)) fs ≡ find (slice_cmp nat_cmp) k fs
lookup_is k [] = refl
lookup_is k (e ∷ fs) = ap (cond (eq_by_cmp (slice_cmp nat_cmp) k e.0) (Some e.1)) (lookup_is k fs)

-- a node and its parent

module _ (t : Nodes) (f : IsFormed t) (x : NodeId) (n : Node) (there : get t x ≡ Some n) (made : x ≢ Root) (p : Node) (up : get t n.parent ≡ Some p) where
  deep : n.depth ≡ p.depth + 1
  deep = let q = the_parent t f x n made there in q.2.depth ∙ ap (λ (m : Node). m.depth + 1) (some_inj q.0 p (sym q.1 ∙ up))

  other : n.parent ≢ x
  other e =
      let d : p.depth ≡ n.depth = ap (λ (m : Node). m.depth) (some_inj p n (sym up ∙ ap (get t) e ∙ there)) in
      omega (arith, deep, d)

  lower : (y : NodeId) (v : Node) → get t y ≡ Some v → p.depth < v.depth → y ≢ n.parent
  lower y v here low i = let d : v.depth ≡ p.depth = ap (λ (m : Node). m.depth) (some_inj v p (sym here ∙ ap (get t) i ∙ up)) in omega (arith, low, d)

  module _ (w : Value) where
    -- the children of the parent, with x shown as w
    abbrev swapped : Kid → Pair
    swapped e = (e.0, cond (is_same e.1 x) w (view_within 59 t e.1))

    abbrev swapped_kids : List Pair
    swapped_kids = map swapped (children t n.parent)

    abbrev above : Value
    above = kind_view p.kind swapped_kids

    -- what is no less deep than x and isn't x has no x in it
    unseen : (m : ℕ) (y : NodeId) (v : Node) → get t y ≡ Some v → n.depth ≤ v.depth → y ≢ x → shown_within m t x w y ≡ view_within m t y
    unfolding shown_within view_within
    unseen zero y v here low off = ap (λ b. cond b w (node_view (get t y) [])) (differ y x off)
    unseen (suc m) y v here low off =
        ap (λ b. cond b w (node_view (get t y) (map (λ (e : Kid). (e.0, shown_within m t x w e.1)) (children t y)))) (differ y x off)
        ∙ ap (node_view (get t y)) (map_has (λ e. (e.0, shown_within m t x w e.1)) (λ e. (e.0, view_within m t e.1)) (children t y) (λ e h.
        let c = kid t f y v here e h in
        let d = kid_deep t f y v here e h in
        ap (λ z. (e.0, z)) (unseen m e.1 c.node (kid_there t f y v here e h) (omega (arith, low, d.0)) (λ i.
        let one : c.node.depth ≡ n.depth = ap (λ (m : Node). m.depth) (some_inj c.node n (sym (kid_there t f y v here e h) ∙ ap (get t) i ∙ there)) in
        omega (arith, low, d.0, one)))))

    -- nor has it the parent
    unseen_above : (u : Value) (m : ℕ) (y : NodeId) (v : Node) → get t y ≡ Some v → p.depth < v.depth → shown_within m t n.parent u y ≡ view_within m t y
    unfolding shown_within view_within
    unseen_above u zero y v here low = ap (λ b. cond b u (node_view (get t y) [])) (differ y n.parent (lower y v here low))
    unseen_above u (suc m) y v here low =
        ap (λ b. cond b u (node_view (get t y) (map (λ (e : Kid). (e.0, shown_within m t n.parent u e.1)) (children t y)))) (differ y n.parent (lower y v here low))
        ∙ ap (node_view (get t y)) (map_has (λ e. (e.0, shown_within m t n.parent u e.1)) (λ e. (e.0, view_within m t e.1)) (children t y) (λ e h.
        ap (λ z. (e.0, z)) (unseen_above u m e.1 (kid t f y v here e h).node (kid_there t f y v here e h) (let d = kid_deep t f y v here e h in omega (arith, low, d.0)))))

    here_x : (m : ℕ) → shown_within m t x w x ≡ w
    unfolding shown_within
    here_x zero = ap (λ b. cond b w (node_view (get t x) [])) (same_self x)
    here_x (suc m) = ap (λ b. cond b w (node_view (get t x) (map (λ (e : Kid). (e.0, shown_within m t x w e.1)) (children t x)))) (same_self x)

    -- at the parent: x is one of its children
    at_kid : (m : ℕ) → 60 ≤ suc m + p.depth → (e : Kid) (h : Has e (children t n.parent)) → (b : Bool) → is_same e.1 x ≡ b → shown_within m t x w e.1 ≡ cond b w (view_within 59 t e.1)
    at_kid m levels e h true is = ap (shown_within m t x w) (same e.1 x is) ∙ here_x m
    at_kid m levels e h false is =
        let c = kid t f n.parent p up e h in
        let d = kid_deep t f n.parent p up e h in
        let off : e.1 ≢ x = λ i. true_false (sym (same_self x) ∙ ap (λ z. is_same z x) (sym i) ∙ is) in
        unseen m e.1 c.node (kid_there t f n.parent p up e h) (omega (arith, d.0, deep)) off
        ∙ enough t f m 59 e.1 c.node (kid_there t f n.parent p up e h) (omega (arith, d.0, levels)) (omega (arith, d.0))

    same_step : (m : ℕ) (y : NodeId) (v : Node) → get t y ≡ Some v → 60 ≤ m + v.depth → y ≢ x → (y ≡ n.parent) ⊎ (y ≢ n.parent) → shown_within m t n.parent above y ≡ shown_within m t x w y
    unfolding shown_within
    same_step zero y v here levels off case = elim case [
      | inl i ↦
          let d : v.depth ≡ p.depth = ap (λ (m : Node). m.depth) (some_inj v p (sym here ∙ ap (get t) i ∙ up)) in
          let low : n.depth ≤ 60 = (the_parent t f x n made there).2.deep in
          absurd (omega (arith, levels, d, deep, low))
      | inr o ↦ ap (λ b. cond b above (node_view (get t y) [])) (differ y n.parent o) ∙ sym (ap (λ b. cond b w (node_view (get t y) [])) (differ y x off))
    ]
    same_step (suc m) y v here levels off case = elim case [
      | inl i ↦
          let d : v.depth ≡ p.depth = ap (λ (m : Node). m.depth) (some_inj v p (sym here ∙ ap (get t) i ∙ up)) in
          let enough_so : 60 ≤ suc m + p.depth = omega (arith, levels, d) in
          ap (λ b. cond b above (node_view (get t y) (map (λ (e : Kid). (e.0, shown_within m t n.parent above e.1)) (children t y)))) (ap (is_same y) (sym i) ∙ same_self y)
          ∙ sym (ap (λ b. cond b w (node_view (get t y) (map (λ (e : Kid). (e.0, shown_within m t x w e.1)) (children t y)))) (differ y x off)
          ∙ ap (λ z. node_view (get t z) (map (λ (e : Kid). (e.0, shown_within m t x w e.1)) (children t z))) i
          ∙ ap (λ o. node_view o (map (λ (e : Kid). (e.0, shown_within m t x w e.1)) (children t n.parent))) up
          ∙ ap (kind_view p.kind) (map_has (λ e. (e.0, shown_within m t x w e.1)) swapped (children t n.parent) (λ e h. ap (λ z. (e.0, z)) (at_kid m enough_so e h (is_same e.1 x) refl))))
      | inr o ↦
          let one : suc m + v.depth ≡ m + (v.depth + 1) = omega arith in
          ap (λ b. cond b above (node_view (get t y) (map (λ (e : Kid). (e.0, shown_within m t n.parent above e.1)) (children t y)))) (differ y n.parent o)
          ∙ ap (node_view (get t y)) (map_has (λ e. (e.0, shown_within m t n.parent above e.1)) (λ e. (e.0, shown_within m t x w e.1)) (children t y) (λ e h.
          let c = kid t f y v here e h in
          let d = kid_deep t f y v here e h in
          let kid_off : e.1 ≢ x = λ i. o (sym c.parent ∙ ap (λ (m : Node). m.parent) (some_inj c.node n (sym (kid_there t f y v here e h) ∙ ap (get t) i ∙ there))) in
          ap (λ z. (e.0, z)) (same_step m e.1 c.node (kid_there t f y v here e h) (omega (arith, levels, d.0, one)) kid_off (one_or_two e.1 n.parent))))
          ∙ sym (ap (λ b. cond b w (node_view (get t y) (map (λ (e : Kid). (e.0, shown_within m t x w e.1)) (children t y)))) (differ y x off))
    ]

    -- what the parent shows

    own : child_at t n.parent n.key ≡ Some x
    own = found t f n.parent n.key x (record { node = n; there = there; made = made; parent = refl; key = refl })

    view_x : view_within 59 t x ≡ view_at t x
    unfolding view_at
    view_x = enough t f 59 60 x n there (omega (arith, deep)) (omega arith)

    kid_is : (e : Kid) → Has e (children t n.parent) → e.1 ≡ x → e.0 ≡ n.key
    kid_is e h i =
        let c = kid t f n.parent p up e h in
        sym c.key ∙ ap (λ (m : Node). m.key) (some_inj c.node n (sym (kid_there t f n.parent p up e h) ∙ ap (get t) i ∙ there))

    -- of an object or a map

    swap_by : (q : List ℕ) (o : Option NodeId) → child_at t n.parent q ≡ o
        → option_map (λ (y : NodeId). cond (is_same y x) w (view_within 59 t y)) o ≡ cond (eq_by_cmp (slice_cmp nat_cmp) q n.key) (Some w) (option_map (view_within 59 t) o)
    swap_by q None e = none_key (eq_by_cmp (slice_cmp nat_cmp) q n.key) refl
      where
        none_key : (b : Bool) → eq_by_cmp (slice_cmp nat_cmp) q n.key ≡ b → None ≡ cond b (Some w) None
        none_key true i = absurd (some_none x (sym (found t f n.parent n.key x (record { node = n; there = there; made = made; parent = refl; key = refl })) ∙ ap (child_at t n.parent) (sym (same_name q n.key i)) ∙ e))
        none_key false i = refl
    swap_by q (Some y) e = elim (one_or_two y x) [
      | inl i ↦
          let c = child_of t n.parent q y e in
          let key : q ≡ n.key = sym c.key ∙ ap (λ (m : Node). m.key) (some_inj c.node n (sym c.there ∙ ap (get t) i ∙ there)) in
          ap (λ b. Some (cond b w (view_within 59 t y))) (ap (λ z. is_same z x) i ∙ same_self x)
          ∙ sym (ap (λ b. cond b (Some w) (Some (view_within 59 t y))) (ap (λ j. eq_by_cmp (slice_cmp nat_cmp) j n.key) key ∙ key_self n.key))
      | inr o ↦
          let off : eq_by_cmp (slice_cmp nat_cmp) q n.key ≡ false = by_no (eq_by_cmp (slice_cmp nat_cmp) q n.key)
          (λ i. o (some_inj y x (sym e ∙ ap (child_at t n.parent) (same_name q n.key i) ∙ own))) in
          ap (λ b. Some (cond b w (view_within 59 t y))) (differ y x o) ∙ sym (ap (λ b. cond b (Some w) (Some (view_within 59 t y))) off)
    ]

    find_swapped : (q : List ℕ) → find (slice_cmp nat_cmp) q swapped_kids ≡ cond (eq_by_cmp (slice_cmp nat_cmp) q n.key) (Some w) (find (slice_cmp nat_cmp) q (kids_of 59 t n.parent))
    find_swapped q =
        find_map (λ y. cond (is_same y x) w (view_within 59 t y)) q (children t n.parent)
        ∙ swap_by q (child_at t n.parent q) refl
        ∙ ap (cond (eq_by_cmp (slice_cmp nat_cmp) q n.key) (Some w)) (sym (find_kids 59 t n.parent q))

    swapped_ordered : AreOrdered swapped_kids
    swapped_ordered = ordered_of swapped_kids (shown_sorted t n.parent (λ e. cond (is_same e.1 x) w (view_within 59 t e.1)))

    or_by : (b : Bool) (o z : Option Value) → or_else (cond b (Some w) o) z ≡ cond b (Some w) (or_else o z)
    or_by true o z = refl
    or_by false o z = refl

    module _ (keyed : is_keyed p.kind ≡ true) (ordered : IsOrderedKind p.kind) where
      abbrev ms : List Pair
      ms = members_shown p.kind (kids_of 59 t n.parent)

      swapped_members : members_shown p.kind swapped_kids ≡ insert_entry (slice_cmp nat_cmp) ms n.key w
      swapped_members =
          same_fields (members_shown p.kind swapped_kids) (insert_entry (slice_cmp nat_cmp) ms n.key w)
          (ordered_shown p.kind swapped_kids keyed ordered swapped_ordered)
          (subst AreOrdered (sym (insert_put ms n.key w)) (ordered_put n.key w ms (ordered_shown p.kind (kids_of 59 t n.parent) keyed ordered (kids_ordered 59 t n.parent))))
          (λ q.
          find_shown q p.kind swapped_kids keyed swapped_ordered
          ∙ ap (λ o. or_else o (find (slice_cmp nat_cmp) q (kind_fields p.kind))) (find_swapped q)
          ∙ or_by (eq_by_cmp (slice_cmp nat_cmp) q n.key) (find (slice_cmp nat_cmp) q (kids_of 59 t n.parent)) (find (slice_cmp nat_cmp) q (kind_fields p.kind))
          ∙ ap (cond (eq_by_cmp (slice_cmp nat_cmp) q n.key) (Some w)) (sym (find_shown q p.kind (kids_of 59 t n.parent) keyed (kids_ordered 59 t n.parent)))
          ∙ sym (find_insert q ms n.key w))

      key_into : step_into (Key n.key) (view_at t n.parent) ≡ Some (view_at t x)
      key_into =
          ap (step_into (Key n.key)) (keyed_view t n.parent p up keyed)
          ∙ ap (lookup (is_at (slice_cmp nat_cmp n.key))) (fields_list-fields_of ms) ∙ lookup_is n.key ms
          ∙ find_shown n.key p.kind (kids_of 59 t n.parent) keyed (kids_ordered 59 t n.parent)
          ∙ ap (λ o. or_else o (find (slice_cmp nat_cmp) n.key (kind_fields p.kind))) (find_kids 59 t n.parent n.key ∙ ap (option_map (view_within 59 t)) own ∙ ap Some view_x)

      key_out : step_out (Key n.key) (view_at t n.parent) w ≡ above
      key_out =
          ap (λ v. step_out (Key n.key) v w) (keyed_view t n.parent p up keyed)
          ∙ ap (λ fs. members (fields_of (insert_entry (slice_cmp nat_cmp) fs n.key w))) (fields_list-fields_of ms)
          ∙ ap (λ fs. members (fields_of fs)) (sym swapped_members)
          ∙ sym (keyed_kind p.kind swapped_kids keyed)

    -- of a list

    swap_off : (cs : List Kid) → ((e : Kid) → Has e cs → e.1 ≢ x) → map second (map swapped cs) ≡ map second (map (λ (e : Kid). (e.0, view_within 59 t e.1)) cs)
    swap_off [] h = refl
    swap_off (e ∷ cs) h = λ i. ap (λ b. cond b w (view_within 59 t e.1)) (differ e.1 x (h e (inl refl))) i ∷ swap_off cs (λ d m. h d (inr m)) i

    -- no other item is x
    once : (e : Kid) (cs : List Kid) → T (is_sorted (slice_cmp nat_cmp) (e ∷ cs)) → ((d : Kid) → Has d (e ∷ cs) → d.1 ≡ x → d.0 ≡ n.key) → e.1 ≡ x → (d : Kid) → Has d cs → d.1 ≢ x
    once e cs sorted keys is d has i =
        let below = has_above (slice_cmp nat_cmp) text_exact nat_list_cmp_total e.0 d cs (parts (below_all (slice_cmp nat_cmp) e.0 cs) _ sorted).0 has in
        not_below_itself n.key ((λ z. slice_cmp nat_cmp (sym (keys e (inl refl) is) z) (sym (keys d (inr has) i) z)) ∙ below)

    swap_index : (cs : List Kid) → T (is_sorted (slice_cmp nat_cmp) cs) → ((d : Kid) → Has d cs → d.1 ≡ x → d.0 ≡ n.key)
        → map second (map swapped cs) ≡ slice_set (map second (map (λ (e : Kid). (e.0, view_within 59 t e.1)) cs)) (index_among x cs) w
    swap_index [] sorted keys = refl
    swap_index (e ∷ cs) sorted keys = elim (one_or_two e.1 x) [
      | inl i ↦
          let at : index_among x (e ∷ cs) ≡ 0 = ap (λ b. cond b 0 (suc (index_among x cs))) (ap (is_same x) i ∙ same_self x) in
          (λ z. ap (λ b. cond b w (view_within 59 t e.1)) (ap (λ y. is_same y x) i ∙ same_self x) z ∷ swap_off cs (once e cs sorted keys i) z)
          ∙ sym (ap (λ k. slice_set (map second (map (λ (e : Kid). (e.0, view_within 59 t e.1)) (e ∷ cs))) k w) at)
      | inr o ↦
          let at : index_among x (e ∷ cs) ≡ suc (index_among x cs) = ap (λ b. cond b 0 (suc (index_among x cs))) (differ x e.1 (λ i. o (sym i))) in
          let rest = swap_index cs (parts (below_all (slice_cmp nat_cmp) e.0 cs) _ sorted).1 (λ d m. keys d (inr m)) in
          (λ z. ap (λ b. cond b w (view_within 59 t e.1)) (differ e.1 x o) z ∷ rest z)
          ∙ sym (ap (λ k. slice_set (map second (map (λ (e : Kid). (e.0, view_within 59 t e.1)) (e ∷ cs))) k w) at)
    ]

    get_index : (cs : List Kid) → Has (n.key, x) cs → slice_get (map second (map (λ (e : Kid). (e.0, view_within 59 t e.1)) cs)) (index_among x cs) ≡ Some (view_within 59 t x)
    get_index [] h = absurd h
    get_index (e ∷ cs) h = elim (one_or_two e.1 x) [
      | inl i ↦
          let at : index_among x (e ∷ cs) ≡ 0 = ap (λ b. cond b 0 (suc (index_among x cs))) (ap (is_same x) i ∙ same_self x) in
          ap (slice_get (map second (map (λ (e : Kid). (e.0, view_within 59 t e.1)) (e ∷ cs)))) at ∙ ap (λ y. Some (view_within 59 t y)) i
      | inr o ↦
          let at : index_among x (e ∷ cs) ≡ suc (index_among x cs) = ap (λ b. cond b 0 (suc (index_among x cs))) (differ x e.1 (λ i. o (sym i))) in
          ap (slice_get (map second (map (λ (e : Kid). (e.0, view_within 59 t e.1)) (e ∷ cs)))) at
          ∙ get_index cs (elim h [ inl i ↦ absurd (o (ap (λ (d : Kid). d.1) i)) | inr m ↦ m ])
    ]

    module _ (list_kind : p.kind ≡ Listed) where
      abbrev at_index : ℕ
      at_index = index_among x (children t n.parent)

      index_into : step_into (Index at_index) (view_at t n.parent) ≡ Some (view_at t x)
      index_into =
          ap (step_into (Index at_index)) (list_view t n.parent p up list_kind)
          ∙ ap (λ vs. slice_get vs at_index) (values_list-values_of (items_of t n.parent))
          ∙ get_index (children t n.parent) (find_has (slice_cmp nat_cmp) text_exact n.key x (children t n.parent) own)
          ∙ ap Some view_x

      index_out : step_out (Index at_index) (view_at t n.parent) w ≡ above
      index_out =
          ap (λ v. step_out (Index at_index) v w) (list_view t n.parent p up list_kind)
          ∙ ap (λ vs. list (values_of (slice_set vs at_index w))) (values_list-values_of (items_of t n.parent))
          ∙ ap (λ vs. list (values_of vs)) (sym (swap_index (children t n.parent) (children_sorted n.parent (entries t)) kid_is))
          ∙ sym (ap (λ k. kind_view k swapped_kids) list_kind)

    -- the last step

    step_by : (kind : Kind) → p.kind ≡ kind → IsOrderedKind kind → is_register kind ≡ false → (g : Value → Option Value) → g (view_at t x) ≡ Some w
        → step_at (cond (is_list kind) (Index (index_among x (children t n.parent))) (Key n.key)) g (view_at t n.parent) ≡ Some above
    step_by (Object fs) e ordered holds g made_w =
        let keyed : is_keyed p.kind ≡ true = ap is_keyed e in
        let o : IsOrderedKind p.kind = subst IsOrderedKind (sym e) ordered in
        step_is (Key n.key) g (view_at t n.parent) (view_at t x) w above (key_into keyed o) made_w (key_out keyed o)
    step_by Listed e ordered holds g made_w =
        step_is (Index (index_among x (children t n.parent))) g (view_at t n.parent) (view_at t x) w above (index_into e) made_w (index_out e)
    step_by Mapped e ordered holds g made_w =
        let keyed : is_keyed p.kind ≡ true = ap is_keyed e in
        let o : IsOrderedKind p.kind = subst IsOrderedKind (sym e) ordered in
        step_is (Key n.key) g (view_at t n.parent) (view_at t x) w above (key_into keyed o) made_w (key_out keyed o)
    step_by (Register v) e ordered holds g made_w = absurd (true_false holds)

-- all of the path

module _ (t : Nodes) (f : IsFormed t) (ordered : IsOrderedTree t) where
  at_root : (x : NodeId) (n : Node) → get t x ≡ Some n → x ≡ Root → (g : Value → Option Value) (w : Value) → g (view_at t x) ≡ Some w → g (view_at t Root) ≡ Some (shown_within 60 t x w Root)
  unfolding shown_within
  at_root x n there is g w made = ap (λ y. g (view_at t y)) (sym is) ∙ made
      ∙ sym (ap (λ b. Some (cond b w (node_view (get t Root) (map (λ (e : Kid). (e.0, shown_within 59 t x w e.1)) (children t Root))))) (ap (is_same Root) is ∙ same_self Root))

  path_root : (m : ℕ) (x : NodeId) → x ≡ Root → path_within m t x ≡ []
  unfolding path_within
  path_root zero x is = refl
  path_root (suc m) x is = root_by (get t x)
    where
      root_by : (o : Option Node) → path_step t x o (path_within m t (parent_in (get t x))) ≡ []
      root_by None = refl
      root_by (Some n) = ap (λ b. cond b [] (path_within m t (parent_in (get t x)) ++ place_of t x n ∷ [])) (ap (λ y. is_same y Root) is ∙ same_self Root)

  path_more : (m : ℕ) (x : NodeId) (n : Node) → get t x ≡ Some n → x ≢ Root → path_within (suc m) t x ≡ path_within m t n.parent ++ place_of t x n ∷ []
  unfolding path_within
  path_more m x n there off =
      ap (λ o. path_step t x o (path_within m t (parent_in o))) there
      ∙ ap (λ b. cond b [] (path_within m t n.parent ++ place_of t x n ∷ [])) (differ x Root off)

  climb : (m : ℕ) (x : NodeId) (n : Node) → get t x ≡ Some n → n.depth ≤ m → (g : Value → Option Value) (w : Value) → g (view_at t x) ≡ Some w → (x ≡ Root) ⊎ (x ≢ Root)
      → at_path (path_within m t x) g (view_at t Root) ≡ Some (shown_within 60 t x w Root)
  climb zero x n there low g w made case =
      let is = is_root t f x n there (omega (arith, low)) in
      ap (λ ss. at_path ss g (view_at t Root)) (path_root zero x is) ∙ at_root x n there is g w made
  climb (suc m) x n there low g w made case = elim case [
    | inl is ↦ ap (λ ss. at_path ss g (view_at t Root)) (path_root (suc m) x is) ∙ at_root x n there is g w made
    | inr off ↦
        let q = the_parent t f x n off there in
        let p = q.0 in
        let up = q.1 in
        let s = place_of t x n in
        let v = above t f x n there off p up w in
        let place : s ≡ cond (is_list p.kind) (Index (index_among x (children t n.parent))) (Key n.key) = ap (λ o. cond (holds_list o) (Index (index_among x (children t n.parent))) (Key n.key)) up in
        let last : step_at s g (view_at t n.parent) ≡ Some v =
        ap (λ z. step_at z g (view_at t n.parent)) place ∙ step_by t f x n there off p up w p.kind refl (ordered n.parent p up) q.2.holds g made in
        let r = the_root t f in
        let root_off : Root ≢ x = λ i. off (sym i) in
        ap (λ ss. at_path ss g (view_at t Root)) (path_more m x n there off)
        ∙ path_last (path_within m t n.parent) s g (view_at t Root)
        ∙ climb m n.parent p up (omega (arith, low, q.2.depth)) (step_at s g) v last (one_or_two n.parent Root)
        ∙ ap Some (same_step t f x n there off p up w 60 Root r.0 r.1 (omega arith) root_off (one_or_two Root n.parent))
  ]

  -- what stands at the path of a node changes, and all else stays
  pub path_changes : (x : NodeId) (n : Node) → get t x ≡ Some n → (h : Value → Value) → at_path (path_of t x) (λ v. Some (h v)) (view_at t Root) ≡ Some (shown_within 60 t x (h (view_at t x)) Root)
  unfolding path_of
  path_changes x n there h =
      let low : n.depth ≤ 60 = lowest x n there (one_or_two x Root) in
      climb 60 x n there low (λ v. Some (h v)) (h (view_at t x)) refl (one_or_two x Root)
    where
      lowest : (x : NodeId) (n : Node) → get t x ≡ Some n → (x ≡ Root) ⊎ (x ≢ Root) → n.depth ≤ 60
      lowest x n there case = elim case [
        | inl is ↦ let d = root_depth t f n (ap (get t) (sym is) ∙ there) in omega (arith, d)
        | inr off ↦ (the_parent t f x n off there).2.deep
      ]
