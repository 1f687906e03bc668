-- Each live value shows itself, once its nodes are put.
use Rattle.std.proofs.Common.{◌≡◌, ◌≢◌, ◌≤◌, ◌<◌, ◌+◌, ℕ, suc, Bool, true, false, cond, nat_lt, List, [], ◌∷◌, ◌++◌, length, map, Option, Some, None, option_map, is_some, Less, refl, sym, ap, ◌∙◌, subst, arith}
use Rattle.std.specs.Prelude.{⊤}
use Rattle.std.proofs.lemmas.Bool.Decides.{nat_tests}
use Rattle.std.specs.Cmp.Lexicographic.{slice_cmp}
use Rattle.std.specs.FinMap.{get, find, insert}
use Rattle.std.specs.List.{AllByRecursion}
use Rattle.std.specs.List.Sorted.{IsStrictlySortedBy}
use Rattle.std.specs.Map.{keys_of}
use Rattle.std.specs.Ordering.{nat_cmp, eq_by_cmp, is_eq, ordering_reverse}
use Rattle.std.proofs.lemmas.Cmp.{nat_list_cmp_total}
use Rattle.room_ids.specs.Laws.{IsPosUnlessLong}
use Rattle.room_ids.specs.Position.{is_pos, first as first_position, after as after_position}
use Rattle.room_ids.specs.declared.ids.NodeId.{NodeId}
use Rattle.room_ids.proofs.Makings.{made_positions, after_above}
use Rattle.room_json.specs.Back.{json_in}
use Rattle.room_json.specs.Value.{Value, list, members, values_of, fields_of, merged}
use Rattle.room_nodes.specs.declared.nodes.Body.{Body}
use Rattle.room_nodes.specs.declared.nodes.Body.TheVariants.{Create}
use Rattle.room_nodes.specs.declared.nodes.Kind.{Kind}
use Rattle.room_nodes.specs.declared.nodes.Kind.TheVariants.{Object, List as Listed, Map as Mapped, Register}
use Rattle.room_nodes.specs.declared.nodes.Node.{Node}
use Rattle.room_nodes.specs.Ordered.{AreOrdered}
use Rattle.room_nodes.specs.Shape.{Nodes, IsFormed, child_at, has_field, is_list, is_register}
use Rattle.room_nodes.specs.Steps.{fold}
use Rattle.room_nodes.proofs.Gets.{some_none, true_false}
use Rattle.room_steps.proofs.Fields.{same_fields, same_name, sorted_of}
use Rattle.room_items.proofs.Found.{json_of-json_in}
use Rattle.room_items.proofs.Shown.{merged_sorted}
use Rattle.room_items.specs.View.{node_view, kind_view, second}
use Rattle.room_model.specs.Edits.{too_long}
use Rattle.room_model.specs.Init.{Init, Plain, AnObject, AMap, AList, Parts, no_parts, part, Inits, no_inits, init, made_id, creates, live_creates, part_creates, item_creates}
use Rattle.room_model.specs.Init.{init_view, parts_view, inits_view, nodes_in, live_nodes, part_nodes, init_nodes, node_depth, live_depth, parts_depth, inits_depth, positions_in, parts_positions, item_positions, plain_field, plain_fields}
use Rattle.room_model.specs.Sound.{IsSoundInit, AreSoundParts, AreSoundInits, names_of}
use Rattle.room_effect.specs.Effect.{AreLive}
use Rattle.room_effect.proofs.Created.{FreshFrom, Grown, grown_under, now, create_live, create_settled, create_step, create_formed, create_here, create_grown, create_child, create_beside, create_bare}
use Rattle.room_effect.proofs.Grafting.{MayStand, Grafted, Grafts, Entry, entry_nodes, entry_creates, entry_views, AllGraft, AllMayStand, planted}
use Rattle.room_effect.proofs.Keyed.{kids_of, find_kids, kids_ordered, view_is}
use Rattle.room_effect.proofs.Local.{Pair}
use Rattle.room_effect.proofs.Members.{none_above, or_else, find_merged, ordered_merged}

-- depths

live_least : (d : ℕ) (ps : Parts) → d ≤ live_depth d ps
live_least d no_parts = omega arith
live_least d (part k i ps) = omega (arith, live_least d ps)

parts_least : (d : ℕ) (ps : Parts) → d ≤ parts_depth d ps
parts_least d no_parts = omega arith
parts_least d (part k i ps) = omega (arith, parts_least d ps)

inits_least : (d : ℕ) (is : Inits) → d ≤ inits_depth d is
inits_least d no_inits = omega arith
inits_least d (init i is) = omega (arith, inits_least d is)

pub least : (d : ℕ) (i : Init) → d ≤ node_depth d i
least d (Plain v) = omega arith
least d (AnObject ps) = live_least d ps
least d (AMap ps) = parts_least d ps
least d (AList is) = inits_least d is

pub no_members : AreOrdered []
unfolding IsStrictlySortedBy
no_members = tt

-- a node with parts

module _ (u : Nodes) (a c : ℕ) (x : NodeId) (p : Node) (k : List ℕ) (i : Init) (f : IsFormed u) (new : FreshFrom u a c) (there : get u x ≡ Some p) (holds : is_register p.kind ≡ false) (may : MayStand u x p k i) where
  abbrev low : p.depth < 60
  low = omega (arith, least (p.depth + 1) i, may.deep)

  abbrev first_now : Kind → Nodes
  first_now kind = insert u (made_id a c) (record { parent = x; key = k; depth = p.depth + 1; kind = kind })

  abbrev first_node : Kind → Node
  first_node kind = record { parent = x; key = k; depth = p.depth + 1; kind = kind }

  first_bare : (kind : Kind) (j : List ℕ) → child_at (first_now kind) (made_id a c) j ≡ None
  first_bare kind j = create_bare u f a c new x k kind p there holds low may.free may.place may.plain j _ refl

  bare_kids : (kind : Kind) → kids_of 59 (first_now kind) (made_id a c) ≡ []
  bare_kids kind = same_fields (kids_of 59 (first_now kind) (made_id a c)) [] (kids_ordered 59 (first_now kind) (made_id a c)) no_members
      (λ q. find_kids 59 (first_now kind) (made_id a c) q ∙ ap (option_map _) (first_bare kind q))

  with_parts : (kind : Kind) (es : List Entry) → AllGraft es → is_register kind ≡ false
      → creates a c x k None i ≡ Create (made_id a c) x k None kind ∷ entry_creates a (suc c) (made_id a c) es
      → nodes_in i ≡ suc (entry_nodes es) → AllMayStand (first_now kind) (made_id a c) (first_node kind) es
      → kind_view kind (merged [] (entry_views es)) ≡ init_view i
      → (w : Nodes) × Grafted u w x k a c i (creates a c x k None i)
  with_parts kind es each reg made count stand shown =
      let b : Body = Create (made_id a c) x k None kind in
      let v = first_now kind in
      let n = first_node kind in
      let y = made_id a c in
      let formed = create_formed u f a c new x k kind p there holds low may.free may.place may.plain in
      let here = create_here u f a c new x k kind p there holds low may.free may.place may.plain in
      let grown = create_grown u f a c new x k kind p there holds low may.free may.place may.plain in
      let is = create_step u f a c new x k kind p there holds low may.free may.place may.plain in
      let g = planted es each v a (suc c) y n formed grown.fresh here reg stand in
      let w = g.0 in
      let r = g.1 in
      let under = grown_under u v w x y a (suc c) (suc c + entry_nodes es) (new c (omega arith)) grown r.grown in
      let count_so : suc c + entry_nodes es ≡ c + nodes_in i = omega (arith, count) in
      let other : x ≢ y = λ e. some_none p (sym there ∙ ap (get u) e ∙ new c (omega arith)) in
      let kids = r.grown.kids x p (grown.node x p there) other in
      let rest = entry_creates a (suc c) y es in (
        w,
        record {
          is = ap (fold u) made ∙ ap (λ (z : Nodes). fold z rest) is ∙ r.is;
          live = subst (AreLive u) (sym made) (
            create_live u f a c new x k kind p there holds low may.free may.place may.plain,
            create_settled u f a c new x k kind p there holds low may.free may.place may.plain,
            subst (λ (z : Nodes). AreLive z rest) (sym is) r.live,
          );
          grown = subst (λ d. Grown u w x a d) count_so under;
          child = ap (find (slice_cmp nat_cmp) k) kids ∙ create_child u f a c new x k kind p there holds low may.free may.place may.plain;
          beside = λ j off. ap (find (slice_cmp nat_cmp) j) kids ∙ create_beside u f a c new x k kind p there holds low may.free may.place may.plain j off;
          shown = view_is w y ∙ ap (λ o. node_view o (kids_of 59 w y)) (r.grown.node y n here)
              ∙ ap (kind_view kind) (r.kids ∙ ap (λ ks. merged ks (entry_views es)) (bare_kids kind)) ∙ shown;
        },
      )

plain_grafts : (v : Value) → Grafts (Plain v)
plain_grafts v u a c x p k f new there holds may =
    let kind = Register (json_in v) in
    let few = low u a c x p k (Plain v) f new there holds may in
    let w = now u f a c new x k kind p there holds few may.free may.place may.plain in
    let one : suc c ≡ c + 1 = omega arith in (
      w,
      record {
        is = create_step u f a c new x k kind p there holds few may.free may.place may.plain;
        live = (
          create_live u f a c new x k kind p there holds few may.free may.place may.plain,
          create_settled u f a c new x k kind p there holds few may.free may.place may.plain,
          tt,
        );
        grown = subst (λ d. Grown u w x a d) one (create_grown u f a c new x k kind p there holds few may.free may.place may.plain);
        child = create_child u f a c new x k kind p there holds few may.free may.place may.plain;
        beside = create_beside u f a c new x k kind p there holds few may.free may.place may.plain;
        shown = view_is w (made_id a c)
            ∙ ap (λ o. node_view o (kids_of 59 w (made_id a c))) (create_here u f a c new x k kind p there holds few may.free may.place may.plain)
            ∙ json_of-json_in v;
      },
    )

-- positions of which none is too long

long_of : (b : Bool) (n : ℕ) (o : Option ℕ) → cond b (Some n) o ≡ None → (b ≡ false) × (o ≡ None)
long_of true n o h = cc
long_of false n o h = (refl, h)

front : (xs ys : List (List ℕ)) → too_long (xs ++ ys) ≡ None → (too_long xs ≡ None) × (too_long ys ≡ None)
front [] ys h = (refl, h)
front (x ∷ xs) ys h =
    let l = long_of (nat_lt 4096 (length x)) (length x) (too_long (xs ++ ys)) h in
    let r = front xs ys l.1 in
    (rw (l.0, r.0) refl, r.1)

pub first_short : (p : List ℕ) (ps : List (List ℕ)) → too_long (p ∷ ps) ≡ None → (length p ≤ 4096) × (too_long ps ≡ None)
first_short p ps h = let r = long_of (nat_lt 4096 (length p)) (length p) (too_long ps) h in (let e : nat_lt 4096 (length p) ≡ false = r.0 in grind (arith, nat_tests, e), r.1)

-- maps

abbrev part_entries : Parts → List Entry
part_entries no_parts = []
part_entries (part k i ps) = (k, i) ∷ part_entries ps

part_made : (a c : ℕ) (x : NodeId) (ps : Parts) → part_creates a c x ps ≡ entry_creates a c x (part_entries ps)
part_made a c x no_parts = refl
part_made a c x (part k i ps) = ap (λ bs. creates a c x k None i ++ bs) (part_made a (c + nodes_in i) x ps)

part_count : (ps : Parts) → part_nodes ps ≡ entry_nodes (part_entries ps)
part_count no_parts = refl
part_count (part k i ps) = ap (λ n. nodes_in i + n) (part_count ps)

part_shown : (ps : Parts) → entry_views (part_entries ps) ≡ parts_view ps
part_shown no_parts = refl
part_shown (part k i ps) = ap (λ vs. (k, init_view i) ∷ vs) (part_shown ps)

part_names : (ps : Parts) → keys_of (part_entries ps) ≡ names_of ps
part_names no_parts = refl
part_names (part k i ps) = ap (λ ks. k ∷ ks) (part_names ps)

part_keys : (ps : Parts) → keys_of (parts_view ps) ≡ names_of ps
part_keys no_parts = refl
part_keys (part k i ps) = ap (λ ks. k ∷ ks) (part_keys ps)

abbrev AreAbove : List ℕ → List (List ℕ) → Type 0
AreAbove k ks = AllByRecursion (λ n. slice_cmp nat_cmp k n ≡ Less) ks

abbrev AreSorted : List (List ℕ) → Type 0
AreSorted ks = IsStrictlySortedBy (slice_cmp nat_cmp) ks

sorted_parts : (k : List ℕ) (ks : List (List ℕ)) → AreSorted (k ∷ ks) → AreAbove k ks × AreSorted ks
unfolding IsStrictlySortedBy
sorted_parts k ks h = (h.0, h.1)

deeper_so : (d : ℕ) (i : Init) → node_depth (suc d) i ≤ 60 → node_depth (d + 1) i ≤ 60
deeper_so d i h = let one : suc d ≡ d + 1 = omega arith in subst (λ m. node_depth m i ≤ 60) one h

part_stand : (v : Nodes) (y : NodeId) (n : Node) → n.kind ≡ Mapped → ((j : List ℕ) → child_at v y j ≡ None) → (ps : Parts) → AreSorted (names_of ps) → AreSoundParts ps → parts_depth n.depth ps ≤ 60
    → too_long (parts_positions ps) ≡ None → AllMayStand v y n (part_entries ps)
part_stand v y n kind bare no_parts sorted sound deep short = tt
part_stand v y n kind bare (part k i ps) sorted sound deep short =
    let s = sorted_parts k (names_of ps) sorted in
    let l = front (positions_in i) (parts_positions ps) short in
    let here : node_depth (suc n.depth) i ≤ 60 = omega (arith, deep) in
    let more : parts_depth n.depth ps ≤ 60 = omega (arith, deep) in (
      record {
        free = bare k;
        plain = ap (has_field k) kind;
        place = λ list. absurd (true_false (sym list ∙ ap is_list kind));
        deep = deeper_so n.depth i here;
        short = l.0;
        sound = sound.1;
      },
      subst (AreAbove k) (sym (part_names ps)) s.0,
      part_stand v y n kind bare ps s.1 sound.2 more l.1,
    )

map_grafts : (ps : Parts) → AllGraft (part_entries ps) → Grafts (AMap ps)
map_grafts ps each u a c x p k f new there holds may =
    let es = part_entries ps in
    with_parts u a c x p k (AMap ps) f new there holds may Mapped es each refl
    (ap (λ bs. Create (made_id a c) x k None Mapped ∷ bs) (part_made a (suc c) (made_id a c) ps))
    (ap suc (part_count ps))
    (part_stand (first_now u a c x p k (AMap ps) f new there holds may Mapped) (made_id a c) (first_node u a c x p k (AMap ps) f new there holds may Mapped) refl
    (first_bare u a c x p k (AMap ps) f new there holds may Mapped) ps may.sound.0 may.sound.1 may.deep may.short)
    (ap (λ vs. members (fields_of (merged [] vs))) (part_shown ps)
    ∙ ap (λ vs. members (fields_of vs)) (merged_sorted (parts_view ps) (sorted_of (parts_view ps) (subst AreSorted (sym (part_keys ps)) may.sound.0))))

-- lists

abbrev item_entries : List ℕ → Inits → List Entry
item_entries q no_inits = []
item_entries q (init i is) = (q, i) ∷ item_entries (after_position q) is

item_made : (a c : ℕ) (x : NodeId) (q : List ℕ) (is : Inits) → item_creates a c x q is ≡ entry_creates a c x (item_entries q is)
item_made a c x q no_inits = refl
item_made a c x q (init i is) = ap (λ bs. creates a c x q None i ++ bs) (item_made a (c + nodes_in i) x (after_position q) is)

item_count : (q : List ℕ) (is : Inits) → init_nodes is ≡ entry_nodes (item_entries q is)
item_count q no_inits = refl
item_count q (init i is) = ap (λ n. nodes_in i + n) (item_count (after_position q) is)

item_shown : (q : List ℕ) (is : Inits) → map second (entry_views (item_entries q is)) ≡ inits_view is
item_shown q no_inits = refl
item_shown q (init i is) = ap (λ vs. init_view i ∷ vs) (item_shown (after_position q) is)

-- positions that rise

after_all : (k q : List ℕ) (is : Inits) → slice_cmp nat_cmp k q ≡ Less → IsPosUnlessLong q → too_long (item_positions q is) ≡ None → AreAbove k (keys_of (item_entries q is))
after_all k q no_inits l pos short = tt
after_all k q (init i is) l pos short =
    let s = first_short q (positions_in i ++ item_positions (after_position q) is) short in
    let is_p : is_pos q ≡ true = pos s.0 in (
      l,
      after_all k (after_position q) is (nat_list_cmp_total.trans k q (after_position q) l (after_above q is_p)) (made_positions.1 q is_p).0
          (front (positions_in i) (item_positions (after_position q) is) s.1).1,
    )

sorted_more : (k : List ℕ) (ks : List (List ℕ)) → AreAbove k ks → AreSorted ks → AreSorted (k ∷ ks)
unfolding IsStrictlySortedBy
sorted_more k ks h s = (h, s)

sorted_none : AreSorted []
unfolding IsStrictlySortedBy
sorted_none = tt

item_sorted : (q : List ℕ) (is : Inits) → IsPosUnlessLong q → too_long (item_positions q is) ≡ None → AreSorted (keys_of (item_entries q is))
item_sorted q no_inits pos short = sorted_none
item_sorted q (init i is) pos short =
    let s = first_short q (positions_in i ++ item_positions (after_position q) is) short in
    let is_p : is_pos q ≡ true = pos s.0 in
    let rest = (front (positions_in i) (item_positions (after_position q) is) s.1).1 in
    let next = (made_positions.1 q is_p).0 in
    sorted_more q (keys_of (item_entries (after_position q) is)) (after_all q (after_position q) is (after_above q is_p) next rest) (item_sorted (after_position q) is next rest)

item_stand : (v : Nodes) (y : NodeId) (n : Node) → n.kind ≡ Listed → ((j : List ℕ) → child_at v y j ≡ None) → (q : List ℕ) (is : Inits) → IsPosUnlessLong q → AreSoundInits is → inits_depth n.depth is ≤ 60
    → too_long (item_positions q is) ≡ None → AllMayStand v y n (item_entries q is)
item_stand v y n kind bare q no_inits pos sound deep short = tt
item_stand v y n kind bare q (init i is) pos sound deep short =
    let s = first_short q (positions_in i ++ item_positions (after_position q) is) short in
    let is_p : is_pos q ≡ true = pos s.0 in
    let l = front (positions_in i) (item_positions (after_position q) is) s.1 in
    let next = (made_positions.1 q is_p).0 in
    let here : node_depth (suc n.depth) i ≤ 60 = omega (arith, deep) in
    let more : inits_depth n.depth is ≤ 60 = omega (arith, deep) in (
      record { free = bare q; plain = ap (has_field q) kind; place = λ list. is_p; deep = deeper_so n.depth i here; short = l.0; sound = sound.0 },
      after_all q (after_position q) is (after_above q is_p) next l.1,
      item_stand v y n kind bare (after_position q) is next sound.1 more l.1,
    )

views_keys : (es : List Entry) → keys_of (entry_views es) ≡ keys_of es
views_keys [] = refl
views_keys (e ∷ es) = ap (λ ks. e.0 ∷ ks) (views_keys es)

list_grafts : (is : Inits) → AllGraft (item_entries first_position is) → Grafts (AList is)
list_grafts is each u a c x p k f new there holds may =
    let q = first_position in
    let es = item_entries q is in
    let pos : IsPosUnlessLong q = λ l. made_positions.0 in
    with_parts u a c x p k (AList is) f new there holds may Listed es each refl
    (ap (λ bs. Create (made_id a c) x k None Listed ∷ bs) (item_made a (suc c) (made_id a c) q is))
    (ap suc (item_count q is))
    (item_stand (first_now u a c x p k (AList is) f new there holds may Listed) (made_id a c) (first_node u a c x p k (AList is) f new there holds may Listed) refl
    (first_bare u a c x p k (AList is) f new there holds may Listed) q is pos may.sound may.deep may.short)
    (ap (λ vs. list (values_of (map second vs))) (merged_sorted (entry_views es) (sorted_of (entry_views es) (subst AreSorted (sym (views_keys es)) (item_sorted q is pos may.short))))
    ∙ ap (λ vs. list (values_of vs)) (item_shown q is))

-- objects: their plain parts are fields

abbrev live_entry : List ℕ → Init → List Entry → List Entry
live_entry k (Plain v) es = es
live_entry k (AnObject qs) es = (k, AnObject qs) ∷ es
live_entry k (AMap qs) es = (k, AMap qs) ∷ es
live_entry k (AList is) es = (k, AList is) ∷ es

abbrev live_entries : Parts → List Entry
live_entries no_parts = []
live_entries (part k i ps) = live_entry k i (live_entries ps)

live_made_by : (a c : ℕ) (x : NodeId) (k : List ℕ) (i : Init) (ps : Parts) → ((d : ℕ) → live_creates a d x ps ≡ entry_creates a d x (live_entries ps))
    → live_creates a c x (part k i ps) ≡ entry_creates a c x (live_entry k i (live_entries ps))
live_made_by a c x k (Plain v) ps h = let none : c + 0 ≡ c = omega arith in ap (λ d. live_creates a d x ps) none ∙ h c
live_made_by a c x k (AnObject qs) ps h = ap (λ bs. creates a c x k None (AnObject qs) ++ bs) (h (c + nodes_in (AnObject qs)))
live_made_by a c x k (AMap qs) ps h = ap (λ bs. creates a c x k None (AMap qs) ++ bs) (h (c + nodes_in (AMap qs)))
live_made_by a c x k (AList is) ps h = ap (λ bs. creates a c x k None (AList is) ++ bs) (h (c + nodes_in (AList is)))

live_made : (a c : ℕ) (x : NodeId) (ps : Parts) → live_creates a c x ps ≡ entry_creates a c x (live_entries ps)
live_made a c x no_parts = refl
live_made a c x (part k i ps) = live_made_by a c x k i ps (λ d. live_made a d x ps)

live_count_by : (k : List ℕ) (i : Init) (ps : Parts) → live_nodes ps ≡ entry_nodes (live_entries ps) → live_nodes (part k i ps) ≡ entry_nodes (live_entry k i (live_entries ps))
live_count_by k (Plain v) ps h = omega (arith, h)
live_count_by k (AnObject qs) ps h = ap (λ n. nodes_in (AnObject qs) + n) h
live_count_by k (AMap qs) ps h = ap (λ n. nodes_in (AMap qs) + n) h
live_count_by k (AList is) ps h = ap (λ n. nodes_in (AList is) + n) h

live_count : (ps : Parts) → live_nodes ps ≡ entry_nodes (live_entries ps)
live_count no_parts = refl
live_count (part k i ps) = live_count_by k i ps (live_count ps)

above_by : (j k : List ℕ) (i : Init) (es : List Entry) → slice_cmp nat_cmp j k ≡ Less → AreAbove j (keys_of es) → AreAbove j (keys_of (live_entry k i es))
above_by j k (Plain v) es l h = h
above_by j k (AnObject qs) es l h = (l, h)
above_by j k (AMap qs) es l h = (l, h)
above_by j k (AList is) es l h = (l, h)

live_above : (j : List ℕ) (ps : Parts) → AreAbove j (names_of ps) → AreAbove j (keys_of (live_entries ps))
live_above j no_parts h = tt
live_above j (part k i ps) h = above_by j k i (live_entries ps) h.0 (live_above j ps h.1)

plain_above_by : (j k : List ℕ) (i : Init) (fs : List Pair) → slice_cmp nat_cmp j k ≡ Less → AreAbove j (keys_of fs) → AreAbove j (keys_of (plain_field k i ++ fs))
plain_above_by j k (Plain v) fs l h = (l, h)
plain_above_by j k (AnObject qs) fs l h = h
plain_above_by j k (AMap qs) fs l h = h
plain_above_by j k (AList is) fs l h = h

plain_above : (j : List ℕ) (ps : Parts) → AreAbove j (names_of ps) → AreAbove j (keys_of (plain_fields ps))
plain_above j no_parts h = tt
plain_above j (part k i ps) h = plain_above_by j k i (plain_fields ps) h.0 (plain_above j ps h.1)

plain_sorted_by : (k : List ℕ) (i : Init) (fs : List Pair) → AreAbove k (keys_of fs) → AreSorted (keys_of fs) → AreSorted (keys_of (plain_field k i ++ fs))
plain_sorted_by k (Plain v) fs l h = sorted_more k (keys_of fs) l h
plain_sorted_by k (AnObject qs) fs l h = h
plain_sorted_by k (AMap qs) fs l h = h
plain_sorted_by k (AList is) fs l h = h

plain_sorted : (ps : Parts) → AreSorted (names_of ps) → AreSorted (keys_of (plain_fields ps))
plain_sorted no_parts h = sorted_none
plain_sorted (part k i ps) h = let s = sorted_parts k (names_of ps) h in plain_sorted_by k i (plain_fields ps) (plain_above k ps s.0) (plain_sorted ps s.1)

live_sorted_by : (k : List ℕ) (i : Init) (es : List Entry) → AreAbove k (keys_of es) → AreSorted (keys_of es) → AreSorted (keys_of (live_entry k i es))
live_sorted_by k (Plain v) es l h = h
live_sorted_by k (AnObject qs) es l h = sorted_more k (keys_of es) l h
live_sorted_by k (AMap qs) es l h = sorted_more k (keys_of es) l h
live_sorted_by k (AList is) es l h = sorted_more k (keys_of es) l h

live_sorted : (ps : Parts) → AreSorted (names_of ps) → AreSorted (keys_of (live_entries ps))
live_sorted no_parts h = sorted_none
live_sorted (part k i ps) h = let s = sorted_parts k (names_of ps) h in live_sorted_by k i (live_entries ps) (live_above k ps s.0) (live_sorted ps s.1)

-- no live part has the name of a plain one

abbrev NoneIn : List Pair → List Entry → Type 0
NoneIn fs [] = ⊤
NoneIn fs (e ∷ es) = (find (slice_cmp nat_cmp) e.0 fs ≡ None) × NoneIn fs es

one_more_by : (j k : List ℕ) (i : Init) (fs : List Pair) → slice_cmp nat_cmp k j ≡ Less → find (slice_cmp nat_cmp) j fs ≡ None → find (slice_cmp nat_cmp) j (plain_field k i ++ fs) ≡ None
one_more_by j k (Plain v) fs l h = ap (λ b. cond b (Some v) (find (slice_cmp nat_cmp) j fs)) (other_name j k l) ∙ h
  where
    other_name : (j k : List ℕ) → slice_cmp nat_cmp k j ≡ Less → eq_by_cmp (slice_cmp nat_cmp) j k ≡ false
    other_name j k l = ap is_eq (nat_list_cmp_total.antisymm j k ∙ ap ordering_reverse l)
one_more_by j k (AnObject qs) fs l h = h
one_more_by j k (AMap qs) fs l h = h
one_more_by j k (AList is) fs l h = h

none_more : (k : List ℕ) (i : Init) (fs : List Pair) (es : List Entry) → AreAbove k (keys_of es) → NoneIn fs es → NoneIn (plain_field k i ++ fs) es
none_more k i fs [] l h = tt
none_more k i fs (e ∷ es) l h = (one_more_by e.0 k i fs l.0 h.0, none_more k i fs es l.1 h.1)

none_by : (k : List ℕ) (i : Init) (fs : List Pair) (es : List Entry) → AreAbove k (keys_of fs) → AreAbove k (keys_of es) → NoneIn fs es → NoneIn (plain_field k i ++ fs) (live_entry k i es)
none_by k (Plain v) fs es m l h = none_more k (Plain v) fs es l h
none_by k (AnObject qs) fs es m l h = (none_above k fs m, h)
none_by k (AMap qs) fs es m l h = (none_above k fs m, h)
none_by k (AList is) fs es m l h = (none_above k fs m, h)

none_in : (ps : Parts) → AreSorted (names_of ps) → NoneIn (plain_fields ps) (live_entries ps)
none_in no_parts h = tt
none_in (part k i ps) h = let s = sorted_parts k (names_of ps) h in none_by k i (plain_fields ps) (live_entries ps) (plain_above k ps s.0) (live_above k ps s.0) (none_in ps s.1)

-- each live part may stand under the object

module _ (v : Nodes) (y : NodeId) (n : Node) (fs : List Pair) (kind : n.kind ≡ Object fs) (bare : (j : List ℕ) → child_at v y j ≡ None) where
  one_stand : (k : List ℕ) (i : Init) → find (slice_cmp nat_cmp) k fs ≡ None → node_depth (suc n.depth) i ≤ 60 → too_long (positions_in i) ≡ None → IsSoundInit i → MayStand v y n k i
  one_stand k i none deep short sound = record {
    free = bare k;
    plain = ap (has_field k) kind ∙ ap is_some none;
    place = λ list. absurd (true_false (sym list ∙ ap is_list kind));
    deep = deeper_so n.depth i deep;
    short = short;
    sound = sound;
  }

  live_stand_by : (k : List ℕ) (i : Init) (ps : Parts) → live_depth n.depth (part k i ps) ≤ 60 → too_long (positions_in i) ≡ None → IsSoundInit i → AreAbove k (keys_of (live_entries ps))
      → NoneIn fs (live_entry k i (live_entries ps)) → (NoneIn fs (live_entries ps) → AllMayStand v y n (live_entries ps)) → AllMayStand v y n (live_entry k i (live_entries ps))
  live_stand_by k (Plain w) ps deep short sound l none more = more none
  live_stand_by k (AnObject qs) ps deep short sound l none more = (one_stand k (AnObject qs) none.0 (omega (arith, deep)) short sound, l, more none.1)
  live_stand_by k (AMap qs) ps deep short sound l none more = (one_stand k (AMap qs) none.0 (omega (arith, deep)) short sound, l, more none.1)
  live_stand_by k (AList is) ps deep short sound l none more = (one_stand k (AList is) none.0 (omega (arith, deep)) short sound, l, more none.1)

  live_stand : (ps : Parts) → AreSorted (names_of ps) → AreSoundParts ps → live_depth n.depth ps ≤ 60 → too_long (parts_positions ps) ≡ None → NoneIn fs (live_entries ps) → AllMayStand v y n (live_entries ps)
  live_stand no_parts sorted sound deep short none = tt
  live_stand (part k i ps) sorted sound deep short none =
      let s = sorted_parts k (names_of ps) sorted in
      let l = front (positions_in i) (parts_positions ps) short in
      let more : live_depth n.depth ps ≤ 60 = omega (arith, deep) in
      live_stand_by k i ps deep l.0 sound.1 (live_above k ps s.0) none (λ rest. live_stand ps s.1 sound.2 more l.1 rest)

-- what an object shows, name by name

both_by : (q : List ℕ) (b : Bool) (v : Value) (l p : Option Value) → (b ≡ true → l ≡ None) → cond b (Some v) (or_else l p) ≡ or_else l (cond b (Some v) p)
both_by q true v l p h = sym (ap (λ o. or_else o (Some v)) (h refl))
both_by q false v l p h = refl

live_by : (b : Bool) (v : Value) (l p : Option Value) → cond b (Some v) (or_else l p) ≡ or_else (cond b (Some v) l) p
live_by true v l p = refl
live_by false v l p = refl

split_by : (q k : List ℕ) (i : Init) (es : List Entry) (fs : List Pair) → AreAbove k (keys_of es)
    → cond (eq_by_cmp (slice_cmp nat_cmp) q k) (Some (init_view i)) (or_else (find (slice_cmp nat_cmp) q (entry_views es)) (find (slice_cmp nat_cmp) q fs))
    ≡ or_else (find (slice_cmp nat_cmp) q (entry_views (live_entry k i es))) (find (slice_cmp nat_cmp) q (plain_field k i ++ fs))
split_by q k (Plain v) es fs l = both_by q (eq_by_cmp (slice_cmp nat_cmp) q k) v (find (slice_cmp nat_cmp) q (entry_views es)) (find (slice_cmp nat_cmp) q fs)
    (λ e. ap (λ j. find (slice_cmp nat_cmp) j (entry_views es)) (same_name q k e) ∙ none_above k (entry_views es) (subst (AreAbove k) (sym (views_keys es)) l))
split_by q k (AnObject qs) es fs l = live_by (eq_by_cmp (slice_cmp nat_cmp) q k) (init_view (AnObject qs)) (find (slice_cmp nat_cmp) q (entry_views es)) (find (slice_cmp nat_cmp) q fs)
split_by q k (AMap qs) es fs l = live_by (eq_by_cmp (slice_cmp nat_cmp) q k) (init_view (AMap qs)) (find (slice_cmp nat_cmp) q (entry_views es)) (find (slice_cmp nat_cmp) q fs)
split_by q k (AList is) es fs l = live_by (eq_by_cmp (slice_cmp nat_cmp) q k) (init_view (AList is)) (find (slice_cmp nat_cmp) q (entry_views es)) (find (slice_cmp nat_cmp) q fs)

split : (q : List ℕ) (ps : Parts) → AreSorted (names_of ps)
    → find (slice_cmp nat_cmp) q (parts_view ps) ≡ or_else (find (slice_cmp nat_cmp) q (entry_views (live_entries ps))) (find (slice_cmp nat_cmp) q (plain_fields ps))
split q no_parts h = refl
split q (part k i ps) h =
    let s = sorted_parts k (names_of ps) h in
    ap (cond (eq_by_cmp (slice_cmp nat_cmp) q k) (Some (init_view i))) (split q ps s.1)
    ∙ split_by q k i (live_entries ps) (plain_fields ps) (live_above k ps s.0)

object_shown : (ps : Parts) → AreSorted (names_of ps) → merged (plain_fields ps) (merged [] (entry_views (live_entries ps))) ≡ parts_view ps
object_shown ps h =
    let vs = entry_views (live_entries ps) in
    let ordered : AreOrdered vs = subst AreSorted (sym (views_keys (live_entries ps))) (live_sorted ps h) in
    ap (merged (plain_fields ps)) (merged_sorted vs (sorted_of vs ordered))
    ∙ same_fields (merged (plain_fields ps) vs) (parts_view ps) (ordered_merged (plain_fields ps) vs (plain_sorted ps h)) (subst AreSorted (sym (part_keys ps)) h)
    (λ q. find_merged q (plain_fields ps) vs ordered ∙ sym (split q ps h))

object_grafts : (ps : Parts) → AllGraft (live_entries ps) → Grafts (AnObject ps)
object_grafts ps each u a c x p k f new there holds may =
    let kind = Object (plain_fields ps) in
    let es = live_entries ps in
    with_parts u a c x p k (AnObject ps) f new there holds may kind es each refl
    (ap (λ bs. Create (made_id a c) x k None kind ∷ bs) (live_made a (suc c) (made_id a c) ps))
    (ap suc (live_count ps))
    (live_stand (first_now u a c x p k (AnObject ps) f new there holds may kind) (made_id a c) (first_node u a c x p k (AnObject ps) f new there holds may kind) (plain_fields ps) refl
    (first_bare u a c x p k (AnObject ps) f new there holds may kind) ps may.sound.0 may.sound.1 may.deep may.short (none_in ps may.sound.0))
    (ap (λ vs. members (fields_of vs)) (object_shown ps may.sound.0))

-- every live value

all_by : (k : List ℕ) (i : Init) (es : List Entry) → Grafts i → AllGraft es → AllGraft (live_entry k i es)
all_by k (Plain v) es g h = h
all_by k (AnObject qs) es g h = (g, h)
all_by k (AMap qs) es g h = (g, h)
all_by k (AList is) es g h = (g, h)

mutual
  pub grafts : (i : Init) → Grafts i
  grafts (Plain v) = plain_grafts v
  grafts (AnObject ps) = object_grafts ps (live_all ps)
  grafts (AMap ps) = map_grafts ps (part_all ps)
  grafts (AList is) = list_grafts is (item_all first_position is)

  live_all : (ps : Parts) → AllGraft (live_entries ps)
  live_all no_parts = tt
  live_all (part k i ps) = all_by k i (live_entries ps) (grafts i) (live_all ps)

  part_all : (ps : Parts) → AllGraft (part_entries ps)
  part_all no_parts = tt
  part_all (part k i ps) = (grafts i, part_all ps)

  item_all : (q : List ℕ) (is : Inits) → AllGraft (item_entries q is)
  item_all q no_inits = tt
  item_all q (init i is) = (grafts i, item_all (after_position q) is)
