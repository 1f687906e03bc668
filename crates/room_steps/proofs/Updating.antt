-- An update taken back: the old values, then each other name: the child that stood there, or nothing.
use Rattle.std.proofs.Common.{◌≡◌, ◌≢◌, inl, inr, ◌+◌, ◌<◌, Bool, true, false, not, T, ℕ, List, [], ◌∷◌, ◌++◌, Option, Some, None, Less, is_some, refl, sym, ap, ◌∙◌, subst, arith}
use Rattle.std.specs.Cmp.Lexicographic.{slice_cmp}
use Rattle.std.specs.FinMap.{get, insert, find, same_map}
use Rattle.std.specs.FinMap.Entries.{below_all}
use Rattle.std.specs.Ordering.{nat_cmp}
use Rattle.room_json.specs.Value.{Value}
use Rattle.room_ids.proofs.IdOrder.{node_cmp-total, node_cmp-exact}
use Rattle.room_ids.specs.declared.ids.NodeId.{NodeId}
use Rattle.room_ids.specs.declared.ids.NodeId.TheVariants.{Root}
use Rattle.room_nodes.specs.Shape.{Nodes, IsFormed, child_at, has_field, is_below}
use Rattle.room_nodes.specs.Steps.{step, fold, changed, holds_object, on_fields, fields_kind, with_fields, without, without_children, without_field}
use Rattle.room_nodes.specs.declared.nodes.Body.TheVariants.{Create, Update, DeleteKey}
use Rattle.room_nodes.specs.declared.nodes.Kind.TheVariants.{Object}
use Rattle.room_nodes.specs.declared.nodes.Node.{Node}
use Rattle.room_nodes.proofs.Below.{below_self, parent_not_below}
use Rattle.room_nodes.proofs.Children.{child_at_none, child_at_some}
use Rattle.room_nodes.proofs.Fitting.{the_parent}
use Rattle.room_nodes.proofs.Gets.{some_inj, some_none, same, one_or_two, get_here, get_other, here_or_old, true_false}
use Rattle.room_nodes.proofs.Listing.{Has, less_of, parts}
use Rattle.room_nodes.proofs.Places.{not_below_itself}
use Rattle.room_nodes.proofs.StepForm.{FieldsOf, at_node, cut_children}
use Rattle.room_nodes.proofs.Undoing.{parent_other}
use Rattle.room_nodes.proofs.Walks.{walk_there}
use Rattle.room_nodes.proofs.Tours.{tour_under}
use Rattle.room_nodes.specs.Ordered.{AreOrdered}
use Rattle.room_nodes.specs.Reversal.{creations, node_restored, child_restored, field_in, field_of_node, old_fields, old_update, gone_or, other_name, other_names, reversed}
use Rattle.room_steps.proofs.Booleans.{by_no}
use Rattle.room_steps.proofs.Cutting.{siblings_apart, IsNamed, IsSpared, IsCut, cut}
use Rattle.room_steps.proofs.Fields.{Named, olds, olds_are, olds_named, cleaned, cleaned_by, restored_fields, sorted_of, ordered_of}
use Rattle.room_steps.proofs.Restoring.{step_acts, put_same, put_twice, created, fold-append, walk_fresh, Follows, Rebuilt, restore, under, has_under, under_is_below, restored_is}

-- a name stands once among names in order

above_named : (x : NodeId) (k j : List ℕ) (es : FieldsOf) → T (below_all (slice_cmp nat_cmp) k es) → IsNamed x j es → slice_cmp nat_cmp k j ≡ Less
above_named x k j [] h m = absurd m
above_named x k j (e ∷ es) h m = let p = less_of (slice_cmp nat_cmp k e.0) _ h in elim m [
  | inl is ↦ ap (slice_cmp nat_cmp k) (sym is) ∙ p.0
  | inr g ↦ above_named x k j es p.1 g
]

named_once : (x : NodeId) (e : List ℕ × Value) (es : FieldsOf) → AreOrdered (e ∷ es) → IsNamed x e.0 es → ⊥
named_once x e es o m = not_below_itself e.0 (above_named x e.0 e.0 es (parts (below_all (slice_cmp nat_cmp) e.0 es) _ (sorted_of (e ∷ es) o)).0 m)

ordered_rest : (e : List ℕ × Value) (es : FieldsOf) → AreOrdered (e ∷ es) → AreOrdered es
ordered_rest e es o = ordered_of es (parts (below_all (slice_cmp nat_cmp) e.0 es) _ (sorted_of (e ∷ es) o)).1

without_same : (x : NodeId) (es : FieldsOf) (u : Nodes) → ((k : List ℕ) → Named k es → child_at u x k ≡ None) → without_children u x es ≡ u
without_same x [] u h = refl
without_same x (e ∷ es) u h = ap (λ o. without_children (without u o) x es) (h e.0 (inl refl)) ∙ without_same x es u (λ k m. h k (inr m))

module _ (t : Nodes) (f : IsFormed t) (x : NodeId) (n : Node) (there : get t x ≡ Some n) (gs : FieldsOf) (kind : n.kind ≡ Object gs) where
  abbrev pub node : FieldsOf → Node
  node hs = record n { kind = Object hs }

  -- the tree without the children of x at the names es, x with the fields hs
  abbrev pub now : FieldsOf → FieldsOf → Nodes
  now es hs = insert (without_children t x es) x (node hs)

  now_here : (es hs : FieldsOf) → get (now es hs) x ≡ Some (node hs)
  now_here es hs = get_here (without_children t x es) x (node hs)

  -- with the old fields it is the tree
  pub now_same : now [] gs ≡ t
  now_same = ap (λ k. insert t x (record n { kind = k })) (sym kind) ∙ put_same t x n there

  -- where no child stands

  none_at : (es hs : FieldsOf) (k : List ℕ) → ((y : NodeId) (m : Node) → y ≢ Root → get (without_children t x es) y ≡ Some m → m.parent ≡ x → m.key ≡ k → ⊥) → (o : Option NodeId) → child_at (now es hs) x k ≡ o → o ≡ None
  none_at es hs k none None e = refl
  none_at es hs k none (Some y) e =
      let q = child_at_some (now es hs) x k y e in
      absurd (elim (here_or_old (without_children t x es) x (node hs) y q.0 q.1) [
        | inl h ↦ parent_other t f x n (λ r. q.2 (h.0 ∙ r)) there (sym (ap (λ (v : Node). v.parent) h.1) ∙ q.3)
        | inr old ↦ none y q.0 q.2 old.1 q.3 q.4
      ])

  pub free_none : (es hs : FieldsOf) (k : List ℕ) → child_at t x k ≡ None → child_at (now es hs) x k ≡ None
  free_none es hs k h = none_at es hs k (λ y m made e p key. child_at_none t x k h y m made ((cut x t f es).part y m e) p key) _ refl

  cut_none : (es hs : FieldsOf) (k : List ℕ) (y : NodeId) → child_at t x k ≡ Some y → IsNamed x k es → child_at (now es hs) x k ≡ None
  cut_none es hs k y h named = none_at es hs k (λ z m made e p key.
      let b = child_at_some t x k y h in
      let c = cut x t f es in
      let is : z ≡ y = same z y (f.keys z y m b.0 made b.2 (c.part z m e) b.1 (p ∙ sym b.3) (key ∙ sym b.4)) in
      true_false (sym (below_self t y) ∙ ap (is_below t y) (sym is) ∙ c.spared z m e k y named h)) _ refl

  no_field : (k : List ℕ) (v : Value) → find (slice_cmp nat_cmp) k gs ≡ Some v → (o : Option NodeId) → child_at t x k ≡ o → o ≡ None
  no_field k v g None e = refl
  no_field k v g (Some y) e =
      let b = child_at_some t x k y e in
      let p = the_parent t f y b.0 b.2 b.1 in
      let is : p.0 ≡ n = some_inj p.0 n (sym p.1 ∙ ap (get t) b.3 ∙ there) in
      let plain : has_field b.0.key p.0.kind ≡ false = p.2.plain in
      absurd (true_false (sym (ap is_some g) ∙ sym (ap (has_field k) (ap (λ (v : Node). v.kind) is ∙ kind)) ∙ ap (λ j. has_field j p.0.kind) (sym b.4) ∙ plain))

  -- a field's name is no child's key
  pub field_none : (k : List ℕ) (v : Value) → find (slice_cmp nat_cmp) k gs ≡ Some v → child_at t x k ≡ None
  field_none k v g = no_field k v g _ refl

  -- fields back, and a name out

  pub updated : (es hs ds : FieldsOf) → ((k : List ℕ) → Named k ds → child_at (now es hs) x k ≡ None) → step (now es hs) (Update x ds) ≡ now es (with_fields ds hs)
  updated es hs ds none =
      let u = now es hs in
      step_acts u (Update x ds) (ap (λ o. not (holds_object o)) (now_here es hs))
      ∙ ap (λ (v : Nodes). changed v x (on_fields (with_fields ds))) (without_same x ds u none)
      ∙ at_node u x (on_fields (with_fields ds)) (node hs) (now_here es hs)
      ∙ put_twice (without_children t x es) x (node hs) (node (with_fields ds hs))

  key_out : (es hs : FieldsOf) (k : List ℕ) → child_at (now es hs) x k ≡ None → step (now es hs) (DeleteKey x k) ≡ now es (without_field k hs)
  key_out es hs k none =
      let u = now es hs in
      step_acts u (DeleteKey x k) (ap (λ o. not (holds_object o)) (now_here es hs))
      ∙ ap (λ o. changed (without u o) x (on_fields (without_field k))) none
      ∙ at_node u x (on_fields (without_field k)) (node hs) (now_here es hs)
      ∙ put_twice (without_children t x es) x (node hs) (node (without_field k hs))

  -- a child back
  module _ (k : List ℕ) (v : Value) (es hs : FieldsOf) (y : NodeId) (once : IsNamed x k es → ⊥) (at : child_at t x k ≡ Some y) (m : Node) (here : get t y ≡ Some m) (made : y ≢ Root) (parent : m.parent ≡ x) (key : m.key ≡ k) where
    abbrev all : FieldsOf
    all = (k, v) ∷ es

    abbrev less : FieldsOf
    less = without_field k hs

    more_cut : IsCut x t all (without_children t x all)
    more_cut = cut x t f all

    less_cut : IsCut x t es (without_children t x es)
    less_cut = cut x t f es

    above : is_below t y x ≡ false
    above = ap (is_below t y) (sym parent) ∙ parent_not_below t f y m made here

    y_not_x : y ≢ x
    y_not_x e = true_false (sym (below_self t y) ∙ ap (is_below t y) e ∙ above)

    below_not_x : (q : NodeId) → is_below t y q ≡ true → q ≢ x
    below_not_x q h e = true_false (sym h ∙ ap (is_below t y) e ∙ above)

    gone : (q : NodeId) → is_below t y q ≡ true → (o : Option Node) → get (without_children t x all) q ≡ o → o ≡ None
    gone q h None e = refl
    gone q h (Some w) e = absurd (true_false (sym h ∙ more_cut.spared q w e k y (inl refl) at))

    absent : (q : NodeId) → is_below t y q ≡ true → get (now all less) q ≡ None
    absent q h = get_other (without_children t x all) x (node less) q (below_not_x q h) ∙ gone q h _ refl

    absent_first : get (now all hs) y ≡ None
    absent_first = get_other (without_children t x all) x (node hs) y y_not_x ∙ gone y (below_self t y) _ refl

    deeper : m.depth ≡ n.depth + 1
    deeper =
        let p = the_parent t f y m made here in
        let is : p.0 ≡ n = some_inj p.0 n (sym p.1 ∙ ap (get t) parent ∙ there) in
        p.2.depth ∙ ap (λ (w : Node). w.depth + 1) is

    low : n.depth < 60
    low = let p = the_parent t f y m made here in omega (arith, deeper, p.2.deep)

    abbrev begun : Nodes
    begun = insert (now all less) y m

    first : step (now all hs) (Create y m.parent m.key None m.kind) ≡ begun
    first =
        ap (step (now all hs)) (λ i. Create y (parent i) (key i) None m.kind)
        ∙ created (now all hs) y x k m.kind (node hs) absent_first (now_here all hs) refl low (cut_none all hs k y at (inl refl)) (λ e. absurd (true_false (sym e)))
        ∙ ap (λ (u : Nodes). insert u y (record { parent = x; key = k; depth = n.depth + 1; kind = m.kind })) (put_twice (without_children t x all) x (node hs) (node less))
        ∙ ap (insert (now all less) y) (λ i. record { parent = sym parent i; key = sym key i; depth = sym deeper i; kind = m.kind })

    begun_follows : Follows t f begun (y ∷ [])
    begun_follows = record {
      here = λ q h. elim h [
        | inl e ↦ ap (get begun) (sym e) ∙ get_here (now all less) y m ∙ sym here ∙ ap (get t) e
        | inr g ↦ absurd g
      ];
      part = λ q w e. elim (here_or_old (now all less) y m q w e) [
        | inl h ↦ (m, ap (get t) h.0 ∙ here, ap (λ (z : Node). z.parent) h.1, ap (λ (z : Node). z.key) h.1)
        | inr old ↦ elim (here_or_old (without_children t x all) x (node less) q w old.1) [
          | inl h ↦ (n, ap (get t) h.0 ∙ there, ap (λ (z : Node). z.parent) h.1, ap (λ (z : Node). z.key) h.1)
          | inr older ↦ (w, more_cut.part q w older.1, refl, refl)
        ]
      ];
    }

    abbrev rest : List NodeId
    rest = under t f y m made here

    not_first : (q : NodeId) → Has q rest → q ≢ y
    not_first q h e = walk_fresh t q rest (y ∷ []) (tour_under t f y) h (inl (sym e))

    inside : (q : NodeId) → Has q rest → is_below t y q ≡ true
    inside q h = under_is_below t f y m made here q h

    built : Rebuilt t f begun rest
    built = restore t f y m made here begun begun_follows (λ q h. get_other (now all less) y m q (not_first q h) ∙ absent q (inside q h))

    -- what lies below y lies below no other child
    spared : (q : NodeId) (w : Node) → get t q ≡ Some w → is_below t y q ≡ true → IsSpared x t es q
    spared q w e h j z named there_j = by_no _ (λ g.
        let c = child_at_some t x j z there_j in
        let is : y ≡ z = siblings_apart t f y z m c.0 made c.2 here c.1 (parent ∙ sym c.3) q w e h g in
        let node_is : m ≡ c.0 = some_inj m c.0 (sym here ∙ ap (get t) is ∙ c.1) in
        let key_is : j ≡ k = sym c.4 ∙ sym (ap (λ (z : Node). z.key) node_is) ∙ key in
        once (subst_named j k key_is named))
      where
        subst_named : (j k : List ℕ) → j ≡ k → IsNamed x j es → IsNamed x k es
        subst_named j k e m = subst (λ i. IsNamed x i es) e m

    beside : (q : NodeId) → is_below t y q ≡ false → (o p : Option Node) → get (without_children t x all) q ≡ o → get (without_children t x es) q ≡ p → o ≡ p
    beside q h None None a b = refl
    beside q h None (Some w) a b = absurd (some_none w (sym (more_cut.stays q w (less_cut.part q w b) (λ j z named there_j. elim named [
      | inl is ↦ ap (λ i. is_below t i q) (some_inj z y (sym there_j ∙ ap (child_at t x) (sym is) ∙ at)) ∙ h
      | inr g ↦ less_cut.spared q w b j z g there_j
    ])) ∙ a))
    beside q h (Some w) p a b = sym (less_cut.stays q w (more_cut.part q w a) (λ j z named there_j. more_cut.spared q w a j z (inr named) there_j)) ∙ b

    nothing : (es : FieldsOf) (q : NodeId) → get t q ≡ None → (o : Option Node) → get (without_children t x es) q ≡ o → o ≡ None
    nothing es q e None g = refl
    nothing es q e (Some w) g = absurd (some_none w (sym ((cut x t f es).part q w g) ∙ e))

    answer : (q : NodeId) → q ≢ y → q ≢ x → (o : Option Node) → get t q ≡ o → (b : Bool) → is_below t y q ≡ b → get built.tree q ≡ get (now es less) q
    answer q dy dx None e b h =
        built.old q (λ g. let w = walk_there t q rest (y ∷ []) (tour_under t f y) g in some_none w.0 (sym w.1 ∙ e))
        ∙ get_other (now all less) y m q dy ∙ get_other (without_children t x all) x (node less) q dx
        ∙ nothing all q e _ refl ∙ sym (nothing es q e _ refl) ∙ sym (get_other (without_children t x es) x (node less) q dx)
    answer q dy dx (Some w) e true h =
        built.new q (has_under t f y m made here q w dy e h) ∙ e
        ∙ sym (less_cut.stays q w e (spared q w e h)) ∙ sym (get_other (without_children t x es) x (node less) q dx)
    answer q dy dx (Some w) e false h =
        built.old q (λ g. true_false (sym (inside q g) ∙ h))
        ∙ get_other (now all less) y m q dy ∙ get_other (without_children t x all) x (node less) q dx
        ∙ beside q h _ _ refl refl ∙ sym (get_other (without_children t x es) x (node less) q dx)

    built_is : built.tree ≡ now es less
    built_is = same_map node_cmp-total node_cmp-exact built.tree (now es less) (λ q. elim (one_or_two q y) [
      | inl e ↦
          built.old q (λ g. not_first q g e) ∙ ap (get begun) e ∙ get_here (now all less) y m
          ∙ sym (less_cut.stays y m here (spared y m here (below_self t y))) ∙ sym (get_other (without_children t x es) x (node less) y y_not_x) ∙ ap (get (now es less)) (sym e)
      | inr dy ↦ elim (one_or_two q x) [
        | inl e ↦
            built.old q (λ g. below_not_x q (inside q g) e) ∙ get_other (now all less) y m q dy
            ∙ ap (get (now all less)) e ∙ now_here all less ∙ sym (now_here es less) ∙ ap (get (now es less)) (sym e)
        | inr dx ↦ answer q dy dx _ refl _ refl
      ]
    ])

    child_back : fold (now all hs) (node_restored t y) ≡ now es less
    child_back =
        ap (fold (now all hs)) (restored_is t f y m made here)
        ∙ ap (λ (u : Nodes). fold u (creations t rest)) first ∙ built.is ∙ built_is

  -- one name after the other

  gone_or_back : (k : List ℕ) (v : Value) (es hs : FieldsOf) → (IsNamed x k es → ⊥) → (c : Option NodeId) → child_at t x k ≡ c
      → fold (now ((k, v) ∷ es) hs) (gone_or x k c (child_restored t c)) ≡ now es (without_field k hs)
  gone_or_back k v es hs once None e =
      key_out ((k, v) ∷ es) hs k (free_none ((k, v) ∷ es) hs k e)
      ∙ ap (λ o. insert (without_children (without t o) x es) x (node (without_field k hs))) e
  gone_or_back k v es hs once (Some y) e =
      let b = child_at_some t x k y e in
      child_back k v es hs y once e b.0 b.1 b.2 b.3 b.4

  name_back : (k : List ℕ) (v : Value) (es hs : FieldsOf) → (IsNamed x k es → ⊥) → (o : Option Value) → find (slice_cmp nat_cmp) k gs ≡ o
      → fold (now ((k, v) ∷ es) hs) (other_name t x k o) ≡ now es (cleaned_by o k hs)
  name_back k v es hs once None g = gone_or_back k v es hs once (child_at t x k) refl
  name_back k v es hs once (Some w) g = ap (λ o. insert (without_children (without t o) x es) x (node hs)) (field_none k w g)

  field_is : (k : List ℕ) → field_of_node k (get t x) ≡ find (slice_cmp nat_cmp) k gs
  field_is k = ap (field_of_node k) there ∙ ap (field_in k) kind

  names_back : (es : FieldsOf) → AreOrdered es → (hs : FieldsOf) → fold (now es hs) (other_names t x es) ≡ now [] (cleaned gs es hs)
  names_back [] o hs = refl
  names_back (e ∷ es) o hs =
      ap (λ w. fold (now (e ∷ es) hs) (other_name t x e.0 w ++ other_names t x es)) (field_is e.0)
      ∙ fold-append (now (e ∷ es) hs) (other_name t x e.0 (find (slice_cmp nat_cmp) e.0 gs)) (other_names t x es)
      ∙ ap (λ (u : Nodes). fold u (other_names t x es)) (name_back e.0 e.1 es hs (named_once x e es o) (find (slice_cmp nat_cmp) e.0 gs) refl)
      ∙ names_back es (ordered_rest e es o) (cleaned_by (find (slice_cmp nat_cmp) e.0 gs) e.0 hs)

  olds_back : (es hs ds : FieldsOf) → ((k : List ℕ) → Named k ds → child_at (now es hs) x k ≡ None) → fold (now es hs) (old_update x ds) ≡ now es (with_fields ds hs)
  olds_back es hs [] none = refl
  olds_back es hs (d ∷ ds) none = updated es hs (d ∷ ds) none

  stepped : (fs : FieldsOf) → step t (Update x fs) ≡ now fs (with_fields fs gs)
  stepped fs =
      step_acts t (Update x fs) (ap (λ o. not (holds_object o)) there ∙ ap (λ k. not (holds_object (Some (record n { kind = k })))) kind)
      ∙ at_node (without_children t x fs) x (on_fields (with_fields fs)) n ((cut_children x t f fs).0.here ∙ there)
      ∙ ap (λ k. insert (without_children t x fs) x (record n { kind = fields_kind (with_fields fs) k })) kind

  pub update_back : (fs : FieldsOf) → AreOrdered gs → AreOrdered fs → fold (step t (Update x fs)) (reversed t (Update x fs)) ≡ t
  update_back fs old new =
      let hs = with_fields fs gs in
      ap (λ (u : Nodes). fold u (reversed t (Update x fs))) (stepped fs)
      ∙ ap (λ ds. fold (now fs hs) (old_update x ds ++ other_names t x fs)) (ap (λ o. old_fields o fs) there ∙ olds_are n gs fs kind)
      ∙ fold-append (now fs hs) (old_update x (olds gs fs)) (other_names t x fs)
      ∙ ap (λ (u : Nodes). fold u (other_names t x fs)) (olds_back fs hs (olds gs fs) (λ k named. let v = olds_named gs fs k named in free_none fs hs k (field_none k v.0 v.1)))
      ∙ names_back fs new (with_fields (olds gs fs) hs)
      ∙ ap (now []) (restored_fields gs fs old) ∙ now_same
