-- A copy of a tree, node by node.
use Rattle.std.proofs.Common.{◌≡◌, ◌≢◌, ◌⊎◌, inl, inr, ◌≤◌, ◌<◌, ◌+◌, ◌-◌, ℕ, zero, suc, Bool, true, false, not, cond, List, [], ◌∷◌, ◌++◌, Option, Some, None, option_map, is_some, T, Ordering, Less, Equal, Greater, refl, sym, ap, ◌∙◌, subst, arith}
use Rattle.std.specs.Ordering.{nat_cmp, is_lt}
use Rattle.std.specs.Cmp.Lexicographic.{slice_cmp}
use Rattle.std.proofs.lemmas.Cmp.{nat_list_cmp_total}
use Rattle.std.specs.FinMap.{get, insert, len, len-insert, contains_key, entries, same_map, is_sorted, get-from_sorted}
use Rattle.std.specs.FinMap.Entries.{below_all}
use Rattle.room_ids.specs.Order.{node_cmp, is_same}
use Rattle.room_ids.proofs.IdOrder.{node_cmp-total, node_cmp-exact}
use Rattle.room_nodes.specs.Shape.{Nodes, IsFormed, IsFree, children, next_of, fits_under, empty_tree, bare_root, is_object}
use Rattle.room_json.specs.Value.{Value}
use Rattle.room_ids.specs.Position.{is_some_text}
use Rattle.room_nodes.specs.Steps.{on_fields, holds_object}
use Rattle.room_nodes.specs.Primitives.{CanHold, with_fields_at, fields_in, kind_fields}
use Rattle.room_nodes.proofs.StepForm.{at_node}
use Rattle.room_nodes.proofs.Gets.{some_inj, some_none, same, get_here, get_other, one_or_two, true_false, same_self, differ}
use Rattle.room_nodes.proofs.Fitting.{the_parent, the_root}
use Rattle.room_nodes.proofs.Undoing.{parent_other}
use Rattle.room_nodes.proofs.Listing.{Has, has_above, parts}
use Rattle.room_nodes.proofs.Children.{text_exact, next_is_child}
use Rattle.room_nodes.proofs.Places.{next_none, next_is, children_sorted, not_below_itself}
use Rattle.room_tree.specs.Nearest.{is_after}
use Rattle.room_tree.specs.Copying.{Among, Once, Nothing, ToCome, IsCopying, IsInHand}
use Rattle.room_tree.proofs.Skipping.{listed}
use Rattle.room_tree.proofs.Sizes.{part_less}
use Rattle.room_ids.specs.declared.ids.NodeId.{NodeId}
use Rattle.room_ids.specs.declared.ids.NodeId.TheVariants.{Root}
use Rattle.room_nodes.specs.declared.nodes.Node.{Node}
use Rattle.room_nodes.specs.declared.nodes.Kind.{Kind}
use Rattle.room_nodes.specs.declared.nodes.Kind.TheVariants.{Object, List as Listed, Map as Mapped, Register}

-- lists of ids

pub among_more : (x y : NodeId) (ys : List NodeId) → Among x ys → Among x (ys ++ y ∷ [])
among_more x y [] h = absurd h
among_more x y (z ∷ ys) h = elim h [ inl e ↦ inl e | inr m ↦ inr (among_more x y ys m) ]

pub among_last : (y : NodeId) (ys : List NodeId) → Among y (ys ++ y ∷ [])
among_last y [] = inl refl
among_last y (z ∷ ys) = inr (among_last y ys)

pub among_split : (x y : NodeId) (ys : List NodeId) → Among x (ys ++ y ∷ []) → Among x ys ⊎ (y ≡ x)
among_split x y [] h = elim h [ inl e ↦ inr e | inr m ↦ absurd m ]
among_split x y (z ∷ ys) h = elim h [
  | inl e ↦ inl (inl e)
  | inr m ↦ elim (among_split x y ys m) [ inl k ↦ inl (inr k) | inr e ↦ inr e ]
]

pub once_more : (y : NodeId) (ys : List NodeId) → Once ys → (Among y ys → ⊥) → Once (ys ++ y ∷ [])
once_more y [] o n = (λ h. h, tt)
once_more y (z ∷ ys) o n = (λ h. elim (among_split z y ys h) [ inl m ↦ o.0 m | inr e ↦ n (inl (sym e)) ], once_more y ys o.1 (λ m. n (inr m)))

pub once_last : (y : NodeId) (ys : List NodeId) → Once (ys ++ y ∷ []) → Once ys × (Among y ys → ⊥)
once_last y [] o = (tt, λ h. h)
once_last y (z ∷ ys) o =
    let r = once_last y ys o.1 in
    ((λ m. o.0 (among_more z y ys m), r.0), λ h. elim h [ inl e ↦ o.0 (subst (λ w. Among w (ys ++ y ∷ [])) (sym e) (among_last y ys)) | inr m ↦ r.1 m ])

-- the next child

lt_less : (o : Ordering) → is_lt o ≡ true → o ≡ Less
lt_less Less e = refl
lt_less Equal e = cc
lt_less Greater e = cc

abbrev pub IsLeast : Option (List ℕ) → List ℕ × NodeId → List (List ℕ × NodeId) → Type 0
IsLeast k e es = (is_after k e.0 ≡ true) × ((g : List ℕ × NodeId) → Has g es → is_after k g.0 ≡ true → (e ≡ g) ⊎ (slice_cmp nat_cmp e.0 g.0 ≡ Less))

least : (k : Option (List ℕ)) (e : List ℕ × NodeId) (es : List (List ℕ × NodeId)) → T (is_sorted (slice_cmp nat_cmp) es) → next_of k es ≡ Some e → IsLeast k e es
least (Some k) e es h is = let n = next_is k e es h is in (ap is_lt n.0, λ g m a. n.1 g m (lt_less _ a))
least None e [] h is = absurd (some_none e (sym is))
least None e (f ∷ es) h is =
    let q = some_inj f e is in
    let p = parts (below_all (slice_cmp nat_cmp) f.0 es) _ h in (
      refl,
      λ g m a. elim m [
        | inl s ↦ inl (sym q ∙ s)
        | inr s ↦ inr (ap (λ (c : List ℕ × NodeId). slice_cmp nat_cmp c.0 g.0) (sym q) ∙ has_above (slice_cmp nat_cmp) text_exact nat_list_cmp_total f.0 g es p.0 s)
      ],
    )

none_after : (k : Option (List ℕ)) (g : List ℕ × NodeId) (es : List (List ℕ × NodeId)) → next_of k es ≡ None → Has g es → is_after k g.0 ≡ true → ⊥
none_after (Some k) g es e m a = true_false (sym a ∙ next_none k g es e m)
none_after None g [] e m a = absurd m
none_after None g (f ∷ es) e m a = some_none f e

after_later : (k : Option (List ℕ)) (x y : List ℕ) → is_after k x ≡ true → slice_cmp nat_cmp x y ≡ Less → is_after k y ≡ true
after_later None x y a l = refl
after_later (Some k) x y a l = ap is_lt (nat_list_cmp_total.trans k x y (lt_less _ a) l)

module _ (t : Nodes) (f : IsFormed t) where
  module _ (u : Nodes) (g : IsFormed u) where
    old_node : (ys : List NodeId) (Later : NodeId → Node → Type 0) → IsCopying t u ys Later → (q : NodeId) (n : Node) → get u q ≡ Some n → get t q ≡ Some n
    old_node ys later w q n e = elim (w.part q) [ inl h ↦ sym h ∙ e | inr h ↦ absurd (some_none n (sym e ∙ h)) ]

    same_here : (ys : List NodeId) (Later : NodeId → Node → Type 0) → IsCopying t u ys Later → (q : NodeId) → is_some (get u q) ≡ true → get u q ≡ get t q
    same_here ys later w q s = elim (w.part q) [ inl h ↦ h | inr h ↦ absurd (true_false (sym s ∙ ap is_some h)) ]

    -- the last is taken in hand
    pub in_hand : (x : NodeId) (ys zs : List NodeId) → ys ≡ zs ++ x ∷ [] → IsCopying t u ys Nothing → IsInHand t u zs x None
    in_hand x ys zs e v =
        let w = subst (λ l. IsCopying t u l Nothing) e v in
        let o = once_last x zs w.once in
        record {
          copying = record {
            part = w.part;
            root = w.root;
            inside = λ y m. w.inside y (among_more y x zs m);
            once = o.0;
            closed = λ y n own h s. elim (w.closed y n own h s) [
              | inl i ↦ inl i
              | inr i ↦ elim i [
                | inl m ↦ elim (among_split n.parent x zs m) [ inl k ↦ inr (inl k) | inr k ↦ inr (inr (sym k, refl)) ]
                | inr m ↦ absurd m
              ]
            ];
            fresh = λ y n own h m. w.fresh y n own h (inl (elim m [ inl k ↦ among_more n.parent x zs k | inr k ↦ subst (λ z. Among z (zs ++ x ∷ [])) (sym k.0) (among_last x zs) ]));
          };
          there = w.inside x (among_last x zs);
          apart = o.1;
        }

    -- and none of its children is still to come
    pub from_hand : (x : NodeId) (k : Option (List ℕ)) (ys : List NodeId) → next_of k (children t x) ≡ None → IsInHand t u ys x k → IsCopying t u ys Nothing
    from_hand x k ys none i =
        let w = i.copying in
        let gone = λ (y : NodeId) (n : Node) (own : y ≢ Root) (h : get t y ≡ Some n) (m : ToCome x k y n).
        let l = listed t x y n own h m.0 in none_after k (n.key, l.0) (children t x) none l.1 m.1 in
        record {
          part = w.part;
          root = w.root;
          inside = w.inside;
          once = w.once;
          closed = λ y n own h s. elim (w.closed y n own h s) [
            | inl j ↦ inl j
            | inr j ↦ elim j [ inl m ↦ inr (inl m) | inr m ↦ absurd (gone y n own h m) ]
          ];
          fresh = λ y n own h m. elim m [ inl k ↦ w.fresh y n own h (inl k) | inr k ↦ absurd k ];
        }

    -- the next child is put
    module _ (x : NodeId) (k : Option (List ℕ)) (ys : List NodeId) (i : IsInHand t u ys x k) (e : List ℕ × NodeId) (is : next_of k (children t x) ≡ Some e) where
      pub child : (n : Node) × (get t e.1 ≡ Some n) × (e.1 ≢ Root) × (n.parent ≡ x) × (n.key ≡ e.0)
      child = next_is_child t x k e is

      least_one : IsLeast k e (children t x)
      least_one = least k e (children t x) (children_sorted x (entries t)) is

      to_come : ToCome x k e.1 child.0
      to_come = (child.3, ap (is_after k) child.4 ∙ least_one.0)

      not_yet : get u e.1 ≡ None
      not_yet = i.copying.fresh e.1 child.0 child.2 child.1 (inr to_come)

      pub free_child : IsFree u e.1 child.0
      free_child = record {
        fresh = ap is_some not_yet;
        parent = ap (λ o. fits_under o child.0) (ap (get u) child.3 ∙ same_here ys (ToCome x k) i.copying x i.there ∙ ap (get t) (sym child.3)) ∙ f.parents e.1 child.0 child.2 child.1;
        key = λ y n own h parent key.
            let old = old_node ys (ToCome x k) i.copying y n h in
            some_none n (sym h ∙ ap (get u) (same y e.1 (f.keys y e.1 n child.0 own child.2 old child.1 parent key)) ∙ not_yet);
      }

      v : Nodes
      v = insert u e.1 child.0

      there_still : (q : NodeId) → is_some (get u q) ≡ true → is_some (get v q) ≡ true
      unfolding v
      there_still q s = elim (one_or_two q e.1) [
        | inl h ↦ ap is_some (ap (get (insert u e.1 child.0)) h ∙ get_here u e.1 child.0)
        | inr h ↦ ap is_some (get_other u e.1 child.0 q h) ∙ s
      ]

      absent_still : (q : NodeId) → q ≢ e.1 → get u q ≡ None → get v q ≡ None
      unfolding v
      absent_still q other h = get_other u e.1 child.0 q other ∙ h

      -- a child of x with another key
      other_key : (y : NodeId) (n : Node) → get t y ≡ Some n → is_after (Some child.0.key) n.key ≡ true → y ≢ e.1
      other_key y n h a s =
          let m = some_inj n child.0 (sym h ∙ ap (get t) s ∙ child.1) in
          not_below_itself child.0.key (ap (slice_cmp nat_cmp child.0.key) (ap (λ (w : Node). w.key) (sym m)) ∙ lt_less _ a)

      closed_more : (y : NodeId) (n : Node) → y ≢ Root → get t y ≡ Some n → is_some (get v n.parent) ≡ true → (is_some (get v y) ≡ true) ⊎ (Among n.parent (ys ++ e.1 ∷ []) ⊎ ToCome x (Some child.0.key) y n)
      unfolding v
      closed_more y n own h s = elim (one_or_two n.parent e.1) [
        | inl p ↦ inr (inl (subst (λ z. Among z (ys ++ e.1 ∷ [])) (sym p) (among_last e.1 ys)))
        | inr p ↦ elim (i.copying.closed y n own h (ap is_some (sym (get_other u e.1 child.0 n.parent p)) ∙ s)) [
          | inl j ↦ inl (there_still y j)
          | inr j ↦ elim j [
            | inl m ↦ inr (inl (among_more n.parent e.1 ys m))
            | inr m ↦
                let l = listed t x y n own h m.0 in
                elim (least_one.1 (n.key, l.0) l.1 m.1) [
                  | inl q ↦
                      let key : n.key ≡ child.0.key = sym (child.4 ∙ ap (λ (w : List ℕ × NodeId). w.0) q) in
                      inl (ap is_some (ap (get (insert u e.1 child.0)) (same y e.1 (f.keys y e.1 n child.0 own child.2 h child.1 (m.0 ∙ sym child.3) key)) ∙ get_here u e.1 child.0))
                  | inr q ↦ inr (inr (m.0, ap is_lt (ap (λ z. slice_cmp nat_cmp z n.key) child.4 ∙ q)))
                ]
          ]
        ]
      ]

      fresh_more : (y : NodeId) (n : Node) → y ≢ Root → get t y ≡ Some n → Among n.parent (ys ++ e.1 ∷ []) ⊎ ToCome x (Some child.0.key) y n → get v y ≡ None
      fresh_more y n own h m = elim m [
        | inl a ↦ elim (among_split n.parent e.1 ys a) [
          | inl b ↦ absent_still y (λ s. i.apart (subst (λ z. Among z ys) (ap (λ (w : Node). w.parent) (some_inj n child.0 (sym h ∙ ap (get t) s ∙ child.1)) ∙ child.3) b)) (i.copying.fresh y n own h (inl b))
          | inr b ↦ absent_still y (λ s. parent_other t f y n own h (sym b ∙ sym s)) (elim (get u y) as (λ o. get u y ≡ o → get u y ≡ None) [
            | None ↦ λ q. q
            | Some w ↦ λ q.
                let old = some_inj w n (sym (old_node ys (ToCome x k) i.copying y w q) ∙ h) in
                let p = the_parent u g y w own q in
                absurd (some_none p.0 (sym p.1 ∙ ap (get u) (ap (λ (z : Node). z.parent) old ∙ sym b) ∙ not_yet))
          ] refl)
        ]
        | inr a ↦ absent_still y (other_key y n h a.1) (i.copying.fresh y n own h (inr (a.0, after_later k child.0.key n.key to_come.1 (lt_less _ a.1))))
      ]

      pub more_in_hand : IsInHand t (insert u e.1 child.0) (ys ++ e.1 ∷ []) x (Some child.0.key)
      unfolding v
      more_in_hand = record {
        copying = record {
          part = λ q. elim (one_or_two q e.1) [
            | inl h ↦ inl (ap (get (insert u e.1 child.0)) h ∙ get_here u e.1 child.0 ∙ sym child.1 ∙ ap (get t) (sym h))
            | inr h ↦ elim (i.copying.part q) [ inl a ↦ inl (get_other u e.1 child.0 q h ∙ a) | inr a ↦ inr (get_other u e.1 child.0 q h ∙ a) ]
          ];
          root = there_still Root i.copying.root;
          inside = λ y m. elim (among_split y e.1 ys m) [
            | inl a ↦ there_still y (i.copying.inside y a)
            | inr a ↦ ap is_some (ap (get (insert u e.1 child.0)) (sym a) ∙ get_here u e.1 child.0)
          ];
          once = once_more e.1 ys i.copying.once (λ m. true_false (sym (i.copying.inside e.1 m) ∙ ap is_some not_yet));
          closed = closed_more;
          fresh = fresh_more;
        };
        there = there_still x i.there;
        apart = λ m. elim (among_split x e.1 ys m) [
          | inl a ↦ i.apart a
          | inr a ↦ true_false (sym i.there ∙ ap (λ q. is_some (get u q)) (sym a) ∙ ap is_some not_yet)
        ];
      }

      pub less_before : len u < len t
      less_before = part_less t u e.1 child.0 i.copying.part child.1 not_yet

      more_len : (b : Bool) (m : ℕ) → b ≡ false → m ≡ cond b (len u) (len u + 1) → m ≡ len u + 1
      more_len true m h q = cc
      more_len false m h q = q

      pub len_more : len (insert u e.1 child.0) ≡ len u + 1
      len_more = more_len (contains_key u e.1) _ (ap is_some not_yet) (len-insert node_cmp-total u e.1 child.0)

    -- nothing is left to do
    all_there : (d : ℕ) → IsCopying t u [] Nothing → (q : NodeId) (n : Node) → get t q ≡ Some n → n.depth ≡ d → is_some (get u q) ≡ true
    all_there zero w q n e h = elim (one_or_two q Root) [
      | inl r ↦ ap (λ z. is_some (get u z)) r ∙ w.root
      | inr own ↦ let p = the_parent t f q n own e in let a = p.2.depth in absurd (omega (arith, a, h))
    ]
    all_there (suc d) w q n e h = elim (one_or_two q Root) [
      | inl r ↦ ap (λ z. is_some (get u z)) r ∙ w.root
      | inr own ↦
          let p = the_parent t f q n own e in
          let a = p.2.depth in
          let up = all_there d w n.parent p.0 p.1 (omega (arith, a, h)) in
          elim (w.closed q n own e up) [ inl s ↦ s | inr s ↦ elim s [ inl m ↦ absurd m | inr m ↦ absurd m ] ]
    ]

    absent_there : (q : NodeId) → get t q ≡ None → IsCopying t u [] Nothing → get u q ≡ None
    absent_there q e w = elim (w.part q) [ inl h ↦ h ∙ e | inr h ↦ h ]

    pub copied : IsCopying t u [] Nothing → u ≡ t
    copied w = same_map node_cmp-total node_cmp-exact u t (λ q. elim (get t q) as (λ o. get t q ≡ o → get u q ≡ get t q) [
      | None ↦ λ e. absent_there q e w ∙ sym e
      | Some n ↦ λ e. same_here [] Nothing w q (all_there n.depth w q n e refl)
    ] refl)

-- the root alone, with its fields
module _ (t u : Nodes) where
  module _ (r : Node) (is : (q : NodeId) → get u q ≡ cond (is_same q Root) (Some r) None) where
    root_is : (q : NodeId) → q ≡ Root → get u q ≡ Some r
    root_is q h = is q ∙ ap (λ b. cond b (Some r) None) (ap (λ z. is_same z Root) h ∙ same_self Root)

    rest_is : (q : NodeId) → q ≢ Root → get u q ≡ None
    rest_is q h = is q ∙ ap (λ b. cond b (Some r) None) (differ q Root h)

  pub begun : (r : Node) → get t Root ≡ Some r → ((q : NodeId) → get u q ≡ cond (is_same q Root) (Some r) None) → IsCopying t u (Root ∷ []) Nothing
  begun r e is = record {
    part = λ q. elim (one_or_two q Root) [
      | inl h ↦ inl (root_is r is q h ∙ sym e ∙ ap (get t) (sym h))
      | inr h ↦ inr (rest_is r is q h)
    ];
    root = ap is_some (root_is r is Root refl);
    inside = λ x m. elim m [ inl h ↦ ap (λ z. is_some (get u z)) (sym h) ∙ ap is_some (root_is r is Root refl) | inr h ↦ absurd h ];
    once = (λ h. h, tt);
    closed = λ y n own h s. elim (one_or_two n.parent Root) [
      | inl p ↦ inr (inl (inl (sym p)))
      | inr p ↦ absurd (true_false (sym s ∙ ap is_some (rest_is r is n.parent p)))
    ];
    fresh = λ y n own h m. rest_is r is y own;
  }

-- the next child, as the call answers it

found_child : (c : NodeId) (o : Option (List ℕ × NodeId)) → Some c ≡ option_map (λ e. e.1) o → (e : List ℕ × NodeId) × (o ≡ Some e) × (e.1 ≡ c)
found_child c None h = cc
found_child c (Some e) h = (e, refl, sym (some_inj c e.1 h))

pub no_child : (o : Option (List ℕ × NodeId)) → None ≡ option_map (λ e. e.1) o → o ≡ None
no_child None h = refl
no_child (Some e) h = cc

module _ (t u : Nodes) (f : IsFormed t) (g : IsFormed u) (x : NodeId) (k : Option (List ℕ)) (ys : List NodeId) (i : IsInHand t u ys x k) (c : NodeId) (h : Some c ≡ option_map (λ e. e.1) (next_of k (children t x))) where
  entry : (e : List ℕ × NodeId) × (next_of k (children t x) ≡ Some e) × (e.1 ≡ c)
  entry = found_child c _ h

  pub next_there : is_some (get t c) ≡ true
  next_there = ap (λ z. is_some (get t z)) (sym entry.2) ∙ ap is_some (child t f u g x k ys i entry.0 entry.1).1

  pub next_less : len u < len t
  next_less = less_before t f u g x k ys i entry.0 entry.1

  module _ (n : Node) (e : Some n ≡ get t c) where
    node_same : (child t f u g x k ys i entry.0 entry.1).0 ≡ n
    node_same = some_inj _ n (sym (child t f u g x k ys i entry.0 entry.1).1 ∙ ap (get t) entry.2 ∙ sym e)

    pub next_free : IsFree u c n
    next_free = subst (IsFree u c) node_same (subst (λ z. IsFree u z (child t f u g x k ys i entry.0 entry.1).0) entry.2 (free_child t f u g x k ys i entry.0 entry.1))

    pub next_len : len (insert u c n) ≡ len u + 1
    next_len = subst (λ (m : Node). len (insert u c m) ≡ len u + 1) node_same (subst (λ z. len (insert u z (child t f u g x k ys i entry.0 entry.1).0) ≡ len u + 1) entry.2 (len_more t f u g x k ys i entry.0 entry.1))

    pub next_hand : (v : Nodes) (zs : List NodeId) → v ≡ insert u c n → zs ≡ ys ++ c ∷ [] → IsInHand t v zs x (Some n.key)
    next_hand v zs a b =
        subst (λ (w : Nodes). IsInHand t w zs x (Some n.key)) (sym a) (subst (λ l. IsInHand t (insert u c n) l x (Some n.key)) (sym b)
        (subst (λ (m : Node). IsInHand t (insert u c m) (ys ++ c ∷ []) x (Some m.key)) node_same
        (subst (λ z. IsInHand t (insert u z (child t f u g x k ys i entry.0 entry.1).0) (ys ++ z ∷ []) x (Some (child t f u g x k ys i entry.0 entry.1).0.key)) entry.2 (more_in_hand t f u g x k ys i entry.0 entry.1))))

-- the root of the copy

root_read : (q : NodeId) → get empty_tree q ≡ cond (is_same q Root) (Some bare_root) None
root_read q = get-from_sorted node_cmp ((Root, bare_root) ∷ []) q tt

root_node : get empty_tree Root ≡ Some bare_root
root_node = root_read Root ∙ ap (λ b. cond b (Some bare_root) None) (same_self Root)

pub root_holds : (u : Nodes) (fs : List (List ℕ × Value)) → u ≡ empty_tree → CanHold u Root fs
root_holds u fs e = subst (λ (v : Nodes). CanHold v Root fs) (sym e) (record {
  object = ap holds_object root_node;
  free = λ y n own h p. absurd (some_none n (sym h ∙ root_read y ∙ ap (λ b. cond b (Some bare_root) None) (differ y Root own)));
})

no_text : (k : List ℕ) → not (is_some_text k) ≡ true → k ≡ []
no_text [] e = refl
no_text (c ∷ cs) e = cc

root_kind : (k : Kind) → is_object k ≡ true → Object (kind_fields k) ≡ k
root_kind (Object fs) e = refl
root_kind Listed e = cc
root_kind Mapped e = cc
root_kind (Register v) e = cc

pub root_copied : (t u : Nodes) → IsFormed t → u ≡ with_fields_at empty_tree Root (fields_in (get t Root)) → (ys : List NodeId) → ys ≡ Root ∷ [] → IsCopying t u ys Nothing
root_copied t u f is ys all =
    let r = the_root t f in
    let fs = kind_fields r.0.kind in
    let m : Node = record bare_root { kind = Object fs } in
    let same : m ≡ r.0 = λ i. record { parent = sym r.2.parent i; key = sym (no_text r.0.key r.2.key) i; depth = sym r.2.depth i; kind = root_kind r.0.kind r.2.kind i } in
    let made : u ≡ insert empty_tree Root m = is ∙ ap (λ o. with_fields_at empty_tree Root (fields_in o)) r.1 ∙ at_node empty_tree Root (on_fields (λ _. fs)) bare_root root_node in
    subst (λ l. IsCopying t u l Nothing) (sym all) (begun t u r.0 r.1 (λ q. elim (one_or_two q Root) [
      | inl h ↦ ap (λ (v : Nodes). get v q) made ∙ ap (get (insert empty_tree Root m)) h ∙ get_here empty_tree Root m ∙ ap Some same ∙ sym (ap (λ b. cond b (Some r.0) None) (ap (λ z. is_same z Root) h ∙ same_self Root))
      | inr h ↦ ap (λ (v : Nodes). get v q) made ∙ get_other empty_tree Root m q h ∙ root_read q ∙ ap (λ b. cond b (Some bare_root) None) (differ q Root h) ∙ sym (ap (λ b. cond b (Some r.0) None) (differ q Root h))
    ]))

pub shorter_copy : (n m d k l p : ℕ) → n ≤ p → m ≤ p → m + k ≡ n + d → l ≡ k + 1 → (p - m) + d < (p - n) + l
shorter_copy n m d k l p a b c e = omega arith
