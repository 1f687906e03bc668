-- What was taken out is put in again by the creates of its nodes, each behind its parent.
use Rattle.std.proofs.Common.{◌≡◌, ◌≢◌, inl, inr, ◌+◌, ◌<◌, ℕ, Bool, true, false, cond, not, ◌&&◌, ◌||◌, nat_le, nat_lt, List, [], ◌∷◌, ◌++◌, length, flat_map, Option, Some, None, is_some, refl, sym, ap, ◌∙◌, subst, arith}
use Rattle.std.proofs.lemmas.Bool.Decides.{nat_tests}
use Rattle.std.specs.FinMap.{get, insert, same_map}
use Rattle.room_ids.proofs.IdOrder.{node_cmp-total, node_cmp-exact}
use Rattle.room_ids.specs.Position.{is_pos, is_some_text}
use Rattle.room_ids.specs.declared.ids.NodeId.{NodeId}
use Rattle.room_ids.specs.declared.ids.NodeId.TheVariants.{Root}
use Rattle.room_nodes.specs.Shape.{Nodes, IsFormed, is_list, is_register, has_field, child_at, is_below, removed, children}
use Rattle.room_nodes.specs.Steps.{step, fold, is_void, effect, settled_body, settled_key, next_key, is_other, is_placed, has_room, holds_list, without, changed, cleared, on_fields, fields_kind, without_field, depth_in}
use Rattle.room_ids.specs.Position.{between}
use Rattle.room_nodes.specs.declared.nodes.Body.{Body}
use Rattle.room_nodes.specs.declared.nodes.Body.TheVariants.{Create}
use Rattle.room_nodes.specs.declared.nodes.Kind.{Kind}
use Rattle.room_nodes.specs.declared.nodes.Kind.TheVariants.{Object, List as Listed, Map as Mapped, Register}
use Rattle.room_nodes.specs.declared.nodes.Node.{Node}
use Rattle.room_nodes.proofs.Below.{parent_not_below, below_self}
use Rattle.room_nodes.proofs.Children.{child_at_some}
use Rattle.room_nodes.proofs.Fitting.{both, the_parent, Fits, none_of}
use Rattle.room_nodes.proofs.Gets.{some_none, same, one_or_two, get_here, get_other, here_or_old, get_gone, get_kept, kept, true_false}
use Rattle.room_nodes.proofs.Listing.{Has}
use Rattle.room_nodes.proofs.StepForm.{at_node}
use Rattle.room_nodes.specs.Preorder.{preorder, preorder_within}
use Rattle.room_nodes.proofs.Walks.{walk_there}
use Rattle.room_nodes.proofs.Tours.{tour_under, is_within, has_below}
use Rattle.room_nodes.proofs.Walks.{Walk, Step}
use Rattle.room_nodes.specs.Reversal.{creation, creations, node_restored}
use Rattle.room_steps.proofs.Booleans.{where_so}
use Rattle.room_steps.proofs.Fields.{without_none}

-- a step that isn't void is its effect
pub step_acts : (t : Nodes) (b : Body) → is_void t b ≡ false → step t b ≡ effect t (settled_body t b)
unfolding step
step_acts t b e = ap (λ v. cond v t (effect t (settled_body t b))) e

-- and else nothing
pub step_void : (t : Nodes) (b : Body) → is_void t b ≡ true → step t b ≡ t
unfolding step
step_void t b e = ap (λ v. cond v t (effect t (settled_body t b))) e

pub put_same : (t : Nodes) (x : NodeId) (n : Node) → get t x ≡ Some n → insert t x n ≡ t
put_same t x n e = same_map node_cmp-total node_cmp-exact (insert t x n) t (λ q. elim (one_or_two q x) [
  | inl h ↦ ap (get (insert t x n)) h ∙ get_here t x n ∙ sym e ∙ ap (get t) (sym h)
  | inr h ↦ get_other t x n q h
])

pub put_twice : (t : Nodes) (x : NodeId) (m n : Node) → insert (insert t x m) x n ≡ insert t x n
put_twice t x m n = same_map node_cmp-total node_cmp-exact (insert (insert t x m) x n) (insert t x n) (λ q. elim (one_or_two q x) [
  | inl h ↦ ap (get (insert (insert t x m) x n)) h ∙ get_here (insert t x m) x n ∙ sym (get_here t x n) ∙ ap (get (insert t x n)) (sym h)
  | inr h ↦ get_other (insert t x m) x n q h ∙ get_other t x m q h ∙ sym (get_other t x n q h)
])

-- a kind without such a field stays as it is
without_kind : (k : List ℕ) (kind : Kind) → has_field k kind ≡ false → fields_kind (without_field k) kind ≡ kind
without_kind k (Object fs) h = ap Object (without_none k fs (none_of _ h))
without_kind k Listed h = refl
without_kind k Mapped h = refl
without_kind k (Register v) h = refl

pub without_node : (k : List ℕ) (n : Node) → has_field k n.kind ≡ false → on_fields (without_field k) n ≡ n
without_node k n h = ap (λ (kind : Kind). record n { kind = kind }) (without_kind k n.kind h)

-- a create where nothing stands

not_void : (a r l q : Bool) → a ≡ false → r ≡ true → (l ≡ true → q ≡ true) → (a || (not r || (l && not q))) ≡ false
not_void a r true q e h g = rw (e, h, g refl) refl
not_void a r false q e h g = rw (e, h) refl

fits_length : (k : List ℕ) → is_pos k ≡ true → nat_le (length k) 4096 ≡ true
fits_length k h = (both (nat_le (length k) 4096) _ (both (is_some_text k) _ h).1).0

either_way : {A : Type 0} (b : Bool) (x : A) → cond b x x ≡ x
either_way true x = refl
either_way false x = refl

has_room_there : (r : Bool) (d : ℕ) → r ≡ false → d < 60 → (not r && nat_lt d 60) ≡ true
has_room_there true d e h = cc
has_room_there false d e h = grind (arith, nat_tests)

module _ (u : Nodes) (x p : NodeId) (k : List ℕ) (kind : Kind) (n : Node) (fresh : get u x ≡ None) (there : get u p ≡ Some n) (holds : is_register n.kind ≡ false) (deep : n.depth < 60)
    (free : child_at u p k ≡ None) (place : is_list n.kind ≡ true → is_pos k ≡ true) where
  settled_there : settled_key u p x k ≡ k
  settled_there = ap (λ o. cond (is_other x o) (between k (next_key u p k)) k) free

  placed : is_list n.kind ≡ true → is_placed u p x k ≡ true
  placed h = rw (settled_there, place h, fits_length k (place h)) refl

  acts : is_void u (Create x p k None kind) ≡ false
  acts = not_void (is_some (get u x)) (has_room (get u p)) (holds_list (get u p)) (is_placed u p x k)
      (ap is_some fresh) (ap has_room there ∙ has_room_there (is_register n.kind) n.depth holds deep)
      (λ h. placed (ap holds_list (sym there) ∙ h))

  settled_so : settled_body u (Create x p k None kind) ≡ Create x p k None kind
  settled_so =
      ap (λ z. cond (is_void u (Create x p k None kind) || not (holds_list (get u p))) (Create x p k None kind) (Create x p z None kind)) settled_there
      ∙ either_way _ (Create x p k None kind)

  abbrev made : Node
  made = record { parent = p; key = k; depth = n.depth + 1; kind = kind }

  -- what the place is cleared to
  abbrev pub opened_by : Bool → Nodes
  opened_by b = cond b u (insert u p (on_fields (without_field k) n))

  cleared_so : cleared u p k None (get u p) ≡ opened_by (is_list n.kind)
  cleared_so = ap (cleared u p k None) there ∙ ap (cond (is_list n.kind) u) (ap (λ o. changed (without u o) p (on_fields (without_field k))) free ∙ at_node u p (on_fields (without_field k)) n there)

  pub created : step u (Create x p k None kind) ≡ insert (opened_by (is_list n.kind)) x made
  created =
      step_acts u (Create x p k None kind) acts ∙ ap (effect u) settled_so
      ∙ ap (λ (v : Nodes). insert v x (record { parent = p; key = k; depth = depth_in (get u p) + 1; kind = kind })) cleared_so
      ∙ ap (λ (o : Option Node). insert (opened_by (is_list n.kind)) x (record { parent = p; key = k; depth = depth_in o + 1; kind = kind })) there

  -- where there is no such field either, nothing is cleared
  opened_same : (b : Bool) → has_field k n.kind ≡ false → opened_by b ≡ u
  opened_same true h = refl
  opened_same false h = ap (insert u p) (without_node k n h) ∙ put_same u p n there

  pub created_plain : has_field k n.kind ≡ false → step u (Create x p k None kind) ≡ insert u x made
  created_plain h = created ∙ ap (λ (v : Nodes). insert v x made) (opened_same (is_list n.kind) h)

pub fold-append : (t : Nodes) (cs bs : List Body) → fold t (cs ++ bs) ≡ fold (fold t cs) bs
fold-append t [] bs = refl
fold-append t (c ∷ cs) bs = fold-append (step t c) cs bs

-- what a walk has: each of it is new when it comes, and stands in the tree

pub walk_fresh : (t : Nodes) (y : NodeId) (xs done : List NodeId) → Walk t done xs → Has y xs → Has y done → ⊥
walk_fresh t y [] done w h g = h
walk_fresh t y (x ∷ xs) done w h g = elim h [
  | inl e ↦ w.0.fresh (subst (λ z. Has z done) (sym e) g)
  | inr m ↦ walk_fresh t y xs (x ∷ done) w.1 m (inr g)
]

module _ (t : Nodes) (f : IsFormed t) where
  -- u has of t what is done, and no node that stands elsewhere in t
  pub record Follows (u : Nodes) (done : List NodeId) : Type 0 where
    pub here : (q : NodeId) → Has q done → get u q ≡ get t q
    pub part : (q : NodeId) (m : Node) → get u q ≡ Some m → (n : Node) × (get t q ≡ Some n) × (m.parent ≡ n.parent) × (m.key ≡ n.key)

  -- x comes next
  module _ (u : Nodes) (done : List NodeId) (a : Follows u done) (x : NodeId) (s : Step t done x) (gone : get u x ≡ None) where
    no_child : (o : Option NodeId) → child_at u s.node.parent s.node.key ≡ o → o ≡ None
    no_child None e = refl
    no_child (Some c) e =
        let m = child_at_some u s.node.parent s.node.key c e in
        let n = a.part c m.0 m.1 in
        let one : c ≡ x = same c x (f.keys c x n.0 s.node m.2 s.made n.1 s.there (sym n.2 ∙ m.3) (sym n.3 ∙ m.4)) in
        absurd (some_none m.0 (sym m.1 ∙ ap (get u) one ∙ gone))

    put_next : step u (Create x s.node.parent s.node.key None s.node.kind) ≡ insert u x s.node
    put_next =
        let p = the_parent t f x s.node s.made s.there in
        let fit : Fits p.0 s.node = p.2 in
        let up : get u s.node.parent ≡ Some p.0 = a.here s.node.parent s.parent ∙ p.1 in
        created_plain u x s.node.parent s.node.key s.node.kind p.0 gone up fit.holds (omega (arith, fit.depth, fit.deep)) (no_child _ refl) (where_so (is_list p.0.kind) _ fit.place) fit.plain
        ∙ ap (λ (d : ℕ). insert u x (record s.node { depth = d })) (sym fit.depth)

    follows_next : Follows (insert u x s.node) (x ∷ done)
    follows_next = record {
      here = λ q h. elim (one_or_two q x) [
        | inl e ↦ ap (get (insert u x s.node)) e ∙ get_here u x s.node ∙ sym (ap (get t) e ∙ s.there)
        | inr d ↦ elim h [
          | inl e ↦ absurd (d (sym e))
          | inr g ↦ get_other u x s.node q d ∙ a.here q g
        ]
      ];
      part = λ q m e. elim (here_or_old u x s.node q m e) [
        | inl h ↦ (s.node, ap (get t) h.0 ∙ s.there, ap (λ (v : Node). v.parent) h.1, ap (λ (v : Node). v.key) h.1)
        | inr old ↦ a.part q m old.1
      ];
    }

  -- all of a walk
  pub record Rebuilt (u : Nodes) (xs : List NodeId) : Type 0 where
    pub tree : Nodes
    pub is : fold u (creations t xs) ≡ tree
    pub new : (q : NodeId) → Has q xs → get tree q ≡ get t q
    pub old : (q : NodeId) → (Has q xs → ⊥) → get tree q ≡ get u q

  pub rebuild : (xs done : List NodeId) (u : Nodes) → Walk t done xs → Follows u done → ((q : NodeId) → Has q xs → get u q ≡ None) → Rebuilt u xs
  rebuild [] done u w a gone = record { tree = u; is = refl; new = λ q h. absurd h; old = λ q h. refl }
  rebuild (x ∷ xs) done u w a gone =
      let s = w.0 in
      let v = insert u x s.node in
      let put = put_next u done a x s (gone x (inl refl)) in
      let r = rebuild xs (x ∷ done) v w.1 (follows_next u done a x s (gone x (inl refl)))
      (λ q h. get_other u x s.node q (λ e. walk_fresh t q xs (x ∷ done) w.1 h (inl (sym e))) ∙ gone q (inr h)) in
      record {
        tree = r.tree;
        is = ap (λ o. fold u (creation x o ++ creations t xs)) s.there ∙ ap (λ (z : Nodes). fold z (creations t xs)) put ∙ r.is;
        new = λ q h. elim h [
          | inl e ↦ r.old q (λ m. walk_fresh t q xs (x ∷ done) w.1 m (inl e)) ∙ ap (get v) (sym e) ∙ get_here u x s.node ∙ sym s.there ∙ ap (get t) e
          | inr m ↦ r.new q m
        ];
        old = λ q h. r.old q (λ m. h (inr m)) ∙ get_other u x s.node q (λ e. h (inl (sym e)));
      }

  module _ (y : NodeId) (n : Node) (made : y ≢ Root) (there : get t y ≡ Some n) where
    abbrev pub under : List NodeId
    under = flat_map (λ (e : List ℕ × NodeId). preorder_within 59 t e.1) (children t y)

    pub order : preorder t y ≡ y ∷ under
    unfolding preorder preorder_within
    order = refl

    pub has_under : (q : NodeId) (m : Node) → q ≢ y → get t q ≡ Some m → is_below t y q ≡ true → Has q under
    has_under q m other e h = elim (subst (Has q) order (has_below t f y made q m e h)) [ inl i ↦ absurd (other (sym i)) | inr g ↦ g ]

    pub under_is_below : (q : NodeId) → Has q under → is_below t y q ≡ true
    under_is_below q h = is_within t f y q (subst (Has q) (sym order) (inr h))

    pub restored_is : node_restored t y ≡ Create y n.parent n.key None n.kind ∷ creations t under
    restored_is = ap (creations t) order ∙ ap (λ o. creation y o ++ creations t under) there

    -- u: the place of y is open, and nothing below it is there
    pub restore : (u : Nodes) → Follows u (y ∷ []) → ((q : NodeId) → Has q under → get u q ≡ None) → Rebuilt u under
    restore u a gone = rebuild under (y ∷ []) u (tour_under t f y) a gone

    no_child_left : (o : Option NodeId) → child_at (removed t y) n.parent n.key ≡ o → o ≡ None
    no_child_left None e = refl
    no_child_left (Some c) e =
        let m = child_at_some (removed t y) n.parent n.key c e in
        let one : c ≡ y = same c y (f.keys c y m.0 n m.2 made (kept t y c m.0 m.1).0 there m.3 m.4) in
        absurd (some_none m.0 (sym m.1 ∙ ap (get (removed t y)) one ∙ get_gone t y y (below_self t y)))

    -- what was removed
    pub restored : fold (removed t y) (node_restored t y) ≡ t
    restored =
        let u = removed t y in
        let p = the_parent t f y n made there in
        let fit : Fits p.0 n = p.2 in
        let up : get u n.parent ≡ Some p.0 = get_kept t y n.parent (parent_not_below t f y n made there) ∙ p.1 in
        let gone : get u y ≡ None = get_gone t y y (below_self t y) in
        let v = insert u y n in
        let part : (q : NodeId) (m : Node) → get u q ≡ Some m → (o : Node) × (get t q ≡ Some o) × (m.parent ≡ o.parent) × (m.key ≡ o.key) = λ q m e. (m, (kept t y q m e).0, refl, refl) in
        let first : step u (Create y n.parent n.key None n.kind) ≡ v =
        created_plain u y n.parent n.key n.kind p.0 gone up fit.holds (omega (arith, fit.depth, fit.deep)) (no_child_left _ refl) (where_so (is_list p.0.kind) _ fit.place) fit.plain
        ∙ ap (λ (d : ℕ). insert u y (record n { depth = d })) (sym fit.depth) in
        let beside : (q : NodeId) → Has q under → q ≢ y = λ q h e. walk_fresh t q under (y ∷ []) (tour_under t f y) h (inl (sym e)) in
        let r = restore v (record {
          here = λ q h. elim h [
            | inl e ↦ ap (get v) (sym e) ∙ get_here u y n ∙ sym there ∙ ap (get t) e
            | inr g ↦ absurd g
          ];
          part = λ q m e. elim (here_or_old u y n q m e) [
            | inl h ↦ (n, ap (get t) h.0 ∙ there, ap (λ (z : Node). z.parent) h.1, ap (λ (z : Node). z.key) h.1)
            | inr old ↦ part q m old.1
          ];
        }) (λ q h. get_other u y n q (beside q h) ∙ get_gone t y q (under_is_below q h)) in
        ap (fold u) restored_is ∙ ap (λ (z : Nodes). fold z (creations t under)) first ∙ r.is
        ∙ same_map node_cmp-total node_cmp-exact r.tree t (λ q. elim (one_or_two q y) [
          | inl e ↦ r.old q (λ h. beside q h e) ∙ ap (get v) e ∙ get_here u y n ∙ sym there ∙ ap (get t) (sym e)
          | inr other ↦ elim (get t q) as (λ o. get t q ≡ o → get r.tree q ≡ get t q) [
            | None ↦ λ e.
                r.old q (λ h. let w = walk_there t q under (y ∷ []) (tour_under t f y) h in some_none w.0 (sym w.1 ∙ e))
                ∙ get_other u y n q other
                ∙ elim (get u q) as (λ o. get u q ≡ o → get u q ≡ get t q) [
                  | None ↦ λ g. g ∙ sym e
                  | Some m ↦ λ g. absurd (some_none m (sym (kept t y q m g).0 ∙ e))
                ] refl
            | Some m ↦ λ e. elim (is_below t y q) as (λ b. is_below t y q ≡ b → get r.tree q ≡ get t q) [
              | true ↦ λ h. r.new q (has_under q m other e h)
              | false ↦ λ h.
                  r.old q (λ g. true_false (sym (under_is_below q g) ∙ h))
                  ∙ get_other u y n q other ∙ get_kept t y q h
            ] refl
          ] refl
        ])
