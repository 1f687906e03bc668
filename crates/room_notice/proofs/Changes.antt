-- What is told of an operation by the tree before it is what the operation changes.
use Rattle.std.proofs.Common.{◌≡◌, ◌≢◌, ◌+◌, ℕ, inl, inr, Bool, true, false, cond, not, ◌&&◌, ◌||◌, T, List, [], ◌∷◌, ◌++◌, length, Option, Some, None, is_some, refl, sym, ap, ◌∙◌, subst}
use Rattle.std.specs.Ordering.{nat_cmp, eq_by_cmp, is_eq, is_lt}
use Rattle.std.specs.Cmp.Lexicographic.{slice_cmp}
use Rattle.std.proofs.lemmas.Cmp.{nat_list_cmp_total, tied_itself}
use Rattle.std.specs.FinMap.{get, insert, entries, find}
use Rattle.std.specs.FinMap.Entries.{below_all, same_entries}
use Rattle.room_ids.specs.Order.{is_same}
use Rattle.room_ids.specs.declared.ids.NodeId.{NodeId}
use Rattle.room_ids.specs.declared.ids.NodeId.TheVariants.{Root}
use Rattle.room_nodes.specs.declared.nodes.Node.{Node}
use Rattle.room_nodes.specs.declared.nodes.Kind.{Kind}
use Rattle.room_nodes.specs.declared.nodes.Body.{Body}
use Rattle.room_nodes.specs.declared.nodes.Body.TheVariants.{SetKey, Create, Update, Delete, DeleteKey}
use Rattle.room_nodes.specs.Shape.{Nodes, IsFormed, child_at, children, removed}
use Rattle.room_nodes.specs.Steps.{changed, changed_at, on_fields, without_child, without_field, cleared, depth_in, effect, holds_list, is_under, is_void, settled_body, step, without_replaced}
use Rattle.room_nodes.proofs.Children.{text_exact}
use Rattle.room_nodes.proofs.Fitting.{the_root}
use Rattle.room_nodes.proofs.Formed.{formed-removed}
use Rattle.room_nodes.proofs.Gets.{some_inj, some_none, same_self, differ, true_false, get_here, get_other, here_or_old, kept, one_or_two}
use Rattle.room_nodes.proofs.Listing.{is_equal, less_of, parts}
use Rattle.room_nodes.proofs.Places.{children_sorted}
use Rattle.room_nodes.proofs.Settling.{void_settled}
use Rattle.room_nodes.proofs.Steps.{formed-step, neither}
use Rattle.room_steps.proofs.Kin.{IsChild, child_of, found, same_child}
use Rattle.room_steps.proofs.Restoring.{step_acts}
use Rattle.room_tree.specs.Skipped.{skip}
use Rattle.room_tree.specs.Settlement.{live_body}
use Rattle.room_tree.proofs.Skipping.{child_skip, under_some}
use Rattle.room_model.specs.Notices.{Notice, Insert, Move, Take, alone, body_notices, index_in, notices_of, path_of, replaced_taken, moved_notices}
use Rattle.room_notice.specs.Ranks.{counted, is_skipped, rank}
use Rattle.room_notice.specs.Told.{moved, out_of, taken, told}
use Rattle.room_notice.proofs.Ranking.{Kid, Sorted, index_rank}

-- a child, unless it is passed over
abbrev pub passed : Option NodeId → Option NodeId → Option NodeId
passed None c = c
passed (Some x) c = skip x c

-- the children that are counted, by key

nothing_passed : (o : Option NodeId) → passed o None ≡ None
nothing_passed None = refl
nothing_passed (Some x) = refl

passed_one : (o : Option NodeId) (y : NodeId) (s : Bool) → is_skipped o y ≡ s → passed o (Some y) ≡ cond s None (Some y)
passed_one None y s e = ap (λ b. cond b None (Some y)) e
passed_one (Some x) y s e = ap (λ b. cond b None (Some y)) e

none_either : (b : Bool) (o : Option NodeId) → o ≡ None → cond b o None ≡ None
none_either true o e = e
none_either false o e = refl

none_among : (j : List ℕ) (es : List Kid) → T (below_all (slice_cmp nat_cmp) j es) → find (slice_cmp nat_cmp) j es ≡ None
none_among j [] h = refl
none_among j (e ∷ es) h =
    let p = less_of (slice_cmp nat_cmp j e.0) _ h in
    ap (λ o. cond (is_eq o) (Some e.1) (find (slice_cmp nat_cmp) j es)) p.0 ∙ none_among j es p.1

module _ (k : List ℕ) (o : Option NodeId) where
  abbrev Found : List ℕ → List Kid → Type 0
  Found j es = find (slice_cmp nat_cmp) j (counted k o es) ≡ cond (is_lt (slice_cmp nat_cmp j k)) (passed o (find (slice_cmp nat_cmp) j es)) None

  found_here : (e : Kid) (es : List Kid) (c s : Bool) → is_lt (slice_cmp nat_cmp e.0 k) ≡ c → is_skipped o e.1 ≡ s → find (slice_cmp nat_cmp) e.0 es ≡ None → Found e.0 es
      → find (slice_cmp nat_cmp) e.0 (cond (c && not s) (e ∷ counted k o es) (counted k o es)) ≡ cond c (passed o (Some e.1)) None
  found_here e es true true low skipped none more =
      more ∙ ap (λ y. cond (is_lt (slice_cmp nat_cmp e.0 k)) y None) (ap (passed o) none ∙ nothing_passed o) ∙ none_either _ None refl ∙ sym (passed_one o e.1 true skipped)
  found_here e es true false low skipped none more =
      ap (λ b. cond b (Some e.1) (find (slice_cmp nat_cmp) e.0 (counted k o es))) (ap is_eq (tied_itself nat_list_cmp_total e.0)) ∙ sym (passed_one o e.1 false skipped)
  found_here e es false s low skipped none more = more ∙ ap (λ b. cond b (passed o (find (slice_cmp nat_cmp) e.0 es)) None) low

  found_there : (j : List ℕ) (e : Kid) (es : List Kid) (b : Bool) → eq_by_cmp (slice_cmp nat_cmp) j e.0 ≡ false → Found j es
      → find (slice_cmp nat_cmp) j (cond b (e ∷ counted k o es) (counted k o es)) ≡ cond (is_lt (slice_cmp nat_cmp j k)) (passed o (find (slice_cmp nat_cmp) j es)) None
  found_there j e es true out more = ap (λ b. cond b (Some e.1) (find (slice_cmp nat_cmp) j (counted k o es))) out ∙ more
  found_there j e es false out more = more

  found_by : (j : List ℕ) (e : Kid) (es : List Kid) (b : Bool) → eq_by_cmp (slice_cmp nat_cmp) j e.0 ≡ b → T (below_all (slice_cmp nat_cmp) e.0 es) → ((j : List ℕ) → Found j es)
      → find (slice_cmp nat_cmp) j (counted k o (e ∷ es)) ≡ cond (is_lt (slice_cmp nat_cmp j k)) (passed o (cond b (Some e.1) (find (slice_cmp nat_cmp) j es))) None
  found_by j e es true is h more =
      let key : j ≡ e.0 = text_exact j e.0 (is_equal _ is) in
      ap (λ i. find (slice_cmp nat_cmp) i (counted k o (e ∷ es))) key
      ∙ found_here e es _ _ refl refl (none_among e.0 es h) (more e.0)
      ∙ ap (λ i. cond (is_lt (slice_cmp nat_cmp i k)) (passed o (Some e.1)) None) (sym key)
  found_by j e es false is h more = found_there j e es _ is (more j)

  pub find_counted : (es : List Kid) → Sorted es → (j : List ℕ) → Found j es
  find_counted [] h j = sym (none_either (is_lt (slice_cmp nat_cmp j k)) (passed o None) (nothing_passed o))
  find_counted (e ∷ es) h j =
      let p = parts (below_all (slice_cmp nat_cmp) e.0 es) _ h in
      found_by j e es _ refl p.0 (find_counted es p.1) ∙ refl

  both_hold : (a b : Bool) → T a → T b → T (a && b)
  both_hold true b g h = h
  both_hold false b g h = g

  below_by : (j : List ℕ) (b : Bool) (e : Kid) (es : List Kid) → T (is_lt (slice_cmp nat_cmp j e.0)) → T (below_all (slice_cmp nat_cmp) j es) → T (below_all (slice_cmp nat_cmp) j (cond b (e ∷ es) es))
  below_by j true e es g h = both_hold (is_lt (slice_cmp nat_cmp j e.0)) _ g h
  below_by j false e es g h = h

  below_counted : (j : List ℕ) (es : List Kid) → T (below_all (slice_cmp nat_cmp) j es) → T (below_all (slice_cmp nat_cmp) j (counted k o es))
  below_counted j [] h = h
  below_counted j (e ∷ es) h = let p = parts (is_lt (slice_cmp nat_cmp j e.0)) _ h in below_by j _ e (counted k o es) p.0 (below_counted j es p.1)

  sorted_by : (b : Bool) (e : Kid) (es : List Kid) → T (below_all (slice_cmp nat_cmp) e.0 es) → Sorted es → Sorted (cond b (e ∷ es) es)
  sorted_by true e es g h = both_hold (below_all (slice_cmp nat_cmp) e.0 es) _ g h
  sorted_by false e es g h = h

  pub sorted_counted : (es : List Kid) → Sorted es → Sorted (counted k o es)
  sorted_counted [] h = h
  sorted_counted (e ∷ es) h = let p = parts (below_all (slice_cmp nat_cmp) e.0 es) _ h in sorted_by _ e (counted k o es) (below_counted e.0 es p.0) (sorted_counted es p.1)

below_either : (b : Bool) (x y : Option NodeId) → (b ≡ true → x ≡ y) → cond b x None ≡ cond b y None
below_either true x y h = h refl
below_either false x y h = refl

-- two trees with the same children below a key, one passed over
pub same_rank : (t u : Nodes) (p : NodeId) (k : List ℕ) (o : Option NodeId) → ((j : List ℕ) → is_lt (slice_cmp nat_cmp j k) ≡ true → child_at u p j ≡ passed o (child_at t p j)) → rank u p k None ≡ rank t p k o
same_rank t u p k o h =
    let cs = children t p in
    let ds = children u p in
    let sc = children_sorted p (entries t) in
    let sd = children_sorted p (entries u) in
    ap length (same_entries (slice_cmp nat_cmp) nat_list_cmp_total text_exact (counted k None ds) (counted k o cs) (sorted_counted k None ds sd) (sorted_counted k o cs sc) (λ j.
    find_counted k None ds sd j ∙ below_either (is_lt (slice_cmp nat_cmp j k)) (child_at u p j) (passed o (child_at t p j)) (h j) ∙ sym (find_counted k o cs sc j)))

-- a key below another is another
below_other : (j k : List ℕ) → is_lt (slice_cmp nat_cmp j k) ≡ true → j ≢ k
below_other j k low e = true_false (sym low ∙ ap (λ i. is_lt (slice_cmp nat_cmp i k)) e ∙ ap is_lt (tied_itself nat_list_cmp_total k))

-- the child that a create takes out

out_by : (t : Nodes) → IsFormed t → (p z : NodeId) (b : Bool) → is_under p z (get t z) ≡ b → (j : List ℕ) → child_at (cond b (removed t z) t) p j ≡ passed (cond b (Some z) None) (child_at t p j)
out_by t f p z true e j = let u = under_some t p z (get t z) refl e in child_skip t f p z u.0 u.1 u.2 u.3 j
out_by t f p z false e j = refl

pub out_child : (t : Nodes) → IsFormed t → (p : NodeId) (r : Option NodeId) (j : List ℕ) → child_at (without_replaced t p r) p j ≡ passed (out_of t p r) (child_at t p j)
out_child t f p None j = refl
out_child t f p (Some z) j = out_by t f p z _ refl j

formed_by : (t : Nodes) → IsFormed t → (p z : NodeId) (b : Bool) → is_under p z (get t z) ≡ b → IsFormed (cond b (removed t z) t)
formed_by t f p z true e = formed-removed t z f (under_some t p z (get t z) refl e).2
formed_by t f p z false e = f

pub formed_out : (t : Nodes) → IsFormed t → (p : NodeId) (r : Option NodeId) → IsFormed (without_replaced t p r)
formed_out t f p None = f
formed_out t f p (Some z) = formed_by t f p z _ refl

was_by : (t : Nodes) (z x : NodeId) (n : Node) (b : Bool) → get (cond b (removed t z) t) x ≡ Some n → get t x ≡ Some n
was_by t z x n true e = (kept t z x n e).0
was_by t z x n false e = e

pub was_there : (t : Nodes) (p : NodeId) (r : Option NodeId) (x : NodeId) (n : Node) → get (without_replaced t p r) x ≡ Some n → get t x ≡ Some n
was_there t p None x n e = e
was_there t p (Some z) x n e = was_by t z x n _ e

-- a new node in a tree
module _ (w : Nodes) (x : NodeId) (n : Node) (f : IsFormed (insert w x n)) (g : IsFormed w) (fresh : (m : Node) → get w x ≡ Some m → ⊥) where
  pub beside_new : (j : List ℕ) → j ≢ n.key → child_at (insert w x n) n.parent j ≡ child_at w n.parent j
  beside_new j other = same_child (insert w x n) w g n.parent j
      (λ y c. elim (here_or_old w x n y c.node c.there) [
        | inl i ↦ absurd (other (sym (sym (ap (λ (v : Node). v.key) i.1) ∙ c.key)))
        | inr old ↦ record { node = c.node; there = old.1; made = c.made; parent = c.parent; key = c.key }
      ])
      (λ y c. record { node = c.node; there = get_other w x n y (λ e. fresh c.node (ap (get w) (sym e) ∙ c.there)) ∙ c.there; made = c.made; parent = c.parent; key = c.key })

-- a child of a list moved
module _ (t : Nodes) (x : NodeId) (n : Node) (k : List ℕ) (f : IsFormed t) (g : IsFormed (insert t x (record n { key = k }))) (there : get t x ≡ Some n) (made : x ≢ Root) where
  abbrev next : Nodes
  next = insert t x (record n { key = k })

  moved_from : (j : List ℕ) (y : NodeId) → j ≢ k → IsChild next n.parent j y → (y ≢ x) × IsChild t n.parent j y
  moved_from j y other c = elim (here_or_old t x (record n { key = k }) y c.node c.there) [
    | inl i ↦ absurd (other (sym (sym (ap (λ (v : Node). v.key) i.1) ∙ c.key)))
    | inr old ↦ (old.0, record { node = c.node; there = old.1; made = c.made; parent = c.parent; key = c.key })
  ]

  moved_to : (j : List ℕ) (y : NodeId) → y ≢ x → IsChild t n.parent j y → IsChild next n.parent j y
  moved_to j y other c = record { node = c.node; there = get_other t x (record n { key = k }) y other ∙ c.there; made = c.made; parent = c.parent; key = c.key }

  moved_none : (j : List ℕ) → j ≢ k → (o : Option NodeId) → child_at next n.parent j ≡ o → ((y : NodeId) → IsChild t n.parent j y → y ≢ x → ⊥) → o ≡ None
  moved_none j other None e h = refl
  moved_none j other (Some y) e h = let c = moved_from j y other (child_of next n.parent j y e) in absurd (h y c.1 c.0)

  moved_by : (j : List ℕ) → j ≢ k → (o : Option NodeId) → child_at t n.parent j ≡ o → child_at next n.parent j ≡ skip x o
  moved_by j other None e = moved_none j other _ refl (λ y c away. some_none y (sym (found t f n.parent j y c) ∙ e))
  moved_by j other (Some y) e = elim (one_or_two y x) [
    | inl is ↦
        moved_none j other _ refl (λ z c away. away (some_inj z y (sym (found t f n.parent j z c) ∙ e) ∙ is))
        ∙ sym (ap (λ b. cond b None (Some y)) (ap (is_same y) (sym is) ∙ same_self y))
    | inr away ↦ found next g n.parent j y (moved_to j y away (child_of t n.parent j y e)) ∙ sym (ap (λ b. cond b None (Some y)) (differ y x away))
  ]

  pub beside_moved : (j : List ℕ) → j ≢ k → child_at next n.parent j ≡ skip x (child_at t n.parent j)
  beside_moved j other = moved_by j other (child_at t n.parent j) refl

  pub moved_index : index_in next n.parent x ≡ rank t n.parent k (Some x)
  moved_index =
      index_rank next g x (record n { key = k }) (get_here t x (record n { key = k })) made
      ∙ same_rank t next n.parent k (Some x) (λ j low. beside_moved j (below_other j k low))

-- the notices

taken_by : (t : Nodes) (p z : NodeId) (b : Bool) → taken t p (path_of t p) (cond b (Some z) None) ≡ cond b (Take (path_of t p) (index_in t p z) ∷ []) []
taken_by t p z true = refl
taken_by t p z false = refl

taken_is : (t : Nodes) (p : NodeId) (r : Option NodeId) → taken t p (path_of t p) (out_of t p r) ≡ replaced_taken t p r
taken_is t p None = refl
taken_is t p (Some z) = taken_by t p z (is_under p z (get t z))

list_cleared : (t : Nodes) (p : NodeId) (k : List ℕ) (r : Option NodeId) (o : Option Node) → holds_list o ≡ true → cleared t p k r o ≡ without_replaced t p r
list_cleared t p k r None e = cc
list_cleared t p k r (Some n) e = ap (λ b. cond b (without_replaced t p r) (changed (without_child t p k) p (on_fields (without_field k)))) e

module _ (t : Nodes) (f : IsFormed t) (x p : NodeId) (k : List ℕ) (r : Option NodeId) (kind : Kind) (live : is_void t (Create x p k r kind) ≡ false) (g : IsFormed (effect t (Create x p k r kind))) where
  abbrev new : Node
  new = record { parent = p; key = k; depth = depth_in (get t p) + 1; kind = kind }

  absent : (m : Node) → get t x ≡ Some m → ⊥
  absent m e = true_false (sym (ap is_some e) ∙ (neither (is_some (get t x)) _ live).0)

  not_root : x ≢ Root
  not_root e = absent (the_root t f).0 (ap (get t) e ∙ (the_root t f).1)

  created_index : holds_list (get t p) ≡ true → index_in (effect t (Create x p k r kind)) p x ≡ rank t p k (out_of t p r)
  created_index list =
      let w = without_replaced t p r in
      let is : effect t (Create x p k r kind) ≡ insert w x new = ap (λ v. insert v x new) (list_cleared t p k r (get t p) list) in
      let h : IsFormed (insert w x new) = subst IsFormed is g in
      ap (λ v. index_in v p x) is
      ∙ index_rank (insert w x new) h x new (get_here w x new) not_root
      ∙ same_rank t (insert w x new) p k (out_of t p r) (λ j low.
      beside_new w x new h (formed_out t f p r) (λ m e. absent m (was_there t p r x m e)) j (below_other j k low) ∙ out_child t f p r j)

created_by : (t u : Nodes) (x p : NodeId) (k : List ℕ) (r : Option NodeId) (kind : Kind) (b : Bool) (old : List Notice) (keyed : List Notice) (i j : ℕ) → (b ≡ true → j ≡ i) → taken t p (path_of t p) (out_of t p r) ≡ old
    → cond b (taken t p (path_of t p) (out_of t p r) ++ Insert (path_of t p) i (alone kind) ∷ []) keyed ≡ cond b (old ++ Insert (path_of t p) j (alone kind) ∷ []) keyed
created_by t u x p k r kind true old keyed i j h e = λ z. e z ++ Insert (path_of t p) (sym (h refl) z) (alone kind) ∷ []
created_by t u x p k r kind false old keyed i j h e = refl

move_by : (t : Nodes) → IsFormed t → (x : NodeId) (k : List ℕ) → x ≢ Root → IsFormed (effect t (SetKey x k)) → (o : Option Node) → get t x ≡ o → moved t x k o ≡ moved_notices t (effect t (SetKey x k)) x o
move_by t f x k made g None e = refl
move_by t f x k made g (Some n) e =
    let is : effect t (SetKey x k) ≡ insert t x (record n { key = k }) = ap (changed_at t x (λ m. record m { key = k })) e in
    ap (λ j. Move (path_of t n.parent) (index_in t n.parent x) j ∷ [])
    (sym (ap (λ v. index_in v n.parent x) is ∙ moved_index t x n k f (subst IsFormed is g) e made))

pub not_root_if : (x : NodeId) (b c : Bool) → (b || (is_same x Root || c)) ≡ false → x ≢ Root
not_root_if x b c e r = true_false (sym (same_self Root) ∙ ap (λ y. is_same y Root) (sym r) ∙ (neither (is_same x Root) c (neither b _ e).1).0)

told_body : (t : Nodes) → IsFormed t → (c : Body) → is_void t c ≡ false → IsFormed (effect t c) → told t c ≡ body_notices t (effect t c) c
told_body t f (SetKey x k) live g = move_by t f x k (not_root_if x _ _ live) g (get t x) refl
told_body t f (Create x p k r kind) live g =
    created_by t (effect t (Create x p k r kind)) x p k r kind (holds_list (get t p)) (replaced_taken t p r) _ _ _ (created_index t f x p k r kind live g) (taken_is t p r)
told_body t f (Update x fs) live g = refl
told_body t f (Delete x) live g = refl
told_body t f (DeleteKey x k) live g = refl

told_settled : (t : Nodes) → IsFormed t → (b : Body) → is_void t b ≡ false → told t (settled_body t b) ≡ notices_of t b
told_settled t f b live =
    let c = settled_body t b in
    let here : is_void t c ≡ false = void_settled t f b ∙ live in
    let acts : step t b ≡ effect t c = step_acts t b live in
    told_body t f c here (subst IsFormed acts (formed-step t f b))
    ∙ ap (λ u. body_notices t u c) (sym acts)
    ∙ sym (ap (λ v. cond v [] (body_notices t (step t b) c)) live)

-- of the body that an operation has once it is settled

live_by : (v : Bool) (b c : Body) → cond v None (Some b) ≡ Some c → (v ≡ false) × (b ≡ c)
live_by true b c e = absurd (some_none c (sym e))
live_by false b c e = (refl, some_inj b c e)

pub told_live : (t : Nodes) → IsFormed t → (b c : Body) → live_body t b ≡ Some c → told t c ≡ notices_of t b
told_live t f b c e = let l = live_by (is_void t b) (settled_body t b) c e in ap (told t) (sym l.1) ∙ told_settled t f b l.0

pub live_not_void : (t : Nodes) → IsFormed t → (b c : Body) → live_body t b ≡ Some c → is_void t c ≡ false
live_not_void t f b c e = let l = live_by (is_void t b) (settled_body t b) c e in ap (is_void t) (sym l.1) ∙ void_settled t f b ∙ l.0

none_by : (v : Bool) (b : Body) (ns : List Notice) → cond v None (Some b) ≡ None → [] ≡ cond v [] ns
none_by true b ns e = refl
none_by false b ns e = absurd (some_none b e)

pub told_none : (t : Nodes) (b : Body) → live_body t b ≡ None → [] ≡ notices_of t b
told_none t b e = none_by (is_void t b) (settled_body t b) (body_notices t (step t b) (settled_body t b)) e
