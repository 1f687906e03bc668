-- What the model makes of an edit of a list, told by what a walk over the list finds.
use Rattle.std.proofs.Common.{◌≡◌, ◌≤◌, ◌<◌, ◌+◌, ◌==◌, ℕ, Bool, true, false, cond, not, nat_lt, nat_le, List, [], ◌∷◌, length, Option, Some, None, option_map, is_some, refl, sym, ap, ◌∙◌, arith}
use Rattle.std.specs.Prelude.{Ok, Err, slice_get}
use Rattle.std.proofs.lemmas.Bool.Decides.{nat_tests}
use Rattle.std.specs.FinMap.{get}
use Rattle.room_json.specs.Fields.{and_then}
use Rattle.room_ids.specs.declared.ids.NodeId.{NodeId}
use Rattle.room_nodes.specs.declared.nodes.Node.{Node}
use Rattle.room_nodes.specs.declared.nodes.Kind.{Kind}
use Rattle.room_nodes.specs.Shape.{Nodes, children, is_list}
use Rattle.room_model.specs.Edits as model
use Rattle.room_model.specs.Edits.{Edit, Set, Update, Remove, Push, Insert, Put, Move, Take, Clear, Clocks, target, make, make_at, below, placed, too_long}
use Rattle.room_model.specs.Edits.{id_in, id_at, key_in, inserted_key, moved_key, delete_bodies, move_bodies, clear_bodies, removed_child}
use Rattle.room_model.specs.Init.{Init, plain_depth, node_depth}
use Rattle.room_props.specs.Making.{Outcome, ops_made, node_made, made_on}
use Rattle.room_props.specs.Weighing.{checked}
use Rattle.room_effect.specs.Beside.{Kids, left_of, right_of, key_between}
use Rattle.room_list.specs.Listing.{item_made, item_moved, inserted, put_at, moved, taken, cleared, looks, end, index_of, gap_of, gap_beside, listed}
use Rattle.room_effect.proofs.Gaps.{Kid, inside, insert_key, push_key}
use Rattle.room_list.proofs.Gaps.{move_key}

-- of a list with those children, at that depth

module _ (c : Clocks) (d : ℕ) (kind : Kind) (list : is_list kind ≡ true) (cs : Kids) where
  on_kind : (r s : Outcome) → cond (not (is_list kind)) r s ≡ s
  on_kind r s = ap (λ b. cond (not b) r s) list

  push_made : (x : NodeId) (i : Init) → length cs ≤ end → made_on kind d c cs None (Push x i) ≡ item_made c d x (key_between (left_of end cs) (right_of end cs)) i
  push_made x i h = on_kind _ _ ∙ ap (λ k. item_made c d x k i) (sym (push_key cs end h))

  insert_by : (x : NodeId) (n : ℕ) (i : Init) (b : Bool) → nat_le n (length cs) ≡ b
      → and_then (cond b (Ok None) (Err (model.BadIndex n (length cs)))) (λ (o : Option ℕ). item_made c d x (inserted_key cs n) i)
      ≡ cond b (item_made c d x (key_between (left_of n cs) (right_of n cs)) i) (Err (model.BadIndex n (length cs)))
  insert_by x n i true e = ap (λ k. item_made c d x k i) (sym (insert_key cs n (grind (arith, nat_tests, e))))
  insert_by x n i false e = refl

  insert_made : (x : NodeId) (n : ℕ) (i : Init) → made_on kind d c cs None (Insert x n i) ≡ inserted c d x n i (length cs) (left_of n cs) (right_of n cs)
  insert_made x n i = on_kind _ _ ∙ insert_by x n i (nat_le n (length cs)) refl

  put_by : (x : NodeId) (n : ℕ) (i : Init) (o : Option Kid)
      → and_then (cond (is_some o) (Ok None) (Err (model.BadIndex n (length cs)))) (λ (q : Option ℕ). checked (plain_depth i) (node_depth (d + 1) i) (node_made c x (key_in o) (id_in o) i))
      ≡ put_at c d x n i (length cs) (id_in o) (option_map (λ (e : Kid). e.0) o)
  put_by x n i None = refl
  put_by x n i (Some e) = refl

  put_made : (x : NodeId) (n : ℕ) (i : Init) → made_on kind d c cs None (Put x n i) ≡ put_at c d x n i (length cs) (id_at cs n) (right_of n cs)
  put_made x n i =
      on_kind _ _
      ∙ ap (λ b. and_then (cond b (Ok None) (Err (model.BadIndex n (length cs)))) (λ (q : Option ℕ). checked (plain_depth i) (node_depth (d + 1) i) (node_made c x (key_in (slice_get cs n)) (id_in (slice_get cs n)) i))) (inside cs n)
      ∙ put_by x n i (slice_get cs n)

  take_by : (n : ℕ) (o : Option Kid) → and_then (cond (is_some o) (Ok None) (Err (model.BadIndex n (length cs)))) (λ (q : Option ℕ). ops_made c (delete_bodies (id_in o))) ≡ taken c n (length cs) (id_in o)
  take_by n None = refl
  take_by n (Some e) = refl

  take_made : (x : NodeId) (n : ℕ) → made_on kind d c cs None (Take x n) ≡ taken c n (length cs) (id_at cs n)
  take_made x n =
      on_kind _ _
      ∙ ap (λ b. and_then (cond b (Ok None) (Err (model.BadIndex n (length cs)))) (λ (q : Option ℕ). ops_made c (delete_bodies (id_in (slice_get cs n))))) (inside cs n)
      ∙ take_by n (slice_get cs n)

  abbrev shifted : ℕ → ℕ → Option NodeId → Bool → Outcome
  shifted f t o b = placed c 0 (cond b [] (move_bodies o (moved_key cs f t))) (too_long (cond b [] (moved_key cs f t ∷ [])))

  shift_by : (f t : ℕ) (e : Kid) (b : Bool) → (f == t) ≡ b → t < length cs → length cs ≤ end
      → shifted f t (Some e.1) b ≡ cond b (ops_made c []) (item_moved c e.1 (key_between (left_of (gap_beside f t) cs) (right_of (gap_beside f t) cs)))
  shift_by f t e true is l m = refl
  shift_by f t e false is l m = ap (item_moved c e.1) (sym (move_key cs f t is l m))

  to_by : (f t : ℕ) (e : Kid) (b : Bool) → nat_lt t (length cs) ≡ b → length cs ≤ end
      → and_then (cond b (Ok None) (Err (model.BadIndex t (length cs)))) (λ (q : Option ℕ). shifted f t (Some e.1) (f == t))
      ≡ and_then (cond b (Ok None) (Err (model.BadIndex t (length cs)))) (λ (q : Option ℕ).
      cond (f == t) (ops_made c []) (item_moved c e.1 (key_between (left_of (gap_beside f t) cs) (right_of (gap_beside f t) cs))))
  to_by f t e true is m = shift_by f t e (f == t) refl (grind (arith, nat_tests, is)) m
  to_by f t e false is m = refl

  move_by : (f t : ℕ) (o : Option Kid) → length cs ≤ end
      → and_then (and_then (cond (is_some o) (Ok None) (Err (model.BadIndex f (length cs)))) (λ (q : Option ℕ). below t (length cs))) (λ (q : Option ℕ). shifted f t (id_in o) (f == t))
      ≡ moved c f t (length cs) (id_in o) (key_between (left_of (gap_beside f t) cs) (right_of (gap_beside f t) cs))
  move_by f t None m = refl
  move_by f t (Some e) m = to_by f t e (nat_lt t (length cs)) refl m

  move_made : (x : NodeId) (f t : ℕ) → length cs ≤ end
      → made_on kind d c cs None (Move x f t) ≡ moved c f t (length cs) (id_at cs f) (key_between (left_of (gap_beside f t) cs) (right_of (gap_beside f t) cs))
  move_made x f t m =
      on_kind _ _
      ∙ ap (λ b. and_then (and_then (cond b (Ok None) (Err (model.BadIndex f (length cs)))) (λ (q : Option ℕ). below t (length cs))) (λ (q : Option ℕ). shifted f t (id_in (slice_get cs f)) (f == t))) (inside cs f)
      ∙ move_by f t (slice_get cs f) m

  listed_is : (e : Edit) → looks e ≡ true → length cs ≤ end
      → made_on kind d c cs None e ≡ listed c d e (length cs) (id_at cs (index_of e)) (left_of (gap_of e) cs) (right_of (gap_of e) cs)
  listed_is (Set x k i) h m = cc
  listed_is (Update x fs) h m = cc
  listed_is (Remove x k) h m = cc
  listed_is (Push x i) h m = push_made x i m
  listed_is (Insert x n i) h m = insert_made x n i
  listed_is (Put x n i) h m = put_made x n i
  listed_is (Move x f t) h m = move_made x f t m
  listed_is (Take x n) h m = take_made x n
  listed_is (Clear x) h m = cc

  clear_is : (x : NodeId) → made_on kind d c cs None (Clear x) ≡ cleared c cs
  clear_is x = on_kind _ _

no_child : (t : Nodes) (e : Edit) → looks e ≡ true → removed_child t e ≡ None
no_child t (Set x k i) h = cc
no_child t (Update x fs) h = cc
no_child t (Remove x k) h = cc
no_child t (Push x i) h = refl
no_child t (Insert x n i) h = refl
no_child t (Put x n i) h = refl
no_child t (Move x f u) h = refl
no_child t (Take x n) h = refl
no_child t (Clear x) h = cc

module _ (t : Nodes) (c : Clocks) (e : Edit) (n : Node) (there : get t (target e) ≡ Some n) where
  made_there : make t c e ≡ made_on n.kind n.depth c (children t (target e)) (removed_child t e) e
  made_there = ap (make_at t c e) there

  pub made_list : is_list n.kind ≡ true → looks e ≡ true → (count : ℕ) (item : Option NodeId) (left right : Option (List ℕ)) → count ≤ end
      → count ≡ length (children t (target e)) → item ≡ id_at (children t (target e)) (index_of e)
      → left ≡ left_of (gap_of e) (children t (target e)) → right ≡ right_of (gap_of e) (children t (target e))
      → make t c e ≡ listed c n.depth e count item left right
  made_list list h count item left right m p q r s =
      let few : length (children t (target e)) ≤ end = omega (arith, m, p) in
      made_there
      ∙ ap (λ o. made_on n.kind n.depth c (children t (target e)) o e) (no_child t e h)
      ∙ listed_is c n.depth n.kind list (children t (target e)) e h few
      ∙ (λ j. listed c n.depth e (sym p j) (sym q j) (sym r j) (sym s j))

pub made_clear : (t : Nodes) (c : Clocks) (x : NodeId) (n : Node) → get t x ≡ Some n → is_list n.kind ≡ true → make t c (Clear x) ≡ cleared c (children t x)
made_clear t c x n there list = made_there t c (Clear x) n there ∙ clear_is c n.depth n.kind list (children t x) x

pub made_other : (t : Nodes) (c : Clocks) (e : Edit) (n : Node) → get t (target e) ≡ Some n → is_list n.kind ≡ false → make t c e ≡ made_on n.kind n.depth c (children t (target e)) (removed_child t e) e
made_other t c e n there list = made_there t c e n there
