-- The operations that a sound edit makes on a valid tree are valid, and its counters stay in their bounds.
use Rattle.std.proofs.Common.{◌≡◌, ◌⊎◌, inl, inr, ◌≤◌, ◌<◌, ◌+◌, ◌-◌, ℕ, Bool, true, false, cond, ◌==◌, ◌||◌, not, nat_le, nat_lt, is_some, List, [], ◌∷◌, length, Option, Some, None, refl, sym, ap, ◌∙◌, subst, arith}
use Rattle.std.specs.Prelude.{IsUtf8, slice_get, Result, Ok, Err}
use Rattle.std.specs.FinMap.{get, entries}
use Rattle.std.proofs.Math.Nat.{le-max_left, le-max_right}
use Rattle.std.proofs.lemmas.Bool.Decides.{nat_tests}
use Rattle.room_json.specs.Value.{depth}
use Rattle.room_json.specs.Fields.{and_then}
use Rattle.room_json.specs.Profile.{AreSoundMembers}
use Rattle.room_ids.specs.Laws.{IsNodeInRange}
use Rattle.room_ids.specs.Position.{is_pos}
use Rattle.room_ids.specs.declared.ids.NodeId.{NodeId}
use Rattle.room_nodes.specs.declared.nodes.Node.{Node}
use Rattle.room_nodes.specs.declared.nodes.Kind.{Kind}
use Rattle.room_nodes.specs.declared.nodes.Kind.TheVariants.{Object, List as Listed, Map, Register}
use Rattle.room_nodes.specs.declared.nodes.Body.{Body}
use Rattle.room_nodes.specs.declared.nodes.Body.TheVariants.{DeleteKey}
use Rattle.room_nodes.specs.Shallow.{are_shallow}
use Rattle.room_nodes.specs.Shape.{Nodes, children, child_at, has_field, is_list}
use Rattle.room_nodes.specs.Sound.{IsSomeInRange}
use Rattle.room_nodes.proofs.Children.{Child, is_child_of, answer_of, child_at_some}
use Rattle.room_nodes.proofs.Fitting.{the_parent}
use Rattle.room_nodes.proofs.Listing.{Has}
use Rattle.room_nodes.proofs.Places.{children_sorted}
use Rattle.room_log.specs.Log.{bodies_of}
use Rattle.room_log.specs.Follows.{most, most_actor}
use Rattle.room_model.specs.Edits as edits
use Rattle.room_model.specs.Edits.{Edit, EditFault, Clocks, Made, target, has_edit, indices, below, value_depth, made_depth, fields_most, key_in, key_at, id_in, id_at, inserted_key, moved_key, made_positions, too_long, set_bodies, update_bodies, delete_bodies, remove_bodies, move_bodies, clear_bodies, bodies, set_nodes, made_nodes, spent, made, clocked, placed, removed_child, make_of, make_at, make}
use Rattle.room_model.specs.Init.{Init, Plain, AnObject, AMap, AList, nodes_in, plain_depth, positions_in, creates}
use Rattle.room_model.specs.Sound.{IsValidTree, AreValidBodies, IsSoundInit, IsSoundEdit}
use Rattle.room_laws.proofs.Ops.{bodies_again}
use Rattle.room_laws.proofs.Patches.{Members}
use Rattle.room_laws.proofs.Reversals.{EachValid, one_field, of_each}
use Rattle.room_laws.proofs.MadeNodes.{valid_creates, is_low}
use Rattle.room_laws.proofs.MadePositions.{ArePositions, Kids, pos_utf8, all_short, made_in, got_has, there_at, inserted_pos, moved_pos}
use Rattle.room_laws.proofs.Facts.{some_is, ok_is, both}

-- what a made edit says

pub record Makes (t : Nodes) (c : Clocks) (e : Edit) (m : Made) : Type 0 where
  pub node : Node
  pub there : get t (target e) ≡ Some node
  pub edit : has_edit node.kind e ≡ true
  pub indices : indices (length (children t (target e))) e ≡ Ok None
  pub low : value_depth e ≤ 50
  pub short : too_long (made_positions (children t (target e)) e) ≡ None
  pub nodes : spent c.node (made_nodes node.kind e) ≡ None
  pub ops : spent c.op (length (bodies node.kind (children t (target e)) (removed_child t e) c.actor c.node e)) ≡ None
  pub is : m ≡ made c (made_nodes node.kind e) (bodies node.kind (children t (target e)) (removed_child t e) c.actor c.node e)

module _ (t : Nodes) (c : Clocks) (e : Edit) (m : Made) (n : Node) (there : get t (target e) ≡ Some n) where
  abbrev cs : Kids
  cs = children t (target e)

  abbrev bs : List Body
  bs = bodies n.kind cs (removed_child t e) c.actor c.node e

  clocked_says : (o p : Option ℕ) → spent c.node (made_nodes n.kind e) ≡ o → spent c.op (length bs) ≡ p → has_edit n.kind e ≡ true → indices (length cs) e ≡ Ok None → value_depth e ≤ 50 → too_long (made_positions cs e) ≡ None
      → clocked c (made_nodes n.kind e) bs o p ≡ Ok m → Makes t c e m
  clocked_says (Some l) p q r edit ix low short h = cc
  clocked_says None (Some l) q r edit ix low short h = cc
  clocked_says None None q r edit ix low short h = record { node = n; there = there; edit = edit; indices = ix; low = low; short = short; nodes = q; ops = r; is = sym (ok_is _ m h) }

  placed_says : (o : Option ℕ) → too_long (made_positions cs e) ≡ o → has_edit n.kind e ≡ true → indices (length cs) e ≡ Ok None → value_depth e ≤ 50 → placed c (made_nodes n.kind e) bs o ≡ Ok m → Makes t c e m
  placed_says (Some l) q edit ix low h = cc
  placed_says None q edit ix low h = clocked_says (spent c.node (made_nodes n.kind e)) (spent c.op (length bs)) refl refl edit ix low q h

  low_says : (a b : Bool) → nat_lt 50 (value_depth e) ≡ a → has_edit n.kind e ≡ true → indices (length cs) e ≡ Ok None
      → cond a (Err (edits.ValueTooDeep (value_depth e))) (cond b (Err (edits.NodeTooDeep (made_depth n.kind (n.depth + 1) e))) (placed c (made_nodes n.kind e) bs (too_long (made_positions cs e)))) ≡ Ok m → Makes t c e m
  low_says true b q edit ix h = cc
  low_says false true q edit ix h = cc
  low_says false false q edit ix h = placed_says (too_long (made_positions cs e)) refl edit ix (grind (arith, nat_tests, q)) h

  index_says : (r : Result (Option ℕ) EditFault) → indices (length cs) e ≡ r → ((o : Option ℕ) → r ≡ Ok o → o ≡ None) → has_edit n.kind e ≡ true
      → and_then r (λ (o : Option ℕ). cond (nat_lt 50 (value_depth e)) (Err (edits.ValueTooDeep (value_depth e))) (cond (nat_lt 60 (made_depth n.kind (n.depth + 1) e)) (Err (edits.NodeTooDeep (made_depth n.kind (n.depth + 1) e))) (placed c (made_nodes n.kind e) bs (too_long (made_positions cs e))))) ≡ Ok m
      → Makes t c e m
  index_says (Err f) q none edit h = cc
  index_says (Ok o) q none edit h = low_says (nat_lt 50 (value_depth e)) (nat_lt 60 (made_depth n.kind (n.depth + 1) e)) refl edit (q ∙ ap Ok (none o refl)) h

-- the answer of a test of indices says nothing more

none_by : (b : Bool) (f : EditFault) (o : Option ℕ) → cond b (Ok None) (Err f) ≡ Ok o → o ≡ None
none_by true f o h = sym (ok_is None o h)
none_by false f o h = cc

move_by : (b d : Bool) (f g : EditFault) (o : Option ℕ) → and_then (cond b (Ok None) (Err f)) (λ (p : Option ℕ). cond d (Ok None) (Err g)) ≡ Ok o → o ≡ None
move_by true d f g o h = none_by d g o h
move_by false d f g o h = cc

none_index : (n : ℕ) (e : Edit) (o : Option ℕ) → indices n e ≡ Ok o → o ≡ None
none_index n (edits.Insert x i v) o h = none_by (nat_le i n) (edits.BadIndex i n) o h
none_index n (edits.Put x i v) o h = none_by (nat_lt i n) (edits.BadIndex i n) o h
none_index n (edits.Move x f t) o h = move_by (nat_lt f n) (nat_lt t n) (edits.BadIndex f n) (edits.BadIndex t n) o h
none_index n (edits.Take x i) o h = none_by (nat_lt i n) (edits.BadIndex i n) o h
none_index n (edits.Set x k i) o h = sym (ok_is None o h)
none_index n (edits.Update x fs) o h = sym (ok_is None o h)
none_index n (edits.Remove x k) o h = sym (ok_is None o h)
none_index n (edits.Push x i) o h = sym (ok_is None o h)
none_index n (edits.Clear x) o h = sym (ok_is None o h)

edit_by : (t : Nodes) (c : Clocks) (e : Edit) (m : Made) (n : Node) (b : Bool) → get t (target e) ≡ Some n → has_edit n.kind e ≡ b
    → cond (not b) (Err (edits.WrongKind (target e)))
    (and_then (indices (length (children t (target e))) e) (λ (o : Option ℕ). cond (nat_lt 50 (value_depth e)) (Err (edits.ValueTooDeep (value_depth e))) (cond (nat_lt 60 (made_depth n.kind (n.depth + 1) e)) (Err (edits.NodeTooDeep (made_depth n.kind (n.depth + 1) e)))
    (placed c (made_nodes n.kind e) (bodies n.kind (children t (target e)) (removed_child t e) c.actor c.node e) (too_long (made_positions (children t (target e)) e)))))) ≡ Ok m
    → Makes t c e m
edit_by t c e m n true there q h = index_says t c e m n there (indices (length (children t (target e))) e) refl (none_index (length (children t (target e))) e) q h
edit_by t c e m n false there q h = cc

makes_at : (t : Nodes) (c : Clocks) (e : Edit) (m : Made) (o : Option Node) → get t (target e) ≡ o → make_at t c e o ≡ Ok m → Makes t c e m
makes_at t c e m None there h = cc
makes_at t c e m (Some n) there h = edit_by t c e m n (has_edit n.kind e) there refl h

pub makes : (t : Nodes) (c : Clocks) (e : Edit) (m : Made) → make t c e ≡ Ok m → Makes t c e m
makes t c e m h = makes_at t c e m (get t (target e)) refl h

-- counters

either : (a b : Bool) → (a || b) ≡ true → (a ≡ true) ⊎ (b ≡ true)
either true b h = inl refl
either false b h = inr h

spent_by : (b : Bool) (last : ℕ) → cond b None (Some last) ≡ None → b ≡ true
spent_by true last h = refl
spent_by false last h = cc

-- a counter that isn't spent stays within its bound
pub unspent : (next count : ℕ) → spent next count ≡ None → next ≤ most + 1 → next + count ≤ most + 1
unspent next count h l = elim (either (count == 0) (nat_le (next + count - 1) most) (spent_by ((count == 0) || nat_le (next + count - 1) most) (next + count - 1) h)) [
  | inl e ↦ grind (arith, nat_tests, e, l)
  | inr e ↦ grind (arith, nat_tests, e)
]

-- the children of a node

module _ (t : Nodes) (valid : IsValidTree t) (x : NodeId) where
  kid : (e : List ℕ × NodeId) → Has e (children t x) → Child x (entries t) e.0 e.1
  kid e h = is_child_of x (entries t) e h

  kid_there : (e : List ℕ × NodeId) (h : Has e (children t x)) → get t e.1 ≡ Some (kid e h).node
  kid_there e h = answer_of t (e.1, (kid e h).node) (kid e h).has

  kid_range : (e : List ℕ × NodeId) → Has e (children t x) → IsNodeInRange e.1
  kid_range e h = (valid.sound e.1 (kid e h).node (kid_there e h)).0

  kid_utf8 : (e : List ℕ × NodeId) → Has e (children t x) → IsUtf8 e.0
  kid_utf8 e h = subst IsUtf8 (kid e h).key (valid.sound e.1 (kid e h).node (kid_there e h)).1.key

  placed_by : (a b : Bool) → (not a || b) ≡ true → a ≡ true → b ≡ true
  placed_by true b h e = h
  placed_by false b h e = cc

  kid_pos : (n : Node) → get t x ≡ Some n → is_list n.kind ≡ true → (e : List ℕ × NodeId) → Has e (children t x) → is_pos e.0 ≡ true
  kid_pos n there lists e h =
      let k = kid e h in
      let p = the_parent t valid.formed e.1 k.node k.made (kid_there e h) in
      let same : p.0 ≡ n = some_is p.0 n (sym p.1 ∙ ap (get t) k.parent ∙ there) in
      let holds : is_list (p.0).kind ≡ true = ap (λ (m : Node). is_list m.kind) same ∙ lists in
      subst (λ (j : List ℕ). is_pos j ≡ true) k.key (placed_by (is_list (p.0).kind) (is_pos k.node.key) (p.2).place holds)

  id_by : (o : Option (List ℕ × NodeId)) → ((e : List ℕ × NodeId) → o ≡ Some e → Has e (children t x)) → IsSomeInRange (id_in o)
  id_by None h = tt
  id_by (Some e) h = kid_range e (h e refl)

  id_range : (i : ℕ) → IsSomeInRange (id_at (children t x) i)
  id_range i = id_by (slice_get (children t x) i) (λ e g. got_has (children t x) i e g)

  key_utf8 : (i : ℕ) → i < length (children t x) → IsUtf8 (key_at (children t x) i)
  key_utf8 i l =
      let e = there_at (children t x) i l in
      subst (λ (o : Option (List ℕ × NodeId)). IsUtf8 (key_in o)) (sym e.1) (kid_utf8 e.0 (got_has (children t x) i e.0 e.1))

  removed_by : (k : List ℕ) (o : Option NodeId) → child_at t x k ≡ o → IsSomeInRange o
  removed_by k None e = tt
  removed_by k (Some y) e = let c = child_at_some t x k y e in (valid.sound y c.0 c.1).0

-- operations that take out or move

delete_valid : (o : Option NodeId) → IsSomeInRange o → EachValid (delete_bodies o)
delete_valid None h = tt
delete_valid (Some y) h = ((h, refl), tt)

move_valid : (o : Option NodeId) (k : List ℕ) → IsSomeInRange o → IsUtf8 k → EachValid (move_bodies o k)
move_valid None k h name = tt
move_valid (Some y) k h name = (((h, name), refl), tt)

clear_valid : (cs : Kids) → ((e : List ℕ × NodeId) → Has e cs → IsNodeInRange e.1) → EachValid (clear_bodies cs)
clear_valid [] h = tt
clear_valid (c ∷ cs) h = ((h c (inl refl), refl), clear_valid cs (λ e m. h e (inr m)))

key_by : (b : Bool) (x : NodeId) (k : List ℕ) → IsNodeInRange x → IsUtf8 k → EachValid (cond b (DeleteKey x k ∷ []) [])
key_by true x k range name = (((range, name), refl), tt)
key_by false x k range name = tt

remove_valid : (kind : Kind) (x : NodeId) (k : List ℕ) (o : Option NodeId) → IsNodeInRange x → IsUtf8 k → IsSomeInRange o → EachValid (remove_bodies kind x k o)
remove_valid (Object fs) x k o range name h = key_by (has_field k (Object fs) || is_some o) x k range name
remove_valid Listed x k o range name h = delete_valid o h
remove_valid Map x k o range name h = delete_valid o h
remove_valid (Register v) x k o range name h = delete_valid o h

-- fields

low_fields : (fs : Members) → fields_most fs ≤ 50 → are_shallow fs ≡ true
low_fields [] h = refl
low_fields (f ∷ fs) h = both (nat_le (depth f.1) 55) (are_shallow fs) (is_low (depth f.1) 55 (omega (arith, h, le-max_left (depth f.1) (fields_most fs))) (omega arith))
    (low_fields fs (omega (arith, h, le-max_right (depth f.1) (fields_most fs))))

update_valid : (x : NodeId) (fs : Members) → IsNodeInRange x → AreSoundMembers fs → fields_most fs ≤ 50 → EachValid (update_bodies x fs)
update_valid x [] range s l = tt
update_valid x (f ∷ fs) range s l = (((range, s), low_fields (f ∷ fs) l), tt)

-- an index that passes its test

under : (b : Bool) (f : EditFault) → ◌≡◌ {A = Result (Option ℕ) EditFault} (cond b (Ok None) (Err f)) (Ok None) → b ≡ true
under true f h = refl
under false f h = cc

under_both : (b d : Bool) (f g : EditFault) → ◌≡◌ {A = Result (Option ℕ) EditFault} (and_then (cond b (Ok None) (Err f)) (λ (p : Option ℕ). cond d (Ok None) (Err g))) (Ok None) → (b ≡ true) × (d ≡ true)
under_both true d f g h = (refl, under d g h)
under_both false d f g h = cc

module _ (a : ℕ) (actor : a ≤ most_actor) where
  set_valid : (kind : Kind) (c : ℕ) (x : NodeId) (k : List ℕ) (i : Init) → c + set_nodes kind i ≤ most + 1 → IsNodeInRange x → IsUtf8 k → IsSoundInit i → plain_depth i ≤ 50 → ArePositions (positions_in i) → EachValid (set_bodies kind a c x k i)
  set_valid (Object fs) c x k (Plain v) l range name s d p = (one_field x k v range name (s, is_low (depth v) 55 d (omega arith)), tt)
  set_valid (Object fs) c x k (AnObject ps) l range name s d p = valid_creates a actor c x k None (AnObject ps) range name tt (record { clocks = l; sound = s; low = d; positions = p })
  set_valid (Object fs) c x k (AMap ps) l range name s d p = valid_creates a actor c x k None (AMap ps) range name tt (record { clocks = l; sound = s; low = d; positions = p })
  set_valid (Object fs) c x k (AList is) l range name s d p = valid_creates a actor c x k None (AList is) range name tt (record { clocks = l; sound = s; low = d; positions = p })
  set_valid Listed c x k i l range name s d p = valid_creates a actor c x k None i range name tt (record { clocks = l; sound = s; low = d; positions = p })
  set_valid Map c x k i l range name s d p = valid_creates a actor c x k None i range name tt (record { clocks = l; sound = s; low = d; positions = p })
  set_valid (Register v) c x k i l range name s d p = valid_creates a actor c x k None i range name tt (record { clocks = l; sound = s; low = d; positions = p })

  module _ (t : Nodes) (valid : IsValidTree t) (n : Node) (c : ℕ) where
    -- a new item at a position
    item_valid : (x : NodeId) (k : List ℕ) (r : Option NodeId) (i : Init) → IsUtf8 k → IsSomeInRange r → c + nodes_in i ≤ most + 1 → IsNodeInRange x → IsSoundInit i → plain_depth i ≤ 50 → too_long (positions_in i) ≡ None → EachValid (creates a c x k r i)
    item_valid x k r i name gone l range s d short = valid_creates a actor c x k r i range name gone (record { clocks = l; sound = s; low = d; positions = made_in i (all_short (positions_in i) short) })

    later_short : (k : List ℕ) (ps : List (List ℕ)) → too_long (k ∷ ps) ≡ None → too_long ps ≡ None
    later_short k ps e = after_by (nat_lt 4096 (length k)) (length k) (too_long ps) e
      where
        after_by : (b : Bool) (m : ℕ) (o : Option ℕ) → cond b (Some m) o ≡ None → o ≡ None
        after_by true m o e = cc
        after_by false m o e = e

    module _ (x : NodeId) (there : get t x ≡ Some n) (lists : is_list n.kind ≡ true) where
      positions : (e : List ℕ × NodeId) → Has e (children t x) → is_pos e.0 ≡ true
      positions e h = kid_pos t valid x n there lists e h

      inserted_utf8 : (i : ℕ) (ps : List (List ℕ)) → i ≤ length (children t x) → too_long (inserted_key (children t x) i ∷ ps) ≡ None → IsUtf8 (inserted_key (children t x) i)
      inserted_utf8 i ps l short =
          pos_utf8 (inserted_key (children t x) i) (inserted_pos (children t x) (children_sorted x (entries t)) positions i l (all_short (inserted_key (children t x) i ∷ ps) short).0)

      moved_by : (b : Bool) (f u : ℕ) → f < length (children t x) → u < length (children t x) → too_long (cond b [] (moved_key (children t x) f u ∷ [])) ≡ None
          → EachValid (cond b [] (move_bodies (id_at (children t x) f) (moved_key (children t x) f u)))
      moved_by true f u l m short = tt
      moved_by false f u l m short =
          move_valid (id_at (children t x) f) (moved_key (children t x) f u) (id_range t valid x f)
          (pos_utf8 (moved_key (children t x) f u) (moved_pos (children t x) (children_sorted x (entries t)) positions f u l m (all_short (moved_key (children t x) f u ∷ []) short).0))

    valid_bodies : (e : Edit) → get t (target e) ≡ Some n → has_edit n.kind e ≡ true → indices (length (children t (target e))) e ≡ Ok None → value_depth e ≤ 50
        → too_long (made_positions (children t (target e)) e) ≡ None → c + made_nodes n.kind e ≤ most + 1 → IsSoundEdit e → EachValid (bodies n.kind (children t (target e)) (removed_child t e) a c e)
    valid_bodies (edits.Set x k i) there edit ix low short l s = set_valid n.kind c x k i l s.0 s.1 s.2 low (made_in i (all_short (positions_in i) short))
    valid_bodies (edits.Update x fs) there edit ix low short l s = update_valid x fs s.0 s.1 low
    valid_bodies (edits.Remove x k) there edit ix low short l s = remove_valid n.kind x k (child_at t x k) s.0 s.1 (removed_by t valid x k (child_at t x k) refl)
    valid_bodies (edits.Push x i) there edit ix low short l s =
        let k = inserted_key (children t x) (length (children t x)) in
        item_valid x k None i (inserted_utf8 x there edit (length (children t x)) (positions_in i) (omega arith) short) tt l s.0 s.1 low (later_short k (positions_in i) short)
    valid_bodies (edits.Insert x j i) there edit ix low short l s =
        let k = inserted_key (children t x) j in
        let inside : j ≤ length (children t x) = let e : nat_le j (length (children t x)) ≡ true = under (nat_le j (length (children t x))) (edits.BadIndex j (length (children t x))) ix in grind (arith, nat_tests, e) in
        item_valid x k None i (inserted_utf8 x there edit j (positions_in i) inside short) tt l s.0 s.1 low (later_short k (positions_in i) short)
    valid_bodies (edits.Put x j i) there edit ix low short l s =
        let inside : j < length (children t x) = let e : nat_lt j (length (children t x)) ≡ true = under (nat_lt j (length (children t x))) (edits.BadIndex j (length (children t x))) ix in grind (arith, nat_tests, e) in
        item_valid x (key_at (children t x) j) (id_at (children t x) j) i (key_utf8 t valid x j inside) (id_range t valid x j) l s.0 s.1 low short
    valid_bodies (edits.Move x f u) there edit ix low short l s =
        let m = length (children t x) in
        let e = under_both (nat_lt f m) (nat_lt u m) (edits.BadIndex f m) (edits.BadIndex u m) ix in
        let from : f < m = let g : nat_lt f m ≡ true = e.0 in grind (arith, nat_tests, g) in
        let into : u < m = let g : nat_lt u m ≡ true = e.1 in grind (arith, nat_tests, g) in
        moved_by x there edit (f == u) f u from into short
    valid_bodies (edits.Take x j) there edit ix low short l s = delete_valid (id_at (children t x) j) (id_range t valid x j)
    valid_bodies (edits.Clear x) there edit ix low short l s = clear_valid (children t x) (kid_range t valid x)

-- what an edit that is made leaves
pub record IsMade (c : Clocks) (m : Made) : Type 0 where
  pub bodies : AreValidBodies (bodies_of m.ops)
  pub node : m.next.node ≤ most + 1
  pub op : c.op + length (bodies_of m.ops) ≤ most + 1

pub made_valid : (t : Nodes) (c : Clocks) (e : Edit) (m : Made) → IsValidTree t → IsSoundEdit e → c.actor ≤ most_actor → c.node ≤ most + 1 → c.op ≤ most + 1 → make t c e ≡ Ok m → IsMade c m
made_valid t c e m valid sound actor node op h =
    let k : Makes t c e m = makes t c e m h in
    let bs = bodies k.node.kind (children t (target e)) (removed_child t e) c.actor c.node e in
    let nodes = unspent c.node (made_nodes k.node.kind e) k.nodes node in
    let all : AreValidBodies bs = of_each bs (valid_bodies c.actor actor t valid k.node c.node e k.there k.edit k.indices k.low k.short nodes sound) in
    let same : bodies_of (made c (made_nodes k.node.kind e) bs).ops ≡ bs = bodies_again c.actor c.op bs in
    subst (λ (d : Made). IsMade c d) (sym k.is) (record {
      bodies = subst AreValidBodies (sym same) all;
      node = nodes;
      op = subst (λ (ds : List Body). c.op + length ds ≤ most + 1) (sym same) (unspent c.op (length bs) k.ops op);
    })
