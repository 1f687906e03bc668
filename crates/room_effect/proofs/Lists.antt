-- Each edit of a list has its effect.
use Rattle.std.proofs.Common.{◌≡◌, ◌≢◌, ◌≤◌, ◌<◌, ◌+◌, ◌==◌, ℕ, zero, suc, Bool, true, false, cond, nat_lt, nat_le, List, [], ◌∷◌, ◌++◌, length, map, Option, Some, None, option_map, is_some, refl, sym, ap, ◌∙◌, subst, arith}
use Rattle.std.specs.Prelude.{Ok, Err, slice_get}
use Rattle.std.specs.List.{insert as insert_at, remove as remove_at}
use Rattle.std.proofs.lemmas.Bool.Decides.{nat_tests}
use Rattle.std.proofs.lemmas.Option.{slice_get-map}
use Rattle.std.specs.FinMap.{get}
use Rattle.room_json.specs.Fields.{and_then}
use Rattle.room_ids.specs.declared.ids.NodeId.{NodeId}
use Rattle.room_json.specs.Value.{Value, list, values_of}
use Rattle.room_nodes.specs.declared.nodes.Kind.{Kind}
use Rattle.room_nodes.specs.declared.nodes.Kind.TheVariants.{Object, List as Listed, Map as Mapped, Register}
use Rattle.room_nodes.specs.declared.nodes.Node.{Node}
use Rattle.room_nodes.specs.Shape.{Nodes, IsFormed, children, is_list}
use Rattle.room_items.specs.View.{view_at, view_within, second}
use Rattle.room_log.specs.Log.{bodies_of}
use Rattle.room_model.specs.Edits as edits
use Rattle.room_model.specs.Edits.{Edit, EditFault, Clocks, Made, Push, Insert, Put, Move, Take, Clear, make, below, named_effect, on_list, moved_item, too_long, inserted_key, moved_key, key_in, id_in, delete_bodies, move_bodies}
use Rattle.room_model.specs.Init.{Init, creates, init_view, node_depth, positions_in}
use Rattle.room_model.specs.Sound.{IsSoundInit}
use Rattle.room_effect.specs.Beside.{Kids}
use Rattle.room_effect.specs.Effect.{Changes}
use Rattle.room_effect.proofs.Clearing.{clear_changes}
use Rattle.room_effect.proofs.Created.{FreshFrom}
use Rattle.room_effect.proofs.Gaps.{Kid, inside, insert_key, move_right, move_left}
use Rattle.room_effect.proofs.Inserted.{item_changes}
use Rattle.room_effect.proofs.Items.{items_of, list_view, on_items, length_map}
use Rattle.room_effect.proofs.Keyed.{kids_of}
use Rattle.room_effect.proofs.Local.{Pair}
use Rattle.room_effect.proofs.Makes.{makes}
use Rattle.room_effect.proofs.Moved.{move_changes, left_after, right_after, left_before, right_before, length_removed}
use Rattle.room_effect.proofs.Planting.{first_short}
use Rattle.room_effect.proofs.Replaced.{put_changes}
use Rattle.room_effect.proofs.Still.{none_changes}
use Rattle.room_effect.proofs.Taken.{take_changes}

listed : (k : Kind) → is_list k ≡ true → k ≡ Listed
listed (Object fs) e = cc
listed Listed e = refl
listed Mapped e = cc
listed (Register v) e = cc

-- indices that are allowed

test_ok : (b : Bool) (f : EditFault) (o : Option ℕ) → cond b (Ok None) (Err f) ≡ Ok o → b ≡ true
test_ok true f o h = refl
test_ok false f o h = cc

both_ok : (b d : Bool) (f g : EditFault) (o : Option ℕ) → and_then (cond b (Ok None) (Err f)) (λ (p : Option ℕ). cond d (Ok None) (Err g)) ≡ Ok o → (b ≡ true) × (d ≡ true)
both_ok true d f g o h = (refl, test_ok d g o h)
both_ok false d f g o h = cc

got_by : (o : Option Kid) → is_some o ≡ true → (e : Kid) × (o ≡ Some e)
got_by None h = cc
got_by (Some e) h = (e, refl)

got : (cs : Kids) (i : ℕ) → nat_lt i (length cs) ≡ true → (e : Kid) × (slice_get cs i ≡ Some e)
got cs i h = got_by (slice_get cs i) (sym (inside cs i) ∙ h)

-- values by index

insert_end : (vs : List Value) (n : ℕ) (v : Value) → n ≡ length vs → insert_at vs n v ≡ vs ++ v ∷ []
insert_end vs n v is = ap (λ m. insert_at vs m v) is ∙ at_end vs v
  where
    at_end : (vs : List Value) (v : Value) → insert_at vs (length vs) v ≡ vs ++ v ∷ []
    at_end [] v = refl
    at_end (w ∷ vs) v = ap (λ ws. w ∷ ws) (at_end vs v)

put_back : (vs : List Value) (i : ℕ) (v : Value) → slice_get vs i ≡ Some v → insert_at (remove_at vs i) i v ≡ vs
put_back [] i v h = cc
put_back (w ∷ vs) zero v h = cc
put_back (w ∷ vs) (suc i) v h = ap (λ ws. w ∷ ws) (put_back vs i v h)

module _ (t : Nodes) (f : IsFormed t) (x : NodeId) (n : Node) (there : get t x ≡ Some n) (kind : n.kind ≡ Listed) where
  abbrev cs : Kids
  cs = children t x

  abbrev shown : Kid → Pair
  shown e = (e.0, view_within 59 t e.1)

  many : length cs ≡ length (items_of t x)
  many = sym (length_second (kids_of 59 t x) ∙ length_map shown cs)
    where
      length_second : (es : List Pair) → length (map second es) ≡ length es
      length_second [] = refl
      length_second (e ∷ es) = ap suc (length_second es)

  item_at : (i : ℕ) (e : Kid) → slice_get cs i ≡ Some e → slice_get (items_of t x) i ≡ Some (view_within 59 t e.1)
  item_at i e at = slice_get-map second (kids_of 59 t x) i ∙ ap (option_map second) (slice_get-map shown cs i ∙ ap (option_map shown) at)

  module _ (a c : ℕ) (new : FreshFrom t a c) (i : Init) (deep : node_depth (n.depth + 1) i ≤ 60) (sound : IsSoundInit i) where
    pub push_effect : too_long (inserted_key cs (length cs) ∷ positions_in i) ≡ None → Changes t x (creates a c x (inserted_key cs (length cs)) None i) (named_effect (Push x i))
    push_effect long =
        let s = first_short (inserted_key cs (length cs)) (positions_in i) long in
        item_changes t f x n there kind (length cs) (omega arith) (inserted_key cs (length cs)) (sym (insert_key cs (length cs) (omega arith))) s.0 a c new i deep s.1 sound
        (λ vs. vs ++ init_view i ∷ []) (insert_end (items_of t x) (length cs) (init_view i) many)

    pub insert_effect : (g : ℕ) → g ≤ length cs → too_long (inserted_key cs g ∷ positions_in i) ≡ None → Changes t x (creates a c x (inserted_key cs g) None i) (named_effect (Insert x g i))
    insert_effect g within long =
        let s = first_short (inserted_key cs g) (positions_in i) long in
        item_changes t f x n there kind g within (inserted_key cs g) (sym (insert_key cs g within)) s.0 a c new i deep s.1 sound (λ vs. insert_at vs g (init_view i)) refl

    pub put_effect : (j : ℕ) → nat_lt j (length cs) ≡ true → too_long (positions_in i) ≡ None → Changes t x (creates a c x (key_in (slice_get cs j)) (id_in (slice_get cs j)) i) (named_effect (Put x j i))
    put_effect j within short =
        let e = got cs j within in
        subst (λ (o : Option Kid). Changes t x (creates a c x (key_in o) (id_in o) i) (named_effect (Put x j i))) (sym e.1)
        (put_changes t f x n there kind j e.0 e.1 a c new i deep short sound)

  pub take_effect : (j : ℕ) → nat_lt j (length cs) ≡ true → Changes t x (delete_bodies (id_in (slice_get cs j))) (named_effect (Take x j))
  take_effect j within =
      let e = got cs j within in
      subst (λ (o : Option Kid). Changes t x (delete_bodies (id_in o)) (named_effect (Take x j))) (sym e.1) (take_changes t f x n there kind j e.0 e.1)

  stays : (i : ℕ) → nat_lt i (length cs) ≡ true → Changes t x [] (named_effect (Move x i i))
  stays i within =
      let e = got cs i within in
      let vs = items_of t x in
      let v = view_within 59 t e.0.1 in
      let got_it = item_at i e.0 e.1 in
      let is = list_view t x n there kind in
      let same : moved_item vs i i (slice_get vs i) ≡ vs = ap (moved_item vs i i) got_it ∙ put_back vs i v got_it in
      none_changes t f x n there (named_effect (Move x i i))
      (is ∙ ap (λ ws. list (values_of ws)) (sym same) ∙ sym (on_items (λ ws. moved_item ws i i (slice_get ws i)) (view_at t x) vs is))

  module _ (i j : ℕ) (from : nat_lt i (length cs) ≡ true) (to : nat_lt j (length cs) ≡ true) where
    far : length (kids_of 59 t x) ≡ length cs
    far = length_map shown cs

    j_low : j < length cs
    j_low = grind (arith, nat_tests, to)

    i_low : i < length cs
    i_low = grind (arith, nat_tests, from)

    few : j ≤ length (remove_at (kids_of 59 t x) i)
    few = let l = length_removed (kids_of 59 t x) i (omega (arith, far, i_low)) in omega (arith, l, far, j_low)

    e : (d : Kid) × (slice_get cs i ≡ Some d)
    e = got cs i from

    goes : insert_at (remove_at (items_of t x) i) j (view_within 59 t e.0.1) ≡ moved_item (items_of t x) i j (slice_get (items_of t x) i)
    goes = sym (ap (moved_item (items_of t x) i j) (item_at i e.0 e.1))

    moves_by : (b : Bool) → nat_lt i j ≡ b → i ≢ j → length (moved_key cs i j) ≤ 4096 → Changes t x (move_bodies (Some e.0.1) (moved_key cs i j)) (named_effect (Move x i j))
    moves_by true l off fits =
        let less : i < j = grind (arith, nat_tests, l) in
        let one : j + 1 ≡ suc j = omega arith in
        let within : suc j ≤ length cs = omega (arith, j_low) in
        move_changes t f x n there kind i e.0 e.1 (suc j) within (moved_key cs i j)
        (move_right cs i j less j_low ∙ ap (inserted_key cs) one ∙ sym (insert_key cs (suc j) within)) fits j few
        (left_after (kids_of 59 t x) i j less (omega (arith, far, j_low))) (right_after (kids_of 59 t x) i j less (omega (arith, far, j_low)))
        (λ vs. moved_item vs i j (slice_get vs i)) goes
    moves_by false l off fits =
        let less : j < i = grind (arith, nat_tests, l, off) in
        let within : j ≤ length cs = omega (arith, j_low) in
        move_changes t f x n there kind i e.0 e.1 j within (moved_key cs i j)
        (move_left cs i j less j_low ∙ sym (insert_key cs j within)) fits j few
        (left_before (kids_of 59 t x) i j less (omega (arith, far, i_low))) (right_before (kids_of 59 t x) i j less (omega (arith, far, i_low)))
        (λ vs. moved_item vs i j (slice_get vs i)) goes

    move_by : (b : Bool) → (i == j) ≡ b → too_long (cond b [] (moved_key cs i j ∷ [])) ≡ None → Changes t x (cond b [] (move_bodies (id_in (slice_get cs i)) (moved_key cs i j))) (named_effect (Move x i j))
    move_by true is long = let same : i ≡ j = grind (arith, nat_tests, is) in subst (λ m. Changes t x [] (named_effect (Move x i m))) same (stays i from)
    move_by false is long =
        let off : i ≢ j = grind (arith, nat_tests, is) in
        subst (λ (o : Option Kid). Changes t x (move_bodies (id_in o) (moved_key cs i j)) (named_effect (Move x i j))) (sym e.1)
        (moves_by (nat_lt i j) refl off (first_short (moved_key cs i j) [] long).0)

    pub move_effect : too_long (cond (i == j) [] (moved_key cs i j ∷ [])) ≡ None → Changes t x (cond (i == j) [] (move_bodies (id_in (slice_get cs i)) (moved_key cs i j))) (named_effect (Move x i j))
    move_effect long = move_by (i == j) refl long

-- what was made of each

module _ (t : Nodes) (f : IsFormed t) (c : Clocks) (m : Made) (new : FreshFrom t c.actor c.node) where
  pub pushes : (x : NodeId) (i : Init) → IsSoundInit i → make t c (Push x i) ≡ Ok m → Changes t x (bodies_of m.ops) (named_effect (Push x i))
  pushes x i sound made =
      let d = makes t c (Push x i) m made in
      subst (λ bs. Changes t x bs (named_effect (Push x i))) (sym d.is) (push_effect t f x d.node d.there (listed d.node.kind d.edit) c.actor c.node new i d.deep sound d.short)

  pub inserts : (x : NodeId) (g : ℕ) (i : Init) → IsSoundInit i → make t c (Insert x g i) ≡ Ok m → Changes t x (bodies_of m.ops) (named_effect (Insert x g i))
  inserts x g i sound made =
      let d = makes t c (Insert x g i) m made in
      let low = test_ok (nat_le g (length (children t x))) (edits.BadIndex g (length (children t x))) d.index d.indices in
      subst (λ bs. Changes t x bs (named_effect (Insert x g i))) (sym d.is)
      (insert_effect t f x d.node d.there (listed d.node.kind d.edit) c.actor c.node new i d.deep sound g (grind (arith, nat_tests, low)) d.short)

  pub puts : (x : NodeId) (j : ℕ) (i : Init) → IsSoundInit i → make t c (Put x j i) ≡ Ok m → Changes t x (bodies_of m.ops) (named_effect (Put x j i))
  puts x j i sound made =
      let d = makes t c (Put x j i) m made in
      let low = test_ok (nat_lt j (length (children t x))) (edits.BadIndex j (length (children t x))) d.index d.indices in
      subst (λ bs. Changes t x bs (named_effect (Put x j i))) (sym d.is)
      (put_effect t f x d.node d.there (listed d.node.kind d.edit) c.actor c.node new i d.deep sound j low d.short)

pub moves : (t : Nodes) → IsFormed t → (c : Clocks) (m : Made) (x : NodeId) (i j : ℕ) → make t c (Move x i j) ≡ Ok m → Changes t x (bodies_of m.ops) (named_effect (Move x i j))
moves t f c m x i j made =
    let d = makes t c (Move x i j) m made in
    let count = length (children t x) in
    let low = both_ok (nat_lt i count) (nat_lt j count) (edits.BadIndex i count) (edits.BadIndex j count) d.index d.indices in
    subst (λ bs. Changes t x bs (named_effect (Move x i j))) (sym d.is) (move_effect t f x d.node d.there (listed d.node.kind d.edit) i j low.0 low.1 d.short)

pub takes : (t : Nodes) → IsFormed t → (c : Clocks) (m : Made) (x : NodeId) (j : ℕ) → make t c (Take x j) ≡ Ok m → Changes t x (bodies_of m.ops) (named_effect (Take x j))
takes t f c m x j made =
    let d = makes t c (Take x j) m made in
    let low = test_ok (nat_lt j (length (children t x))) (edits.BadIndex j (length (children t x))) d.index d.indices in
    subst (λ bs. Changes t x bs (named_effect (Take x j))) (sym d.is) (take_effect t f x d.node d.there (listed d.node.kind d.edit) j low)

pub clears : (t : Nodes) → IsFormed t → (c : Clocks) (m : Made) (x : NodeId) → make t c (Clear x) ≡ Ok m → Changes t x (bodies_of m.ops) (named_effect (Clear x))
clears t f c m x made =
    let d = makes t c (Clear x) m made in
    subst (λ bs. Changes t x bs (named_effect (Clear x))) (sym d.is) (clear_changes t f x d.node d.there (listed d.node.kind d.edit))
