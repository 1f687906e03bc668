-- The operations that make the nodes of a live value are valid.
use Rattle.std.proofs.Common.{◌≡◌, ◌≤◌, ◌+◌, ℕ, suc, Bool, true, false, cond, max, nat_le, List, [], ◌++◌, Option, None, Less, refl, sym, ap, subst, arith}
use Rattle.std.specs.Prelude.{IsUtf8}
use Rattle.std.specs.Ordering.{nat_cmp}
use Rattle.std.specs.Cmp.Lexicographic.{slice_cmp}
use Rattle.std.specs.List.{AllByRecursion}
use Rattle.std.specs.List.Sorted.{IsStrictlySortedBy}
use Rattle.std.specs.Map.{keys_of}
use Rattle.std.proofs.Math.Nat.{le-max_left, le-max_right}
use Rattle.std.proofs.lemmas.Bool.Decides.{nat_tests}
use Rattle.room_json.specs.Value.{Value, nothing, flag, whole, text, list, members, Values, no_values, value, values_of, values_list, Fields, no_fields, field, fields_of, fields_list, depth}
use Rattle.room_json.specs.View.{json_of}
use Rattle.room_json.specs.Back.{json_in}
use Rattle.room_json.specs.Profile.{IsJson, HaveJson, AreSoundMembers}
use Rattle.room_ids.specs.Laws.{IsNodeInRange}
use Rattle.room_ids.specs.Position.{first as first_position, after as after_position}
use Rattle.room_ids.specs.declared.ids.NodeId.{NodeId}
use Rattle.room_nodes.specs.declared.nodes.Body.{Body}
use Rattle.room_nodes.specs.Shallow.{are_shallow}
use Rattle.room_nodes.specs.Sound.{IsSomeInRange}
use Rattle.room_log.specs.Follows.{most, most_actor}
use Rattle.room_model.specs.Init.{Init, Plain, AnObject, AMap, AList, Parts, no_parts, part, Inits, no_inits, init, is_plain, nodes_in, live_nodes, part_nodes, init_nodes, plain_depth, parts_plain_depth, inits_plain_depth, positions_in, parts_positions, item_positions, plain_field, plain_fields, made_id, creates, live_creates, part_creates, item_creates}
use Rattle.room_model.specs.Sound.{IsSoundInit, AreSoundParts, AreSoundInits, names_of}
use Rattle.room_laws.proofs.Patches.{Members}
use Rattle.room_laws.proofs.Reversals.{EachValid, each_append}
use Rattle.room_laws.proofs.MadePositions.{ArePositions, pos_utf8, all_front, all_back}
use Rattle.room_ids.specs.Position.{is_pos}
use Rattle.room_laws.proofs.Facts.{both}

-- a value stands for itself

values_again : (vs : Values) → values_of (values_list vs) ≡ vs
values_again no_values = refl
values_again (value v vs) = ap (value v) (values_again vs)

fields_again : (fs : Fields) → fields_of (fields_list fs) ≡ fs
fields_again no_fields = refl
fields_again (field k v fs) = ap (field k v) (fields_again fs)

value_again : (v : Value) → json_of (json_in v) ≡ v
value_again nothing = refl
value_again (flag b) = refl
value_again (whole z) = refl
value_again (text s) = refl
value_again (list vs) = ap list (values_again vs)
value_again (members fs) = ap members (fields_again fs)

-- the plain members of a live object

below_by : (k j : List ℕ) (i : Init) (fs : Members) → slice_cmp nat_cmp k j ≡ Less → AllByRecursion (λ n. slice_cmp nat_cmp k n ≡ Less) (keys_of fs) → AllByRecursion (λ n. slice_cmp nat_cmp k n ≡ Less) (keys_of (plain_field j i ++ fs))
below_by k j (Plain v) fs l h = (l, h)
below_by k j (AnObject ps) fs l h = h
below_by k j (AMap ps) fs l h = h
below_by k j (AList is) fs l h = h

plain_below : (k : List ℕ) (ps : Parts) → AllByRecursion (λ n. slice_cmp nat_cmp k n ≡ Less) (names_of ps) → AllByRecursion (λ n. slice_cmp nat_cmp k n ≡ Less) (keys_of (plain_fields ps))
plain_below k no_parts h = tt
plain_below k (part j i ps) h = below_by k j i (plain_fields ps) h.0 (plain_below k ps h.1)

ordered_by : (k : List ℕ) (i : Init) (fs : Members) → AllByRecursion (λ n. slice_cmp nat_cmp k n ≡ Less) (keys_of fs) → IsStrictlySortedBy (slice_cmp nat_cmp) (keys_of fs) → IsStrictlySortedBy (slice_cmp nat_cmp) (keys_of (plain_field k i ++ fs))
unfolding IsStrictlySortedBy
ordered_by k (Plain v) fs b h = (b, h)
ordered_by k (AnObject ps) fs b h = h
ordered_by k (AMap ps) fs b h = h
ordered_by k (AList is) fs b h = h

plain_ordered : (ps : Parts) → IsStrictlySortedBy (slice_cmp nat_cmp) (names_of ps) → IsStrictlySortedBy (slice_cmp nat_cmp) (keys_of (plain_fields ps))
unfolding IsStrictlySortedBy
plain_ordered no_parts h = tt
plain_ordered (part k i ps) h = ordered_by k i (plain_fields ps) (plain_below k ps h.0) (plain_ordered ps h.1)

json_by : (k : List ℕ) (i : Init) (fs : Members) → IsUtf8 k → IsSoundInit i → HaveJson (fields_of fs) → HaveJson (fields_of (plain_field k i ++ fs))
json_by k (Plain v) fs name s h = (name, s, h)
json_by k (AnObject ps) fs name s h = h
json_by k (AMap ps) fs name s h = h
json_by k (AList is) fs name s h = h

plain_json : (ps : Parts) → AreSoundParts ps → HaveJson (fields_of (plain_fields ps))
plain_json no_parts h = tt
plain_json (part k i ps) h = json_by k i (plain_fields ps) h.0 h.1 (plain_json ps h.2)

sound_plain : (ps : Parts) → IsStrictlySortedBy (slice_cmp nat_cmp) (names_of ps) → AreSoundParts ps → AreSoundMembers (plain_fields ps)
sound_plain ps o h = record { ordered = plain_ordered ps o; json = plain_json ps h }

-- depths

pub is_low : (d m : ℕ) → d ≤ 50 → 50 ≤ m → nat_le d m ≡ true
is_low d m h l = grind (arith, nat_tests, h, l)

low_by : (k : List ℕ) (i : Init) (fs : Members) → plain_depth i ≤ 50 → are_shallow fs ≡ true → are_shallow (plain_field k i ++ fs) ≡ true
low_by k (Plain v) fs d h = both (nat_le (depth v) 55) (are_shallow fs) (is_low (depth v) 55 d (omega arith)) h
low_by k (AnObject ps) fs d h = h
low_by k (AMap ps) fs d h = h
low_by k (AList is) fs d h = h

left_low : (a b : ℕ) → max a b ≤ 50 → a ≤ 50
left_low a b h = omega (arith, h, le-max_left a b)

right_low : (a b : ℕ) → max a b ≤ 50 → b ≤ 50
right_low a b h = omega (arith, h, le-max_right a b)

plain_low : (ps : Parts) → parts_plain_depth ps ≤ 50 → are_shallow (plain_fields ps) ≡ true
plain_low no_parts h = refl
plain_low (part k i ps) h = low_by k i (plain_fields ps) (left_low (plain_depth i) (parts_plain_depth ps) h) (plain_low ps (right_low (plain_depth i) (parts_plain_depth ps) h))

-- the nodes

pub record IsMakeable (c : ℕ) (i : Init) : Type 0 where
  pub clocks : c + nodes_in i ≤ most + 1
  pub sound : IsSoundInit i
  pub low : plain_depth i ≤ 50
  pub positions : ArePositions (positions_in i)

live_by : (b : Bool) (bs cs : List Body) → (b ≡ false → EachValid bs) → EachValid cs → EachValid ((cond b [] bs) ++ cs)
live_by true bs cs h k = k
live_by false bs cs h k = each_append bs cs (h refl) k

module _ (a : ℕ) (actor : a ≤ most_actor) where
  in_range : (c : ℕ) → c ≤ most → IsNodeInRange (made_id a c)
  in_range c l = (actor, l)

  mutual
    pub valid_creates : (c : ℕ) (p : NodeId) (k : List ℕ) (r : Option NodeId) (i : Init) → IsNodeInRange p → IsUtf8 k → IsSomeInRange r → IsMakeable c i → EachValid (creates a c p k r i)
    valid_creates c p k r (Plain v) under name gone h = (
      (
        (in_range c (omega (arith, h.clocks)), under, name, gone, subst IsJson (sym (value_again v)) h.sound),
        subst (λ (w : Value). nat_le (depth w) 56 ≡ true) (sym (value_again v)) (is_low (depth v) 56 h.low (omega arith)),
      ),
      tt,
    )
    valid_creates c p k r (AnObject ps) under name gone h = (
      ((in_range c (omega (arith, h.clocks)), under, name, gone, sound_plain ps h.sound.0 h.sound.1), plain_low ps h.low),
      valid_live (suc c) (made_id a c) ps (in_range c (omega (arith, h.clocks))) (omega (arith, h.clocks)) h.sound.1 h.low h.positions,
    )
    valid_creates c p k r (AMap ps) under name gone h = (
      ((in_range c (omega (arith, h.clocks)), under, name, gone, tt), refl),
      valid_parts (suc c) (made_id a c) ps (in_range c (omega (arith, h.clocks))) (omega (arith, h.clocks)) h.sound.1 h.low h.positions,
    )
    valid_creates c p k r (AList is) under name gone h = (
      ((in_range c (omega (arith, h.clocks)), under, name, gone, tt), refl),
      valid_items (suc c) (made_id a c) first_position is (in_range c (omega (arith, h.clocks))) (omega (arith, h.clocks)) h.sound h.low h.positions,
    )

    valid_live : (c : ℕ) (x : NodeId) (ps : Parts) → IsNodeInRange x → c + live_nodes ps ≤ most + 1 → AreSoundParts ps → parts_plain_depth ps ≤ 50 → ArePositions (parts_positions ps) → EachValid (live_creates a c x ps)
    valid_live c x no_parts under l s d p = tt
    valid_live c x (part k i ps) under l s d p =
        let taken : ℕ = cond (is_plain i) 0 (nodes_in i) in
        live_by (is_plain i) (creates a c x k None i) (live_creates a (c + taken) x ps)
        (λ live. valid_creates c x k None i under s.0 tt (record {
          clocks = let all : taken ≡ nodes_in i = ap (λ (b : Bool). cond b 0 (nodes_in i)) live in omega (arith, l, all);
          sound = s.1;
          low = left_low (plain_depth i) (parts_plain_depth ps) d;
          positions = all_front (λ k. is_pos k ≡ true) (positions_in i) (parts_positions ps) p;
        }))
        (valid_live (c + taken) x ps under (omega (arith, l)) s.2 (right_low (plain_depth i) (parts_plain_depth ps) d) (all_back (λ k. is_pos k ≡ true) (positions_in i) (parts_positions ps) p))

    valid_parts : (c : ℕ) (x : NodeId) (ps : Parts) → IsNodeInRange x → c + part_nodes ps ≤ most + 1 → AreSoundParts ps → parts_plain_depth ps ≤ 50 → ArePositions (parts_positions ps) → EachValid (part_creates a c x ps)
    valid_parts c x no_parts under l s d p = tt
    valid_parts c x (part k i ps) under l s d p =
        each_append (creates a c x k None i) (part_creates a (c + nodes_in i) x ps)
        (valid_creates c x k None i under s.0 tt (record {
          clocks = omega (arith, l);
          sound = s.1;
          low = left_low (plain_depth i) (parts_plain_depth ps) d;
          positions = all_front (λ k. is_pos k ≡ true) (positions_in i) (parts_positions ps) p;
        }))
        (valid_parts (c + nodes_in i) x ps under (omega (arith, l)) s.2 (right_low (plain_depth i) (parts_plain_depth ps) d) (all_back (λ k. is_pos k ≡ true) (positions_in i) (parts_positions ps) p))

    valid_items : (c : ℕ) (x : NodeId) (q : List ℕ) (is : Inits) → IsNodeInRange x → c + init_nodes is ≤ most + 1 → AreSoundInits is → inits_plain_depth is ≤ 50 → ArePositions (item_positions q is) → EachValid (item_creates a c x q is)
    valid_items c x q no_inits under l s d p = tt
    valid_items c x q (init i is) under l s d p =
        let more = item_positions (after_position q) is in
        each_append (creates a c x q None i) (item_creates a (c + nodes_in i) x (after_position q) is)
        (valid_creates c x q None i under (pos_utf8 q p.0) tt (record {
          clocks = omega (arith, l);
          sound = s.0;
          low = left_low (plain_depth i) (inits_plain_depth is) d;
          positions = all_front (λ k. is_pos k ≡ true) (positions_in i) more p.1;
        }))
        (valid_items (c + nodes_in i) x (after_position q) is under (omega (arith, l)) s.1 (right_low (plain_depth i) (inits_plain_depth is) d) (all_back (λ k. is_pos k ≡ true) (positions_in i) more p.1))
