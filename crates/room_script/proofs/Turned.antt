-- The generator's schedule is in the grammar.
use Rattle.std.proofs.Common.{◌≡◌, ◌≤◌, ◌+◌, ◌*◌, ◌/◌, ◌%◌, ◌==◌, ℕ, zero, suc, Bool, true, false, cond, List, [], ◌++◌, Some, is_some, codes, IsUtf8, refl, sym, subst, arith}
use Rattle.std.specs.Fmt.{decimal}
use Rattle.std.specs.List.Sorted.{IsStrictlySortedBy}
use Rattle.std.proofs.lemmas.Fmt.{decimal_digit}
use Rattle.json.specs.Print.{escape_byte}
use Rattle.json.proofs.Printed.Utf8.{IsUtf8-are_ascii}
use Rattle.room_json.specs.Limits.{max_whole}
use Rattle.room_json.specs.Profile.{IsJson}
use Rattle.room_json.specs.Value.{Value, list, members, no_values, no_fields, field, text_of}
use Rattle.room_ids.specs.Ids.{number_in, node_in}
use Rattle.room_script.specs.Words.{value_in}
use Rattle.room_script.specs.Grammar.{schedule_line}
use Rattle.room_script.specs.Generator.{turn, moves_shape, pushes_layer, moves, speaks, is_sent, sent, stopped, after_turn, turns, opening, ending, schedule_of}
use Rattle.room_script.proofs.Goodness.{IsGood, good_nothing, good_both}
use Rattle.room_script.proofs.Generated.{chosen, moves_shape_good, pushes_layer_good, moves_good, speaks_good, value_spelled, spot_value, spot_json, corner_value, corner_read, edit_line, update_read}
use Rattle.room_script.proofs.Spelled.{opening_spelled}

-- turns

turn_good : (i s : ℕ) → i ≤ max_whole → IsGood (turn i s).lines
turn_good i s h =
    chosen (i % 4 == 1) (moves_shape i s) (cond (i % 4 == 2) (pushes_layer i s) (cond (i % 4 == 3) (moves i s) (speaks i s))) (λ e. moves_shape_good i s)
    (chosen (i % 4 == 2) (pushes_layer i s) (cond (i % 4 == 3) (moves i s) (speaks i s)) (λ e. pushes_layer_good i s (omega (arith, h)))
    (chosen (i % 4 == 3) (moves i s) (speaks i s) (λ e. moves_good i s h) (speaks_good i s h)))

sent_good : IsGood sent
unfolding number_in
sent_good more h = (refl, (refl, (refl, (refl, h))))

stopped_good : IsGood stopped
unfolding number_in
stopped_good more h = (refl, (refl, (refl, (refl, (refl, (refl, h))))))

good_if : (b : Bool) (a : List ℕ) → IsGood a → IsGood (cond b a [])
good_if true a h = h
good_if false a h = good_nothing

after_good : (count i : ℕ) → IsGood (after_turn count i)
after_good count i =
    good_both (cond (is_sent count i) sent []) (cond (i == 3 * (count / 6)) stopped [])
    (good_if (is_sent count i) sent sent_good) (good_if (i == 3 * (count / 6)) stopped stopped_good)

turns_good : (count left i s : ℕ) → i + left ≤ max_whole + 1 → IsGood (turns count left i s)
turns_good count zero i s h = good_nothing
turns_good count (suc left) i s h =
    good_both ((turn i s).lines ++ after_turn count i) (turns count left (i + 1) (turn i s).state)
    (good_both (turn i s).lines (after_turn count i) (turn_good i s (omega (arith, h))) (after_good count i))
    (turns_good count left (i + 1) (turn i s).state (omega (arith, h)))

-- the opening

shapes_line : (t : List ℕ) (v : Value) → value_in t ≡ Some v → is_some (schedule_line (codes "edit 1 set root shapes " ++ t)) ≡ true
unfolding number_in node_in
shapes_line t v h = rw h refl

layers_line : (t : List ℕ) (v : Value) → value_in t ≡ Some v → is_some (schedule_line (codes "edit 1 set root layers " ++ t)) ≡ true
unfolding number_in node_in
layers_line t v h = rw h refl

abbrev one : List ℕ → Value → Value
one k v = members (field k v no_fields)

one_json : (k : List ℕ) (v : Value) → IsUtf8 k → IsJson v → IsJson (one k v)
unfolding IsStrictlySortedBy
one_json k v h j = ((tt, tt), (h, j, tt))

abbrev live_corner : Value
live_corner = one (codes "$object") (spot_value 0 0)

live_corner_json : IsJson live_corner
live_corner_json = one_json (codes "$object") (spot_value 0 0) (IsUtf8-are_ascii (codes "$object") refl) (spot_json 0 0 (omega arith) (omega arith))

abbrev corners_value : Value
corners_value = members (field (codes "a") live_corner (field (codes "b") live_corner (field (codes "c") live_corner no_fields)))

corners_json : IsJson corners_value
unfolding IsStrictlySortedBy
corners_json = (
  ((refl, (refl, tt)), ((refl, tt), (tt, tt))),
  (IsUtf8-are_ascii (codes "a") refl, live_corner_json, (IsUtf8-are_ascii (codes "b") refl, live_corner_json, (IsUtf8-are_ascii (codes "c") refl, live_corner_json, tt))),
)

abbrev shapes_text : List ℕ
shapes_text = codes "{\"$map\":{\"a\":{\"$object\":{\"x\":0,\"y\":0}},\"b\":{\"$object\":{\"x\":0,\"y\":0}},\"c\":{\"$object\":{\"x\":0,\"y\":0}}}}"

shapes_spelled : text_of (one (codes "$map") corners_value) ≡ shapes_text
unfolding escape_byte
shapes_spelled = rw (decimal_digit 0 (omega arith)) refl

shapes_read : value_in shapes_text ≡ Some (one (codes "$map") corners_value)
shapes_read =
    value_spelled (one (codes "$map") corners_value) shapes_text (one_json (codes "$map") corners_value (IsUtf8-are_ascii (codes "$map") refl) corners_json) (omega arith) shapes_spelled

layers_spelled : text_of (one (codes "$list") (list no_values)) ≡ codes "{\"$list\":[]}"
unfolding escape_byte
layers_spelled = refl

layers_read : value_in (codes "{\"$list\":[]}") ≡ Some (one (codes "$list") (list no_values))
layers_read =
    value_spelled (one (codes "$list") (list no_values)) (codes "{\"$list\":[]}") (one_json (codes "$list") (list no_values) (IsUtf8-are_ascii (codes "$list") refl) tt) (omega arith) layers_spelled

opening_good : IsGood opening
unfolding number_in
opening_good =
    subst IsGood (sym opening_spelled)
    (λ more h. (refl, (refl, (refl, (refl, (refl, (refl, (shapes_line shapes_text _ shapes_read, (layers_line (codes "{\"$list\":[]}") _ layers_read, (refl, (refl, h)))))))))))

-- the ending

corner_line : (x : ℕ) (d : List ℕ) → x ≤ max_whole → decimal x ≡ d → is_some (schedule_line (codes "edit 1 update 1:2 {\"x\":" ++ d ++ codes "}")) ≡ true
corner_line x d h e =
    subst (λ t. is_some (schedule_line (codes "edit 1 update 1:2 {\"x\":" ++ t ++ codes "}")) ≡ true) e
    (edit_line (codes "update 1:2 {\"x\":" ++ decimal x ++ codes "}") _ (update_read (codes "{\"x\":" ++ decimal x ++ codes "}") (corner_value x) _ (corner_read x h) refl).0).0

ending_good : IsGood ending
unfolding number_in
ending_good more h = (
  refl,
  (
    corner_line 1 (codes "1") (omega arith) (decimal_digit 1 (omega arith)),
    (
      corner_line 2 (codes "2") (omega arith) (decimal_digit 2 (omega arith)),
      (refl, (refl, (refl, (refl, (refl, (refl, (refl, (refl, h)))))))),
    ),
  ),
)

pub schedule_good : (number count : ℕ) → count ≤ max_whole → IsGood (schedule_of number count)
schedule_good number count small =
    good_both (opening ++ turns count count 1 number) ending
    (good_both opening (turns count count 1 number) opening_good (turns_good count count 1 number (omega (arith, small)))) ending_good
