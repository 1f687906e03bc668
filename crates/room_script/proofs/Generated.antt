-- Each line of the generator is one of the grammar.
use Rattle.std.proofs.Common.{◌≡◌, ◌≢◌, ◌==◌, nat_lt, nat_le, ◌<◌, ◌≤◌, ◌+◌, ◌-◌, ◌*◌, ◌/◌, ◌%◌, ◌^◌, ℕ, zero, suc, pos, Bool, true, false, cond, List, [], ◌∷◌, ◌++◌, Some, is_some, codes, refl, sym, ap, ◌∙◌, subst, append_assoc, arith}
use Rattle.std.specs.Str.{all_ascii_digits}
use Rattle.std.specs.Fmt.{decimal}
use Rattle.std.specs.List.Sorted.{IsStrictlySortedBy}
use Rattle.std.proofs.lemmas.Fmt.{decimal_digit, IsAscii-decimal}
use Rattle.std.proofs.lemmas.Str.{IsUtf8-append, IsUtf8-from_ascii}
use Rattle.std.proofs.Math.Nat.{mod-lt}
use Rattle.std.specs.Char.{is_ascii_digit}
use Rattle.std.proofs.lemmas.Bool.Decides.{nat_tests}
use Rattle.json.specs.Print.{escape_byte, escape}
use Rattle.json.proofs.Printed.Utf8.{IsUtf8-are_ascii}
use Rattle.room_json.specs.Limits.{max_whole}
use Rattle.room_json.specs.Profile.{IsJson, IsWhole}
use Rattle.room_json.specs.Value.{Value, whole, text, members, no_fields, field, depth, text_of, as_members, fields_list}
use Rattle.room_json.proofs.TextsAreUtf8.{text_spells}
use Rattle.room_ids.specs.Ids.{number_in, node_in, stamp_in}
use Rattle.room_ids.specs.declared.ids.NodeId.{NodeId}
use Rattle.room_ids.specs.declared.ids.NodeId.TheVariants.{Root, Made}
use Rattle.room_ids.proofs.Spelled.{number_again}
use Rattle.room_model.specs.Edits.{Edit, Set, Update, Push, Move}
use Rattle.room_script.specs.Words.{value_in, number_then, ended, most}
use Rattle.room_script.specs.Live.{init_of}
use Rattle.room_script.specs.Edits.{edit_in}
use Rattle.room_script.specs.Grammar.{schedule_line}
use Rattle.room_script.specs.Generator.{drawn, pick, line, spot, edit, whose, spot_from, place_picked, pushed_by, Turn, moves_shape, pushes_layer, moves_layer, sets_corner, moves, speaks}
use Rattle.room_script.proofs.Goodness.{IsGood, good_line, good_both, has_no_feed, no_feed_both, digits_no_feed, are_digits, word_of_digits, rest_of_digits, word_of_all, rest_of_all, both}

-- by one of the three clients

by_three : (P : List ℕ → Type 0) → P (49 ∷ []) → P (50 ∷ []) → P (51 ∷ []) → (n : ℕ) → n < 3 → P (decimal (n + 1))
by_three P a b c zero h = subst P (sym (decimal_digit 1 (omega arith))) a
by_three P a b c (suc zero) h = subst P (sym (decimal_digit 2 (omega arith))) b
by_three P a b c (suc (suc zero)) h = subst P (sym (decimal_digit 3 (omega arith))) c
by_three P a b c (suc (suc (suc n))) h = absurd (omega arith)

pub by_client : (P : List ℕ → Type 0) → P (49 ∷ []) → P (50 ∷ []) → P (51 ∷ []) → (i : ℕ) → P (decimal (whose i))
by_client P a b c i = by_three P a b c ((i - 1) % 3) (omega arith)

pub edit_line : (t : List ℕ) (e : Edit) → edit_in (Some t) ≡ Some e
    → (is_some (schedule_line (codes "edit 1 " ++ t)) ≡ true) × (is_some (schedule_line (codes "edit 2 " ++ t)) ≡ true) × (is_some (schedule_line (codes "edit 3 " ++ t)) ≡ true)
unfolding number_in
edit_line t e h = (rw h refl, rw h refl, rw h refl)

pub good_edit : (i : ℕ) (t : List ℕ) (e : Edit) → has_no_feed t ≡ true → edit_in (Some t) ≡ Some e → IsGood (edit i t)
good_edit i t e h k =
    let lines = edit_line t e k in
    by_client (λ d. IsGood (line (codes "edit " ++ d ++ codes " " ++ t)))
    (good_line (codes "edit 1 " ++ t) h lines.0) (good_line (codes "edit 2 " ++ t) h lines.1) (good_line (codes "edit 3 " ++ t) h lines.2) i

-- JSON that is spelled as the text of a value

pub value_spelled : (v : Value) (t : List ℕ) → IsJson v → depth v ≤ 60 → text_of v ≡ t → value_in t ≡ Some v
value_spelled v t h shallow e = sym (ap value_in e) ∙ rw (text_spells v h shallow) refl

whole_small : (n : ℕ) → n ≤ max_whole → IsWhole (pos n)
whole_small n h = search arith

three : (w a t z : List ℕ) → w ++ a ++ t ++ z ≡ w ++ (a ++ (t ++ z))
three w a t z = append_assoc (w ++ a) t z ∙ append_assoc w a (t ++ z)

abbrev pub spot_value : ℕ → ℕ → Value
spot_value x y = members (field (codes "x") (whole (pos x)) (field (codes "y") (whole (pos y)) no_fields))

spot_text : (x y : ℕ) → text_of (spot_value x y) ≡ spot x y
unfolding escape_byte
spot_text x y = ap (λ r. codes "{\"x\":" ++ r) (sym (three (decimal x) (codes ",\"y\":") (decimal y) (codes "}")))

pub spot_json : (x y : ℕ) → x ≤ max_whole → y ≤ max_whole → IsJson (spot_value x y)
unfolding IsStrictlySortedBy
spot_json x y h k =
    (((refl, tt), (tt, tt)), (IsUtf8-are_ascii (codes "x") refl, whole_small x h, (IsUtf8-are_ascii (codes "y") refl, whole_small y k, tt)))

pub spot_read : (x y : ℕ) → x ≤ max_whole → y ≤ max_whole → value_in (spot x y) ≡ Some (spot_value x y)
spot_read x y h k = value_spelled (spot_value x y) (spot x y) (spot_json x y h k) (omega arith) (spot_text x y)

abbrev pub corner_value : ℕ → Value
corner_value x = members (field (codes "x") (whole (pos x)) no_fields)

corner_json : (x : ℕ) → x ≤ max_whole → IsJson (corner_value x)
unfolding IsStrictlySortedBy
corner_json x h = ((tt, tt), (IsUtf8-are_ascii (codes "x") refl, whole_small x h, tt))

corner_text : (x : ℕ) → text_of (corner_value x) ≡ codes "{\"x\":" ++ decimal x ++ codes "}"
unfolding escape_byte
corner_text x = refl

pub corner_read : (x : ℕ) → x ≤ max_whole → value_in (codes "{\"x\":" ++ decimal x ++ codes "}") ≡ Some (corner_value x)
corner_read x h = value_spelled (corner_value x) (codes "{\"x\":" ++ decimal x ++ codes "}") (corner_json x h) (omega arith) (corner_text x)

-- the lines of turns

small_pick : (k s : ℕ) → 0 < k → k ≤ 1000 → pick k s ≤ max_whole
small_pick k s some h = let below : pick k s < k = mod-lt (drawn s / 8589934592) some in omega (arith, below)

pub spot_from_read : (s : ℕ) → value_in (spot_from s) ≡ Some (spot_value (pick 1000 s) (pick 1000 (drawn s)))
spot_from_read s = spot_read (pick 1000 s) (pick 1000 (drawn s)) (small_pick 1000 s (omega arith) (omega arith)) (small_pick 1000 (drawn s) (omega arith) (omega arith))

abbrev pub made : ℕ → NodeId
made k = Made (record { actor = 1; clock = k })

-- an object to the line's end, of a node from 1:2 to 1:4
pub update_read : (t : List ℕ) (v : Value) (fs : List (List ℕ × Value)) → value_in t ≡ Some v → as_members v ≡ Some fs
    → (edit_in (Some (codes "update 1:2 " ++ t)) ≡ Some (Update (made 2) fs)) × (edit_in (Some (codes "update 1:3 " ++ t)) ≡ Some (Update (made 3) fs)) × (edit_in (Some (codes "update 1:4 " ++ t)) ≡ Some (Update (made 4) fs))
unfolding number_in node_in stamp_in
update_read t v fs h k = (rw (h, k) refl, rw (h, k) refl, rw (h, k) refl)

spot_no_feed : (x y : ℕ) → x < 2 ^ 64 → y < 2 ^ 64 → has_no_feed (spot x y) ≡ true
spot_no_feed x y h k =
    no_feed_both (codes "{\"x\":" ++ decimal x ++ codes ",\"y\":" ++ decimal y) (codes "}")
    (no_feed_both (codes "{\"x\":" ++ decimal x ++ codes ",\"y\":") (decimal y)
    (no_feed_both (codes "{\"x\":" ++ decimal x) (codes ",\"y\":") (digits_no_feed (decimal x) (are_digits x h)) refl)
    (digits_no_feed (decimal y) (are_digits y k))) refl

by_shape : (P : List ℕ → Type 0) → P (50 ∷ []) → P (51 ∷ []) → P (52 ∷ []) → (n : ℕ) → n < 3 → P (decimal (2 + n))
by_shape P a b c zero h = subst P (sym (decimal_digit 2 (omega arith))) a
by_shape P a b c (suc zero) h = subst P (sym (decimal_digit 3 (omega arith))) b
by_shape P a b c (suc (suc zero)) h = subst P (sym (decimal_digit 4 (omega arith))) c
by_shape P a b c (suc (suc (suc n))) h = absurd (omega arith)

pub moves_shape_good : (i s : ℕ) → IsGood (moves_shape i s).lines
moves_shape_good i s =
    let t = spot_from (drawn s) in
    let fs = fields_list (field (codes "x") (whole (pos (pick 1000 (drawn s)))) (field (codes "y") (whole (pos (pick 1000 (drawn (drawn s))))) no_fields)) in
    let low = small_pick 1000 (drawn s) (omega arith) (omega arith) in
    let high = small_pick 1000 (drawn (drawn s)) (omega arith) (omega arith) in
    let clean = spot_no_feed (pick 1000 (drawn s)) (pick 1000 (drawn (drawn s))) (omega (arith, low)) (omega (arith, high)) in
    let reads = update_read t _ fs (spot_from_read (drawn s)) refl in
    by_shape (λ d. IsGood (edit i (codes "update 1:" ++ d ++ codes " " ++ t)))
    (good_edit i (codes "update 1:2 " ++ t) _ clean reads.0)
    (good_edit i (codes "update 1:3 " ++ t) _ clean reads.1)
    (good_edit i (codes "update 1:4 " ++ t) _ clean reads.2)
    (pick 3 s) (mod-lt (drawn s / 8589934592) (omega arith))

-- items

digit_fits : (c : ℕ) → is_ascii_digit c ≡ true → (48 ≤ c) × (c ≤ 57)
digit_fits c h = (grind (arith, nat_tests), grind (arith, nat_tests))

other : (c k : ℕ) → c ≢ k → (c == k) ≡ false
other c k h = grind (arith, nat_tests)

not_low : (c : ℕ) → 48 ≤ c → nat_lt c 32 ≡ false
not_low c h = grind (arith, nat_tests)

escape_digit : (c : ℕ) → is_ascii_digit c ≡ true → escape_byte c ≡ c ∷ []
unfolding escape_byte
escape_digit c h =
    let fits = digit_fits c h in
    let away : (k : ℕ) → k < 48 → c ≢ k = λ k small e. omega (arith, fits.0, small, e) in
    let over : c ≢ 92 = λ e. omega (arith, fits.1, e) in
    rw (other c 34 (away 34 (omega arith)), other c 92 over, other c 8 (away 8 (omega arith)), other c 12 (away 12 (omega arith)), other c 10 (away 10 (omega arith)), other c 13 (away 13 (omega arith)), other c 9 (away 9 (omega arith)), not_low c fits.0) refl

escape_digits : (ds : List ℕ) → all_ascii_digits ds ≡ true → escape ds ≡ ds
escape_digits [] h = refl
escape_digits (c ∷ cs) h =
    let parts = both (is_ascii_digit c) (all_ascii_digits cs) h in
    rw (escape_digit c parts.0) (ap (λ ds. c ∷ ds) (escape_digits cs parts.1))

layer_text : (ds : List ℕ) → all_ascii_digits ds ≡ true → text_of (text (codes "layer " ++ ds)) ≡ codes "\"layer " ++ ds ++ codes "\""
unfolding escape_byte
layer_text ds h = ap (λ r. codes "\"layer " ++ (r ++ codes "\"")) (escape_digits ds h)

layer_read : (i : ℕ) → i < 2 ^ 64 → value_in (codes "\"layer " ++ decimal i ++ codes "\"") ≡ Some (text (codes "layer " ++ decimal i))
layer_read i h =
    value_spelled (text (codes "layer " ++ decimal i)) (codes "\"layer " ++ decimal i ++ codes "\"")
    (IsUtf8-append (codes "layer ") (decimal i) (IsUtf8-are_ascii (codes "layer ") refl) (IsUtf8-from_ascii (decimal i) (IsAscii-decimal i h)))
    (omega arith) (layer_text (decimal i) (are_digits i h))

push_read : (t : List ℕ) (v : Value) → value_in t ≡ Some v → edit_in (Some (codes "push 1:5 " ++ t)) ≡ Some (Push (made 5) (init_of v))
unfolding number_in node_in stamp_in
push_read t v h = rw h refl

pub pushes_layer_good : (i s : ℕ) → i < 2 ^ 64 → IsGood (pushes_layer i s).lines
pushes_layer_good i s h =
    good_edit i (codes "push 1:5 " ++ (codes "\"layer " ++ decimal i ++ codes "\"")) _
    (no_feed_both (codes "push 1:5 \"layer " ++ decimal i) (codes "\"") (digits_no_feed (decimal i) (are_digits i h)) refl)
    (push_read _ _ (layer_read i h))

move_id_read : (r : List ℕ) → edit_in (Some (codes "move 1:5 " ++ r)) ≡ number_then (λ f q. number_then (λ t p. ended (Move (made 5) f t) p) q) (Some r)
unfolding number_in node_in stamp_in
move_id_read r = refl

move_read : (f t : ℕ) → f ≤ max_whole → t ≤ max_whole → number_then (λ f q. number_then (λ t p. ended (Move (made 5) f t) p) q) (Some (decimal f ++ 32 ∷ decimal t)) ≡ Some (Move (made 5) f t)
move_read f t h k =
    let first = are_digits f (omega (arith, h)) in
    let second = are_digits t (omega (arith, k)) in
    rw (word_of_digits (decimal f) (decimal t) first, rest_of_digits (decimal f) (decimal t) first, number_again most f (omega (arith, h)) h, word_of_all (decimal t) second, rest_of_all (decimal t) second, number_again most t (omega (arith, k)) k) refl

pub moves_layer_good : (m i s : ℕ) → 0 < m → m ≤ max_whole → IsGood (moves_layer m i s).lines
moves_layer_good m i s some small =
    let f = pick m s in
    let t = place_picked m s in
    let low : f < m = mod-lt (drawn s / 8589934592) some in
    let high : t < m = mod-lt (pick m s + 1 + pick (m - 1) (drawn s)) some in
    let first : f ≤ max_whole = omega (arith, low, small) in
    let second : t ≤ max_whole = omega (arith, high, small) in
    let spelled : codes "move 1:5 " ++ decimal f ++ codes " " ++ decimal t ≡ codes "move 1:5 " ++ (decimal f ++ 32 ∷ decimal t) =
    ap (λ r. codes "move 1:5 " ++ r) (append_assoc (decimal f) (codes " ") (decimal t)) in
    good_edit i (codes "move 1:5 " ++ decimal f ++ codes " " ++ decimal t) (Move (made 5) f t)
    (no_feed_both (codes "move 1:5 " ++ decimal f ++ codes " ") (decimal t)
    (no_feed_both (codes "move 1:5 " ++ decimal f) (codes " ") (digits_no_feed (decimal f) (are_digits f (omega (arith, first)))) refl)
    (digits_no_feed (decimal t) (are_digits t (omega (arith, second)))))
    (ap (λ r. edit_in (Some r)) spelled ∙ move_id_read (decimal f ++ 32 ∷ decimal t) ∙ move_read f t first second)

pub sets_corner_good : (i s : ℕ) → IsGood (sets_corner i s).lines
sets_corner_good i s =
    let x = pick 1000 s in
    let low = small_pick 1000 s (omega arith) (omega arith) in
    let t = codes "{\"x\":" ++ decimal x ++ codes "}" in
    let reads = update_read t (corner_value x) _ (corner_read x low) refl in
    good_edit i (codes "update 1:2 " ++ t) _
    (no_feed_both (codes "update 1:2 {\"x\":" ++ decimal x) (codes "}") (digits_no_feed (decimal x) (are_digits x (omega (arith, low)))) refl)
    reads.0

pub chosen : (b : Bool) (x y : Turn) → (b ≡ true → IsGood x.lines) → IsGood y.lines → IsGood (cond b x y).lines
chosen true x y g h = g refl
chosen false x y g h = h

pub moves_good : (i s : ℕ) → i ≤ max_whole → IsGood (moves i s).lines
moves_good i s h =
    let m = pushed_by (3 * ((i - 1) / 3)) in
    chosen (nat_le 2 m) (moves_layer m i s) (sets_corner i s)
    (λ e. let least : 2 ≤ m = grind (arith, nat_tests) in moves_layer_good m i s (omega (arith, least)) (omega (arith, h)))
    (sets_corner_good i s)

-- presence, and the last turn's number

presence_line : (t : List ℕ) (v : Value) (fs : List (List ℕ × Value)) → value_in t ≡ Some v → as_members v ≡ Some fs
    → (is_some (schedule_line (codes "presence 1 " ++ t)) ≡ true) × (is_some (schedule_line (codes "presence 2 " ++ t)) ≡ true) × (is_some (schedule_line (codes "presence 3 " ++ t)) ≡ true)
unfolding number_in
presence_line t v fs h k = (rw (h, k) refl, rw (h, k) refl, rw (h, k) refl)

presence_good : (i s : ℕ) → IsGood (line (codes "presence " ++ decimal (whose i) ++ codes " " ++ spot_from s))
presence_good i s =
    let t = spot_from s in
    let low = small_pick 1000 s (omega arith) (omega arith) in
    let high = small_pick 1000 (drawn s) (omega arith) (omega arith) in
    let clean = spot_no_feed (pick 1000 s) (pick 1000 (drawn s)) (omega (arith, low)) (omega (arith, high)) in
    let lines = presence_line t _ _ (spot_from_read s) refl in
    by_client (λ d. IsGood (line (codes "presence " ++ d ++ codes " " ++ t)))
    (good_line (codes "presence 1 " ++ t) clean lines.0) (good_line (codes "presence 2 " ++ t) clean lines.1) (good_line (codes "presence 3 " ++ t) clean lines.2) i

last_read : (t : List ℕ) (v : Value) → value_in t ≡ Some v → edit_in (Some (codes "set root last " ++ t)) ≡ Some (Set Root (codes "last") (init_of v))
unfolding node_in
last_read t v h = rw h refl

pub speaks_good : (i s : ℕ) → i ≤ max_whole → IsGood (speaks i s).lines
speaks_good i s h =
    good_both (line (codes "presence " ++ decimal (whose i) ++ codes " " ++ spot_from s)) (edit i (codes "set root last " ++ decimal i)) (presence_good i s)
    (good_edit i (codes "set root last " ++ decimal i) _ (digits_no_feed (decimal i) (are_digits i (omega (arith, h))))
    (last_read (decimal i) (whole (pos i)) (value_spelled (whole (pos i)) (decimal i) (whole_small i h) (omega arith) refl)))
