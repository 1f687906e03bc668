-- How many bytes the frame of operations has.
use Rattle.std.proofs.Common.{◌≡◌, ℕ, ◌+◌, ◌∙◌, max, true, false, List, [], ◌∷◌, ◌++◌, length, map, refl, ap, arith}
use Rattle.std.proofs.Common.{length-append}
use Rattle.json.specs.Print.{escape_byte}
use Rattle.std.specs.Fmt.{digits}
use Rattle.serde_json.specs.Written.{items_text}
use Rattle.room_json.specs.Value.{items_of, text_of, values_of}
use Rattle.room_nodes.specs.declared.nodes.Op.{Op}
use Rattle.room_wire.specs.Written.{op_out}
use Rattle.room_msg.specs.Written.{client_text}
use Rattle.room_model.specs.Account.{size_of, frame_of_ops}
use Rattle.room_editor.specs.Sizes.{bytes_of, frame_bytes}

pub bytes_append : (os qs : List Op) → bytes_of (os ++ qs) ≡ bytes_of os + bytes_of qs
bytes_append [] qs = omega arith
bytes_append (o ∷ os) qs = let r = bytes_append os qs in omega (arith, r)

-- operations behind others, with the closing bracket

abbrev all_text : List Op → List ℕ
all_text os = items_text false (items_of (values_of (map op_out os)))

later : (os : List Op) → length (items_text true (items_of (values_of (map op_out os)))) ≡ bytes_of os + 1
later [] = refl
later (o ∷ os) =
    let r = later os in
    let e = length-append (text_of (op_out o)) (items_text true (items_of (values_of (map op_out os)))) in
    omega (arith, r, e)

-- all of them
first : (os : List Op) → length (items_text false (items_of (values_of (map op_out os)))) ≡ max 1 (bytes_of os)
first [] = refl
first (o ∷ os) =
    let r = later os in
    let e = length-append (text_of (op_out o)) (items_text true (items_of (values_of (map op_out os)))) in
    omega (arith, r, e)

abbrev before : List ℕ
before = 91 ∷ 123 ∷ 34 ∷ 111 ∷ 112 ∷ 115 ∷ 34 ∷ 58 ∷ 91 ∷ []

abbrev behind : List ℕ
behind = 44 ∷ 34 ∷ 116 ∷ 121 ∷ 112 ∷ 101 ∷ 34 ∷ 58 ∷ 50 ∷ 48 ∷ 49 ∷ 125 ∷ []

text_is : (os : List Op) → client_text (frame_of_ops os) ≡ before ++ ((all_text os ++ behind) ++ 93 ∷ [])
unfolding escape_byte digits
text_is os = refl

around : (items : List ℕ) → length (before ++ ((items ++ behind) ++ 93 ∷ [])) ≡ 22 + length items
around items =
    let e = length-append before ((items ++ behind) ++ 93 ∷ []) in
    let f = length-append (items ++ behind) (93 ∷ []) in
    let g = length-append items behind in
    omega (arith, e, f, g)

pub sized : (os : List Op) → size_of (frame_of_ops os) ≡ frame_bytes (bytes_of os)
sized os = ap length (text_is os) ∙ around (all_text os) ∙ ap (λ n. 22 + n) (first os)
