-- How many bytes the frames of clients have.
use Rattle.std.proofs.Common.{◌≡◌, ◌≤◌, ◌+◌, ◌*◌, ◌/◌, ◌%◌, ◌∙◌, ℕ, zero, suc, max, Bool, true, false, cond}
use Rattle.std.proofs.Common.{◌&&◌, not, nat_lt, List, [], ◌∷◌, ◌++◌, length, map, drop, Option, Some, None, refl}
use Rattle.std.proofs.Common.{ap, arith, length-append}
use Rattle.std.specs.Char.{digit_char}
use Rattle.std.specs.Fmt.{decimal, digits}
use Rattle.std.proofs.lemmas.Fmt.{length-decimal-le}
use Rattle.json.specs.Print.{escape_byte, escape_letter, escape, quoted}
use Rattle.serde_json.specs.Written.{items_text, members_text}
use Rattle.room_json.specs.Value.{Value, items_of, members_of, text_of, values_of, fields_of}
use Rattle.room_nodes.specs.declared.nodes.Op.{Op}
use Rattle.room_wire.specs.Written.{op_out}
use Rattle.room_msg.specs.Keys.{key_text, hex_digit, hex_digits}
use Rattle.room_msg.specs.Laws.{IsResume}
use Rattle.room_msg.specs.Written.{client_text}
use Rattle.room_msg.specs.declared.messages.Resume.{Resume}
use Rattle.room_msg.specs.declared.messages.ClientMsg.{ClientMsg}
use Rattle.room_msg.specs.declared.messages.ClientMsg.TheVariants as client
use Rattle.room_model.specs.Account.{size_of, most_bytes, frame_of_ops, frame_of_full, frame_of_full_to, frame_of_patch}
use Rattle.room_model.specs.Account.{frame_of_fetch}
use Rattle.room_model.specs.Calls.{presence_size}
use Rattle.room_model.specs.Presence.{unsent_members, is_among}
use Rattle.room_model.specs.World.{room_name}

abbrev Pair : Type 0
Pair = List ℕ × Value

-- operations: of each its text and a comma

abbrev bytes_of : List Op → ℕ
bytes_of [] = 0
bytes_of (o ∷ os) = (length (text_of (op_out o)) + 1) + bytes_of os

abbrev all_text : List Op → List ℕ
all_text os = items_text false (items_of (values_of (map op_out os)))

later : (os : List Op) → length (items_text true (items_of (values_of (map op_out os)))) ≡ bytes_of os + 1
later [] = refl
later (o ∷ os) =
    let r = later os in
    let e = length-append (text_of (op_out o)) (items_text true (items_of (values_of (map op_out os)))) in
    omega (arith, r, e)

first : (os : List Op) → length (all_text os) ≡ max 1 (bytes_of os)
first [] = refl
first (o ∷ os) =
    let r = later os in
    let e = length-append (text_of (op_out o)) (items_text true (items_of (values_of (map op_out os)))) in
    omega (arith, r, e)

abbrev before : List ℕ
before = 91 ∷ 123 ∷ 34 ∷ 111 ∷ 112 ∷ 115 ∷ 34 ∷ 58 ∷ 91 ∷ []

abbrev behind : List ℕ
behind = 44 ∷ 34 ∷ 116 ∷ 121 ∷ 112 ∷ 101 ∷ 34 ∷ 58 ∷ 50 ∷ 48 ∷ 49 ∷ 125 ∷ []

text_is : (os : List Op) → client_text (frame_of_ops os) ≡ before ++ ((all_text os ++ behind) ++ 93 ∷ [])
unfolding escape_byte digits
text_is os = refl

around : (items : List ℕ) → length (before ++ ((items ++ behind) ++ 93 ∷ [])) ≡ 22 + length items
around items =
    let e = length-append before ((items ++ behind) ++ 93 ∷ []) in
    let f = length-append (items ++ behind) (93 ∷ []) in
    let g = length-append items behind in
    omega (arith, e, f, g)

sized : (os : List Op) → size_of (frame_of_ops os) ≡ 22 + max 1 (bytes_of os)
sized os = ap length (text_is os) ∙ around (all_text os) ∙ ap (λ n. 22 + n) (first os)

fewer_bytes : (os : List Op) (n : ℕ) → bytes_of (drop n os) ≤ bytes_of os
fewer_bytes os zero = omega arith
fewer_bytes [] (suc n) = omega arith
fewer_bytes (o ∷ os) (suc n) = omega (arith, fewer_bytes os n)

-- the frame of operations from one on is no longer
pub rest_fits : (os : List Op) (n : ℕ) → size_of (frame_of_ops os) ≤ most_bytes
    → size_of (frame_of_ops (drop n os)) ≤ most_bytes
rest_fits os n h = omega (arith, sized os, sized (drop n os), fewer_bytes os n, h)

pub none_fits : size_of (frame_of_ops []) ≤ most_bytes
none_fits = omega (arith, sized [])

-- members: of each its name, its value, a colon and a comma

abbrev weight_of : List Pair → ℕ
weight_of [] = 0
weight_of (f ∷ fs) = (length (quoted f.0) + length (text_of f.1) + 2) + weight_of fs

abbrev all_members : List Pair → List ℕ
all_members fs = members_text false (members_of (fields_of fs))

member_length : (name value rest : List ℕ)
    → length (name ++ 58 ∷ (value ++ rest)) ≡ length name + length value + 1 + length rest
member_length name value rest =
    let e = length-append name (58 ∷ (value ++ rest)) in
    let f = length-append value rest in
    omega (arith, e, f)

later_members : (fs : List Pair) → length (members_text true (members_of (fields_of fs))) ≡ weight_of fs + 1
later_members [] = refl
later_members (f ∷ fs) =
    let r = later_members fs in
    let e = member_length (quoted f.0) (text_of f.1) (members_text true (members_of (fields_of fs))) in
    omega (arith, r, e)

first_members : (fs : List Pair) → length (all_members fs) ≡ max 1 (weight_of fs)
first_members [] = refl
first_members (f ∷ fs) =
    let r = later_members fs in
    let e = member_length (quoted f.0) (text_of f.1) (members_text true (members_of (fields_of fs))) in
    omega (arith, r, e)

-- `[{"data":{`
abbrev opens : List ℕ
opens = 91 ∷ 123 ∷ 34 ∷ 100 ∷ 97 ∷ 116 ∷ 97 ∷ 34 ∷ 58 ∷ 123 ∷ []

-- `,"targetActor":`
abbrev target : List ℕ
target = 44 ∷ 34 ∷ 116 ∷ 97 ∷ 114 ∷ 103 ∷ 101 ∷ 116 ∷ 65 ∷ 99 ∷ 116 ∷ 111 ∷ 114 ∷ 34 ∷ 58 ∷ []

-- `,"type":100}`
abbrev kind : List ℕ
kind = 44 ∷ 34 ∷ 116 ∷ 121 ∷ 112 ∷ 101 ∷ 34 ∷ 58 ∷ 49 ∷ 48 ∷ 48 ∷ 125 ∷ []

abbrev presence_text : List Pair → List ℕ → List ℕ
presence_text fs rest = opens ++ ((all_members fs ++ rest) ++ 93 ∷ [])

presence_length : (fs : List Pair) (rest : List ℕ)
    → length (presence_text fs rest) ≡ 11 + max 1 (weight_of fs) + length rest
presence_length fs rest =
    let e = length-append opens ((all_members fs ++ rest) ++ 93 ∷ []) in
    let f = length-append (all_members fs ++ rest) (93 ∷ []) in
    let g = length-append (all_members fs) rest in
    omega (arith, e, f, g, first_members fs)

to_text : (a : ℕ) (me : List Pair)
    → client_text (frame_of_full_to a me) ≡ presence_text me (target ++ (decimal a ++ kind))
unfolding escape_byte digits
to_text a me = refl

all_text_is : (me : List Pair) → client_text (frame_of_full me) ≡ presence_text me (target ++ (45 ∷ 49 ∷ kind))
unfolding escape_byte digits
all_text_is me = refl

patch_text_is : (fs : List Pair) → client_text (frame_of_patch fs) ≡ presence_text fs kind
unfolding escape_byte digits
patch_text_is fs = refl

named : (a : ℕ) → length (target ++ (decimal a ++ kind)) ≡ 27 + length (decimal a)
named a =
    let e = length-append target (decimal a ++ kind) in
    let f = length-append (decimal a) kind in
    omega (arith, e, f)

to_size : (a : ℕ) (me : List Pair) → size_of (frame_of_full_to a me) ≡ 38 + max 1 (weight_of me) + length (decimal a)
to_size a me =
    let e = presence_length me (target ++ (decimal a ++ kind)) in
    omega (arith, ap length (to_text a me), e, named a)

ten : length (decimal 4294967295) ≡ 10
unfolding digits
ten = refl

full_size : (me : List Pair) → presence_size me ≡ 48 + max 1 (weight_of me)
full_size me = omega (arith, to_size 4294967295 me, ten)

pub full_to_fits : (a : ℕ) (me : List Pair) → a ≤ 4294967295 → presence_size me ≤ most_bytes
    → size_of (frame_of_full_to a me) ≤ most_bytes
full_to_fits a me low h =
    let short : length (decimal a) ≤ 10 =
    length-decimal-le 10 a (omega arith) (omega (arith, low)) (omega (arith, low)) in
    omega (arith, to_size a me, full_size me, short, h)

pub full_fits : (me : List Pair) → presence_size me ≤ most_bytes → size_of (frame_of_full me) ≤ most_bytes
full_fits me h =
    let e = presence_length me (target ++ (45 ∷ 49 ∷ kind)) in
    omega (arith, ap length (all_text_is me), e, full_size me, h)

fewer_members : (unsent held : List (List ℕ)) (fs : List Pair)
    → weight_of (unsent_members unsent held fs) ≤ weight_of fs
fewer_members unsent held [] = omega arith
fewer_members unsent held (f ∷ fs) =
    by_test (is_among f.0 unsent && not (is_among f.0 held)) (fewer_members unsent held fs)
  where
    by_test : (b : Bool) → weight_of (unsent_members unsent held fs) ≤ weight_of fs
        → weight_of (cond b (f ∷ unsent_members unsent held fs) (unsent_members unsent held fs)) ≤ weight_of (f ∷ fs)
    by_test true k = omega (arith, k)
    by_test false k = omega (arith, k)

pub patch_fits : (unsent held : List (List ℕ)) (me : List Pair) → presence_size me ≤ most_bytes
    → size_of (frame_of_patch (unsent_members unsent held me)) ≤ most_bytes
patch_fits unsent held me h =
    let fs = unsent_members unsent held me in
    let e = presence_length fs kind in
    omega (arith, ap length (patch_text_is fs), e, full_size me, fewer_members unsent held me, h)

-- a fetch, and a hello

fetch_size : size_of frame_of_fetch ≡ 14
unfolding escape_byte digits
fetch_size = refl

pub fetch_fits : size_of frame_of_fetch ≤ most_bytes
fetch_fits = omega (arith, fetch_size)

abbrev low_escape : ℕ → List ℕ
low_escape c = 92 ∷ 117 ∷ 48 ∷ 48 ∷ digit_char (c / 16) ∷ digit_char (c % 16) ∷ []

byte_by : (a b : Bool) (c : ℕ) → length (cond a (92 ∷ escape_letter c ∷ []) (cond b (low_escape c) (c ∷ []))) ≤ 6
byte_by true b c = omega arith
byte_by false true c = omega arith
byte_by false false c = omega arith

byte_short : (c : ℕ) → length (escape_byte c) ≤ 6
unfolding escape_byte
byte_short c = byte_by (nat_lt 0 (escape_letter c)) (nat_lt c 32) c

escape_short : (s : List ℕ) → length (escape s) ≤ 6 * length s
escape_short [] = omega arith
escape_short (c ∷ cs) = omega (arith, length-append (escape_byte c) (escape cs), byte_short c, escape_short cs)

hex_length : (n k : ℕ) → length (hex_digits n k) ≡ n
hex_length zero k = refl
hex_length (suc n) k =
    omega (arith, length-append (hex_digits n (k / 16)) (hex_digit (k % 16) ∷ []), hex_length n (k / 16))

key_length : (k : ℕ) → length (key_text k) ≡ 16
unfolding key_text
key_length k = hex_length 16 k

-- `[{"resume":{"actor":`
abbrev hello_opens : List ℕ
hello_opens =
    91 ∷ 123 ∷ 34 ∷ 114 ∷ 101 ∷ 115 ∷ 117 ∷ 109 ∷ 101 ∷ 34 ∷ 58 ∷ 123
    ∷ 34 ∷ 97 ∷ 99 ∷ 116 ∷ 111 ∷ 114 ∷ 34 ∷ 58 ∷ []

-- `,"key":"`
abbrev hello_key : List ℕ
hello_key = 44 ∷ 34 ∷ 107 ∷ 101 ∷ 121 ∷ 34 ∷ 58 ∷ 34 ∷ []

-- `,"room":"room","type":1}`
abbrev hello_room : List ℕ
hello_room =
    44 ∷ 34 ∷ 114 ∷ 111 ∷ 111 ∷ 109 ∷ 34 ∷ 58 ∷ 34 ∷ 114 ∷ 111 ∷ 111 ∷ 109 ∷ 34
    ∷ 44 ∷ 34 ∷ 116 ∷ 121 ∷ 112 ∷ 101 ∷ 34 ∷ 58 ∷ 49 ∷ 125 ∷ []

abbrev pub hello_for : Option Resume → List ClientMsg
hello_for r = client.Hello (record { room = room_name; resume = r; name = None; «pass» = None }) ∷ []

abbrev resume_text : List ℕ → List ℕ → List ℕ
resume_text actor key =
    hello_opens ++ (((actor ++ (hello_key ++ ((key ++ 34 ∷ []) ++ 125 ∷ []))) ++ hello_room) ++ 93 ∷ [])

hello_text : (r : Resume) → client_text (hello_for (Some r)) ≡ resume_text (decimal r.actor) (escape (key_text r.key))
unfolding escape_byte digits
hello_text r = refl

resume_length : (actor key : List ℕ) → length (resume_text actor key) ≡ 55 + length actor + length key
resume_length actor key =
    let inner = hello_key ++ ((key ++ 34 ∷ []) ++ 125 ∷ []) in
    let a = length-append hello_opens (((actor ++ inner) ++ hello_room) ++ 93 ∷ []) in
    let b = length-append ((actor ++ inner) ++ hello_room) (93 ∷ []) in
    let c = length-append (actor ++ inner) hello_room in
    let d = length-append actor inner in
    let e = length-append hello_key ((key ++ 34 ∷ []) ++ 125 ∷ []) in
    let f = length-append (key ++ 34 ∷ []) (125 ∷ []) in
    let g = length-append key (34 ∷ []) in
    omega (arith, a, b, c, d, e, f, g)

new_size : size_of (hello_for None) ≡ 26
unfolding escape_byte digits
new_size = refl

pub hello_fits : (r : Option Resume) → IsResume r → size_of (hello_for r) ≤ most_bytes
hello_fits None h = omega (arith, new_size)
hello_fits (Some r) h =
    let short : length (decimal r.actor) ≤ 10 =
    length-decimal-le 10 r.actor (omega arith) (omega (arith, h.0)) (omega (arith, h.0)) in
    let e = resume_length (decimal r.actor) (escape (key_text r.key)) in
    omega (arith, ap length (hello_text r), e, short, escape_short (key_text r.key), key_length r.key)
