-- Bytes that are written are below 256.
use Rattle.std.proofs.Common.{◌≡◌, ◌<◌, ◌≤◌, ◌+◌, ◌/◌, ◌%◌, ◌^◌, ℕ, zero, suc, Bool, true, false, cond, nat_lt, List}
use Rattle.std.proofs.Common.{[]}
use Rattle.std.proofs.Common.{◌∷◌, ◌++◌, take, drop, flat_map, length, IsUtf8, encode_utf8_all, refl}
use Rattle.std.proofs.Common.{subst, arith}
use Rattle.std.specs.Prelude.{⊤}
use Rattle.std.specs.Char.{IsScalar, encode_utf8}
use Rattle.std.specs.Int.{bytes_high_first, byte_at}
use Rattle.std.specs.List.{AllByRecursion}
use Rattle.std.specs.Str.{all_scalars}
use Rattle.std.proofs.lemmas.Bool.Decides.{nat_tests}
use Rattle.room_json.specs.Profile.{IsJson, HaveJson}
use Rattle.room_json.specs.Value.{Value, depth, fields_of, fields_depth, text_of}
use Rattle.room_json.proofs.TextsAreUtf8.{text_spells}
use Rattle.room_bytes.specs.Laws.{IsBytes}
use Rattle.room_bytes.specs.Spelling.{u32_bytes, u64_bytes, text_bytes, json_bytes, field_bytes, fields_bytes}
use Rattle.room_valid.proofs.Jsons.{spelled_utf8}
use Rattle.room_valid.proofs.Options.{both}

abbrev pub AreLow : List ℕ → Type 0
AreLow [] = ⊤
AreLow (b ∷ bs) = (b < 256) × AreLow bs

pub low_append : (xs ys : List ℕ) → AreLow xs → AreLow ys → AreLow (xs ++ ys)
low_append [] ys h k = k
low_append (x ∷ xs) ys h k = (h.0, low_append xs ys h.1 k)

pub low_front : (xs ys : List ℕ) → AreLow (xs ++ ys) → AreLow xs
low_front [] ys h = tt
low_front (x ∷ xs) ys h = (h.0, low_front xs ys h.1)

pub low_behind : (xs ys : List ℕ) → AreLow (xs ++ ys) → AreLow ys
low_behind [] ys h = h
low_behind (x ∷ xs) ys h = low_behind xs ys h.1

pub low_take : (n : ℕ) (xs : List ℕ) → AreLow xs → AreLow (take n xs)
low_take zero xs h = tt
low_take (suc n) [] h = tt
low_take (suc n) (x ∷ xs) h = (h.0, low_take n xs h.1)

pub low_drop : (n : ℕ) (xs : List ℕ) → AreLow xs → AreLow (drop n xs)
low_drop zero xs h = h
low_drop (suc n) [] h = tt
low_drop (suc n) (x ∷ xs) h = low_drop n xs h.1

pub low_bytes : (xs : List ℕ) → AreLow xs → IsBytes xs
low_bytes [] h i = omega arith
low_bytes (x ∷ xs) h zero = h.0
low_bytes (x ∷ xs) h (suc i) = low_bytes xs h.1 i

pub low_flat : {A : Type 0} (f : A → List ℕ) (xs : List A) → ((x : A) → AreLow (f x)) → AreLow (flat_map f xs)
low_flat f [] h = tt
low_flat f (x ∷ xs) h = low_append (f x) (flat_map f xs) (h x) (low_flat f xs h)

pub each_low : {A : Type 0} (f : A → List ℕ) (xs : List A) → AreLow (flat_map f xs)
    → AllByRecursion (λ x. AreLow (f x)) xs
each_low f [] h = tt
each_low f (x ∷ xs) h =
    (low_front (f x) (flat_map f xs) h, each_low f xs (low_behind (f x) (flat_map f xs) h))

-- numbers

remainder : (n : ℕ) → n % 256 < 256
remainder n = omega arith

low_byte : (k n : ℕ) → byte_at k n < 256
low_byte zero n = remainder n
low_byte (suc k) n = remainder (n / 256 ^ suc k)

low_number : (k n : ℕ) → AreLow (bytes_high_first k n)
low_number zero n = tt
low_number (suc k) n = (low_byte k n, low_number k n)

pub low_u32 : (n : ℕ) → AreLow (u32_bytes n)
unfolding u32_bytes
low_u32 n = low_number 4 n

pub low_u64 : (n : ℕ) → AreLow (u64_bytes n)
unfolding u64_bytes
low_u64 n = low_number 8 n

-- texts

scalar_small : (c : ℕ) → IsScalar c → c < 1114112
scalar_small c s = grind (arith, nat_tests, s)

low_char_by : (c : ℕ) (x y z : Bool) → nat_lt c 128 ≡ x → nat_lt c 2048 ≡ y → nat_lt c 65536 ≡ z → c < 1114112
    → AreLow (cond x (c ∷ []) (cond y ((192 + c / 64) ∷ (128 + c % 64) ∷ [])
    (cond z ((224 + c / 4096) ∷ (128 + (c / 64) % 64) ∷ (128 + c % 64) ∷ [])
    ((240 + c / 262144) ∷ (128 + (c / 4096) % 64) ∷ (128 + (c / 64) % 64) ∷ (128 + c % 64) ∷ []))))
low_char_by c true y z e f g h = (grind (arith, nat_tests, e), tt)
low_char_by c false true z e f g h = (grind (arith, nat_tests, f), (omega arith, tt))
low_char_by c false false true e f g h = (grind (arith, nat_tests, g), (omega arith, (omega arith, tt)))
low_char_by c false false false e f g h = (omega (arith, h), (omega arith, (omega arith, (omega arith, tt))))

low_char : (c : ℕ) → IsScalar c → AreLow (encode_utf8 c)
unfolding encode_utf8
low_char c s = low_char_by c (nat_lt c 128) (nat_lt c 2048) (nat_lt c 65536) refl refl refl (scalar_small c s)

low_chars : (cs : List ℕ) → all_scalars cs ≡ true → AreLow (encode_utf8_all cs)
low_chars [] s = tt
low_chars (c ∷ cs) s =
    let p = both _ (all_scalars cs) s in
    low_append (encode_utf8 c) (encode_utf8_all cs) (low_char c p.0) (low_chars cs p.1)

pub low_utf8 : (t : List ℕ) → IsUtf8 t → AreLow t
low_utf8 t u = subst AreLow u.1.1 (low_chars u.0 u.1.0)

pub low_text : (t : List ℕ) → IsUtf8 t → AreLow (text_bytes t)
unfolding text_bytes
low_text t u = low_append (u32_bytes (length t)) t (low_u32 (length t)) (low_utf8 t u)

-- values

pub low_json : (v : Value) → IsJson v → depth v ≤ 60 → AreLow (json_bytes v)
unfolding json_bytes
low_json v h small = low_text (text_of v) (spelled_utf8 (text_of v) v (text_spells v h small))

low_each : (fs : List (List ℕ × Value)) → HaveJson (fields_of fs) → fields_depth (fields_of fs) ≤ 60
    → AreLow (flat_map field_bytes fs)
unfolding field_bytes
low_each [] h small = tt
low_each (f ∷ fs) h small =
    low_append (text_bytes f.0 ++ json_bytes f.1) (flat_map field_bytes fs)
    (low_append (text_bytes f.0) (json_bytes f.1) (low_text f.0 h.0) (low_json f.1 h.1 (omega (arith, small))))
    (low_each fs h.2 (omega (arith, small)))

pub low_fields : (fs : List (List ℕ × Value)) → HaveJson (fields_of fs) → fields_depth (fields_of fs) ≤ 60
    → AreLow (fields_bytes fs)
unfolding fields_bytes
low_fields fs h small =
    low_append (u32_bytes (length fs)) (flat_map field_bytes fs) (low_u32 (length fs)) (low_each fs h small)
