-- The key of a session as a text: 16 lower-case hexadecimal digits.
use Rattle.std.specs.Prelude.{ℕ, zero, suc, ◌+◌, ◌/◌, ◌%◌, nat_eq, nat_le, nat_lt}
use Rattle.std.specs.Prelude.{Bool, true, ◌&&◌, ◌||◌, if◌then◌else◌, List, [], ◌∷◌, ◌++◌, length, Option, Some, None}
use Rattle.std.specs.Str.Parse.{digits_value}

abbrev pub hex_digit : ℕ → ℕ
hex_digit d = if nat_lt d 10 then 48 + d else 87 + d

-- so many digits, of which the last is the least
abbrev pub hex_digits : ℕ → ℕ → List ℕ
hex_digits zero k = []
hex_digits (suc n) k = hex_digits n (k / 16) ++ hex_digit (k % 16) ∷ []

unfoldable pub key_text : ℕ → List ℕ
key_text k = hex_digits 16 k

abbrev pub is_hex_digit : ℕ → Bool
is_hex_digit c = (nat_le 48 c && nat_le c 57) || (nat_le 97 c && nat_le c 102)

abbrev pub are_hex_digits : List ℕ → Bool
are_hex_digits [] = true
are_hex_digits (c ∷ cs) = is_hex_digit c && are_hex_digits cs

-- the key that a text spells
unfoldable pub key_in : List ℕ → Option ℕ
key_in t = if nat_eq (length t) 16 && are_hex_digits t then Some (digits_value 16 t) else None
