-- Numbers of the profile are read again.
use Rattle.std.proofs.Common.{◌≡◌, ◌≤◌, ◌≤ℤ◌, ℕ, ℤ, pos, negsuc, nat_le, int_le, Some, true, refl, rules}
use Rattle.room_json.specs.Value.{num_of}
use Rattle.room_json.specs.Reading.{whole_in}

le-true : (x y : ℕ) → x ≤ y → nat_le x y ≡ true
le-true x y h = search rules

int_le-true : (x y : ℤ) → x ≤ℤ y → int_le x y ≡ true
int_le-true x y h = search rules

pub whole_again : (z : ℤ) → negsuc 9007199254740990 ≤ℤ z → z ≤ℤ pos 9007199254740991 → whole_in (num_of z) ≡ Some z
whole_again (pos n) low high = rw (int_le-true (pos n) (pos 9007199254740991) high) refl
whole_again (negsuc n) low high = rw (int_le-true (negsuc 9007199254740990) (negsuc n) low) refl
