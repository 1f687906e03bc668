-- The gap into which an item moves.
use Rattle.std.proofs.Common.{◌≡◌, ◌≤◌, ◌<◌, ◌+◌, ◌==◌, ℕ, Bool, true, false, cond, nat_lt, length, min, refl, sym, ap, ◌∙◌, arith}
use Rattle.std.proofs.lemmas.Bool.Decides.{nat_tests}
use Rattle.room_model.specs.Edits.{moved_key}
use Rattle.room_effect.specs.Beside.{Kids, left_of, right_of, key_between}
use Rattle.room_effect.proofs.Gaps.{insert_key, move_right, move_left}
use Rattle.room_list.specs.Listing.{end, gap_beside}

gap_by : (cs : Kids) (f t : ℕ) (b : Bool) → nat_lt f t ≡ b → (f == t) ≡ false → t < length cs → length cs ≤ end
    → key_between (left_of (cond b (min (t + 1) end) t) cs) (right_of (cond b (min (t + 1) end) t) cs) ≡ moved_key cs f t
gap_by cs f t true lt ne l m =
    let here : min (t + 1) end ≡ t + 1 = omega (arith, l, m) in
    let less : f < t = grind (arith, nat_tests, lt) in
    ap (λ g. key_between (left_of g cs) (right_of g cs)) here ∙ insert_key cs (t + 1) (omega (arith, l)) ∙ sym (move_right cs f t less l)
gap_by cs f t false lt ne l m =
    let more : t < f = grind (arith, nat_tests, lt, ne) in
    insert_key cs t (omega (arith, l)) ∙ sym (move_left cs f t more l)

pub move_key : (cs : Kids) (f t : ℕ) → (f == t) ≡ false → t < length cs → length cs ≤ end
    → key_between (left_of (gap_beside f t) cs) (right_of (gap_beside f t) cs) ≡ moved_key cs f t
move_key cs f t ne l m = gap_by cs f t (nat_lt f t) refl ne l m
