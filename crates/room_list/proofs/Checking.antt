-- Tests that are passed.
use Rattle.std.proofs.Common.{◌≡◌, ◌≤◌, ℕ, false, nat_lt, List, ◌∷◌, length, refl, arith}
use Rattle.std.specs.Prelude.{Result}
use Rattle.std.proofs.lemmas.Bool.Decides.{nat_tests}
use Rattle.room_model.specs.Edits as model
use Rattle.room_model.specs.Edits.{too_long}
use Rattle.room_props.specs.Weighing.{checked}

pub passed : (v d : ℕ) (r : Result model.Made model.EditFault) → v ≤ 50 → d ≤ 60 → checked v d r ≡ r
passed v d r l m =
    let p : nat_lt 50 v ≡ false = grind (arith, nat_tests, l) in
    let q : nat_lt 60 d ≡ false = grind (arith, nat_tests, m) in
    rw (p, q) refl

pub short : (k : List ℕ) (ks : List (List ℕ)) → length k ≤ 4096 → too_long (k ∷ ks) ≡ too_long ks
short k ks h = let e : nat_lt 4096 (length k) ≡ false = grind (arith, nat_tests, h) in rw e refl

pub ruleset checks = (passed, short)
