-- Where a user goes.
use Rattle.std.proofs.Common.{◌≡◌, ℕ, List, [], ◌∷◌, refl, arith}
use Rattle.std.specs.List.{insert}
use Rattle.std.proofs.lemmas.Grind.{common_steps}
use Rattle.room_msg.specs.Users.{insert_user, place_of}

pub insert_placed : (n : ℕ) (t : List ℕ) (xs : List (ℕ × List ℕ)) → insert xs (place_of n xs) (n, t) ≡ insert_user (n, t) xs
insert_placed n t [] = refl
insert_placed n t (x ∷ xs) = grind (arith, common_steps, insert_placed n t xs)
