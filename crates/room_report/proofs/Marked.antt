-- Lines with a mark.
use Rattle.std.proofs.Common.{◌≡◌, ℕ, List, ◌∷◌, ◌++◌, Option, Some, None, decimal, refl, sym, append_assoc}
use Rattle.room_model.specs.Lines.{words, marked}
use Rattle.room_report.specs.Words.{head}

pub marked_is : (name : List ℕ) (mark : Option ℕ) (w : List ℕ) (ws : List (List ℕ))
    → marked name mark (w ∷ ws) ≡ head name mark ++ 32 ∷ words (w ∷ ws)
marked_is name None w ws = refl
marked_is name (Some c) w ws = sym (append_assoc name (32 ∷ decimal c) (32 ∷ words (w ∷ ws)))
