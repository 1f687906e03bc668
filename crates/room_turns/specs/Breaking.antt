-- Whether the trying of a turn was broken off.
use Rattle.std.specs.Prelude.{ℕ, Bool, true, false, List, [], ◌∷◌}
use Rattle.room_hub.specs.declared.hub.Happening.{Happening}
use Rattle.room_hub.specs.declared.hub.Happening.TheVariants.{Gave, Did, Failed}
use Rattle.room_model.specs.Server.{Outbound}
use Rattle.room_serving.specs.Serving.{Serving, after}

-- a deed behind which something of its turn is still to be tried
abbrev pub leaves_some : List (ℕ × Outbound) → Happening → Bool
leaves_some [] h = false
leaves_some (o ∷ []) h = false
leaves_some (o ∷ p ∷ os) (Did d) = true
leaves_some (o ∷ p ∷ os) (Gave e) = false
leaves_some (o ∷ p ∷ os) Failed = false

-- whether, behind what happened, a part of a turn was tried and not all of it; at the beginning `is` says so
abbrev pub is_midway : Serving → (is : Bool) → List Happening → Bool
is_midway m is [] = is
is_midway m is (h ∷ hs) = is_midway (after m h) (leaves_some m.todo h) hs
