-- A position that is too long.
use Rattle.std.specs.Prelude.{ℕ, List, ◌∷◌}
use Rattle.room_model.specs.Edits as model
use Rattle.room_model.specs.Edits.{placed, too_long}
use Rattle.room_nodes.specs.declared.nodes.Body.{Body}
use Rattle.room_props.specs.Edits.{IsFaultOf}
use Rattle.room_props.specs.declared.editing.EditFault.{EditFault as Fault}

-- why an edit whose first position is k is refused
abbrev pub IsLongKey : List ℕ → Fault → Type 0
IsLongKey k e =
    (c : model.Clocks) (n : ℕ) (bs : List Body) (ks : List (List ℕ)) → IsFaultOf (placed c n bs (too_long (k ∷ ks))) e
