-- A call that makes what the model makes has the effect.
use Rattle.std.proofs.Common.{◌≡◌}
use Rattle.std.specs.Prelude.{Result, Ok, Err, IfOk}
use Rattle.room_nodes.specs.Shape.{Nodes, IsFormed}
use Rattle.room_nodes.specs.Sound.{IsSoundTree}
use Rattle.room_model.specs.Edits.{Edit, Clocks, Made, make}
use Rattle.room_model.specs.Sound.{IsSoundEdit}
use Rattle.room_effect.specs.Effect.{EffectOf}
use Rattle.room_effect.proofs.Named.{edits}

-- what an answer stands for
pub shows : {A E : Type 0} (meaning : A → Made) (t : Nodes) (c : Clocks) (e : Edit) → IsFormed t → IsSoundTree t → IsSoundEdit e → (r : Result A E) → IfOk r (λ m. make t c e ≡ Ok (meaning m))
    → IfOk r (λ m. EffectOf t c e (meaning m).ops)
shows meaning t c e f sound so (Err x) h = tt
shows meaning t c e f sound so (Ok m) h = λ new. edits t c e (meaning m) f sound so new h
