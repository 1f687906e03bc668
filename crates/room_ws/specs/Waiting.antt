-- Streams that wait for a listener's `accept`.
use Rattle.std.specs.Prelude.{◌≡◌, ⊤, List, [], ◌∷◌, Option, Some, None, Result, Ok, Err}

-- Where it is told what waits: the first stream is taken; none is answered only where none waits; a failed call takes
-- none.
abbrev pub Takes : {S E : Type 0} → Option (List S) → Option (List S) → Result (Option S) E → Type 0
Takes None new result = ⊤
Takes (Some waiting) new (Ok None) = (waiting ≡ []) × (new ≡ Some [])
Takes {S} (Some waiting) new (Ok (Some stream)) = (rest : List S) × (waiting ≡ stream ∷ rest) × (new ≡ Some rest)
Takes (Some waiting) new (Err e) = new ≡ Some waiting
