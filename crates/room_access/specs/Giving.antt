-- What a reader of a part answers.
use Rattle.std.specs.Prelude.{◌≡◌, ⊤, Option, Some, None, Result, Ok, Err}
use Rattle.room_access.specs.declared.fault.Misread.{Misread}
use Rattle.room_access.specs.declared.fault.Misread.TheVariants.{Memory, Outside}

abbrev pub Fails : {Y : Type 0} → Misread → Option Y → Type 0
Fails Memory read = ⊤
Fails Outside read = read ≡ None

-- what was read, seen by view, is what the definition reads, unless memory ran out
abbrev pub Gives : {X Y : Type 0} → (X → Y) → Result X Misread → Option Y → Type 0
Gives view (Ok x) read = read ≡ Some (view x)
Gives view (Err e) read = Fails e read
