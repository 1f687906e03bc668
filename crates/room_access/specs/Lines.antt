-- What some lines of the program stand for, and what stands behind lines that were read.
use Rattle.std.specs.Prelude.{◌≡◌, ⊤, ℕ, List, [], ◌∷◌, ◌++◌, Result, Ok, Err}
use Rattle.room_model.specs.Access.{Access}
use Rattle.room_access.specs.Grammar as grammar
use Rattle.room_access.specs.Grammar.{gathered}
use Rattle.room_access.specs.View.{pass_of, rule_of}
use Rattle.room_access.specs.declared.fault.AccessFault.{AccessFault}
use Rattle.room_access.specs.declared.fault.AccessFault.TheVariants.{Memory, BadLine}
use Rattle.room_access.specs.declared.lines.Line.{Line}
use Rattle.room_access.specs.declared.lines.Line.TheVariants.{Pass, Rule}

abbrev pub line_of : Line → grammar.Line
line_of (Pass p) = grammar.APass (pass_of p)
line_of (Rule r) = grammar.ARule (rule_of r)

-- a fault that stands for a bad line; memory may run out at any time
abbrev pub IsFaultOf : {A : Type 0} → Result A ℕ → AccessFault → Type 0
IsFaultOf r Memory = ⊤
IsFaultOf r (BadLine k) = r ≡ Err k

-- one line more
abbrev pub with_last : Access → grammar.Line → Access
with_last a (grammar.APass p) = record { passes = a.passes ++ p ∷ []; policy = a.policy }
with_last a (grammar.ARule r) = record { passes = a.passes; policy = a.policy ++ r ∷ [] }

-- all lines more
abbrev pub joined : Access → Access → Access
joined a b = record { passes = a.passes ++ b.passes; policy = a.policy ++ b.policy }

abbrev pub behind : Access → Result (List (ℕ × grammar.Line)) ℕ → Result Access ℕ
behind a (Ok ls) = Ok (joined a (gathered ls))
behind a (Err bad) = Err bad
