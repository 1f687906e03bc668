-- Steps that are taken back together.
use Rattle.std.specs.Prelude.{◌≡◌, ◌≤◌, ◌+◌, ℕ, List, [], ◌∷◌}
use Rattle.std.specs.FinMap.{len}
use Rattle.room_nodes.specs.Shape.{Nodes}
use Rattle.room_apply.specs.Edits.{CanTurnAll, puts_in}
use Rattle.room_apply.specs.Ways.{Way, backs, before}

-- on v the edits go back to s, where the nodes and the spare places are m together
pub record Leads (v : Nodes) (e : Way) (s : Nodes) (m : ℕ) : Type 0 where
  pub undone : e.undone ≡ []
  pub can : CanTurnAll v (backs e)
  pub before_is : before v e ≡ s
  pub place : puts_in (backs e) + len v ≤ m

-- each step's way leads back to where it was taken, the first one's to s; the last one was taken last
abbrev pub LeadBack : Nodes → List Way → Nodes → ℕ → Type 0
LeadBack s [] u m = u ≡ s
LeadBack s (e ∷ es) u m = (v : Nodes) × Leads v e s m × LeadBack v es u m
