-- Operations that go back, as changes.
use Rattle.std.specs.Prelude.{◌≡◌, ℕ, List, [], ◌∷◌, ◌++◌, map}
use Rattle.room_ids.specs.declared.ids.NodeId.{NodeId}
use Rattle.room_model.specs.Calls.{entry_bodies, op_change}
use Rattle.room_nodes.specs.declared.nodes.Body.{Body}
use Rattle.room_nodes.specs.declared.nodes.Change.{Change}
use Rattle.room_nodes.specs.Preorder.{preorder_within}
use Rattle.room_nodes.specs.Reversal.{creations}
use Rattle.room_nodes.specs.Shape.{Nodes}
use Rattle.room_nodes.specs.Steps.{fold}

abbrev pub as_changes : List Body → List Change
as_changes bs = map op_change bs

-- the operations, and then those of the changes, leave the tree as it was
abbrev pub LeadsBack : Nodes → List Body → List Change → Type 0
LeadsBack t bs cs = fold (fold t bs) (entry_bodies cs) ≡ t

-- what restores a node with all that lies at most n levels below it
abbrev pub restored_within : ℕ → Nodes → NodeId → List Change
restored_within n t x = as_changes (creations t (preorder_within n t x))

-- lists joined, the last one first
abbrev pub last_first : List (List Change) → List Change
last_first [] = []
last_first (c ∷ cs) = last_first cs ++ c
