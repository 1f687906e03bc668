-- The nodes of a tree in order: each before those below it, children in byte order of their keys.
use Rattle.std.specs.Prelude.{ℕ, zero, suc, List, [], ◌∷◌}
use Rattle.std.specs.List.{flat_map}
use Rattle.room_ids.specs.declared.ids.NodeId.{NodeId}
use Rattle.room_nodes.specs.Shape.{Nodes, children}

-- x and what lies at most n steps below it
unfoldable pub preorder_within : ℕ → Nodes → NodeId → List NodeId
preorder_within zero t x = x ∷ []
preorder_within (suc n) t x = x ∷ flat_map (λ (e : List ℕ × NodeId). preorder_within n t e.1) (children t x)

-- x and all below it: no node is deeper than 60
unfoldable pub preorder : Nodes → NodeId → List NodeId
preorder t x = preorder_within 60 t x
