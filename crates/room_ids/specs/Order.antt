-- The order of ids.
use Rattle.std.specs.Prelude.{ℕ, List, [], ◌∷◌, Bool}
use Rattle.std.specs.declared.cmp.Ordering.{Ordering}
use Rattle.std.specs.Ordering.{nat_cmp, on, eq_by_cmp}
use Rattle.std.specs.Cmp.Lexicographic.{slice_cmp}
use Rattle.room_ids.specs.Stamp.{Stamp}
use Rattle.room_ids.specs.declared.ids.NodeId.{NodeId}
use Rattle.room_ids.specs.declared.ids.NodeId.TheVariants.{Root, Made}

-- the numbers of an id: none for the root
abbrev pub numbers : NodeId → List ℕ
numbers Root = []
numbers (Made s) = s.actor ∷ s.clock ∷ []

-- the root first, and then by actor and clock
abbrev pub node_cmp : NodeId → NodeId → Ordering
node_cmp = on numbers (slice_cmp nat_cmp)

abbrev pub is_same : NodeId → NodeId → Bool
is_same = eq_by_cmp node_cmp

-- by actor and clock
abbrev pub stamp_numbers : Stamp → List ℕ
stamp_numbers s = s.actor ∷ s.clock ∷ []

abbrev pub stamp_cmp : Stamp → Stamp → Ordering
stamp_cmp = on stamp_numbers (slice_cmp nat_cmp)

abbrev pub is_same_stamp : Stamp → Stamp → Bool
is_same_stamp = eq_by_cmp stamp_cmp
