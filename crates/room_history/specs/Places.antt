-- How many entries there are, and the places for them.
use Rattle.std.specs.Prelude.{◌≡◌, ◌≤◌, ◌<◌, ◌+◌, ℕ, List, length, Option, Some, None}
use Rattle.room_nodes.specs.declared.nodes.Change.{Change}

abbrev pub held : Option (List Change) → ℕ
held None = 0
held (Some bag) = length bag

-- each list has 50 places; together they have as many entries at most, and none to redo while a bag holds anything
abbrev pub IsBounded : ℕ → ℕ → ℕ → ℕ → Option (List Change) → Type 0
IsBounded undo_places undos redo_places redos bag =
    (50 ≤ undo_places) × (50 ≤ redo_places) × (undos + redos ≤ 50) × (0 < held bag → redos ≡ 0)
