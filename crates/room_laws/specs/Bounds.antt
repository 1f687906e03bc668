-- How many entries a history holds.
use Rattle.std.specs.Prelude.{◌≡◌, ◌≤◌, ◌+◌, ◌⊎◌, List, length, IsSome}
use Rattle.room_nodes.specs.declared.nodes.Change.{Change}
use Rattle.room_model.specs.History.{History, empty_history, note, pause, resume, clear, undo_entry, redo_entry, undone}
use Rattle.room_model.specs.History.{redone, bag_count}

-- the history's lists hold 50 entries at most, and a bag stands beside an empty redo list
pub record IsBounded (h : History) : Type 0 where
  pub lists : length h.undo + length h.redo ≤ 50
  pub bag : (bag_count h.bag ≡ 0) ⊎ (length h.redo ≡ 0)

pub record HistoryBounded : Type 0 where
  pub empty : IsBounded empty_history
  pub note : (e : List Change) (h : History) → IsBounded h → IsBounded (note e h)
  pub pause : (h : History) → IsBounded h → IsBounded (pause h)
  pub resume : (h : History) → IsBounded h → IsBounded (resume h)
  pub clear : (h : History) → IsBounded h → IsBounded (clear h)
  pub undone : (r : List Change) (h : History) → IsSome (undo_entry h) → IsBounded h → IsBounded (undone r h)
  pub redone : (r : List Change) (h : History) → IsSome (redo_entry h) → IsBounded h → IsBounded (redone r h)
