-- Undo and redo: lists of what goes back, and a pause that gathers.
use Rattle.std.specs.Prelude.{ℕ, ◌+◌, List, [], ◌∷◌, ◌++◌, length, take, drop, Option, Some, None}
use Rattle.room_nodes.specs.declared.nodes.Change.{Change}

-- Each list has the newest first. An entry is a list of changes, the newest first.
pub record History : Type 0 where
  pub undo : List (List Change)
  pub redo : List (List Change)
  pub bag : Option (List Change)  -- what was noted since the pause, while there is one

abbrev pub empty_history : History
empty_history = record { undo = []; redo = []; bag = None }

-- the undo list keeps the last 50
abbrev pub put_undo : List Change → History → History
put_undo e h = record h { undo = take 50 (e ∷ h.undo) }

-- noting: an empty list isn't noted; while paused it goes in front of the bag; the redo list is cleared

abbrev pub noted : List Change → History → Option (List Change) → History
noted e h None = record (put_undo e h) { redo = [] }
noted e h (Some bag) = record h { bag = Some (e ++ bag); redo = [] }

abbrev pub note : List Change → History → History
note [] h = h
note (c ∷ cs) h = noted (c ∷ cs) h h.bag

-- a pause opens an empty bag, if there is none

abbrev pub paused_at : History → Option (List Change) → History
paused_at h None = record h { bag = Some [] }
paused_at h (Some bag) = h

abbrev pub pause : History → History
pause h = paused_at h h.bag

-- what is in the bag becomes an entry, and the pause ends

abbrev pub resumed_at : History → Option (List Change) → History
resumed_at h None = h
resumed_at h (Some []) = record h { bag = None }
resumed_at h (Some (c ∷ cs)) = record (put_undo (c ∷ cs) h) { bag = None }

abbrev pub resume : History → History
resume h = resumed_at h h.bag

-- both lists and the bag are emptied, and a pause goes on

abbrev pub emptied : Option (List Change) → Option (List Change)
emptied None = None
emptied (Some bag) = Some []

abbrev pub clear : History → History
clear h = record { undo = []; redo = []; bag = emptied h.bag }

-- the last entry: a bag that isn't empty is one

abbrev pub newest : List (List Change) → Option (List Change)
newest [] = None
newest (e ∷ es) = Some e

abbrev pub entry_at : History → Option (List Change) → Option (List Change)
entry_at h None = newest h.undo
entry_at h (Some []) = newest h.undo
entry_at h (Some (c ∷ cs)) = Some (c ∷ cs)

abbrev pub undo_entry : History → Option (List Change)
undo_entry h = entry_at h h.bag

abbrev pub redo_entry : History → Option (List Change)
redo_entry h = newest h.redo

-- an entry was undone, and this reversal redoes it; the other way round
abbrev pub undone : List Change → History → History
undone reversal h = record (resume h) { undo = drop 1 (resume h).undo; redo = reversal ∷ (resume h).redo }

abbrev pub redone : List Change → History → History
redone reversal h = put_undo reversal (record (resume h) { redo = drop 1 (resume h).redo })

-- how many entries there are

abbrev pub bag_count : Option (List Change) → ℕ
bag_count None = 0
bag_count (Some []) = 0
bag_count (Some (c ∷ cs)) = 1

abbrev pub undo_count : History → ℕ
undo_count h = length h.undo + bag_count h.bag

abbrev pub redo_count : History → ℕ
redo_count h = length h.redo
