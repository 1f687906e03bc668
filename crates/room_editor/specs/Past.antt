-- What can be undone and redone, with the bag of a pause kept beside the lists.
use Rattle.std.specs.Prelude.{ℕ, Bool, true, false, List, [], ◌∷◌, length, Option, Some, None}
use Rattle.room_nodes.specs.declared.nodes.Change.{Change}
use Rattle.room_model.specs.History.{History}

-- while the bag holds anything there is nothing to redo
abbrev pub redo_beside : List (List Change) → List Change → List (List Change)
redo_beside redo [] = redo
redo_beside redo (c ∷ cs) = []

abbrev pub bag_in : Bool → List Change → Option (List Change)
bag_in true bag = Some bag
bag_in false bag = None

-- the lists, and the changes that were gathered since the pause, if there is one
abbrev pub past_of : History → Bool → List Change → History
past_of lists paused bag = record { undo = lists.undo; redo = redo_beside lists.redo bag; bag = bag_in paused bag }

-- how many changes a pause has gathered
abbrev pub length_in : Option (List Change) → ℕ
length_in None = 0
length_in (Some bag) = length bag

abbrev pub bag_length : History → ℕ
bag_length h = length_in h.bag
