-- An entry that goes back, change by change, and what it makes of an account.
use Rattle.std.specs.Prelude.{◌≡◌, ◌+◌, ℕ, true, false, ◌&&◌, nat_lt, List, [], ◌∷◌, ◌++◌, map, length}
use Rattle.std.specs.Prelude.{Some, None, ⊤}
use Rattle.room_json.specs.Value.{Value, merged}
use Rattle.room_nodes.specs.declared.nodes.Body.{Body}
use Rattle.room_nodes.specs.declared.nodes.Change.{Change}
use Rattle.room_nodes.specs.declared.nodes.Change.TheVariants.{Op as OpChange, Presence as PresenceChange}
use Rattle.room_nodes.specs.Reversal.{reverse}
use Rattle.room_nodes.specs.Shape.{Nodes}
use Rattle.room_nodes.specs.Steps.{step}
use Rattle.room_log.specs.Log.{ops_from}
use Rattle.room_model.specs.Account.{Account, actor, last_issued, is_some_list, size_of, frame_of_ops, most_bytes}
use Rattle.room_model.specs.Calls.{Direction, Undo as GoUndo, Redo as GoRedo, gone, issues_of, op_change}
use Rattle.room_model.specs.Edits.{spent}
use Rattle.room_model.specs.Presence.{with_names, back_of}
use Rattle.room_editor.specs.declared.going.Way.{Way}
use Rattle.room_editor.specs.declared.going.Way.TheVariants.{Undo, Redo}
use Rattle.room_editor.specs.declared.faults.UndoFault.{UndoFault}
use Rattle.room_editor.specs.declared.faults.UndoFault.TheVariants as fault

abbrev pub way_of : Way → Direction
way_of Undo = GoUndo
way_of Redo = GoRedo

-- one change

abbrev pub change_bodies : Change → List Body
change_bodies (OpChange b) = b ∷ []
change_bodies (PresenceChange p) = []

abbrev pub change_tree : Nodes → Change → Nodes
change_tree t (OpChange b) = step t b
change_tree t (PresenceChange p) = t

abbrev pub change_presence : List (List ℕ × Value) → Change → List (List ℕ × Value)
change_presence me (OpChange b) = me
change_presence me (PresenceChange p) = merged me p

abbrev pub change_names : List (List ℕ) → Change → List (List ℕ)
change_names ns (OpChange b) = ns
change_names ns (PresenceChange p) = with_names ns p

abbrev pub change_back : Nodes → List (List ℕ × Value) → Change → List Change
change_back t me (OpChange b) = map op_change (reverse t b)
change_back t me (PresenceChange p) = PresenceChange (back_of me p) ∷ []

-- whether the operations fit: their clocks, and then their frame

abbrev pub entry_size : Account → List Body → ℕ
entry_size x bs = size_of (frame_of_ops (ops_from (actor x) (last_issued x + 1) bs))

pub record FitsIn (x : Account) (bs : List Body) : Type 0 where
  pub clocks : spent (last_issued x + 1) (length bs) ≡ None
  pub size : (is_some_list bs && nat_lt most_bytes (entry_size x bs)) ≡ false

abbrev pub IsOpsFault : Account → List Body → UndoFault → Type 0
IsOpsFault x bs fault.Memory = ⊤
IsOpsFault x bs fault.InBatch = ⊥
IsOpsFault x bs (fault.ClocksSpent last) = spent (last_issued x + 1) (length bs) ≡ Some last
IsOpsFault x bs (fault.BatchTooLarge bytes) =
    (spent (last_issued x + 1) (length bs) ≡ None) × (((is_some_list bs && nat_lt most_bytes (entry_size x bs)) ≡ true)
    × (bytes ≡ entry_size x bs))
IsOpsFault x bs (fault.TooLarge bytes) = ⊥

-- what goes back on the account
abbrev pub returned : Direction → Account → List Body → List (List ℕ × Value) → List (List ℕ) → List Change → Account
returned way x bs me unsent reversal = record x {
  fresh = x.fresh ++ issues_of x bs;
  me = me;
  unsent = unsent;
  history = gone way reversal x.history;
}
