use Rattle.std.proofs.Common.{◌≡◌, ◌≤◌, ◌+◌, ℕ, true, List, [], length}
use Rattle.room_log.specs.Log.{Entry}
use Rattle.room_model.specs.Server.{Server}
use Rattle.room_serving.specs.Serving as serving
use Rattle.room_serving.specs.Serving.{turn_if_full}
use Rattle.room_turns.specs.Gathering.{events_of}
use Rattle.room_turns.specs.Parts.{gathering, Leads}
use Rattle.room_turns.proofs.gathering.gather.Given as goal

abbrev pub invariant-loop-left : goal.invariant-loop-left
invariant-loop-left g l =
    let h = g.H.Hub in
    record {
      leads : h.tells ≡ true → (v : Server) (groups : List (List Entry)) (owed : ℕ)
          → Leads (gathering v l.initial.left serving.GoesOn [] groups owed) (h.happened l.initial.hub) (h.happened l.hub)
          (turn_if_full (gathering v l.left serving.GoesOn (events_of l.came) groups owed));
      counted : length l.came + l.left ≤ l.initial.left;
      asked : h.asked l.hub + l.left ≤ h.asked l.initial.hub + l.initial.left;
      later : h.faults l.initial.hub ≤ h.faults l.hub;
    }

abbrev pub decreases-loop-left : goal.decreases-loop-left
decreases-loop-left g l = l.left
