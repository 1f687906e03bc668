use Rattle.std.proofs.Common.{◌≡◌, ◌≤◌, ℕ, true, List, map, drop}
use Rattle.room_links.specs.Outs.{written}
use Rattle.room_log.specs.Log.{Entry}
use Rattle.room_model.specs.Server.{Outbound, Server}
use Rattle.room_serving.specs.Serving.{Ending}
use Rattle.room_turns.proofs.Tried.{Trying}
use Rattle.room_turns.proofs.trying.try_all.Given as goal

abbrev pub invariant-loop-out : goal.invariant-loop-out
invariant-loop-out g l =
    let h = g.H.Hub in
    record {
      tries : h.tells ≡ true → (v : Server) (left : ℕ) (ending : Ending) (groups : List (List Entry)) (owed : ℕ)
          (todo : List (ℕ × Outbound)) → map written todo ≡ l.outs
          → Trying v left ending groups owed todo (h.happened l.initial.hub) (h.happened l.hub)
          (drop l.out-index l.outs) l.lost;
      asked : h.asked l.hub ≡ h.asked l.initial.hub;
      later : h.faults l.initial.hub ≤ h.faults l.hub;
    }
