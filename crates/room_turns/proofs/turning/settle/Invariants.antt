use Rattle.std.proofs.Common.{◌≡◌, ◌≤◌, ◌+◌, ℕ, true, List, map}
use Rattle.std.specs.FinMap.{len}
use Rattle.room_links.specs.Outs.{written}
use Rattle.room_log.specs.Log.{Entry}
use Rattle.room_model.specs.Server.{Outbound}
use Rattle.room_server.specs.Hosted.{server_in}
use Rattle.room_serving.specs.Serving.{Ending}
use Rattle.room_turns.specs.Turning.{IsServing}
use Rattle.room_turns.proofs.Settled.{Settling}
use Rattle.room_turns.proofs.Turned.{weight}
use Rattle.room_turns.proofs.turning.settle.Given as goal

abbrev pub invariant-loop-alloc : goal.invariant-loop-alloc
invariant-loop-alloc g l =
    let h = g.H.Hub in
    let d = g.D.Disk in
    record {
      settling : h.tells ≡ true → (left : ℕ) (ending : Ending) (todo : List (ℕ × Outbound)) (groups : List (List Entry))
          (owed : ℕ) → map written todo ≡ l.fn.outs
          → Settling (server_in l.initial.server) left ending todo groups owed (h.happened l.initial.hub)
          (h.happened l.hub) (server_in l.server) l.outs;
      serving : d.tells ≡ true → IsServing (d.seen l.disk) (d.images l.disk (d.moment l.disk)) l.server;
      state : (server_in l.server).state ≡ (server_in l.initial.server).state;
      still : l.disk ≡ l.initial.disk;
      asked : h.asked l.hub ≡ h.asked l.initial.hub;
      later : h.faults l.initial.hub ≤ h.faults l.hub;
    }

abbrev pub decreases-loop-alloc : goal.decreases-loop-alloc
decreases-loop-alloc g l = len l.server.links + weight l.outs
