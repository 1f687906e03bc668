use Rattle.std.proofs.Common.{◌≡◌, ◌≤◌, ◌+◌, true}
use Rattle.room_server.specs.Hosted.{server_in}
use Rattle.room_serving.specs.Serving as serving
use Rattle.room_turns.specs.Turning.{IsServing}
use Rattle.room_turns.proofs.Running.{SoFar}
use Rattle.room_turns.proofs.serving.run.Given as goal

abbrev pub invariant-loop-left : goal.invariant-loop-left
invariant-loop-left g l =
    let h = g.H.Hub in
    let d = g.D.Disk in
    let was = l.initial in
    record {
      so_far : d.tells ≡ true → h.tells ≡ true
          → SoFar d.seen d.moment d.images was.server.store.state (server_in was.server) l.fn.turns
          (h.happened was.hub) (h.happened l.hub) was.disk l.disk l.left serving.GoesOn (server_in l.server);
      serving : d.tells ≡ true → IsServing (d.seen l.disk) (d.images l.disk (d.moment l.disk)) l.server;
      asked : h.asked l.hub + l.left ≤ h.asked was.hub + l.fn.turns;
      hub_later : h.faults was.hub ≤ h.faults l.hub;
      later : d.faults was.disk ≤ d.faults l.disk;
      inner_later : d.inner_faults was.disk ≤ d.inner_faults l.disk;
      came : d.came was.disk l.disk;
    }

abbrev pub decreases-loop-left : goal.decreases-loop-left
decreases-loop-left g l = l.left
