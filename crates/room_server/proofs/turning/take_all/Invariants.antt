use Rattle.std.proofs.Common.{◌≡◌, drop, length}
use Rattle.room_store.specs.Stored.{IsOpen}
use Rattle.room_arrivals.specs.Serving.{server_of, Keeps}
use Rattle.room_arrivals.specs.Seats.{AreSeated}
use Rattle.room_server.specs.Turn.{turned}
use Rattle.room_server.proofs.Ending.{ending}
use Rattle.room_server.proofs.turning.take_all.Given as goal

abbrev pub invariant-loop-came : goal.invariant-loop-came
invariant-loop-came g l =
    IsOpen l.store l.draft.group
    × AreSeated (length l.store.state.sessions) l.draft.links
    × Keeps l.initial.store l.store
    × (ending (turned (server_of l.store l.setting l.draft.links) (drop l.came-index l.arrivals))
    l.draft.outs l.draft.group.entries
    ≡ ending (turned (server_of l.initial.store l.setting l.initial.draft.links) l.arrivals)
    l.initial.draft.outs l.initial.draft.group.entries)
