use Rattle.std.proofs.Common.{drop, length}
use Rattle.std.specs.Prelude.{Option, IsSome}
use Rattle.room_log.specs.Log.{Update, session_of}
use Rattle.room_log.specs.Taking.{take}
use Rattle.room_model.specs.Server.{act_all}
use Rattle.room_store.specs.Stored.{IsOpen}
use Rattle.room_arrivals.specs.Serving.{server_of, Keeps}
use Rattle.room_arrivals.specs.Seats.{AreSeated}
use Rattle.room_arrivals.specs.Waiting.{Waits}
use Rattle.room_arrivals.proofs.Ending.{ending, Goes}
use Rattle.room_arrivals.proofs.acting.act_all.Given as goal

abbrev pub invariant-loop-msg : goal.invariant-loop-msg
invariant-loop-msg g l =
    IsOpen l.store l.draft.group
    × IsSome (session_of l.store.state.sessions l.actor)
    × AreSeated (length l.store.state.sessions) l.draft.links
    × Keeps l.initial.store l.store
    × ((u : Option Update) → Waits l.initial.waits (take l.initial.store.state l.actor l.ops) u
    → Goes (server_of l.store l.setting l.draft.links) l.conn l.actor l.waits (take l.store.state l.actor l.ops)
    (drop l.msg-index l.msgs) l.draft.outs l.draft.group.entries
    (ending (act_all (server_of l.initial.store l.setting l.initial.draft.links) l.conn l.actor u l.msgs)
    l.initial.draft.outs l.initial.draft.group.entries))
