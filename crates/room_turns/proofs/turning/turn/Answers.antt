use Rattle.std.proofs.Common.{◌≡◌, ◌∙◌, ◌≤◌, ◌<◌, ◌+◌, ◌⊎◌, ◌++◌, sym, ap, subst, rules, ℕ, List, [], length, true}
use Rattle.std.specs.Prelude.{Ok, Err, Result, OnOk}
use Rattle.room_disk.specs.Model.{WithinWhole}
use Rattle.room_host.specs.Rests.{Each}
use Rattle.room_links.specs.declared.outs.Out.{Out}
use Rattle.room_log.specs.Log.{State, updates_of}
use Rattle.room_model.specs.Server.{Server}
use Rattle.room_replay.specs.Files.{StandsFor}
use Rattle.room_server.specs.Hosted.{server_in}
use Rattle.room_serving.specs.Serving.{group_of}
use Rattle.room_serving.specs.Turns.{turned, is_round}
use Rattle.room_turns.specs.Gathering.{events_of}
use Rattle.room_turns.specs.Holding.{IsCompacted}
use Rattle.room_turns.specs.Parts.{trying, Stops}
use Rattle.room_turns.specs.Turning.{CommitsTurn, Settles, Turns, compact_calls}
use Rattle.room_turns.specs.declared.fault.ServeFault.{ServeFault}
use Rattle.room_turns.proofs.Done.{Compacts, turn_first, turn_tried, turn_done}
use Rattle.room_turns.proofs.Turned.{turned_count}
use Rattle.room_turns.proofs.turning.turn.Goals as goal

pub returns-in_err-outs-clause-turns : goal.returns-in_err-outs-clause-turns
returns-in_err-outs-clause-turns g c told tells s left ending groups owed is few =
    let d = g.D.Disk in
    let h = g.H.Hub in
    let v = server_in c.args.server.now in
    let es = events_of c.args.came.now in
    let fault = c.in_err-outs.field-0.0 in
    let failed : c.from_residual.result ≡ Err fault = search rules in
    subst
    (λ (r : Result (Unit {0}) ServeFault). Turns {T = Unit {0}} d.seen d.moment d.images s (turned v es) left ending groups owed
    (h.happened c.args.hub.now) (h.happened c.args.hub.now) v (server_in c.take.new.server) c.args.disk.now
    c.take.new.disk r) (sym failed)
    (turn_first d.seen d.moment d.images s v es left ending groups owed {T = List Out} {U = Unit {0}} (h.happened c.args.hub.now)
    (server_in c.take.new.server) c.args.disk.now c.take.new.disk fault fault is few
    (c.in_err-outs.ensures.commits told s groups is))

pub returns-in_err-settle-clause-turns : goal.returns-in_err-settle-clause-turns
returns-in_err-settle-clause-turns g c told tells s left ending groups owed is few =
    let d = g.D.Disk in
    let h = g.H.Hub in
    let v = server_in c.args.server.now in
    let es = events_of c.args.came.now in
    let out = turned v es in
    let fault = c.in_err-settle.field-0.0 in
    let failed : c.from_residual-in_err-settle.result ≡ Err fault = search rules in
    let server = c.in_ok-outs.ensures.server in
    let stops : Stops {T = Unit {0}}
    (trying (server_in c.take.new.server) left ending out.outs [] (groups ++ group_of out.entries) owed)
    (h.happened c.args.hub.now) (h.happened c.settle.new.hub) (Err fault) =
    c.in_err-settle.ensures.stops tells left ending out.outs (groups ++ group_of out.entries) owed
    (sym c.in_ok-outs.ensures.outs) in
    let holds : Each (d.images c.take.new.disk (d.moment c.take.new.disk)) (StandsFor 0 out.server.state) =
    subst (λ (x : Server). Each (d.images c.take.new.disk (d.moment c.take.new.disk)) (StandsFor 0 x.state)) server
    (c.in_ok-outs.ensures.serving told).holds in
    subst
    (λ (r : Result (Unit {0}) ServeFault). Turns {T = Unit {0}} d.seen d.moment d.images s out left ending groups owed
    (h.happened c.args.hub.now) (h.happened c.settle.new.hub) v (server_in c.settle.new.server) c.args.disk.now
    c.settle.new.disk r) (sym failed)
    (subst
    (λ (e : g.row.D.Denot). Turns {T = Unit {0}} d.seen d.moment d.images s out left ending groups owed
    (h.happened c.args.hub.now) (h.happened c.settle.new.hub) v (server_in c.settle.new.server) c.args.disk.now
    e (Err fault)) (sym c.settle.ensures.still)
    (turn_tried d.seen d.moment d.images s v es left ending groups owed {T = List Out} {U = Unit {0}}
    (h.happened c.args.hub.now) (h.happened c.settle.new.hub) (server_in c.settle.new.server) c.args.disk.now
    c.take.new.disk c.in_ok-outs.outs fault is few (c.in_ok-outs.ensures.commits told s groups is) holds
    (subst
    (λ (x : Server). Stops {T = Unit {0}} (trying x left ending out.outs [] (groups ++ group_of out.entries) owed)
    (h.happened c.args.hub.now) (h.happened c.settle.new.hub) (Err fault)) server stops)))

pub returns-clause-turns : goal.returns-clause-turns
returns-clause-turns g c told tells s left ending groups owed is few =
    let d = g.D.Disk in
    let h = g.H.Hub in
    let v = server_in c.args.server.now in
    let es = events_of c.args.came.now in
    let out = turned v es in
    let later = groups ++ group_of out.entries in
    let k = length (updates_of out.entries) in
    let mid = c.settle.new.disk in
    let server = c.in_ok-outs.ensures.server in
    let still = c.settle.ensures.still in
    let before : c.count-before.result ≡ v.state.count = search rules in
    let state : c.settle.new.server.store.state ≡ out.server.state =
    c.in_ok-settle.ensures.state ∙ ap (λ (x : Server). x.state) server in
    let count : c.settle.new.server.store.state.count ≡ c.count-before.result + k =
    ap (λ (x : State). x.count) state ∙ turned_count v es ∙ ap (λ (n : ℕ). n + k) (sym before) in
    let settles : Settles (server_in c.take.new.server) left ending out.outs later owed (h.happened c.args.hub.now)
    (h.happened c.settle.new.hub) (server_in c.settle.new.server) =
    c.in_ok-settle.ensures.settles tells left ending out.outs later owed (sym c.in_ok-outs.ensures.outs) in
    let there : Settles out.server left ending out.outs later owed (h.happened c.args.hub.now)
    (h.happened c.settle.new.hub) (server_in c.compact_if_due.new.server) =
    subst
    (λ (x : Server). Settles out.server left ending out.outs later owed (h.happened c.args.hub.now)
    (h.happened c.settle.new.hub) x) (sym c.compact_if_due.ensures.server)
    (subst
    (λ (x : Server). Settles x left ending out.outs later owed (h.happened c.args.hub.now)
    (h.happened c.settle.new.hub) (server_in c.settle.new.server)) server settles) in
    let compact : Compacts d.seen d.moment d.images s v es left ending groups owed {U = Unit {0}} mid
    c.compact_if_due.new.disk c.compact_if_due.result = record {
      moments =
          subst
          (λ (x : State). WithinWhole d.moment d.images mid c.compact_if_due.new.disk (StandsFor 0 x)) state
          (c.compact_if_due.ensures.moments told);
      counted =
          subst
          (λ (n : ℕ). OnOk c.compact_if_due.result
          (d.moment c.compact_if_due.new.disk ≡ d.moment mid + compact_calls n k)) before
          (c.compact_if_due.ensures.counted told k count);
      bound =
          subst (λ (n : ℕ). d.moment c.compact_if_due.new.disk ≤ d.moment mid + compact_calls n k) before
          (c.compact_if_due.ensures.bound told k count);
      compacted = λ n most had.
          c.compact_if_due.ensures.compacted told k n count
          (subst (λ (j : ℕ). n ≤ j + k) (sym before) most)
          (subst (λ (j : ℕ). IsCompacted (d.seen mid) n ⊎ ((j < n) × (is_round n ≡ true))) (sym before) had);
    } in
    turn_done d.seen d.moment d.images s v es left ending groups owed (h.happened c.args.hub.now)
    (h.happened c.settle.new.hub) (server_in c.compact_if_due.new.server) c.args.disk.now mid
    c.compact_if_due.new.disk is few there (ap (λ (x : Server). x.state) c.compact_if_due.ensures.server ∙ state)
    {T = List Out} {U = Unit {0}} c.in_ok-outs.outs c.compact_if_due.result
    (subst
    (λ (e : g.row.D.Denot). CommitsTurn {T = List Out} d.moment d.images s groups out.entries c.args.disk.now e (Ok c.in_ok-outs.outs))
    (sym still) (c.in_ok-outs.ensures.commits told s groups is)) (λ f. g.met.D.Disk.seen_is_image mid f told)
    (λ n had.
    subst (λ (e : g.row.D.Denot). IsCompacted (d.seen e) n) (sym still) (c.in_ok-outs.ensures.compacted told n had))
    compact
