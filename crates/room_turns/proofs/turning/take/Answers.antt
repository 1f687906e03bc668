use Rattle.std.proofs.Common.{◌≡◌, ◌∙◌, ap, subst, rules, ℕ, List, map, length}
use Rattle.std.proofs.lemmas.List.{nil_from_length}
use Rattle.std.specs.Prelude.{Ok, Err, Result}
use Rattle.room_host.specs.Rests.{Each}
use Rattle.room_links.specs.Outs.{written}
use Rattle.room_links.specs.declared.outs.Out.{Out}
use Rattle.room_log.specs.Log.{Entry}
use Rattle.room_replay.specs.Files.{StandsFor}
use Rattle.room_server.specs.Commit.{Puts}
use Rattle.room_server.specs.Hosted.{server_in, broken_by}
use Rattle.room_server.specs.Turn as program
use Rattle.room_server.specs.declared.arrivals.Came.{Came}
use Rattle.room_server.specs.declared.fault.ServerFault.{ServerFault}
use Rattle.room_serving.specs.Turns.{Turned, turned}
use Rattle.room_store.specs.Stored.{held}
use Rattle.room_turns.specs.Gathering.{events_of}
use Rattle.room_turns.specs.Turning.{CommitsTurn}
use Rattle.room_turns.proofs.Compacted.{put_keeps}
use Rattle.room_turns.proofs.Standing.{put_ok, put_err, put_none}
use Rattle.room_turns.proofs.Turned.{same_turn, program_state}
use Rattle.room_turns.proofs.Whole.{store_whole, stays_whole}
use Rattle.room_turns.proofs.turning.take.Goals as goal

pub returns-then-len-eq0-clause-commits : goal.returns-then-len-eq0-clause-commits
returns-then-len-eq0-clause-commits g c told s groups is =
    let d = g.D.Disk in
    let empty : length c.args.came.now ≡ 0 = search rules in
    let none = nil_from_length c.args.came.now empty in
    put_none d.moment d.images s groups c.args.server.now.store.place c.args.server.now.store.place
    c.args.server.now.store.state (turned (server_in c.args.server.now) (events_of c.args.came.now)).entries
    c.args.disk.now c.new.result
    (ap (λ (cs : List Came). (turned (server_in c.args.server.now) (events_of cs)).entries) none) is
    (c.requires.serving told).holds

pub returns-in-Ok-clause-outs : goal.returns-in-Ok-clause-outs
returns-in-Ok-clause-outs g c =
    c.in-Ok.ensures.outs
    ∙ ap (λ (t : Turned). map written t.outs) (same_turn (server_in c.args.server.now) c.args.came.now)

pub returns-in-Ok-clause-server : goal.returns-in-Ok-clause-server
returns-in-Ok-clause-server g c =
    c.in-Ok.ensures.server
    ∙ ap (λ (t : Turned). t.server) (same_turn (server_in c.args.server.now) c.args.came.now)

pub returns-in-Ok-clause-serving : goal.returns-in-Ok-clause-serving
returns-in-Ok-clause-serving g c told =
    let d = g.D.Disk in
    let was = c.requires.serving told in
    let n = c.turn.new.self in
    let base : n.store.place.base ≡ 0 = c.in-Ok.ensures.base ∙ was.base in
    record {
      whole =
          stays_whole (broken_by c.args.server.now) (broken_by n) c.turn.result c.in-Ok.outs was.whole c.in-Ok.is
          c.turn.ensures.broken;
      base = base;
      settled = c.turn.ensures.settled told;
      holds =
          subst
          (λ (b : ℕ). Each (d.images c.turn.new.disk (d.moment c.turn.new.disk)) (StandsFor b n.store.state)) base
          (c.in-Ok.ensures.held told);
    }

pub returns-in-Ok-clause-commits : goal.returns-in-Ok-clause-commits
returns-in-Ok-clause-commits g c told s groups is =
    let d = g.D.Disk in
    let h = c.args.server.now in
    let v = server_in h in
    let t = program.turned v c.args.came.now in
    let was = c.requires.serving told in
    subst
    (λ (es : List Entry). CommitsTurn {T = List Out} d.moment d.images s groups es c.args.disk.now c.turn.new.disk (Ok c.in-Ok.outs))
    (ap (λ (x : Turned). x.entries) (same_turn v c.args.came.now))
    (put_ok d.moment d.images s groups h.store.place c.turn.new.self.store.place h.store.state d.seen t.entries
    t.server.state c.args.disk.now c.turn.new.disk c.in-Ok.outs c.in-Ok.outs was.base is
    (program_state v c.args.came.now) was.holds
    (subst
    (λ (r : Result (List Out) ServerFault).
    Puts d.seen d.moment d.images h.store.place c.turn.new.self.store.place t.entries h.store.state t.server.state
    c.args.disk.now c.turn.new.disk r) c.in-Ok.is (c.turn.ensures.puts told was.whole)))

pub returns-in-Ok-clause-compacted : goal.returns-in-Ok-clause-compacted
returns-in-Ok-clause-compacted g c told n have =
    let d = g.D.Disk in
    let h = c.args.server.now in
    let k = c.turn.new.self in
    let v = server_in h in
    let t = program.turned v c.args.came.now in
    let was = c.requires.serving told in
    let whole = stays_whole (broken_by h) (broken_by k) c.turn.result c.in-Ok.outs was.whole c.in-Ok.is
    c.turn.ensures.broken in
    put_keeps d.seen d.moment d.images h.store.place k.store.place t.entries h.store.state t.server.state
    (held h.store) (held k.store) c.args.disk.now c.turn.new.disk c.in-Ok.outs n was.base
    (c.in-Ok.ensures.base ∙ was.base) (was.settled (store_whole h.spent h.store.broken was.whole))
    (c.turn.ensures.settled told (store_whole k.spent k.store.broken whole))
    (subst
    (λ (r : Result (List Out) ServerFault).
    Puts d.seen d.moment d.images h.store.place k.store.place t.entries h.store.state t.server.state
    c.args.disk.now c.turn.new.disk r) c.in-Ok.is (c.turn.ensures.puts told was.whole)) have

pub returns-in-Ok-clause-still : goal.returns-in-Ok-clause-still
returns-in-Ok-clause-still g c none =
    c.turn.ensures.none
    (ap (λ (t : Turned). t.entries) (same_turn (server_in c.args.server.now) c.args.came.now) ∙ none)

pub returns-in-Err-clause-commits : goal.returns-in-Err-clause-commits
returns-in-Err-clause-commits g c told s groups is =
    let d = g.D.Disk in
    let h = c.args.server.now in
    let v = server_in h in
    let t = program.turned v c.args.came.now in
    let was = c.requires.serving told in
    subst
    (λ (es : List Entry). CommitsTurn {T = List Out} d.moment d.images s groups es c.args.disk.now c.turn.new.disk (Err c.of_server.result))
    (ap (λ (x : Turned). x.entries) (same_turn v c.args.came.now))
    (put_err d.moment d.images s groups h.store.place c.turn.new.self.store.place h.store.state (List Out) d.seen
    t.entries t.server.state c.args.disk.now c.turn.new.disk c.in-Err.fault c.of_server.result was.base is
    (program_state v c.args.came.now) was.holds
    (subst
    (λ (r : Result (List Out) ServerFault).
    Puts d.seen d.moment d.images h.store.place c.turn.new.self.store.place t.entries h.store.state t.server.state
    c.args.disk.now c.turn.new.disk r) c.in-Err.is (c.turn.ensures.puts told was.whole)))

pub returns-in-Err-clause-still : goal.returns-in-Err-clause-still
returns-in-Err-clause-still g c none =
    c.turn.ensures.none
    (ap (λ (t : Turned). t.entries) (same_turn (server_in c.args.server.now) c.args.came.now) ∙ none)
