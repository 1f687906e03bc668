use Rattle.std.proofs.Common.{◌≡◌, refl, sym, ap, subst, rules, arith, []}
use Rattle.std.proofs.Math.Nat.{le_trans}
use Rattle.std.specs.Prelude.{Err, Result}
use Rattle.room_server.specs.Hosted.{server_in}
use Rattle.room_serving.specs.Serving as serving
use Rattle.room_serving.specs.Serving.{Ending, does_turn}
use Rattle.room_turns.specs.Gathering.{events_of, ending_is}
use Rattle.room_turns.specs.Parts.{gathering}
use Rattle.room_turns.specs.Serves.{Served}
use Rattle.room_turns.specs.declared.ended.Ended.{Ended}
use Rattle.room_turns.specs.declared.fault.ServeFault.{ServeFault}
use Rattle.room_turns.specs.declared.fault.ServeFault.TheVariants.{Memory}
use Rattle.room_turns.proofs.Causes.{failed_within, not_disk_hub}
use Rattle.room_turns.proofs.Running.{SoFar, so_first, so_next, keeps_next, stopped, not_gathered, finished}
use Rattle.room_turns.proofs.Running.{over_turns}
use Rattle.room_turns.proofs.serving.run.Goals as goal

pub loop-left-init : goal.loop-left-init
loop-left-init g c = record {
  so_far = λ told tells.
      so_first g.D.Disk.seen g.D.Disk.moment g.D.Disk.images c.args.server.now.store.state (server_in c.args.server.now)
      c.args.turns (g.H.Hub.happened c.args.hub.now) c.args.disk.now refl (c.requires.serving told).holds;
  serving = c.requires.serving;
  asked = omega arith;
  hub_later = omega arith;
  later = omega arith;
  inner_later = omega arith;
  came = g.met.D.Disk.came_same c.args.disk.now;
}

pub returns-in_err-gathered-clause-served : goal.returns-in_err-gathered-clause-served
returns-in_err-gathered-clause-served g c told tells =
    let d = g.D.Disk in
    let h = g.H.Hub in
    let l = c.loop-left in
    let v = server_in c.args.server.now in
    let t = l.invariant.so_far told tells in
    let failed : c.from_residual.result ≡ Err Memory = search rules in
    subst
    (λ (r : Result Ended ServeFault). Served c.args.server.now.store.state
    (gathering v c.args.turns serving.GoesOn [] [] 0) (h.happened c.args.hub.now) (h.happened c.gather.new.hub)
    (d.seen l.disk) (d.images l.disk) (d.moment c.args.disk.now) (d.moment c.args.disk.now) (d.moment l.disk) r)
    (sym failed)
    (not_gathered d.seen d.moment d.images c.args.server.now.store.state v c.args.turns (h.happened c.args.hub.now)
    (h.happened l.hub) (h.happened c.gather.new.hub) c.args.disk.now l.disk l.left (server_in l.server) t
    (l.invariant.serving told).holds
    (c.in_err-gathered.ensures.begins tells (server_in l.server) t.groups t.owed))

pub returns-in_err-turn-clause-served : goal.returns-in_err-turn-clause-served
returns-in_err-turn-clause-served g c told tells =
    let d = g.D.Disk in
    let h = g.H.Hub in
    let l = c.loop-left in
    let v = server_in c.args.server.now in
    let u = server_in l.server in
    let t = l.invariant.so_far told tells in
    let got = c.in_ok-gathered.gathered in
    let fault = c.in_err-turn.field-0.0 in
    let failed : c.from_residual-in_err-turn.result ≡ Err fault = search rules in
    subst
    (λ (r : Result Ended ServeFault). Served c.args.server.now.store.state
    (gathering v c.args.turns serving.GoesOn [] [] 0) (h.happened c.args.hub.now) (h.happened c.turn.new.hub)
    (d.seen c.turn.new.disk) (d.images c.turn.new.disk) (d.moment c.args.disk.now) (d.moment c.args.disk.now)
    (d.moment c.turn.new.disk) r) (sym failed)
    (stopped d.seen d.moment d.images c.args.server.now.store.state v c.args.turns (h.happened c.args.hub.now)
    (h.happened l.hub) (h.happened c.gather.new.hub) (h.happened c.turn.new.hub) c.args.disk.now l.disk
    c.turn.new.disk l.left got.left (ending_is got.ending) u (server_in c.turn.new.server) (events_of got.came) t
    {T = Unit {0}} fault c.in_err-turn.ensures.of_turn
    (c.in_ok-gathered.ensures.leads tells u t.groups t.owed)
    (c.in_err-turn.ensures.turns told tells c.args.server.now.store.state got.left (ending_is got.ending) t.groups
    t.owed t.state t.few))

pub returns-in_err-turn-clause-keeps : goal.returns-in_err-turn-clause-keeps
returns-in_err-turn-clause-keeps g c told tells =
    let d = g.D.Disk in
    let h = g.H.Hub in
    let l = c.loop-left in
    let t = l.invariant.so_far told tells in
    let got = c.in_ok-gathered.gathered in
    keeps_next d.seen d.moment d.images c.args.server.now.store.state (server_in c.args.server.now) c.args.turns
    (h.happened c.args.hub.now) (h.happened l.hub) (h.happened c.gather.new.hub) (h.happened c.turn.new.hub)
    c.args.disk.now l.disk c.turn.new.disk l.left got.left (ending_is got.ending) (server_in l.server)
    (server_in c.turn.new.server) (events_of got.came) t {T = Unit {0}} c.turn.result
    (c.turn.ensures.turns told tells c.args.server.now.store.state got.left (ending_is got.ending) t.groups
    t.owed t.state t.few)

pub returns-in-Ended-clause-keeps : goal.returns-in-Ended-clause-keeps
returns-in-Ended-clause-keeps g c told tells =
    let d = g.D.Disk in
    let h = g.H.Hub in
    let l = c.loop-left in
    let t = l.invariant.so_far told tells in
    let got = c.in_ok-gathered.gathered in
    keeps_next d.seen d.moment d.images c.args.server.now.store.state (server_in c.args.server.now) c.args.turns
    (h.happened c.args.hub.now) (h.happened l.hub) (h.happened c.gather.new.hub) (h.happened c.turn.new.hub)
    c.args.disk.now l.disk c.turn.new.disk l.left got.left (ending_is got.ending) (server_in l.server)
    (server_in c.turn.new.server) (events_of got.came) t {T = Unit {0}} c.turn.result
    (c.turn.ensures.turns told tells c.args.server.now.store.state got.left (ending_is got.ending) t.groups
    t.owed t.state t.few)

pub returns-in-Missed-clause-keeps : goal.returns-in-Missed-clause-keeps
returns-in-Missed-clause-keeps g c told tells =
    let d = g.D.Disk in
    let h = g.H.Hub in
    let l = c.loop-left in
    let t = l.invariant.so_far told tells in
    let got = c.in_ok-gathered.gathered in
    keeps_next d.seen d.moment d.images c.args.server.now.store.state (server_in c.args.server.now) c.args.turns
    (h.happened c.args.hub.now) (h.happened l.hub) (h.happened c.gather.new.hub) (h.happened c.turn.new.hub)
    c.args.disk.now l.disk c.turn.new.disk l.left got.left (ending_is got.ending) (server_in l.server)
    (server_in c.turn.new.server) (events_of got.came) t {T = Unit {0}} c.turn.result
    (c.turn.ensures.turns told tells c.args.server.now.store.state got.left (ending_is got.ending) t.groups
    t.owed t.state t.few)

pub returns-in-Ended-clause-served : goal.returns-in-Ended-clause-served
returns-in-Ended-clause-served g c told tells =
    let d = g.D.Disk in
    let h = g.H.Hub in
    let l = c.loop-left in
    let v = server_in c.args.server.now in
    let t = l.invariant.so_far told tells in
    let got = c.in_ok-gathered.gathered in
    let is : ending_is got.ending ≡ serving.Ended = ap ending_is c.in-Ended.is in
    let far : SoFar d.seen d.moment d.images c.args.server.now.store.state v c.args.turns (h.happened c.args.hub.now)
    (h.happened c.turn.new.hub) c.args.disk.now c.turn.new.disk got.left serving.Ended (server_in c.turn.new.server) =
    subst
    (λ (e : Ending). SoFar d.seen d.moment d.images c.args.server.now.store.state v c.args.turns
    (h.happened c.args.hub.now) (h.happened c.turn.new.hub) c.args.disk.now c.turn.new.disk got.left e
    (server_in c.turn.new.server)) is
    (so_next d.seen d.moment d.images c.args.server.now.store.state v c.args.turns (h.happened c.args.hub.now)
    (h.happened l.hub) (h.happened c.gather.new.hub) (h.happened c.turn.new.hub) c.args.disk.now l.disk
    c.turn.new.disk l.left got.left (ending_is got.ending) (server_in l.server) (server_in c.turn.new.server)
    (events_of got.came) t {T = Unit {0}} c.in_ok-turn.field-0
    (c.in_ok-gathered.ensures.leads tells (server_in l.server) t.groups t.owed)
    (c.in_ok-turn.ensures.turns told tells c.args.server.now.store.state got.left (ending_is got.ending) t.groups
    t.owed t.state t.few)) in
    finished d.seen d.moment d.images c.args.server.now.store.state v c.args.turns (h.happened c.args.hub.now)
    (h.happened c.turn.new.hub) c.args.disk.now c.turn.new.disk got.left serving.Ended (server_in c.turn.new.server)
    _ far (c.in_ok-turn.ensures.serving told).holds refl refl

pub returns-in-Missed-clause-served : goal.returns-in-Missed-clause-served
returns-in-Missed-clause-served g c told tells =
    let d = g.D.Disk in
    let h = g.H.Hub in
    let l = c.loop-left in
    let v = server_in c.args.server.now in
    let t = l.invariant.so_far told tells in
    let got = c.in_ok-gathered.gathered in
    let is : ending_is got.ending ≡ serving.Missed = ap ending_is c.in-Missed.is in
    let far : SoFar d.seen d.moment d.images c.args.server.now.store.state v c.args.turns (h.happened c.args.hub.now)
    (h.happened c.turn.new.hub) c.args.disk.now c.turn.new.disk got.left serving.Missed (server_in c.turn.new.server) =
    subst
    (λ (e : Ending). SoFar d.seen d.moment d.images c.args.server.now.store.state v c.args.turns
    (h.happened c.args.hub.now) (h.happened c.turn.new.hub) c.args.disk.now c.turn.new.disk got.left e
    (server_in c.turn.new.server)) is
    (so_next d.seen d.moment d.images c.args.server.now.store.state v c.args.turns (h.happened c.args.hub.now)
    (h.happened l.hub) (h.happened c.gather.new.hub) (h.happened c.turn.new.hub) c.args.disk.now l.disk
    c.turn.new.disk l.left got.left (ending_is got.ending) (server_in l.server) (server_in c.turn.new.server)
    (events_of got.came) t {T = Unit {0}} c.in_ok-turn.field-0
    (c.in_ok-gathered.ensures.leads tells (server_in l.server) t.groups t.owed)
    (c.in_ok-turn.ensures.turns told tells c.args.server.now.store.state got.left (ending_is got.ending) t.groups
    t.owed t.state t.few)) in
    finished d.seen d.moment d.images c.args.server.now.store.state v c.args.turns (h.happened c.args.hub.now)
    (h.happened c.turn.new.hub) c.args.disk.now c.turn.new.disk got.left serving.Missed (server_in c.turn.new.server)
    _ far (c.in_ok-turn.ensures.serving told).holds refl refl

pub returns-in-Missed-clause-causes : goal.returns-in-Missed-clause-causes
returns-in-Missed-clause-causes g c =
    let d = g.D.Disk in
    let h = g.H.Hub in
    let l = c.loop-left in
    let i = l.invariant in
    let did = c.in_ok-turn.ensures in
    let is : ending_is c.in_ok-gathered.gathered.ending ≡ serving.Missed = ap ending_is c.in-Missed.is in
    record {
      later = le_trans i.later did.cause.later;
      inner_later = le_trans i.inner_later did.cause.inner_later;
      hub_later = le_trans i.hub_later (le_trans c.gather.ensures.later did.later);
      disk = λ e. absurd (not_disk_hub e);
      inner_disk = λ s e. absurd (not_disk_hub e);
      hub = λ _.
          failed_within h.tells h.happened h.asked h.faults c.args.hub.now l.hub c.gather.new.hub c.turn.new.hub
          i.hub_later did.later (c.in_ok-gathered.ensures.missed is);
    }

pub loop-left-preserved : goal.loop-left-preserved
loop-left-preserved g c =
    let d = g.D.Disk in
    let h = g.H.Hub in
    let l = c.loop-left in
    let i = l.invariant in
    let v = server_in c.args.server.now in
    let got = c.in_ok-gathered.gathered in
    let did = c.in_ok-turn.ensures in
    let is : ending_is got.ending ≡ serving.GoesOn = ap ending_is c.in-GoesOn.is in
    record {
      so_far = λ told tells.
          let t = i.so_far told tells in
          subst
          (λ (e : Ending). SoFar d.seen d.moment d.images c.args.server.now.store.state v c.args.turns
          (h.happened c.args.hub.now) (h.happened c.turn.new.hub) c.args.disk.now c.turn.new.disk got.left e
          (server_in c.turn.new.server)) is
          (so_next d.seen d.moment d.images c.args.server.now.store.state v c.args.turns
          (h.happened c.args.hub.now) (h.happened l.hub) (h.happened c.gather.new.hub) (h.happened c.turn.new.hub)
          c.args.disk.now l.disk c.turn.new.disk l.left got.left (ending_is got.ending) (server_in l.server)
          (server_in c.turn.new.server) (events_of got.came) t {T = Unit {0}} c.in_ok-turn.field-0
          (c.in_ok-gathered.ensures.leads tells (server_in l.server) t.groups t.owed)
          (did.turns told tells c.args.server.now.store.state got.left (ending_is got.ending) t.groups t.owed t.state
          t.few));
      serving = λ told. did.serving told;
      asked = omega (arith, did.asked, c.in_ok-gathered.ensures.asked, i.asked);
      hub_later = le_trans i.hub_later (le_trans c.gather.ensures.later did.later);
      later = le_trans i.later did.cause.later;
      inner_later = le_trans i.inner_later did.cause.inner_later;
      came = g.met.D.Disk.came_then c.args.disk.now l.disk c.turn.new.disk i.came did.came;
    }

pub returns-clause-served : goal.returns-clause-served
returns-clause-served g c told tells =
    let d = g.D.Disk in
    let h = g.H.Hub in
    let l = c.loop-left in
    let v = server_in c.args.server.now in
    let t = l.invariant.so_far told tells in
    let none : l.left ≡ 0 = omega (arith, c.loop-left-test.false) in
    finished d.seen d.moment d.images c.args.server.now.store.state v c.args.turns (h.happened c.args.hub.now)
    (h.happened l.hub) c.args.disk.now l.disk l.left serving.GoesOn (server_in l.server) _ t
    (l.invariant.serving told).holds
    (over_turns d.seen d.moment d.images c.args.server.now.store.state v c.args.turns (server_in l.server) l.left
    t.groups t.owed none) refl
