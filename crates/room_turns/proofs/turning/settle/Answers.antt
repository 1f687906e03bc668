use Rattle.std.proofs.Common.{◌≡◌, ◌∙◌, ◌<◌, refl, sym, ap, subst, rules, arith, ℕ, List, [], map, length}
use Rattle.std.proofs.lemmas.List.{nil_from_length}
use Rattle.std.specs.Prelude.{Err}
use Rattle.room_links.specs.Outs.{written}
use Rattle.room_model.specs.Server.{Server}
use Rattle.room_server.specs.Hosted.{server_in}
use Rattle.room_serving.specs.Serving.{treat}
use Rattle.room_turns.specs.Parts.{trying, Leads, Begins}
use Rattle.room_turns.specs.Trying.{owed_after}
use Rattle.room_turns.specs.declared.fault.ServeFault.TheVariants.{Memory}
use Rattle.room_turns.proofs.Causes.{not_disk}
use Rattle.room_turns.proofs.Happening.{on_err}
use Rattle.room_turns.proofs.Settled.{settle_first, settle_next, settled, stops_trying, stops_losing, less_to_do}
use Rattle.room_turns.proofs.Turned.{goners_state}
use Rattle.room_turns.proofs.turning.settle.Goals as goal

pub loop-alloc-init : goal.loop-alloc-init
loop-alloc-init g c = record {
  settling = λ tells left ending todo groups owed is.
      settle_first (server_in c.args.server.now) left ending todo groups owed (g.H.Hub.happened c.args.hub.now)
      c.args.outs is;
  serving = c.requires.serving;
  state = refl;
  still = refl;
  asked = refl;
  later = omega arith;
}

pub returns-in_err-lost-clause-stops : goal.returns-in_err-lost-clause-stops
returns-in_err-lost-clause-stops g c tells left ending todo groups owed is =
    let h = g.H.Hub in
    let l = c.loop-alloc in
    let u = server_in l.server in
    let t = l.invariant.settling tells left ending todo groups owed is in
    let memory : c.from_residual.result ≡ Err Memory = search rules in
    let sliced : map written t.rest ≡ c.as_slice.result.now = t.rest_is ∙ sym c.as_slice.ensures in
    let begun : Begins (trying u left ending t.rest [] groups t.now) (h.happened l.hub) (h.happened c.try_all.new.hub) =
    c.in_err-lost.ensures.begins tells u left ending t.rest groups t.now sliced in
    on_err c.from_residual.result _
    (stops_trying (server_in c.args.server.now) left ending todo groups owed (h.happened c.args.hub.now)
    (h.happened l.hub) (h.happened c.try_all.new.hub) u l.outs c.from_residual.result
    (not_disk c.from_residual.result memory) t begun)

pub returns-in_err-outs-clause-stops : goal.returns-in_err-outs-clause-stops
returns-in_err-outs-clause-stops g c tells left ending todo groups owed is =
    let h = g.H.Hub in
    let l = c.loop-alloc in
    let u = server_in l.server in
    let t = l.invariant.settling tells left ending todo groups owed is in
    let sliced : map written t.rest ≡ c.as_slice.result.now = t.rest_is ∙ sym c.as_slice.ensures in
    on_err c.from_residual-in_err-outs.result _
    (stops_losing (server_in c.args.server.now) left ending todo groups owed (h.happened c.args.hub.now)
    (h.happened l.hub) (h.happened c.try_all.new.hub) u l.outs c.in_ok-lost.lost c.from_residual-in_err-outs.result t
    (c.in_ok-lost.ensures.leads tells u left ending t.rest groups t.now sliced))

pub loop-alloc-smaller : goal.loop-alloc-smaller
loop-alloc-smaller g c =
    let l = c.loop-alloc in
    let ks : c.as_slice-in-loop-alloc.result.now ≡ c.in_ok-lost.lost = c.as_slice-in-loop-alloc.ensures in
    less_to_do (server_in l.server) (server_in c.lose.new.server) c.as_slice-in-loop-alloc.result.now l.outs
    c.in_ok-outs.outs (subst (λ (n : ℕ). 0 < n) c.len.ensures c.loop-alloc-test.true) c.in_ok-outs.ensures.server
    c.in_ok-outs.ensures.outs

pub loop-alloc-preserved : goal.loop-alloc-preserved
loop-alloc-preserved g c =
    let h = g.H.Hub in
    let d = g.D.Disk in
    let l = c.loop-alloc in
    let i = l.invariant in
    let u = server_in l.server in
    let lost = c.as_slice-in-loop-alloc.result.now in
    let ks : lost ≡ c.in_ok-lost.lost = c.as_slice-in-loop-alloc.ensures in
    record {
      settling = λ tells left ending todo groups owed is.
          let t = i.settling tells left ending todo groups owed is in
          let sliced : map written t.rest ≡ c.as_slice.result.now = t.rest_is ∙ sym c.as_slice.ensures in
          settle_next (server_in c.args.server.now) left ending todo groups owed (h.happened c.args.hub.now)
          (h.happened l.hub) (h.happened c.try_all.new.hub) u (server_in c.lose.new.server) l.outs c.in_ok-outs.outs
          lost t
          (subst
          (λ (js : List ℕ). Leads (trying u left ending t.rest [] groups t.now) (h.happened l.hub)
          (h.happened c.try_all.new.hub)
          (treat (trying u left ending [] [] groups (owed_after t.rest groups t.now)) [] js)) (sym ks)
          (c.in_ok-lost.ensures.leads tells u left ending t.rest groups t.now sliced)) c.in_ok-outs.ensures.server
          c.in_ok-outs.ensures.outs;
      serving = λ told. c.in_ok-outs.ensures.serving told;
      state =
          ap (λ (v : Server). v.state) c.in_ok-outs.ensures.server ∙ goners_state u lost ∙ i.state;
      still = c.lose.ensures.still ∙ i.still;
      asked = c.try_all.ensures.asked ∙ i.asked;
      later = search (rules, arith);
    }

pub returns-clause-settles : goal.returns-clause-settles
returns-clause-settles g c tells left ending todo groups owed is =
    let h = g.H.Hub in
    let l = c.loop-alloc in
    let empty : length l.outs ≡ 0 = search (rules, arith) in
    settled (server_in c.args.server.now) left ending todo groups owed (h.happened c.args.hub.now) (h.happened l.hub)
    (server_in l.server) l.outs (nil_from_length l.outs empty) (l.invariant.settling tells left ending todo groups owed is)
