use Rattle.std.proofs.Common.{◌≡◌, ◌∙◌, ◌≤◌, ◌<◌, ◌+◌, ◌/◌, inl, ⊎_elim, sym, ap, subst, rules, arith, ℕ, true}
use Rattle.std.specs.Prelude.{Ok, Result}
use Rattle.room_log.specs.Log.{State}
use Rattle.room_model.specs.Server.{Server}
use Rattle.room_nodes.proofs.Gets.{true_false}
use Rattle.room_replay.specs.Files.{StandsFor}
use Rattle.room_server.specs.Hosted.{broken_by}
use Rattle.room_server.specs.declared.fault.ServerFault.{ServerFault}
use Rattle.room_serving.specs.Turns.{is_round}
use Rattle.room_store.specs.Calls.{Compacts}
use Rattle.room_store.specs.Stored.{held}
use Rattle.room_turns.specs.Holding.{IsCompacted}
use Rattle.room_turns.proofs.Calls.{no_round, some_round, among, not_due, due, due_most}
use Rattle.room_turns.proofs.Compacted.{compacted}
use Rattle.room_turns.proofs.Whole.{store_whole, stays_whole}
use Rattle.room_turns.proofs.turning.compact_if_due.Goals as goal

count_is : (before count k : ℕ) (state_count : ℕ) → count ≡ state_count → state_count ≡ before + k
    → count / 1000 ≡ (before + k) / 1000
count_is before count k state_count e f = ap (λ (m : ℕ). m / 1000) (e ∙ f)

pub returns-then-before-count-clause-counted : goal.returns-then-before-count-clause-counted
returns-then-before-count-clause-counted g c told k is =
    let counts : c.count.result ≡ c.args.server.now.store.state.count = search rules in
    not_due (g.D.Disk.moment c.args.disk.now) c.args.before k
    (no_round c.args.before k
    (c.if-before-count.true ∙ count_is c.args.before c.count.result k c.args.server.now.store.state.count counts is))

pub returns-then-before-count-clause-compacted : goal.returns-then-before-count-clause-compacted
returns-then-before-count-clause-compacted g c told k n is most either =
    let d = g.D.Disk in
    let counts : c.count.result ≡ c.args.server.now.store.state.count = search rules in
    let none = no_round c.args.before k
    (c.if-before-count.true ∙ count_is c.args.before c.count.result k c.args.server.now.store.state.count counts is) in
    ⊎_elim (λ (h : IsCompacted (d.seen c.args.disk.now) n). inl h)
    (λ (h : (c.args.before < n) × (is_round n ≡ true)).
    absurd (true_false (sym (among c.args.before k n h.0 most h.1) ∙ none))) either

pub returns-in-Ok-clause-serving : goal.returns-in-Ok-clause-serving
returns-in-Ok-clause-serving g c told =
    let d = g.D.Disk in
    let was = c.requires.serving told in
    let h = c.args.server.now in
    let n = c.compact.new.self in
    let did = c.compact.ensures.compacts told was.whole in
    let state : h.store.state ≡ n.store.state = sym (ap (λ (v : Server). v.state) c.compact.ensures.server) in
    record {
      whole =
          stays_whole (broken_by h) (broken_by n) c.compact.result c.in-Ok.field-0 was.whole c.in-Ok.is
          c.compact.ensures.broken;
      base = c.compact.ensures.base ∙ was.base;
      settled = c.compact.ensures.settled told;
      holds = λ image left.
          subst (λ (s : State). StandsFor 0 s image) state
          (subst (λ (b : ℕ). StandsFor b h.store.state image) was.base
          (did.any_moment.each (d.moment c.compact.new.disk) image did.any_moment.later (omega arith) left));
    }

pub returns-in-Ok-clause-counted : goal.returns-in-Ok-clause-counted
returns-in-Ok-clause-counted g c told k is =
    let d = g.D.Disk in
    let was = c.requires.serving told in
    let counts : c.count.result ≡ c.args.server.now.store.state.count = search rules in
    let h = c.args.server.now in
    let n = c.compact.new.self in
    let did : Compacts d.seen d.moment d.images h.store.place n.store.place h.store.state c.args.disk.now
    c.compact.new.disk (Ok c.in-Ok.field-0) =
    subst
    (λ (r : Result (Unit {0}) ServerFault).
    Compacts d.seen d.moment d.images h.store.place n.store.place h.store.state c.args.disk.now c.compact.new.disk r)
    c.in-Ok.is (c.compact.ensures.compacts told was.whole) in
    due (d.moment c.args.disk.now) (d.moment c.compact.new.disk) c.args.before k
    (some_round c.args.before k
    (λ e. c.if-before-count.false
    (e ∙ sym (count_is c.args.before c.count.result k h.store.state.count counts is)))) did.counted

pub returns-in-Ok-clause-bound : goal.returns-in-Ok-clause-bound
returns-in-Ok-clause-bound g c told k is =
    let d = g.D.Disk in
    let counts : c.count.result ≡ c.args.server.now.store.state.count = search rules in
    due_most (d.moment c.args.disk.now) (d.moment c.compact.new.disk) c.args.before k
    (some_round c.args.before k
    (λ e. c.if-before-count.false
    (e ∙ sym (count_is c.args.before c.count.result k c.args.server.now.store.state.count counts is))))
    (c.compact.ensures.bound told)

pub returns-in-Ok-clause-compacted : goal.returns-in-Ok-clause-compacted
returns-in-Ok-clause-compacted g c told k n is most either =
    let d = g.D.Disk in
    let was = c.requires.serving told in
    let h = c.args.server.now in
    let m = c.compact.new.self in
    let whole = stays_whole (broken_by h) (broken_by m) c.compact.result c.in-Ok.field-0 was.whole c.in-Ok.is
    c.compact.ensures.broken in
    compacted d.seen d.moment d.images h.store.place m.store.place h.store.state (held h.store) (held m.store)
    c.args.disk.now c.compact.new.disk c.in-Ok.field-0 n was.base (c.compact.ensures.base ∙ was.base)
    (was.settled (store_whole h.spent h.store.broken was.whole))
    (c.compact.ensures.settled told (store_whole m.spent m.store.broken whole))
    (subst
    (λ (r : Result (Unit {0}) ServerFault).
    Compacts d.seen d.moment d.images h.store.place m.store.place h.store.state c.args.disk.now c.compact.new.disk r)
    c.in-Ok.is (c.compact.ensures.compacts told was.whole))
    (subst (λ (j : ℕ). n ≤ j) (sym is) most)

pub returns-in-Err-clause-bound : goal.returns-in-Err-clause-bound
returns-in-Err-clause-bound g c told k is =
    let d = g.D.Disk in
    let counts : c.count.result ≡ c.args.server.now.store.state.count = search rules in
    due_most (d.moment c.args.disk.now) (d.moment c.compact.new.disk) c.args.before k
    (some_round c.args.before k
    (λ e. c.if-before-count.false
    (e ∙ sym (count_is c.args.before c.count.result k c.args.server.now.store.state.count counts is))))
    (c.compact.ensures.bound told)
