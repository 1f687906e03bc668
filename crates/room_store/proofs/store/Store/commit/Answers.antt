use Rattle.std.proofs.Common.{◌≡◌, ◌∙◌, rules, ap, subst, sym}
use Rattle.std.specs.Prelude.{Option, Some, None, OnOk}
use Rattle.room_log.specs.Log.{State}
use Rattle.room_bytes.specs.declared.entries.Format.TheVariants.{Two}
use Rattle.room_journal.specs.Rest.{Place}
use Rattle.room_snapshot.specs.Bounds.{state_of}
use Rattle.room_store.specs.Consistent.{Settled}
use Rattle.room_store.specs.Calls.{Commits, CommitsOrStops}
use Rattle.room_store.specs.Stored.{Stored, Grouped, held_state, held, LeadsTo, IsOpen, IsOpenFrom, IsOnDisk}
use Rattle.room_store.specs.Undoing.{before_of}
use Rattle.room_store.proofs.Opening.{open_taken}
use Rattle.room_store.proofs.Planned.{old_whole, whole_ok, open_from}
use Rattle.room_store.proofs.store.Store.commit.Goals as goal

pub append-answer-requires-clause-settled : goal.append-answer-requires-clause-settled
append-answer-requires-clause-settled g c told whole =
    let o = c.self.inside in
    let s1 : State = state_of o.state.count o.state.sessions (g.T.Tree.nodes o.state.tree) in
    let seen = g.D.Disk.seen c.args.disk.now in
    let now = g.D.Disk.images c.args.disk.now (g.D.Disk.moment c.args.disk.now) in
    (held_state (before_of s1 o.undo.items) s1, subst (λ (v : Stored). IsOnDisk seen now v) (sym c.self.view_is) (c.requires.settled told) whole)

pub returns-clause-commits : goal.returns-clause-commits
returns-clause-commits g c told =
    let o = c.self.inside in
    let s1 : State = state_of o.state.count o.state.sessions (g.T.Tree.nodes o.state.tree) in
    let us = o.undo.items in
    let seen = g.D.Disk.seen c.args.disk.now in
    let now = g.D.Disk.images c.args.disk.now (g.D.Disk.moment c.args.disk.now) in
    let j : Place = o.kept.journal in
    let open_here : IsOpenFrom (before_of s1 us) s1 c.args.g = subst (λ (v : Stored). IsOpen v c.args.g) (sym c.self.view_is) c.requires.group in
    let same : c.as_slice.result.now ≡ c.args.g.ready = c.as_slice.ensures ∙ ap (λ (v : Grouped). v.ready) c.g.view_is in
    let q : Place = c.append-answer.new.self.journal in
    let here : c.append-answer.new.self.journal ≡ c.if-is_ok.self.place = search rules in
    subst (λ (v : Stored). v.broken ≡ None → (s : State) → v.before ≡ Some s
    → Commits g.D.Disk.seen g.D.Disk.moment g.D.Disk.images v.place c.if-is_ok.self.place s v.state c.args.disk.now c.append-answer.new.disk c.append-answer.result) c.self.view_is
    (λ whole s is.
    let led : LeadsTo s s1 c.args.g = subst (λ (p : Option State). IsOpenFrom p s1 c.args.g) is open_here in
    let on : Settled Two seen now j (held_state (before_of s1 us) s1) = subst (λ (v : Stored). IsOnDisk seen now v) (sym c.self.view_is) (c.requires.settled told) whole in
    let settled : Settled Two seen now j s = subst (λ (p : Option State). Settled Two seen now j (held_state p s1)) is on in
    subst (λ (p : Place). Commits g.D.Disk.seen g.D.Disk.moment g.D.Disk.images j p s s1 c.args.disk.now c.append-answer.new.disk c.append-answer.result) here
    (c.append-answer.ensures.commits told whole s s1 settled (open_taken s s1 c.args.g c.as_slice.result.now led same) c.self.invariant.valid))

pub returns-clause-settled : goal.returns-clause-settled
returns-clause-settled g c told none =
    let o = c.self.inside in
    let s1 : State = state_of o.state.count o.state.sessions (g.T.Tree.nodes o.state.tree) in
    let us = o.undo.items in
    let seen = g.D.Disk.seen c.args.disk.now in
    let now = g.D.Disk.images c.args.disk.now (g.D.Disk.moment c.args.disk.now) in
    let j : Place = o.kept.journal in
    let open_here : IsOpenFrom (before_of s1 us) s1 c.args.g = subst (λ (v : Stored). IsOpen v c.args.g) (sym c.self.view_is) c.requires.group in
    let same : c.as_slice.result.now ≡ c.args.g.ready = c.as_slice.ensures ∙ ap (λ (v : Grouped). v.ready) c.g.view_is in
    let r = c.append-answer.result in
    let q : Place = c.append-answer.new.self.journal in
    let left = g.D.Disk.seen c.append-answer.new.disk in
    let then = g.D.Disk.images c.append-answer.new.disk (g.D.Disk.moment c.append-answer.new.disk) in
    let here : c.append-answer.new.self.journal ≡ c.if-is_ok.self.place = search rules in
    let kept : c.append-answer.new.self.broken ≡ c.if-is_ok.self.broken = search rules in
    let unbroken : c.append-answer.new.self.broken ≡ None = kept ∙ none in
    let whole : o.kept.broken ≡ None = old_whole o.kept.broken c.append-answer.new.self.broken r c.append-answer.ensures.broken unbroken in
    let shown : OnOk r (c.if-is_ok.self.state ≡ s1) = search rules in
    let closed : c.if-is_ok.self.before ≡ None = search rules in
    let on : Settled Two seen now j (held_state (before_of s1 us) s1) = subst (λ (v : Stored). IsOnDisk seen now v) (sym c.self.view_is) (c.requires.settled told) whole in
    let led : LeadsTo (held_state (before_of s1 us) s1) s1 c.args.g = open_from s1 us c.args.g (search rules) open_here in
    let done : Settled Two left then q s1 = whole_ok o.kept.broken c.append-answer.new.self.broken r (Settled Two left then q s1) c.append-answer.ensures.broken unbroken
    (c.append-answer.ensures.commits told whole (held_state (before_of s1 us) s1) s1 on (open_taken (held_state (before_of s1 us) s1) s1 c.args.g c.as_slice.result.now led same) c.self.invariant.valid).settled in
    let state : c.if-is_ok.self.state ≡ s1 = whole_ok o.kept.broken c.append-answer.new.self.broken r (c.if-is_ok.self.state ≡ s1) c.append-answer.ensures.broken unbroken shown in
    let is : held c.if-is_ok.self ≡ s1 = ap (λ (p : Option State). held_state p c.if-is_ok.self.state) closed ∙ state in
    subst (λ (x : State). Settled Two left then c.if-is_ok.self.place x) (sym is) (subst (λ (p : Place). Settled Two left then p s1) here done)

pub returns-clause-stop : goal.returns-clause-stop
returns-clause-stop g c told stops still =
    let d = g.D.Disk in
    let o = c.self.inside in
    let s1 : State = state_of o.state.count o.state.sessions (g.T.Tree.nodes o.state.tree) in
    let us = o.undo.items in
    let seen = d.seen c.args.disk.now in
    let now = d.images c.args.disk.now (d.moment c.args.disk.now) in
    let j : Place = o.kept.journal in
    let open_here : IsOpenFrom (before_of s1 us) s1 c.args.g = subst (λ (v : Stored). IsOpen v c.args.g) (sym c.self.view_is) c.requires.group in
    let same : c.as_slice.result.now ≡ c.args.g.ready = c.as_slice.ensures ∙ ap (λ (v : Grouped). v.ready) c.g.view_is in
    subst (λ (v : Stored). v.broken ≡ None → (s : State) → v.before ≡ Some s
    → CommitsOrStops d.seen d.moment d.stopped d.leaves v.place.base s v.state c.args.disk.now c.append-answer.new.disk c.append-answer.result) c.self.view_is
    (λ whole s is.
    let led : LeadsTo s s1 c.args.g = subst (λ (p : Option State). IsOpenFrom p s1 c.args.g) is open_here in
    let on : Settled Two seen now j (held_state (before_of s1 us) s1) = subst (λ (v : Stored). IsOnDisk seen now v) (sym c.self.view_is) (c.requires.settled told) whole in
    let settled : Settled Two seen now j s = subst (λ (p : Option State). Settled Two seen now j (held_state p s1)) is on in
    c.append-answer.ensures.stop told stops still whole s s1 settled (open_taken s s1 c.args.g c.as_slice.result.now led same))
