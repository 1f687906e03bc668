use Rattle.std.proofs.Common.{rules, ◌≡◌, ◌≤◌, ◌+◌, List, ℕ, length, refl, sym, subst, true}
use Rattle.std.specs.Prelude.{IsUtf8}
use Rattle.std.specs.FinMap.{len}
use Rattle.room_log.specs.Log.{State, Join}
use Rattle.room_log.specs.Follows.{IsValidState, IsKey, follows, most_actor}
use Rattle.room_snapshot.specs.Bounds.{state_of}
use Rattle.room_store.specs.Stored.{Stored, IsOpen}
use Rattle.room_store.specs.Undoing.{before_of}
use Rattle.room_store.proofs.Chosen.{join_follows}
use Rattle.room_store.proofs.Grown.{grown_group}
use Rattle.room_store.proofs.Planned.{held_as, whole_more}
use Rattle.room_store.proofs.store.Store.plan_join.Goals as goal

pub invariant_of-self-2 : goal.invariant_of-self-2
invariant_of-self-2 g c =
    let n = g.T.Tree.nodes in
    let d = g.T.Tree.spare in
    let o = c.self.inside in
    let new = c.add_join.new in
    let s : State = state_of o.state.count o.state.sessions (n o.state.tree) in
    let t : State = state_of new.state.count new.state.sessions (n new.state.tree) in
    let actor : ℕ = c.sessions-count.result + 1 in
    let key = c.args.key in
    let name : List ℕ = c.args.name.now in
    let next : actor ≡ length s.sessions + 1 = search rules in
    let few : actor ≤ most_actor = search rules in
    let fits : follows s (Join actor key name) ≡ true = join_follows s actor key name next few in
    let small : IsKey key = search rules in
    let text : IsUtf8 name = subst IsUtf8 c.as_str.ensures.bytes c.as_str.ensures.utf8 in
    let valid : IsValidState t = subst IsValidState (sym c.in_ok-group.ensures.state)
    (c.valid_after.ensures.entry s (Join actor key name) c.self.invariant.valid (fits, (small, text))) in
    whole_more (len (n o.state.tree) + d o.state.tree) (len (n new.state.tree) + d new.state.tree) s t o.undo.items new.undo.items
    o.limits c.self.invariant valid c.in_ok-group.ensures.before c.add_join.ensures.can

pub returns-clause-group : goal.returns-clause-group
returns-clause-group g c =
    let n = g.T.Tree.nodes in
    let o = c.self.inside in
    let new = c.add_join.new in
    let s : State = state_of o.state.count o.state.sessions (n o.state.tree) in
    let t : State = state_of new.state.count new.state.sessions (n new.state.tree) in
    let actor : ℕ = c.sessions-count.result + 1 in
    let key = c.args.key in
    let name : List ℕ = c.args.name.now in
    let next : actor ≡ length s.sessions + 1 = search rules in
    let few : actor ≤ most_actor = search rules in
    let fits : follows s (Join actor key name) ≡ true = join_follows s actor key name next few in
    grown_group (before_of s o.undo.items) (before_of t new.undo.items) s t c.args.g.now c.in_ok-group.group (Join actor key name)
    (subst (λ (v : Stored). IsOpen v c.args.g.now) (sym c.self.view_is) c.requires.group) fits refl c.in_ok-group.ensures.entries
    c.in_ok-group.ensures.ready c.in_ok-group.ensures.reads c.in_ok-group.ensures.state
    (held_as s t o.undo.items new.undo.items c.in_ok-group.ensures.before)
