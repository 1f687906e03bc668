use Rattle.std.proofs.Common.{rules, ◌≡◌, ◌≤◌, ◌<◌, ◌+◌, List, ◌∙◌, sym, ap, subst, arith}
use Rattle.std.specs.Prelude.{IsSome}
use Rattle.std.specs.FinMap.{len}
use Rattle.room_log.specs.Log.{State, Update, Updated, last_of, session_of}
use Rattle.room_log.specs.Follows.{IsValidState, IsNext, most}
use Rattle.room_snapshot.specs.Bounds.{state_of}
use Rattle.room_log.specs.Taking.{rest_beyond, gap_in}
use Rattle.room_nodes.specs.declared.nodes.Op.{Op}
use Rattle.room_store.specs.declared.taking.News.TheVariants.{RunOn}
use Rattle.room_store.specs.Planning.{news_in, new_update}
use Rattle.room_store.specs.Stored.{Stored, IsOpen, held}
use Rattle.room_store.specs.Undoing.{before_of}
use Rattle.room_store.proofs.Chosen.{last_most, run_next}
use Rattle.room_store.proofs.Grown.{grown_group, written_next}
use Rattle.room_store.proofs.Planned.{held_as, held_kept, whole_more}
use Rattle.room_store.proofs.store.Store.plan.Goals as goal

pub news_of-requires : goal.news_of-requires
news_of-requires g c =
    let o = c.self.inside in
    let s : State = state_of o.state.count o.state.sessions (g.T.Tree.nodes o.state.tree) in
    let at : c.last_of-last.result ≡ last_of s.sessions c.args.actor = search rules in
    let bound : last_of s.sessions c.args.actor ≤ most = last_most s.sessions c.args.actor c.self.invariant.valid.sessions in
    omega (arith, bound, at)

pub add_update-requires-clause-follows : goal.add_update-requires-clause-follows
add_update-requires-clause-follows g c =
    let o = c.self.inside in
    let n = g.T.Tree.nodes in
    let s : State = state_of o.state.count o.state.sessions (n o.state.tree) in
    let last = c.last_of-last.result in
    let a = c.args.actor in
    let os : List Op = c.args.ops.now in
    let here : List Op = c.as_slice-in-RunOn.result.now in
    let at : last ≡ last_of s.sessions a = search rules in
    let below : s.count < o.limits.updates = search rules in
    let news : news_in (rest_beyond last os) (gap_in (last + 1) (rest_beyond last os)) ≡ RunOn =
    subst (λ (l : List Op). news_in (rest_beyond last l) (gap_in (last + 1) (rest_beyond last l)) ≡ RunOn) c.as_slice.ensures (sym c.news_of.ensures ∙ c.in-RunOn.is) in
    let known : IsSome (session_of s.sessions a) = subst (λ (v : Stored). IsSome (session_of v.state.sessions a)) (sym c.self.view_is) c.requires.session in
    let next : IsNext s (Updated (new_update s.tree a last here)) = subst (λ (l : List Op). IsNext s (Updated (new_update s.tree a last l))) (sym c.as_slice-in-RunOn.ensures)
    (run_next c.taken_follows.ensures s a last o.limits.updates os c.self.invariant.valid at news known c.sound_ops.ensures c.requires.shallow below c.self.invariant.bounded) in
    next.0

pub invariant_of-self-in-RunOn : goal.invariant_of-self-in-RunOn
invariant_of-self-in-RunOn g c =
    let o = c.self.inside in
    let n = g.T.Tree.nodes in
    let s : State = state_of o.state.count o.state.sessions (n o.state.tree) in
    let last = c.last_of-last.result in
    let a = c.args.actor in
    let os : List Op = c.args.ops.now in
    let here : List Op = c.as_slice-in-RunOn.result.now in
    let at : last ≡ last_of s.sessions a = search rules in
    let below : s.count < o.limits.updates = search rules in
    let news : news_in (rest_beyond last os) (gap_in (last + 1) (rest_beyond last os)) ≡ RunOn =
    subst (λ (l : List Op). news_in (rest_beyond last l) (gap_in (last + 1) (rest_beyond last l)) ≡ RunOn) c.as_slice.ensures (sym c.news_of.ensures ∙ c.in-RunOn.is) in
    let known : IsSome (session_of s.sessions a) = subst (λ (v : Stored). IsSome (session_of v.state.sessions a)) (sym c.self.view_is) c.requires.session in
    let next : IsNext s (Updated (new_update s.tree a last here)) = subst (λ (l : List Op). IsNext s (Updated (new_update s.tree a last l))) (sym c.as_slice-in-RunOn.ensures)
    (run_next c.taken_follows.ensures s a last o.limits.updates os c.self.invariant.valid at news known c.sound_ops.ensures c.requires.shallow below c.self.invariant.bounded) in
    let new = c.add_update.new in
    let d = g.T.Tree.spare in
    let t : State = state_of new.state.count new.state.sessions (n new.state.tree) in
    let done = c.in_ok-planned-in-RunOn in
    let u : Update = new_update s.tree a last here in
    let valid : IsValidState t = subst IsValidState (sym done.ensures.state) (c.valid_after.ensures.entry s (Updated u) c.self.invariant.valid next) in
    whole_more (len (n o.state.tree) + d o.state.tree) (len (n new.state.tree) + d new.state.tree) s t o.undo.items new.undo.items
    o.limits c.self.invariant valid done.ensures.before c.add_update.ensures.can

pub returns-in_ok-planned-in-RunOn-clause-group : goal.returns-in_ok-planned-in-RunOn-clause-group
returns-in_ok-planned-in-RunOn-clause-group g c =
    let o = c.self.inside in
    let n = g.T.Tree.nodes in
    let s : State = state_of o.state.count o.state.sessions (n o.state.tree) in
    let last = c.last_of-last.result in
    let a = c.args.actor in
    let os : List Op = c.args.ops.now in
    let here : List Op = c.as_slice-in-RunOn.result.now in
    let at : last ≡ last_of s.sessions a = search rules in
    let below : s.count < o.limits.updates = search rules in
    let news : news_in (rest_beyond last os) (gap_in (last + 1) (rest_beyond last os)) ≡ RunOn =
    subst (λ (l : List Op). news_in (rest_beyond last l) (gap_in (last + 1) (rest_beyond last l)) ≡ RunOn) c.as_slice.ensures (sym c.news_of.ensures ∙ c.in-RunOn.is) in
    let known : IsSome (session_of s.sessions a) = subst (λ (v : Stored). IsSome (session_of v.state.sessions a)) (sym c.self.view_is) c.requires.session in
    let next : IsNext s (Updated (new_update s.tree a last here)) = subst (λ (l : List Op). IsNext s (Updated (new_update s.tree a last l))) (sym c.as_slice-in-RunOn.ensures)
    (run_next c.taken_follows.ensures s a last o.limits.updates os c.self.invariant.valid at news known c.sound_ops.ensures c.requires.shallow below c.self.invariant.bounded) in
    let new = c.add_update.new in
    let t : State = state_of new.state.count new.state.sessions (n new.state.tree) in
    let done = c.in_ok-planned-in-RunOn in
    let u : Update = new_update s.tree a last here in
    grown_group (before_of s o.undo.items) (before_of t new.undo.items) s t c.args.g.now done.planned.group (Updated u)
    (subst (λ (v : Stored). IsOpen v c.args.g.now) (sym c.self.view_is) c.requires.group) next.0 (written_next s u next.0) done.ensures.entries
    done.ensures.ready done.ensures.reads done.ensures.state (held_as s t o.undo.items new.undo.items done.ensures.before)

pub returns-in_ok-planned-in-RunOn-clause-held : goal.returns-in_ok-planned-in-RunOn-clause-held
returns-in_ok-planned-in-RunOn-clause-held g c =
    let o = c.self.inside in
    let n = g.T.Tree.nodes in
    let new = c.add_update.new in
    let s : State = state_of o.state.count o.state.sessions (n o.state.tree) in
    let t : State = state_of new.state.count new.state.sessions (n new.state.tree) in
    held_kept s t o.undo.items new.undo.items c.in_ok-planned-in-RunOn.ensures.before ∙ ap (λ (v : Stored). held v) c.self.view_is
