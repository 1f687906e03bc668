use Rattle.std.proofs.Common.{rules, ◌≡◌, ◌+◌, ◌∙◌, arith}
use Rattle.std.specs.Prelude.{Some, None}
use Rattle.room_log.specs.Log.{State, Update}
use Rattle.room_snapshot.specs.Bounds.{state_of}
use Rattle.room_replay.proofs.Updating.{update_known, updated_to}
use Rattle.room_replay.proofs.following.update.Goals as goal

pub returns-in_default-2 : goal.returns-in_default-2
returns-in_default-2 g c =
    let first : c.args.first ≡ c.in-Some.last + 1 = omega (arith, c.if-first-eq0.false, c.if-first-last.false) in
    let s : State = state_of c.args.state.count c.args.state.sessions (g.T.Tree.nodes c.args.state.tree) in
    let u : Update = record { actor = c.args.actor; first = c.args.first; bodies = c.args.bodies } in
    update_known s u c.in-Some.last None (search rules) first (search rules) c.requires (search rules) (search rules) (search rules)

pub returns : goal.returns
returns g c =
    let first : c.args.first ≡ c.in-Some.last + 1 = omega (arith, c.if-first-eq0.false, c.if-first-last.false) in
    let s : State = state_of c.args.state.count c.args.state.sessions (g.T.Tree.nodes c.args.state.tree) in
    let u : Update = record { actor = c.args.actor; first = c.args.first; bodies = c.args.bodies } in
    updated_to c.args.state.count c.in-Some.last s.sessions _ (g.T.Tree.nodes c.in-Some-2.tree) u (search rules) first
    ∙ update_known s u c.in-Some.last (Some (g.T.Tree.nodes c.in-Some-2.tree)) (search rules) first (search rules) c.requires (search rules) (search rules) (search rules)
