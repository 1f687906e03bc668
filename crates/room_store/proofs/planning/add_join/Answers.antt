use Rattle.std.proofs.Common.{rules, ◌≡◌, ◌+◌, ◌++◌, ◌∷◌, ◌∙◌, [], List, ap}
use Rattle.std.specs.FinMap.{len}
use Rattle.room_log.specs.Log.{State, joined}
use Rattle.room_bytes.specs.declared.entries.Session.{Session}
use Rattle.room_snapshot.specs.Bounds.{state_of}
use Rattle.room_store.specs.declared.undo.Undo.{Undo}
use Rattle.room_store.specs.declared.undo.Undo.TheVariants.{Joined}
use Rattle.room_store.proofs.Undone.{joined_as, joined_before, joined_can}
use Rattle.room_store.proofs.planning.add_join.Goals as goal

pub returns-clause-before : goal.returns-clause-before
returns-clause-before g c =
    let old = c.args.state.now in
    let s : State = state_of old.count old.sessions (g.T.Tree.nodes old.tree) in
    let t : State = state_of old.count c.push.new.self (g.T.Tree.nodes old.tree) in
    let us : List Undo = c.args.undo.now.items in
    let all : List Undo = c.keep_undo.new.undo.items in
    let at : t ≡ joined s c.args.key c.args.name.now =
    ap (λ (l : List Session). state_of old.count l (g.T.Tree.nodes old.tree)) c.in_ok-push.ensures.ok
    ∙ joined_as old.count old.sessions (g.T.Tree.nodes old.tree) c.args.key c.args.name.now c.in_ok-name.name c.in_ok-name.ensures in
    let last : all ≡ us ++ Joined ∷ [] = search rules in
    joined_before s t us all c.args.key c.args.name.now at last

pub returns-clause-can : goal.returns-clause-can
returns-clause-can g c =
    let old = c.args.state.now in
    let s : State = state_of old.count old.sessions (g.T.Tree.nodes old.tree) in
    let t : State = state_of old.count c.push.new.self (g.T.Tree.nodes old.tree) in
    let us : List Undo = c.args.undo.now.items in
    let all : List Undo = c.keep_undo.new.undo.items in
    let at : t ≡ joined s c.args.key c.args.name.now =
    ap (λ (l : List Session). state_of old.count l (g.T.Tree.nodes old.tree)) c.in_ok-push.ensures.ok
    ∙ joined_as old.count old.sessions (g.T.Tree.nodes old.tree) c.args.key c.args.name.now c.in_ok-name.name c.in_ok-name.ensures in
    let last : all ≡ us ++ Joined ∷ [] = search rules in
    joined_can (len (g.T.Tree.nodes old.tree) + g.T.Tree.spare old.tree) s t us all c.args.key c.args.name.now at last c.requires.can
