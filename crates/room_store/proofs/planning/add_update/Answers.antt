use Rattle.std.proofs.Common.{rules, ◌≡◌, ◌+◌, ◌++◌, ◌∷◌, [], List, ◌∙◌, sym, ap, subst, arith}
use Rattle.std.specs.FinMap.{len}
use Rattle.room_log.specs.Log.{State, Update, updated}
use Rattle.room_apply.specs.Ways.{Way}
use Rattle.room_nodes.specs.Shape.{Nodes}
use Rattle.room_snapshot.specs.Bounds.{state_of}
use Rattle.room_store.specs.Planning.{new_update}
use Rattle.room_store.specs.Undoing.{gone, CanGo}
use Rattle.room_store.specs.declared.undo.Undo.{Undo}
use Rattle.room_store.specs.declared.undo.Undo.TheVariants.{Updated as Undone}
use Rattle.room_store.proofs.Undone.{updated_before, updated_can, same_can}
use Rattle.room_store.proofs.planning.add_update.Goals as goal

pub returns-in-Ok-clause-before : goal.returns-in-Ok-clause-before
returns-in-Ok-clause-before g c =
    let old = c.args.state.now in
    let n = g.T.Tree.nodes in
    let s : State = state_of old.count old.sessions (n old.tree) in
    let t : State = state_of (old.count + 1) c.set_last.result (n c.prepare.new.t) in
    let u : Update = new_update (n old.tree) c.args.actor c.args.last c.args.ops.now in
    let us : List Undo = c.args.undo.now.items in
    let all : List Undo = c.keep_undo.new.undo.items in
    let steps : List Way = c.from_vec.result in
    let at : t ≡ updated s u = search rules in
    let more : all ≡ us ++ Undone s.count c.args.actor c.args.last steps ∷ [] = search rules in
    let back : gone (updated s u).tree steps ≡ s.tree =
    ap (λ (v : Nodes). gone v steps) (sym c.in-Ok.ensures.tree) ∙ ap (gone (n c.prepare.new.t)) c.from_vec.ensures ∙ c.prepare.ensures.gone in
    updated_before s t us all u c.args.last steps at more c.requires.last back

pub returns-in-Ok-clause-can : goal.returns-in-Ok-clause-can
returns-in-Ok-clause-can g c =
    let old = c.args.state.now in
    let n = g.T.Tree.nodes in
    let s : State = state_of old.count old.sessions (n old.tree) in
    let t : State = state_of (old.count + 1) c.set_last.result (n c.prepare.new.t) in
    let u : Update = new_update (n old.tree) c.args.actor c.args.last c.args.ops.now in
    let us : List Undo = c.args.undo.now.items in
    let all : List Undo = c.keep_undo.new.undo.items in
    let steps : List Way = c.from_vec.result in
    let at : t ≡ updated s u = search rules in
    let more : all ≡ us ++ Undone s.count c.args.actor c.args.last steps ∷ [] = search rules in
    let back : gone (updated s u).tree steps ≡ s.tree =
    ap (λ (v : Nodes). gone v steps) (sym c.in-Ok.ensures.tree) ∙ ap (gone (n c.prepare.new.t)) c.from_vec.ensures ∙ c.prepare.ensures.gone in
    let places = len (n c.prepare.new.t) + g.T.Tree.spare c.prepare.new.t in
    let go : CanGo places (updated s u).tree steps =
    subst (λ (v : Nodes). CanGo places v steps) c.in-Ok.ensures.tree
    (subst (λ (l : List Way). CanGo places (n c.prepare.new.t) l) (sym c.from_vec.ensures) c.prepare.ensures.can) in
    updated_can (len (n old.tree) + g.T.Tree.spare old.tree) places s t us all u c.args.last steps at more c.requires.last back
    c.prepare.ensures.sum go c.requires.can

pub returns-in-Err-clause-can : goal.returns-in-Err-clause-can
returns-in-Err-clause-can g c =
    let old = c.args.state.now in
    let n = g.T.Tree.nodes in
    let d = g.T.Tree.spare in
    let same : n c.back_all.new.t ≡ n old.tree = c.back_all.ensures.nodes ∙ c.prepare.ensures.gone in
    same_can (len (n old.tree) + d old.tree) (len (n c.back_all.new.t) + d c.back_all.new.t)
    (state_of old.count old.sessions (n old.tree)) (state_of old.count old.sessions (n c.back_all.new.t))
    c.args.undo.now.items _ (ap (λ (v : Nodes). state_of old.count old.sessions v) same) c.reserve.ensures.items
    (let a = c.back_all.ensures.sum in let b = c.prepare.ensures.sum in omega (arith, a, b)) c.requires.can
