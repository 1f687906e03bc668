-- What is left to prove of `acting::act`.
use Rattle.std.proofs.Common.{◌≡◌, false, sym, subst}
use Rattle.room_nodes.specs.Shape.{up}
use Rattle.room_nodes.specs.Steps.{is_void, settled_body}
use Rattle.room_nodes.specs.declared.nodes.Body.{Body}
use Rattle.room_nodes.specs.declared.nodes.Body.TheVariants.{DeleteKey}
use Rattle.room_apply.specs.Edits.{some_turn}
use Rattle.room_apply.specs.Within.{IsKeyIn, RunsIn, cells}
use Rattle.room_apply.proofs.Creating.{can_stand}
use Rattle.room_apply.proofs.Naming.{delete_node, delete_slot, key_in_cells}
use Rattle.room_apply.proofs.acting.act.Goals as goal

pub returns-in-SetKey-clause-within : goal.returns-in-SetKey-clause-within
returns-in-SetKey-clause-within g c =
    let t = g.T.Tree.nodes c.args.t.now in
    let x = c.in-SetKey.node in
    let live = subst (λ (b : Body). is_void t b ≡ false) c.in-SetKey.is c.requires.live in (
      (
        can_stand t (g.met.T.Tree.formed c.args.t.now) x c.in-SetKey.key live
            (subst (λ (b : Body). settled_body t b ≡ b) c.in-SetKey.is c.requires.settled),
        subst (λ (b : Body). IsKeyIn (cells t b) x (up t x)) (sym c.in-SetKey.is)
            (key_in_cells t x c.in-SetKey.key live),
      ),
      tt,
    )

pub returns-in_ok-left-in-DeleteKey-clause-within : goal.returns-in_ok-left-in-DeleteKey-clause-within
returns-in_ok-left-in-DeleteKey-clause-within g c =
    let t = g.T.Tree.nodes c.args.t.now in
    let x = c.in-DeleteKey.node in
    let k = c.in-DeleteKey.key in
    let l = c.in_ok-left-in-DeleteKey.left in
    let live = subst (λ (b : Body). is_void t b ≡ false) c.in-DeleteKey.is c.requires.live in
    subst (λ (b : Body). RunsIn (cells t b) l.names (g.T.Tree.nodes c.clear_slot.new.t) (some_turn l.fields))
    (sym c.in-DeleteKey.is)
    (c.in_ok-left-in-DeleteKey.ensures.within (cells t (DeleteKey x k)) (delete_node t x k) (delete_slot t x k live))
