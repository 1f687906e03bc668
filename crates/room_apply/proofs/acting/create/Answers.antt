-- What is left to prove of `acting::create`.
use Rattle.std.proofs.Common.{ap}
use Rattle.std.specs.FinMap.{get}
use Rattle.std.specs.Option.{option_copied}
use Rattle.room_nodes.specs.Steps.{cleared}
use Rattle.room_nodes.specs.declared.nodes.Body.TheVariants.{Create}
use Rattle.room_apply.specs.Within.{cells}
use Rattle.room_apply.proofs.Creating.{free_at, free_made}
use Rattle.room_apply.proofs.Naming.{create_in, create_parent, create_slot}
use Rattle.room_apply.proofs.acting.create.Goals as goal

pub returns-clause-within : goal.returns-clause-within
returns-clause-within g c =
    let t = g.T.Tree.nodes c.args.t.now in
    let n = c.args.node in
    let r = c.args.replaces.now in
    let cs = cells t (Create c.args.id n.parent n.key r n.kind) in
    let is = ap (λ o. cleared t n.parent n.key o (get t n.parent)) c.as_ref.ensures.value in
    let free = free_made t (g.met.T.Tree.formed c.args.t.now) c.args.id r n c.requires.live c.requires.settled
    c.requires.depth in (
      (
        free_at c.args.id n (cleared t n.parent n.key r (get t n.parent))
            (cleared t n.parent n.key (option_copied c.as_ref.result) (get t n.parent)) _ c.in_ok-left.ensures.ok is
            free,
        create_in t c.args.id n.parent n.key r n.kind c.requires.live,
      ),
      c.in_ok-left.ensures.within cs (create_parent t c.args.id n.parent n.key r n.kind)
          (create_slot t c.args.id n.parent n.key r n.kind c.requires.live),
    )
