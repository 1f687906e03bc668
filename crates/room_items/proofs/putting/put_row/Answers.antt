use Rattle.std.proofs.Common.{ℕ, ◌+◌, sym, subst}
use Rattle.room_nodes.specs.Shape.{IsFree}
use Rattle.room_items.proofs.MayPut.{free_of}
use Rattle.room_items.proofs.putting.put_row.Goals as goal

pub put-requires-clause-free : goal.put-requires-clause-free
put-requires-clause-free g c =
    let t = g.T.Tree.nodes c.args.t.now in
    let i = c.args.row in
    subst (λ (d : ℕ). IsFree t i.id (record { parent = i.parent; key = i.key; depth = d + 1; kind = i.kind })) (sym c.depth_at-depth.ensures) (free_of t i c.requires.may)
