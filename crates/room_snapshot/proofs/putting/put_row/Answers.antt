use Rattle.std.proofs.Common.{ℕ, ◌+◌, sym, subst}
use Rattle.room_nodes.specs.Shape.{IsFree}
use Rattle.room_items.proofs.MayPut.{free_of}
use Rattle.room_snapshot.proofs.putting.put_row.Goals as goal

pub put-requires-clause-free : goal.put-requires-clause-free
put-requires-clause-free g c =
    let t = g.T.Tree.nodes c.args.t.now in
    let n = c.args.row.node in
    subst (λ (d : ℕ). IsFree t c.args.row.id (record n { depth = d + 1 })) (sym c.depth_at-depth.ensures)
    (free_of t (record { id = c.args.row.id; parent = n.parent; key = n.key; kind = n.kind }) c.requires.may)
