use Rattle.std.proofs.Common.{◌&&◌, ◌||◌, not, sym, ap, ◌∙◌}
use Rattle.room_nodes.specs.Cells.{meets, reads, writes}
use Rattle.room_foot.specs.Parts.{heads, write_parts}
use Rattle.room_foot.proofs.Heads.{apart_is}
use Rattle.room_foot.proofs.parting.apart.Goals as goal

pub returns-then-is_clear : goal.returns-then-is_clear
returns-then-is_clear g c =
    ap (λ b. b && c.is_clear-then-is_clear.result) (sym c.if-is_clear.true) ∙ (λ i. c.is_clear.ensures i && c.is_clear-then-is_clear.ensures i)
    ∙ apart_is (g.T.Tree.nodes c.args.t.now) (g.met.T.Tree.formed c.args.t.now) c.args.a.now.body c.args.b.now.body

pub returns-else-is_clear : goal.returns-else-is_clear
returns-else-is_clear g c =
    let t = g.T.Tree.nodes c.args.t.now in
    let a = c.args.a.now.body in
    let b = c.args.b.now.body in
    c.if-is_clear.false ∙ sym (ap (λ z. z && not (meets (reads t b) (writes t a) || meets (heads (write_parts t b)) (writes t a))) (sym c.is_clear.ensures ∙ c.if-is_clear.false))
    ∙ apart_is t (g.met.T.Tree.formed c.args.t.now) a b
