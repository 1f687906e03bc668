use Rattle.std.proofs.Common.{ap, ◌∙◌}
use Rattle.room_steps.proofs.Covering.{is_hit as is_hit_of}
use Rattle.room_foot.specs.Spots.{cell_of}
use Rattle.room_foot.proofs.Removals.{removal_covered}
use Rattle.room_foot.proofs.covers.in_removal.Goals as goal

pub returns : goal.returns
returns g c =
    let t = g.T.Tree.nodes c.args.t.now in
    c.is_hit.ensures ∙ ap (is_hit_of t c.args.top.now) c.owner.ensures ∙ removal_covered t c.args.top.now (cell_of c.args.spot.now)
