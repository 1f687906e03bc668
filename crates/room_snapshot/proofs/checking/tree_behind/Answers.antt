use Rattle.std.proofs.Common.{◌≡◌, true, ◌∙◌, subst}
use Rattle.room_snapshot.specs.Bounds.{all_by, is_shallow_at}
use Rattle.room_snapshot.proofs.Listed.{shallow_all}
use Rattle.room_snapshot.proofs.checking.tree_behind.Goals as goal

pub returns-clause-shallow : goal.returns-clause-shallow
returns-clause-shallow g c =
    let t = g.T.Tree.nodes c.args.t.now in
    shallow_all t (g.met.T.Tree.formed c.args.t.now)
    (subst (λ xs. all_by (is_shallow_at t) xs ≡ true) (c.as_slice.ensures
    ∙ c.in_ok-ids.ensures) c.in_ok-rest-2.ensures.shallow)
