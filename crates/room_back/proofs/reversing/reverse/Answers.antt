use Rattle.std.proofs.Common.{◌≡◌, [], ◌∷◌, rules}
use Rattle.room_nodes.specs.Reversal.{reverse as reverse_of}
use Rattle.room_back.specs.Back.{as_changes}
use Rattle.room_back.proofs.Leading.{leads_back}
use Rattle.room_back.proofs.reversing.reverse.Goals as goal

pub returns-clause-back : goal.returns-clause-back
returns-clause-back g c =
    let tree = g.T.Tree.nodes c.args.t.now in
    let body = c.args.op.now.body in
    let is : c.if-not-branch.back ≡ as_changes (reverse_of tree body) = search rules in
    leads_back tree (body ∷ []) c.if-not-branch.back (g.met.T.Tree.formed c.args.t.now) (g.met.T.Tree.sound c.args.t.now)
    (c.sound.ensures.1, tt) is
