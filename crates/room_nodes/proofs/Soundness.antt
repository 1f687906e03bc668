-- Lists of which each element is sound.
use Rattle.std.proofs.Common.{List, [], ◌∷◌, All}
use Rattle.std.proofs.lemmas.List.Elements.{All-head, All-tail}
use Rattle.room_nodes.specs.Sound.{IsSoundBody, AreSoundBodies, IsSoundOp, AreSoundOps, IsSoundChange, AreSoundChanges}
use Rattle.room_nodes.specs.declared.nodes.Body.{Body}
use Rattle.room_nodes.specs.declared.nodes.Op.{Op}
use Rattle.room_nodes.specs.declared.nodes.Change.{Change}

pub all_bodies : (bs : List Body) → All IsSoundBody bs → AreSoundBodies bs
all_bodies [] h = tt
all_bodies (b ∷ bs) h = (All-head IsSoundBody b bs h, all_bodies bs (All-tail IsSoundBody b bs h))

pub all_ops : (os : List Op) → All IsSoundOp os → AreSoundOps os
all_ops [] h = tt
all_ops (o ∷ os) h = (All-head IsSoundOp o os h, all_ops os (All-tail IsSoundOp o os h))

pub all_changes : (cs : List Change) → All IsSoundChange cs → AreSoundChanges cs
all_changes [] h = tt
all_changes (c ∷ cs) h = (All-head IsSoundChange c cs h, all_changes cs (All-tail IsSoundChange c cs h))
