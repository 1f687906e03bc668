-- Operations and what takes them back lead back.
use Rattle.std.proofs.Common.{◌≡◌, List, [], ◌∷◌, refl, ap, ◌∙◌}
use Rattle.room_log.specs.Log.{bodies_of}
use Rattle.room_model.specs.Calls.{changes_back, entry_bodies}
use Rattle.room_nodes.specs.declared.nodes.Body.{Body}
use Rattle.room_nodes.specs.declared.nodes.Change.{Change}
use Rattle.room_nodes.specs.declared.nodes.Op.{Op}
use Rattle.room_nodes.specs.Reversal.{reverse_all}
use Rattle.room_nodes.specs.Shape.{Nodes, IsFormed}
use Rattle.room_nodes.specs.Sound.{IsSoundTree, AreSoundBodies, AreSoundOps}
use Rattle.room_nodes.specs.Steps.{fold}
use Rattle.room_steps.proofs.Reversing.{reversible}
use Rattle.room_steps.proofs.Sound.{keeps_sound}
use Rattle.room_back.specs.Back.{LeadsBack, as_changes}

bodies_again : (bs : List Body) → entry_bodies (as_changes bs) ≡ bs
bodies_again [] = refl
bodies_again (b ∷ bs) = ap (λ cs. b ∷ cs) (bodies_again bs)

pub sound_bodies : (os : List Op) → AreSoundOps os → AreSoundBodies (bodies_of os)
sound_bodies [] h = tt
sound_bodies (o ∷ os) h = (h.0.1, sound_bodies os h.1)

pub leads_back : (t : Nodes) (bs : List Body) (cs : List Change) → IsFormed t → IsSoundTree t → AreSoundBodies bs
    → cs ≡ changes_back t bs → LeadsBack t bs cs
leads_back t bs cs formed sound bodies e =
    ap (λ xs. fold (fold t bs) (entry_bodies xs)) e
    ∙ ap (λ xs. fold (fold t bs) xs) (bodies_again (reverse_all t bs))
    ∙ reversible t bs formed (keeps_sound.ordered t sound) (keeps_sound.ordered_bodies bs bodies)
