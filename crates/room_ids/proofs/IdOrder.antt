-- The order of ids is total, and ids that compare alike are one.
use Rattle.std.proofs.Common.{◌≡◌, ℕ, List, [], ◌∷◌, get_or, refl, sym, ap, ◌∙◌}
use Rattle.std.proofs.lemmas.Cmp.{on_total, nat_list_cmp_total}
use Rattle.std.specs.Cmp.{IsTotalOrder}
use Rattle.std.specs.FinMap.{IsAntisymmetric, slice_cmp-IsAntisymmetric, nat_cmp-IsAntisymmetric}
use Rattle.room_ids.specs.Order.{numbers, node_cmp}
use Rattle.room_ids.specs.declared.ids.NodeId.{NodeId}
use Rattle.room_ids.specs.declared.ids.NodeId.TheVariants.{Root, Made}

pub node_cmp-total : IsTotalOrder node_cmp
node_cmp-total = on_total numbers nat_list_cmp_total

-- the id of some numbers
back : List ℕ → NodeId
back [] = Root
back (a ∷ cs) = Made (record { actor = a; clock = get_or cs 0 0 })

back-numbers : (x : NodeId) → back (numbers x) ≡ x
unfolding back
back-numbers Root = refl
back-numbers (Made s) = refl

pub node_cmp-exact : IsAntisymmetric node_cmp
node_cmp-exact x y e = sym (back-numbers x) ∙ ap back (slice_cmp-IsAntisymmetric nat_cmp-IsAntisymmetric (numbers x) (numbers y) e) ∙ back-numbers y
