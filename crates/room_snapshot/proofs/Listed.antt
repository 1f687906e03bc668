-- Each node of a well-formed tree stands in its preorder.
use Rattle.std.proofs.Common.{◌≡◌, inl, inr, Bool, true, List, [], ◌∷◌, Some, refl, sym, ap, ◌∙◌}
use Rattle.std.specs.FinMap.{get}
use Rattle.room_ids.specs.declared.ids.NodeId.{NodeId}
use Rattle.room_ids.specs.declared.ids.NodeId.TheVariants.{Root}
use Rattle.room_nodes.specs.Preorder.{preorder, preorder_within}
use Rattle.room_nodes.specs.Shallow.{IsShallowTree}
use Rattle.room_nodes.specs.Shape.{Nodes, IsFormed}
use Rattle.room_nodes.specs.declared.nodes.Node.{Node}
use Rattle.room_nodes.proofs.Fitting.{both}
use Rattle.room_nodes.proofs.Listing.{Has}
use Rattle.room_nodes.proofs.Tours.{all_there}
use Rattle.room_snapshot.specs.Bounds.{all_by, is_shallow_there, is_shallow_at}

listed : (t : Nodes) → IsFormed t → (y : NodeId) (m : Node) → get t y ≡ Some m → Has y (preorder t Root)
unfolding preorder preorder_within
listed t f y m there = all_there t f m.depth y m there refl

test_of : {A : Type 0} (test : A → Bool) (y : A) (xs : List A) → all_by test xs ≡ true → Has y xs → test y ≡ true
test_of test y [] h has = absurd has
test_of test y (x ∷ xs) h has =
    let p = both (test x) (all_by test xs) h in
    elim has [ inl e ↦ sym (ap test e) ∙ p.0 | inr more ↦ test_of test y xs p.1 more ]

pub shallow_all : (t : Nodes) → IsFormed t → all_by (is_shallow_at t) (preorder t Root) ≡ true → IsShallowTree t
shallow_all t f h y m there = sym (ap is_shallow_there there)
    ∙ test_of (is_shallow_at t) y (preorder t Root) h (listed t f y m there)
