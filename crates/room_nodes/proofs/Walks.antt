-- Ids of a tree one after another, each behind its parent.
use Rattle.std.proofs.Common.{◌≡◌, ◌≢◌, ◌⊎◌, inl, inr, List, [], ◌∷◌, ◌++◌, Some, refl, sym, ap, ◌∙◌}
use Rattle.std.specs.Prelude.{⊤}
use Rattle.std.specs.FinMap.{get}
use Rattle.room_ids.specs.declared.ids.NodeId.{NodeId}
use Rattle.room_ids.specs.declared.ids.NodeId.TheVariants.{Root}
use Rattle.room_nodes.specs.Shape.{Nodes}
use Rattle.room_nodes.specs.declared.nodes.Node.{Node}
use Rattle.room_nodes.proofs.Listing.{Has}

abbrev pub rev_on : List NodeId → List NodeId → List NodeId
rev_on [] done = done
rev_on (x ∷ xs) done = rev_on xs (x ∷ done)

pub rev_on-append : (xs ys done : List NodeId) → rev_on (xs ++ ys) done ≡ rev_on ys (rev_on xs done)
rev_on-append [] ys done = refl
rev_on-append (x ∷ xs) ys done = rev_on-append xs ys (x ∷ done)

pub rev_keeps : (y : NodeId) (xs done : List NodeId) → Has y done → Has y (rev_on xs done)
rev_keeps y [] done h = h
rev_keeps y (x ∷ xs) done h = rev_keeps y xs (x ∷ done) (inr h)

pub rev_has : (y : NodeId) (xs done : List NodeId) → Has y (rev_on xs done) → Has y xs ⊎ Has y done
rev_has y [] done h = inr h
rev_has y (x ∷ xs) done h = elim (rev_has y xs (x ∷ done) h) [
  | inl g ↦ inl (inr g)
  | inr g ↦ elim g [ inl e ↦ inl (inl e) | inr k ↦ inr k ]
]

pub rev_brings : (y : NodeId) (xs done : List NodeId) → Has y xs → Has y (rev_on xs done)
rev_brings y [] done h = absurd h
rev_brings y (x ∷ xs) done h = elim h [
  | inl e ↦ rev_keeps y xs (x ∷ done) (inl e)
  | inr g ↦ rev_brings y xs (x ∷ done) g
]

module _ (t : Nodes) where
  -- x comes next: it stands in the tree, and its parent came before
  pub record Step (done : List NodeId) (x : NodeId) : Type 0 where
    pub node : Node
    pub there : get t x ≡ Some node
    pub made : x ≢ Root
    pub parent : Has node.parent done
    pub fresh : Has x done → ⊥

  abbrev pub Walk : List NodeId → List NodeId → Type 0
  Walk done [] = ⊤
  Walk done (x ∷ xs) = Step done x × Walk (x ∷ done) xs

pub walk_there : (t : Nodes) (y : NodeId) (xs done : List NodeId) → Walk t done xs → Has y xs → (n : Node) × (get t y ≡ Some n)
walk_there t y [] done w h = absurd h
walk_there t y (x ∷ xs) done w h = elim h [
  | inl e ↦ (w.0.node, ap (get t) (sym e) ∙ w.0.there)
  | inr g ↦ walk_there t y xs (x ∷ done) w.1 g
]
