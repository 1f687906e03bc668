-- Which cells a removal has.
use Rattle.std.proofs.Common.{◌≡◌, inl, inr, true, ◌||◌, List, [], ◌∷◌, ◌++◌, refl, sym, ap, ◌∙◌, subst}
use Rattle.std.specs.FinMap.{entries}
use Rattle.room_ids.specs.Order.{is_same}
use Rattle.room_ids.specs.declared.ids.NodeId.{NodeId}
use Rattle.room_nodes.specs.Cells.{overlaps, overlaps_some, removal_cells}
use Rattle.room_nodes.specs.Shape.{Nodes}
use Rattle.room_nodes.specs.declared.cells.Cell.{Cell}
use Rattle.room_nodes.specs.declared.cells.Cell.TheVariants.{Node as NodeOf, Slot, All}
use Rattle.room_nodes.proofs.Fitting.{both}
use Rattle.room_nodes.proofs.Gets.{same, same_self}
use Rattle.room_nodes.proofs.Listing.{Has}
use Rattle.room_steps.proofs.Booleans.{both_ways, or_left, or_parts, or_right}
use Rattle.room_steps.proofs.Covering.{covered-append, hit_is, hit_of, is_hit}
use Rattle.room_foot.proofs.Rising.{among_cells, has_removal, removal_has}
use Rattle.room_foot.specs.Rising.{ids_cells}
use Rattle.room_foot.specs.Spots.{owner}

pub covered_both : (c : Cell) (ds es : List Cell) → overlaps_some c (ds ++ es) ≡ (overlaps_some c ds || overlaps_some c es)
covered_both c ds es = covered-append c ds es

-- overlaps as a relation

pub has_covers : (c d : Cell) (ds : List Cell) → Has d ds → overlaps c d ≡ true → overlaps_some c ds ≡ true
has_covers c d (e ∷ ds) (inl is) o = or_left _ _ (ap (overlaps c) is ∙ o)
has_covers c d (e ∷ ds) (inr h) o = or_right (overlaps c e) _ (has_covers c d ds h o)
has_covers c d [] h o = absurd h

pub covers_has : (c : Cell) (ds : List Cell) → overlaps_some c ds ≡ true → (d : Cell) × Has d ds × (overlaps c d ≡ true)
covers_has c [] e = cc
covers_has c (d ∷ ds) e = elim (or_parts (overlaps c d) _ e) [
  | inl a ↦ (d, inl refl, a)
  | inr b ↦ let r = covers_has c ds b in (r.0, inr r.1, r.2)
]

pub one_owner : (c d : Cell) → overlaps c d ≡ true → owner c ≡ owner d
one_owner (NodeOf x) (NodeOf y) e = same x y e
one_owner (NodeOf x) (Slot y k) e = cc
one_owner (NodeOf x) (All y) e = cc
one_owner (Slot x j) (NodeOf y) e = cc
one_owner (Slot x j) (Slot y k) e = same x y (both (is_same x y) _ e).0
one_owner (Slot x j) (All y) e = same x y e
one_owner (All x) (NodeOf y) e = cc
one_owner (All x) (Slot y k) e = same x y e
one_owner (All x) (All y) e = same x y e

-- the cells of ids

has_node : (q : NodeId) (xs : List NodeId) → Has q xs → Has (NodeOf q) (ids_cells xs)
has_node q [] h = absurd h
has_node q (x ∷ xs) (inl e) = inl (ap NodeOf e)
has_node q (x ∷ xs) (inr h) = inr (inr (has_node q xs h))

has_all : (q : NodeId) (xs : List NodeId) → Has q xs → Has (All q) (ids_cells xs)
has_all q [] h = absurd h
has_all q (x ∷ xs) (inl e) = inr (inl (ap All e))
has_all q (x ∷ xs) (inr h) = inr (inr (has_all q xs h))

has_owner : (d : Cell) (xs : List NodeId) → Has d (ids_cells xs) → Has (owner d) xs
has_owner d [] h = absurd h
has_owner d (x ∷ xs) (inl e) = inl (ap owner e)
has_owner d (x ∷ xs) (inr (inl e)) = inl (ap owner e)
has_owner d (x ∷ xs) (inr (inr h)) = inr (has_owner d xs h)

ids_cover : (c : Cell) (xs : List NodeId) → Has (owner c) xs → overlaps_some c (ids_cells xs) ≡ true
ids_cover (NodeOf x) xs h = has_covers (NodeOf x) (NodeOf x) (ids_cells xs) (has_node x xs h) (same_self x)
ids_cover (Slot x k) xs h = has_covers (Slot x k) (All x) (ids_cells xs) (has_all x xs h) (same_self x)
ids_cover (All x) xs h = has_covers (All x) (All x) (ids_cells xs) (has_all x xs h) (same_self x)

module _ (t : Nodes) (y : NodeId) where
  pub removal_owner : (d : Cell) → Has d (removal_cells t y) → is_hit t y (owner d) ≡ true
  removal_owner d h =
      let m = has_removal t y (owner d) (has_owner d _ (subst (Has d) (among_cells t y (entries t)) h)) in
      hit_of t y (owner d) m.0 m.1 m.2

  pub removal_covers : (c : Cell) → is_hit t y (owner c) ≡ true → overlaps_some c (removal_cells t y) ≡ true
  removal_covers c h =
      let m = hit_is t y (owner c) h in
      ap (overlaps_some c) (among_cells t y (entries t)) ∙ ids_cover c _ (removal_has t y (owner c) m.0 m.1 m.2)

  pub removal_has_top : is_hit t y y ≡ true → Has (NodeOf y) (removal_cells t y)
  removal_has_top h = let m = hit_is t y y h in subst (Has (NodeOf y)) (sym (among_cells t y (entries t))) (has_node y _ (removal_has t y y m.0 m.1 m.2))

  -- a removal has just the cells of the nodes that are there and below
  pub removal_covered : (c : Cell) → is_hit t y (owner c) ≡ overlaps_some c (removal_cells t y)
  removal_covered c = both_ways (is_hit t y (owner c)) (overlaps_some c (removal_cells t y)) (removal_covers c)
      (λ e. let d = covers_has c (removal_cells t y) e in ap (is_hit t y) (one_owner c d.0 d.2) ∙ removal_owner d.0 d.1)
