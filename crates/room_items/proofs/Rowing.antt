-- Rows of a tree, each behind its parent, put one after another.
use Rattle.std.proofs.Common.{◌≡◌, ◌⊎◌, inl, inr, ◌+◌, ℕ, Bool, true, false, ◌&&◌, not, if◌then◌else◌, List, [], ◌∷◌, map, Option, Some, None, is_some, option_and_then, refl, sym, ap, ◌∙◌}
use Rattle.std.specs.FinMap.{get, insert}
use Rattle.room_ids.specs.declared.ids.NodeId.{NodeId}
use Rattle.room_ids.specs.declared.ids.NodeId.TheVariants.{Root}
use Rattle.room_ids.specs.Laws.{IsNodeInRange}
use Rattle.room_nodes.specs.Shape.{Nodes, IsFormed, fits_under, child_at}
use Rattle.room_nodes.specs.Steps.{depth_in}
use Rattle.room_nodes.specs.declared.nodes.Node.{Node}
use Rattle.room_nodes.specs.declared.nodes.Kind.TheVariants.{List as Listed}
use Rattle.room_nodes.proofs.Children.{child_at_some}
use Rattle.room_nodes.proofs.Fitting.{the_parent}
use Rattle.room_nodes.proofs.Gets.{some_none, one_or_two, same, get_here, get_other}
use Rattle.room_nodes.proofs.Listing.{Has}
use Rattle.room_nodes.proofs.Walks.{Walk, Step, rev_on}
use Rattle.room_items.specs.declared.row.Row.{Row}
use Rattle.room_items.specs.Items.{row_in, rows_in, row_node, put_row, put_rows, row_id, item_there, item_out}
use Rattle.room_items.proofs.NodesAgain.{nodes_again}

abbrev pub row_there : NodeId → Option Node → Row
row_there x None = record { id = x; parent = Root; key = []; kind = Listed }
row_there x (Some n) = record { id = x; parent = n.parent; key = n.key; kind = n.kind }

abbrev pub row_at : Nodes → NodeId → Row
row_at t x = row_there x (get t x)

row_there_id : (x : NodeId) (o : Option Node) → row_id (row_there x o) ≡ x
row_there_id x None = refl
row_there_id x (Some n) = refl

pub row_ids : (t : Nodes) (xs : List NodeId) → map row_id (map (row_at t) xs) ≡ xs
row_ids t [] = refl
row_ids t (x ∷ xs) = λ i. row_there_id x (get t x) i ∷ row_ids t xs i

has_or_not : (y : NodeId) (xs : List NodeId) → Has y xs ⊎ (Has y xs → ⊥)
has_or_not y [] = inr (λ h. h)
has_or_not y (x ∷ xs) = elim (one_or_two x y) [
  | inl e ↦ inl (inl e)
  | inr d ↦ elim (has_or_not y xs) [
    | inl h ↦ inl (inr h)
    | inr missing ↦ inr (λ h. elim h [ inl e ↦ d e | inr g ↦ missing g ])
  ]
]

chosen : {A : Type 0} (a b c : Bool) (v : A) → a ≡ false → b ≡ true → c ≡ false → (if not a && (b && not c) then Some v else None) ≡ Some v
chosen a b c v p q r = rw (p, q, r) refl

module _ (t : Nodes) where
  -- u has what t has at the ids that are done, and nothing else
  abbrev pub Part : Nodes → List NodeId → Type 0
  Part u done = (y : NodeId) → (Has y done → get u y ≡ get t y) × ((Has y done → ⊥) → get u y ≡ None)

  module _ (f : IsFormed t) (u : Nodes) (done : List NodeId) (x : NodeId) (part : Part u done) (s : Step t done x) where
    abbrev row : Row
    row = record { id = x; parent = s.node.parent; key = s.node.key; kind = s.node.kind }

    above : get u s.node.parent ≡ get t s.node.parent
    above = (part s.node.parent).0 s.parent

    absent : get u x ≡ None
    absent = (part x).1 s.fresh

    same_node : row_node u row ≡ s.node
    same_node =
        let p = the_parent t f x s.node s.made s.there in
        ap (λ (o : Option Node). record s.node { depth = depth_in o + 1 }) (above ∙ p.1) ∙ ap (λ (d : ℕ). record s.node { depth = d }) (sym p.2.depth)

    fits : fits_under (get u s.node.parent) (row_node u row) ≡ true
    fits = ap (fits_under (get u s.node.parent)) same_node ∙ ap (λ (o : Option Node). fits_under o s.node) above ∙ f.parents x s.node s.made s.there

    in_tree : (c : NodeId) (m : Node) → get u c ≡ Some m → get t c ≡ Some m
    in_tree c m e = elim (has_or_not c done) [
      | inl h ↦ sym ((part c).0 h) ∙ e
      | inr missing ↦ absurd (some_none m (sym e ∙ (part c).1 missing))
    ]

    no_child : (o : Option NodeId) → child_at u s.node.parent s.node.key ≡ o → o ≡ None
    no_child None e = refl
    no_child (Some c) e =
        let m = child_at_some u s.node.parent s.node.key c e in
        let one : c ≡ x = same c x (f.keys c x m.0 s.node m.2 s.made (in_tree c m.0 m.1) s.there m.3 m.4) in
        absurd (some_none m.0 (sym m.1 ∙ ap (get u) one ∙ absent))

    put_there : put_row u row ≡ Some (insert u x s.node)
    put_there =
        chosen (is_some (get u x)) (fits_under (get u s.node.parent) (row_node u row)) (is_some (child_at u s.node.parent s.node.key)) (insert u x (row_node u row))
        (ap is_some absent) fits (ap is_some (no_child _ refl))
        ∙ ap (λ (n : Node). Some (insert u x n)) same_node

    pub put_step : put_row u (row_at t x) ≡ Some (insert u x s.node)
    put_step = ap (λ (o : Option Node). put_row u (row_there x o)) s.there ∙ put_there

    pub part_step : Part (insert u x s.node) (x ∷ done)
    part_step y = elim (one_or_two y x) [
      | inl e ↦ (
        λ h. ap (get (insert u x s.node)) e ∙ get_here u x s.node ∙ sym (ap (get t) e ∙ s.there),
        λ missing. absurd (missing (inl (sym e))),
      )
      | inr d ↦ (
        λ h. elim h [
          | inl q ↦ absurd (d (sym q))
          | inr g ↦ get_other u x s.node y d ∙ (part y).0 g
        ],
        λ missing. get_other u x s.node y d ∙ (part y).1 (λ h. missing (inr h)),
      )
    ]

  pub put_all : IsFormed t → (xs done : List NodeId) (u : Nodes) → Part u done → Walk t done xs → (v : Nodes) × (put_rows u (map (row_at t) xs) ≡ Some v) × Part v (rev_on xs done)
  put_all f [] done u part w = (u, refl, part)
  put_all f (x ∷ xs) done u part w =
      let r = put_all f xs (x ∷ done) (insert u x w.0.node) (part_step f u done x part w.0) w.1 in (
        r.0,
        ap (option_and_then (λ (v : Nodes). put_rows v (map (row_at t) xs))) (put_step f u done x part w.0) ∙ r.1,
        r.2,
      )

  pub rows_again : ((x : NodeId) (n : Node) → get t x ≡ Some n → IsNodeInRange x) → IsFormed t → (xs done : List NodeId) → Walk t done xs → rows_in (map (item_out t) xs) ≡ Some (map (row_at t) xs)
  rows_again range f [] done w = refl
  rows_again range f (x ∷ xs) done w =
      let s = w.0 in
      let p = the_parent t f x s.node s.made s.there in
      let read = nodes_again x s.node s.made (range x s.node s.there) (range s.node.parent p.0 p.1) in
      let first : row_in (item_out t x) ≡ Some (row_at t x) =
      ap (λ (o : Option Node). row_in (item_there x o)) s.there ∙ read ∙ sym (ap (λ (o : Option Node). Some (row_there x o)) s.there) in
      rw (first, rows_again range f xs (x ∷ done) w.1) refl
