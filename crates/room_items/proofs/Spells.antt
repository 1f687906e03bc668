-- The items of a well-formed tree spell that tree.
use Rattle.std.proofs.Common.{◌≡◌, inl, inr, ℕ, true, cond, not, List, [], ◌∷◌, map, flat_map, Option, Some, None, refl, sym, ap, ◌∙◌}
use Rattle.std.specs.FinMap.{get, same_map, get-from_sorted}
use Rattle.room_json.specs.Value.{Value}
use Rattle.room_ids.specs.Order.{node_cmp, is_same}
use Rattle.room_ids.specs.Position.{is_some_text}
use Rattle.room_ids.specs.declared.ids.NodeId.{NodeId}
use Rattle.room_ids.specs.declared.ids.NodeId.TheVariants.{Root}
use Rattle.room_ids.proofs.IdOrder.{node_cmp-total, node_cmp-exact}
use Rattle.room_nodes.specs.Shape.{Nodes, IsFormed, children, is_object}
use Rattle.room_nodes.specs.Sound.{IsSoundTree}
use Rattle.room_nodes.specs.declared.nodes.Node.{Node}
use Rattle.room_nodes.specs.declared.nodes.Kind.{Kind}
use Rattle.room_nodes.proofs.Fitting.{the_root}
use Rattle.room_nodes.proofs.Gets.{one_or_two, same_self, differ, some_none}
use Rattle.room_nodes.proofs.Listing.{Has}
use Rattle.room_items.specs.declared.row.Row.{Row}
use Rattle.room_items.specs.Items.{row_id, root_in, root_of, put_rows, same_ids, tree_under, tree_in, items_of, item_there, item_out}
use Rattle.room_items.specs.Laws.{AreInRange, TreesReadBack}
use Rattle.room_nodes.specs.Preorder.{preorder, preorder_within}
use Rattle.room_items.proofs.NodesAgain.{root_again}
use Rattle.room_nodes.proofs.Tours.{tour_root, all_there}
use Rattle.room_items.proofs.Rowing.{Part, row_at, row_ids, put_all, rows_again}
use Rattle.room_nodes.proofs.Walks.{walk_there, rev_on, rev_keeps, rev_has, rev_brings}

same_ids_self : (xs : List NodeId) → same_ids xs xs ≡ true
same_ids_self [] = refl
same_ids_self (x ∷ xs) = rw (same_self x, same_ids_self xs) refl

no_text : (k : List ℕ) → not (is_some_text k) ≡ true → k ≡ []
no_text [] h = refl
no_text (c ∷ cs) h = cc

tree_by : (kind : Kind) (rows : List Row) (v : Nodes) → is_object kind ≡ true → put_rows (root_of kind) rows ≡ Some v → preorder v Root ≡ Root ∷ map row_id rows → tree_under kind rows ≡ Some v
tree_by kind rows v o p q = rw (o, p, q, same_ids_self (Root ∷ map row_id rows)) refl

module _ (t : Nodes) (f : IsFormed t) (range : AreInRange t) where
  abbrev rest : List NodeId
  rest = flat_map (λ (e : List ℕ × NodeId). preorder_within 59 t e.1) (children t Root)

  order : preorder t Root ≡ Root ∷ rest
  unfolding preorder preorder_within
  order = refl

  listed : (y : NodeId) (m : Node) → get t y ≡ Some m → Has y (Root ∷ rest)
  unfolding preorder_within
  listed y m there = all_there t f m.depth y m there refl

  abbrev root : Node
  root = (the_root t f).0

  abbrev alone : Node
  alone = record { parent = Root; key = []; depth = 0; kind = root.kind }

  root_is : alone ≡ root
  root_is =
      let r = (the_root t f).2 in
      λ i. record { parent = sym r.parent i; key = sym (no_text root.key r.key) i; depth = sym r.depth i; kind = root.kind }

  at : (y : NodeId) → get (root_of root.kind) y ≡ cond (is_same y Root) (Some alone) None
  at y = get-from_sorted node_cmp ((Root, alone) ∷ []) y tt

  part_root : Part t (root_of root.kind) (Root ∷ [])
  part_root y = elim (one_or_two y Root) [
    | inl e ↦ (
      λ h. at y ∙ ap (λ b. cond b (Some alone) None) (ap (λ z. is_same z Root) e ∙ same_self Root) ∙ ap Some root_is ∙ sym (ap (get t) e ∙ (the_root t f).1),
      λ missing. absurd (missing (inl (sym e))),
    )
    | inr d ↦ (
      λ h. elim h [ inl q ↦ absurd (d (sym q)) | inr g ↦ absurd g ],
      λ missing. at y ∙ ap (λ b. cond b (Some alone) None) (differ y Root d),
    )
  ]

  made : (v : Nodes) × (put_rows (root_of root.kind) (map (row_at t) rest) ≡ Some v) × Part t v (rev_on rest (Root ∷ []))
  made = put_all t f rest (Root ∷ []) (root_of root.kind) part_root (tour_root t f)

  done_has : (y : NodeId) → Has y (Root ∷ rest) → Has y (rev_on rest (Root ∷ []))
  done_has y h = elim h [
    | inl e ↦ rev_keeps y rest (Root ∷ []) (inl e)
    | inr g ↦ rev_brings y rest (Root ∷ []) g
  ]

  answer_there : (y : NodeId) (o : Option Node) → get t y ≡ o → get made.0 y ≡ get t y
  answer_there y (Some m) e = (made.2 y).0 (done_has y (listed y m e))
  answer_there y None e =
      (made.2 y).1 (λ h. elim (rev_has y rest (Root ∷ []) h) [
        | inl g ↦ let w = walk_there t y rest (Root ∷ []) (tour_root t f) g in some_none w.0 (sym w.1 ∙ e)
        | inr g ↦ elim g [
          | inl q ↦ some_none root (sym (the_root t f).1 ∙ ap (get t) q ∙ e)
          | inr g2 ↦ g2
        ]
      ]) ∙ sym e

  same_tree : made.0 ≡ t
  same_tree = same_map node_cmp-total node_cmp-exact made.0 t (λ y. answer_there y _ refl)

  under : tree_under root.kind (map (row_at t) rest) ≡ Some t
  under =
      tree_by root.kind (map (row_at t) rest) t (the_root t f).2.kind (made.1 ∙ ap Some same_tree)
      (order ∙ ap (λ xs. Root ∷ xs) (sym (row_ids t rest)))

  first : root_in (item_out t Root) ≡ Some root.kind
  first = ap (λ (o : Option Node). root_in (item_there Root o)) (the_root t f).1 ∙ root_again root

  again : tree_in (items_of t) ≡ Some t
  again =
      ap (λ ids. tree_in (map (item_out t) ids)) order
      ∙ rw (first, rows_again t range f rest (Root ∷ []) (tour_root t f)) under

pub trees_again : TreesReadBack
trees_again t f range = again t f range

sound_again : (t : Nodes) → IsFormed t → IsSoundTree t → tree_in (items_of t) ≡ Some t
sound_again t f sound = again t f (λ x n e. (sound x n e).0)

pub written_again : (t : Nodes) (vs : List Value) (xs ids : List NodeId) → IsFormed t → IsSoundTree t → ids ≡ preorder t Root → xs ≡ ids → vs ≡ map (item_out t) xs → tree_in vs ≡ Some t
written_again t vs xs ids f sound are given made = ap tree_in (made ∙ ap (map (item_out t)) (given ∙ are)) ∙ sound_again t f sound
