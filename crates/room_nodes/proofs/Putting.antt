-- A tree stays one when a node is put, new or in place of an old one.
use Rattle.std.proofs.Common.{◌≡◌, ◌≢◌, inl, inr, true, Some, sym, ap, ◌∙◌, subst}
use Rattle.std.specs.FinMap.{get, insert}
use Rattle.room_nodes.specs.Shape.{Nodes, fits, fits_under, is_root_node, IsFormed}
use Rattle.room_ids.specs.Order.{is_same}
use Rattle.room_nodes.proofs.Gets.{same_self, here_or_old, get_here, get_other, one_or_two}
use Rattle.room_ids.specs.declared.ids.NodeId.{NodeId}
use Rattle.room_ids.specs.declared.ids.NodeId.TheVariants.{Root}
use Rattle.room_nodes.specs.declared.nodes.Node.{Node}

pub record MayStand (t : Nodes) (x : NodeId) (m : Node) : Type 0 where
  pub root : x ≡ Root → is_root_node (Some m) ≡ true
  pub parent : x ≢ Root → (m.parent ≢ x) × (fits_under (get t m.parent) m ≡ true)
  pub children : (y : NodeId) (k : Node) → y ≢ Root → y ≢ x → get t y ≡ Some k → k.parent ≡ x → fits m k ≡ true
  pub key : x ≢ Root → (y : NodeId) (k : Node) → y ≢ Root → y ≢ x → get t y ≡ Some k → k.parent ≡ m.parent → k.key ≡ m.key → ⊥

module _ (t : Nodes) (f : IsFormed t) (x : NodeId) (m : Node) (may : MayStand t x m) where
  root_there : is_root_node (get (insert t x m) Root) ≡ true
  root_there = elim (one_or_two Root x) [
    | inl h ↦ ap is_root_node (ap (get (insert t x m)) h ∙ get_here t x m) ∙ may.root (sym h)
    | inr h ↦ ap is_root_node (get_other t x m Root h) ∙ f.root
  ]

  parent_there : (y : NodeId) (n : Node) → y ≢ Root → get (insert t x m) y ≡ Some n → fits_under (get (insert t x m) n.parent) n ≡ true
  parent_there y n other e = elim (here_or_old t x m y n e) [
    | inl h ↦
        let q = may.parent (λ r. other (h.0 ∙ r)) in
        subst (λ (v : Node). fits_under (get (insert t x m) v.parent) v ≡ true) (sym h.1) (ap (λ o. fits_under o m) (get_other t x m m.parent q.0) ∙ q.1)
    | inr old ↦ elim (one_or_two n.parent x) [
      | inl p ↦ ap (λ o. fits_under o n) (ap (get (insert t x m)) p ∙ get_here t x m) ∙ may.children y n other old.0 old.1 p
      | inr p ↦ ap (λ o. fits_under o n) (get_other t x m n.parent p) ∙ f.parents y n other old.1
    ]
  ]

  pub formed-put : IsFormed (insert t x m)
  formed-put = record {
    root = root_there;
    parents = parent_there;
    keys = λ y z v w a b e d same key. elim (here_or_old t x m y v e) [
      | inl h ↦ elim (here_or_old t x m z w d) [
        | inl k ↦ ap (is_same y) (k.0 ∙ sym h.0) ∙ same_self y
        | inr old ↦ absurd (may.key (λ r. a (h.0 ∙ r)) z w b old.0 old.1 (sym same ∙ ap (λ (u : Node). u.parent) h.1) (sym key ∙ ap (λ (u : Node). u.key) h.1))
      ]
      | inr was ↦ elim (here_or_old t x m z w d) [
        | inl k ↦ absurd (may.key (λ r. b (k.0 ∙ r)) y v a was.0 was.1 (same ∙ ap (λ (u : Node). u.parent) k.1) (key ∙ ap (λ (u : Node). u.key) k.1))
        | inr old ↦ f.keys y z v w a b was.1 old.1 same key
      ]
    ];
  }
