-- A tree stays one when it is changed.
use Rattle.std.proofs.Common.{◌≡◌, ◌≢◌, inl, inr, Bool, true, false, ◌||◌, Some, None, sym, ap, ◌∙◌, subst}
use Rattle.std.specs.FinMap.{get, insert}
use Rattle.room_nodes.specs.Shape.{Nodes, fits_under, is_root_node, IsFormed, IsFree, removed}
use Rattle.room_ids.specs.Order.{is_same}
use Rattle.room_nodes.proofs.Gets.{some_none, here_or_old, get_other, kept, get_kept, same_self}
use Rattle.room_nodes.proofs.Below.{below_step, below_root}
use Rattle.room_nodes.proofs.Fitting.{fits_parent, none_of, the_root, the_parent}
use Rattle.room_ids.specs.declared.ids.NodeId.{NodeId}
use Rattle.room_ids.specs.declared.ids.NodeId.TheVariants.{Root}
use Rattle.room_nodes.specs.declared.nodes.Node.{Node}

second_false : (a b c : Bool) → a ≡ false → a ≡ (b || c) → c ≡ false
second_false a true c n e = cc
second_false a false c n e = sym e ∙ n

module _ (t : Nodes) (id : NodeId) (node : Node) where
  -- an old node is there still
  still : get t id ≡ None → (q : NodeId) (n : Node) → get t q ≡ Some n → get (insert t id node) q ≡ get t q
  still fresh q n old = get_other t id node q (λ e. some_none n (sym old ∙ ap (get t) e ∙ fresh))

  pub formed-insert : IsFormed t → IsFree t id node → IsFormed (insert t id node)
  formed-insert f free =
      let fresh = none_of (get t id) free.fresh in
      let u = insert t id node in
      record {
        root = let r = the_root t f in ap is_root_node (still fresh Root r.0 r.1) ∙ f.root;
        parents = λ x n other e. elim (here_or_old t id node x n e) [
          | inl h ↦ let p = fits_parent (get t node.parent) node free.parent in subst (λ (m : Node). fits_under (get u m.parent) m ≡ true) (sym h.1) (ap (λ o. fits_under o node) (still fresh node.parent p.0 p.1) ∙ free.parent)
          | inr old ↦ let p = the_parent t f x n other old.1 in ap (λ o. fits_under o n) (still fresh n.parent p.0 p.1) ∙ f.parents x n other old.1
        ];
        keys = λ x y m n a b e d same key. elim (here_or_old t id node x m e) [
          | inl h ↦ elim (here_or_old t id node y n d) [
            | inl k ↦ ap (is_same x) (k.0 ∙ sym h.0) ∙ same_self x
            | inr old ↦ absurd (free.key y n b old.1 (sym same ∙ ap (λ (v : Node). v.parent) h.1) (sym key ∙ ap (λ (v : Node). v.key) h.1))
          ]
          | inr was ↦ elim (here_or_old t id node y n d) [
            | inl k ↦ absurd (free.key x m a was.1 (same ∙ ap (λ (v : Node). v.parent) k.1) (key ∙ ap (λ (v : Node). v.key) k.1))
            | inr old ↦ f.keys x y m n a b was.1 old.1 same key
          ]
        ];
      }

module _ (t : Nodes) (x : NodeId) where
  pub formed-removed : IsFormed t → x ≢ Root → IsFormed (removed t x)
  formed-removed f made = record {
    root = ap is_root_node (get_kept t x Root (below_root t f x made)) ∙ f.root;
    parents = λ y n other e.
        let k = kept t x y n e in
        ap (λ o. fits_under o n) (get_kept t x n.parent (second_false _ (is_same y x) _ k.1 (below_step t f x y n other k.0))) ∙ f.parents y n other k.0;
    keys = λ y z m n a b e d same key. f.keys y z m n a b (kept t x y m e).0 (kept t x z n d).0 same key;
  }
