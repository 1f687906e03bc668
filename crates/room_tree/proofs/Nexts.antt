-- The next child of a list and its key.
use Rattle.std.proofs.Common.{◌≡◌, ℕ, true, List, Option, Some, None, option_map, IfSome, refl, sym, ap, ◌∙◌}
use Rattle.std.specs.FinMap.{get}
use Rattle.room_nodes.specs.Shape.{Nodes, IsFormed, children, next_of}
use Rattle.room_nodes.specs.Steps.{next_key, is_under, without}
use Rattle.room_tree.specs.Skipped.{next_skip, key_of}
use Rattle.room_nodes.proofs.Gets.{some_inj}
use Rattle.room_nodes.proofs.Children.{next_is_child}
use Rattle.room_tree.proofs.Skipping.{next_key_skip, under_some}
use Rattle.room_ids.specs.declared.ids.NodeId.{NodeId}
use Rattle.room_nodes.specs.declared.nodes.Node.{Node}

module _ (t : Nodes) (p : NodeId) (k : List ℕ) where
  keyed : (o : Option (List ℕ × NodeId)) → next_of (Some k) (children t p) ≡ o → key_of t (option_map (λ e. e.1) o) ≡ option_map (λ e. e.0) o
  keyed None e = refl
  keyed (Some f) e = let n = next_is_child t p (Some k) f e in ap (option_map (λ (m : Node). m.key)) n.1 ∙ ap Some n.4

  pub key_next : (r : Option NodeId) → r ≡ option_map (λ e. e.1) (next_of (Some k) (children t p)) → key_of t r ≡ next_key t p k
  key_next r is = ap (key_of t) is ∙ keyed _ refl

  pub next_without : IsFormed t → (r : Option NodeId) (x : NodeId) → r ≡ Some x → IfSome r (λ y. is_under p y (get t y) ≡ true) → next_skip t p x (next_of (Some k) (children t p)) ≡ next_key (without t r) p k
  next_without f None x e h = cc
  next_without f (Some y) x e h =
      let u = under_some t p y (get t y) refl h in
      ap (λ z. next_skip t p z (next_of (Some k) (children t p))) (sym (some_inj y x e)) ∙ sym (next_key_skip t f p y u.0 u.1 u.2 u.3 k)
