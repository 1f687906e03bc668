-- One level more.
use Rattle.std.proofs.Common.{◌≡◌, ◌≢◌, ◌-◌, ℕ, zero, suc, List, [], ◌∷◌, map, flat_map, refl, sym, ap, arith}
use Rattle.std.specs.FinMap.{get}
use Rattle.room_ids.specs.declared.ids.NodeId.{NodeId}
use Rattle.room_nodes.specs.Shape.{Nodes, children}
use Rattle.room_nodes.specs.Preorder.{preorder_within}
use Rattle.room_items.specs.View.{view_within, node_view}

less : (n : ℕ) → suc n - 1 ≡ n
less n = omega arith

pub within_none : (t : Nodes) (x : NodeId) → preorder_within 0 t x ≡ x ∷ []
unfolding preorder_within
within_none t x = refl

pub within_more : (n : ℕ) (t : Nodes) (x : NodeId) → n ≢ 0 → preorder_within n t x ≡ x ∷ flat_map (λ (e : List ℕ × NodeId). preorder_within (n - 1) t e.1) (children t x)
unfolding preorder_within
within_more zero t x h = absurd (h refl)
within_more (suc n) t x h = ap (λ m. x ∷ flat_map (λ (e : List ℕ × NodeId). preorder_within m t e.1) (children t x)) (sym (less n))

pub view_none : (t : Nodes) (x : NodeId) → view_within 0 t x ≡ node_view (get t x) []
unfolding view_within
view_none t x = refl

pub view_more : (n : ℕ) (t : Nodes) (x : NodeId) → n ≢ 0 → view_within n t x ≡ node_view (get t x) (map (λ (e : List ℕ × NodeId). (e.0, view_within (n - 1) t e.1)) (children t x))
unfolding view_within
view_more zero t x h = absurd (h refl)
view_more (suc n) t x h = ap (λ m. node_view (get t x) (map (λ (e : List ℕ × NodeId). (e.0, view_within m t e.1)) (children t x))) (sym (less n))
