-- Children as their nodes tell them.
use Rattle.std.proofs.Common.{◌≡◌, ◌≢◌, ℕ, List, Option, Some, None, refl, sym, ap, ◌∙◌}
use Rattle.std.specs.Cmp.Lexicographic.{slice_cmp}
use Rattle.std.specs.FinMap.{get, entries}
use Rattle.std.specs.FinMap.Entries.{same_entries}
use Rattle.std.specs.Ordering.{nat_cmp}
use Rattle.std.proofs.lemmas.Cmp.{nat_list_cmp_total}
use Rattle.room_ids.specs.declared.ids.NodeId.{NodeId}
use Rattle.room_ids.specs.declared.ids.NodeId.TheVariants.{Root}
use Rattle.room_nodes.specs.Shape.{Nodes, IsFormed, child_at, children}
use Rattle.room_nodes.specs.declared.nodes.Node.{Node}
use Rattle.room_nodes.proofs.Children.{text_exact, child_at_none, child_at_some}
use Rattle.room_nodes.proofs.Gets.{same}
use Rattle.room_nodes.proofs.Places.{children_sorted}

-- y stands under p at k
pub record IsChild (t : Nodes) (p : NodeId) (k : List ℕ) (y : NodeId) : Type 0 where
  pub node : Node
  pub there : get t y ≡ Some node
  pub made : y ≢ Root
  pub parent : node.parent ≡ p
  pub key : node.key ≡ k

pub child_of : (t : Nodes) (p : NodeId) (k : List ℕ) (y : NodeId) → child_at t p k ≡ Some y → IsChild t p k y
child_of t p k y e = let b = child_at_some t p k y e in record { node = b.0; there = b.1; made = b.2; parent = b.3; key = b.4 }

found_by : (t : Nodes) → IsFormed t → (p : NodeId) (k : List ℕ) (y : NodeId) → IsChild t p k y → (o : Option NodeId) → child_at t p k ≡ o → o ≡ Some y
found_by t f p k y c None e = absurd (child_at_none t p k e y c.node c.made c.there c.parent c.key)
found_by t f p k y c (Some z) e =
    let b = child_at_some t p k z e in
    ap Some (same z y (f.keys z y b.0 c.node b.2 c.made b.1 c.there (b.3 ∙ sym c.parent) (b.4 ∙ sym c.key)))

pub found : (t : Nodes) → IsFormed t → (p : NodeId) (k : List ℕ) (y : NodeId) → IsChild t p k y → child_at t p k ≡ Some y
found t f p k y c = found_by t f p k y c _ refl

same_child_by : (t u : Nodes) → IsFormed u → (p : NodeId) (k : List ℕ) → ((y : NodeId) → IsChild t p k y → IsChild u p k y) → ((y : NodeId) → IsChild u p k y → IsChild t p k y)
    → (o w : Option NodeId) → child_at t p k ≡ o → child_at u p k ≡ w → o ≡ w
same_child_by t u g p k to from None None a b = refl
same_child_by t u g p k to from None (Some z) a b = let c = from z (child_of u p k z b) in absurd (child_at_none t p k a z c.node c.made c.there c.parent c.key)
same_child_by t u g p k to from (Some y) w a b = sym (found u g p k y (to y (child_of t p k y a))) ∙ b

-- two trees with the same children at a key
pub same_child : (t u : Nodes) → IsFormed u → (p : NodeId) (k : List ℕ) → ((y : NodeId) → IsChild t p k y → IsChild u p k y) → ((y : NodeId) → IsChild u p k y → IsChild t p k y) → child_at t p k ≡ child_at u p k
same_child t u g p k to from = same_child_by t u g p k to from _ _ refl refl

-- and at all keys
pub same_children : (t u : Nodes) (p : NodeId) → ((k : List ℕ) → child_at t p k ≡ child_at u p k) → children t p ≡ children u p
same_children t u p h = same_entries (slice_cmp nat_cmp) nat_list_cmp_total text_exact (children t p) (children u p) (children_sorted p (entries t)) (children_sorted p (entries u)) h

-- a child moves with the answer
pub carried : (t u : Nodes) → IsFormed t → (p : NodeId) (k : List ℕ) (y : NodeId) → child_at t p k ≡ child_at u p k → IsChild t p k y → IsChild u p k y
carried t u f p k y h c = child_of u p k y (sym h ∙ found t f p k y c)
