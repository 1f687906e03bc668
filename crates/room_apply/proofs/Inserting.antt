-- Two trees into which alike nodes are put, or from which a node is taken: they agree where they agreed.
use Rattle.std.proofs.Common.{◌≡◌, inl, inr, ℕ, List, Some, option_map}
use Rattle.std.proofs.Common.{refl, sym, ap, ◌∙◌, subst}
use Rattle.std.specs.Cmp.Lexicographic.{slice_cmp}
use Rattle.std.specs.FinMap.{get, insert, remove, find, get-remove}
use Rattle.std.specs.Ordering.{nat_cmp}
use Rattle.room_ids.proofs.IdOrder.{node_cmp-total}
use Rattle.room_ids.specs.Order.{is_same}
use Rattle.room_ids.specs.declared.ids.NodeId.{NodeId}
use Rattle.room_nodes.specs.Cells.{SameSlot, bare, field_at}
use Rattle.room_nodes.specs.Primitives.{kind_fields}
use Rattle.room_nodes.specs.Shape.{Nodes, IsFormed}
use Rattle.room_nodes.specs.declared.nodes.Node.{Node}
use Rattle.room_nodes.proofs.Gets.{get_here, get_other, here_or_old, one_or_two}
use Rattle.room_steps.proofs.Alike.{Alike, holds_object_same, parent_alike, key_alike}
use Rattle.room_steps.proofs.Changing.{found_in, kept_changed}
use Rattle.room_steps.proofs.Framing.{acts_plain, plain}
use Rattle.room_steps.proofs.Kin.{IsChild, carried, same_child}
use Rattle.room_steps.proofs.Operations.{by_name_plain}

-- what t and u agree on, the two after them agree on
pub record Stays (t u t2 u2 : Nodes) : Type 0 where
  pub node : (q : NodeId) → Alike (get t q) (get u q) → Alike (get t2 q) (get u2 q)
  pub slot : (q : NodeId) (k : List ℕ) → SameSlot t u q k → SameSlot t2 u2 q k

module _ (t u : Nodes) (f : IsFormed t) (g : IsFormed u) (y : NodeId) (n k : Node) (e : bare n ≡ bare k)
    (h : IsFormed (insert t y n)) (h2 : IsFormed (insert u y k))
    (fields : (j : List ℕ) → SameSlot t u y j
    → find (slice_cmp nat_cmp) j (kind_fields n.kind) ≡ find (slice_cmp nat_cmp) j (kind_fields k.kind)) where
  node_put : (q : NodeId) → Alike (get t q) (get u q) → Alike (get (insert t y n) q) (get (insert u y k) q)
  node_put q s = elim (one_or_two q y) [
    | inl i ↦
        ap (λ z. option_map bare (get (insert t y n) z)) i ∙ ap (option_map bare) (get_here t y n) ∙ ap Some e
        ∙ sym (ap (option_map bare) (get_here u y k)) ∙ sym (ap (λ z. option_map bare (get (insert u y k) z)) i)
    | inr d ↦ ap (option_map bare) (get_other t y n q d) ∙ s ∙ sym (ap (option_map bare) (get_other u y k q d))
  ]

  field_put : (q : NodeId) (j : List ℕ) → SameSlot t u q j → field_at (insert t y n) q j ≡ field_at (insert u y k) q j
  field_put q j s = elim (one_or_two q y) [
    | inl i ↦
        ap (λ z. found_in j (get (insert t y n) z)) i ∙ ap (found_in j) (get_here t y n)
        ∙ fields j (subst (λ z. SameSlot t u z j) i s)
        ∙ sym (ap (found_in j) (get_here u y k)) ∙ sym (ap (λ z. found_in j (get (insert u y k) z)) i)
    | inr d ↦ ap (found_in j) (get_other t y n q d) ∙ s.0 ∙ sym (ap (found_in j) (get_other u y k q d))
  ]

  child_to : (v w : Nodes) (m l : Node) → bare m ≡ bare l → (q : NodeId) (j : List ℕ)
      → ((z : NodeId) → IsChild v q j z → IsChild w q j z)
      → (z : NodeId) → IsChild (insert v y m) q j z → IsChild (insert w y l) q j z
  child_to v w m l b q j over z c = elim (here_or_old v y m z c.node c.there) [
    | inl i ↦ record {
      node = l;
      there = ap (get (insert w y l)) i.0 ∙ get_here w y l;
      made = c.made;
      parent = sym (parent_alike m l b) ∙ sym (ap (λ (a : Node). a.parent) i.1) ∙ c.parent;
      key = sym (key_alike m l b) ∙ sym (ap (λ (a : Node). a.key) i.1) ∙ c.key;
    }
    | inr old ↦
        let d = over z (record { node = c.node; there = old.1; made = c.made; parent = c.parent; key = c.key }) in
        record {
          node = d.node;
          there = get_other w y l z old.0
              ∙ d.there;
          made = c.made;
          parent = d.parent;
          key = d.key;
        }
  ]

  slot_put : (q : NodeId) (j : List ℕ) → SameSlot t u q j → SameSlot (insert t y n) (insert u y k) q j
  slot_put q j s = (
    field_put q j s,
    same_child (insert t y n) (insert u y k) h2 q j
        (child_to t u n k e q j (λ z c. carried t u f q j z s.1 c))
        (child_to u t k n (sym e) q j (λ z c. carried u t g q j z (sym s.1) c)),
  )

  pub put_stays : Stays t u (insert t y n) (insert u y k)
  put_stays = record { node = node_put; slot = slot_put }

module _ (t u : Nodes) (f : IsFormed t) (g : IsFormed u) (x : NodeId) (h : IsFormed (remove t x))
    (h2 : IsFormed (remove u x))
    (alike : Alike (get t x) (get u x)) where
  pub cut_stays : Stays t u (remove t x) (remove u x)
  cut_stays =
      let k = kept_changed t u (remove t x) (remove u x) (λ q. is_same q x) (λ q. is_same q x) x plain
      (acts_plain t (remove t x) (λ q. is_same q x) x (λ q. get-remove node_cmp-total t x q))
      (acts_plain u (remove u x) (λ q. is_same q x) x (λ q. get-remove node_cmp-total u x q))
      (λ fs o. o) (λ q. refl) f g h h2 by_name_plain (holds_object_same _ _ alike) in
      record { node = k.node; slot = k.slot }
