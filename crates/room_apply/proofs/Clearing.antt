-- The slot of a node, cleared.
use Rattle.std.proofs.Common.{◌≡◌, ◌≢◌, ℕ, inl, inr, Bool, true, false, cond, List, Option, Some, None}
use Rattle.std.proofs.Common.{is_some, refl, sym, ap, ◌∙◌}
use Rattle.std.specs.Ordering.{nat_cmp}
use Rattle.std.specs.Cmp.Lexicographic.{slice_cmp}
use Rattle.std.specs.FinMap.{get, insert, find, same_map}
use Rattle.room_json.specs.Value.{Value}
use Rattle.room_ids.proofs.IdOrder.{node_cmp-total, node_cmp-exact}
use Rattle.room_nodes.specs.Shape.{Nodes, IsFormed, child_at}
use Rattle.room_nodes.specs.Steps.{changed, changed_at, on_fields, fields_kind, without_child, without_field}
use Rattle.room_nodes.specs.Steps.{holds_object}
use Rattle.room_nodes.specs.Primitives.{fields_in, kind_fields}
use Rattle.room_nodes.proofs.Gets.{get_here, get_other, one_or_two}
use Rattle.room_nodes.proofs.Children.{child_at_some}
use Rattle.room_nodes.proofs.StepForm.{cut_child}
use Rattle.room_apply.specs.Left.{left_in, fields_left}
use Rattle.room_apply.specs.Ways.{owner_at}
use Rattle.room_apply.proofs.Removing.{kept_fields}
use Rattle.room_ids.specs.declared.ids.NodeId.{NodeId}
use Rattle.room_ids.specs.declared.ids.NodeId.TheVariants.{Root}
use Rattle.room_nodes.specs.declared.nodes.Node.{Node}
use Rattle.room_nodes.specs.declared.nodes.Kind.{Kind}
use Rattle.room_nodes.specs.declared.nodes.Kind.TheVariants.{Object, List as Listed, Map as Mapped, Register}

-- a child that is found is there, and isn't the root
pub child_there : (t : Nodes) (p : NodeId) (k : List ℕ) (c : NodeId) → Some c ≡ child_at t p k
    → (is_some (get t c) ≡ true) × (c ≢ Root)
child_there t p k c e = let h = child_at_some t p k c (sym e) in (ap is_some h.1, h.2)

-- a node put where it is
pub put_same : (t : Nodes) (x : NodeId) (n : Node) → get t x ≡ Some n → insert t x n ≡ t
put_same t x n e = same_map node_cmp-total node_cmp-exact (insert t x n) t (λ q. elim (one_or_two q x) [
  | inl h ↦ ap (get (insert t x n)) h ∙ get_here t x n ∙ sym e ∙ ap (get t) (sym h)
  | inr h ↦ get_other t x n q h
])

-- nothing goes where the field isn't there
left_none : (k : List ℕ) (fs : List (List ℕ × Value)) (b : Bool) → is_some (find (slice_cmp nat_cmp) k fs) ≡ b
    → None ≡ cond b (Some (without_field k fs)) None → without_field k fs ≡ fs
left_none k fs true e h = cc
left_none k fs false e h = kept_fields k fs e

kind_kept : (k : List ℕ) (kind : Kind) → None ≡ left_in k kind → fields_kind (without_field k) kind ≡ kind
kind_kept k (Object fs) h = ap Object (left_none k fs _ refl h)
kind_kept k Listed h = refl
kind_kept k Mapped h = refl
kind_kept k (Register v) h = refl

kept_at : (t : Nodes) (x : NodeId) (k : List ℕ) (o : Option Node) → get t x ≡ o → None ≡ fields_left k o
    → t ≡ changed_at t x (on_fields (without_field k)) o
kept_at t x k None e h = refl
kept_at t x k (Some n) e h = sym (ap (λ d. insert t x (record n { kind = d })) (kind_kept k n.kind h)
    ∙ put_same t x n e)

pub nothing_cleared : (t : Nodes) (x : NodeId) (k : List ℕ) → None ≡ fields_left k (get t x)
    → t ≡ changed t x (on_fields (without_field k))
nothing_cleared t x k h = kept_at t x k _ refl h

-- and where it is there
some_left : (k : List ℕ) (fs gs : List (List ℕ × Value)) (b : Bool) → Some gs ≡ cond b (Some (without_field k fs)) None
    → gs ≡ without_field k fs
some_left k fs gs true h = cc
some_left k fs gs false h = cc

left_kind : (k : List ℕ) (gs : List (List ℕ × Value)) (n : Node) (kind : Kind) → n.kind ≡ kind
    → Some gs ≡ left_in k kind → (holds_object (Some n) ≡ true) × (gs ≡ without_field k (fields_in (Some n)))
left_kind k gs n (Object fs) e h = (
  ap (λ d. holds_object (Some (record n { kind = d }))) e,
  some_left k fs gs _ h
      ∙ sym (ap (λ d. without_field k (fields_in (Some (record n { kind = d })))) e),
)
left_kind k gs n Listed e h = cc
left_kind k gs n Mapped e h = cc
left_kind k gs n (Register v) e h = cc

pub some_cleared : (k : List ℕ) (gs : List (List ℕ × Value)) (o : Option Node) → Some gs ≡ fields_left k o
    → (holds_object o ≡ true) × (gs ≡ without_field k (fields_in o))
some_cleared k gs None h = cc
some_cleared k gs (Some n) h = left_kind k gs n n.kind refl h

-- the object has a field there where there are fields left

left_is : (k : List ℕ) (kind : Kind)
    → is_some (left_in k kind) ≡ is_some (find (slice_cmp nat_cmp) k (kind_fields kind))
left_is k (Object fs) = some_if (is_some (find (slice_cmp nat_cmp) k fs)) (without_field k fs)
  where
    some_if : (b : Bool) (gs : List (List ℕ × Value)) → is_some (cond b (Some gs) None) ≡ b
    some_if true gs = refl
    some_if false gs = refl
left_is k Listed = refl
left_is k Mapped = refl
left_is k (Register v) = refl

pub left_where : (k : List ℕ) (o : Option Node)
    → is_some (fields_left k o) ≡ is_some (find (slice_cmp nat_cmp) k (fields_in o))
left_where k None = refl
left_where k (Some n) = left_is k n.kind

-- the object whose field goes, on the tree from which the child there went
pub owner_left : (t u : Nodes) (x : NodeId) (k : List ℕ) (o : Option (List (List ℕ × Value))) (b : Bool)
    → get u x ≡ get t x → o ≡ fields_left k (get u x) → is_some o ≡ b → cond b (Some x) None ≡ owner_at t x k
owner_left t u x k o b same is some = ap (λ v. cond v (Some x) None) (sym some ∙ ap is_some is ∙ left_where k (get u x)
    ∙ ap (λ w. is_some (find (slice_cmp nat_cmp) k (fields_in w))) same)

pub slot_here : (t : Nodes) → IsFormed t → (x : NodeId) (k : List ℕ) (u : Nodes) → u ≡ without_child t x k
    → get u x ≡ get t x
slot_here t f x k u is = ap (λ (v : Nodes). get v x) is ∙ (cut_child x t f k).0.here
