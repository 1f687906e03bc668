-- A tree of sound nodes stays one when it is changed.
use Rattle.std.proofs.Common.{◌≡◌, ℕ, inl, inr, cond, List, [], Option, Some, None, IsUtf8, refl, sym, ap, ◌∙◌, subst}
use Rattle.std.specs.FinMap.{get, insert, remove}
use Rattle.std.specs.List.Sorted.{IsStrictlySortedBy}
use Rattle.std.proofs.lemmas.Str.{IsUtf8-nil}
use Rattle.room_json.specs.Value.{Value}
use Rattle.room_json.specs.Profile.{AreSoundMembers}
use Rattle.room_ids.specs.Laws.{IsNodeInRange}
use Rattle.room_nodes.specs.Shape.{Nodes, bare_root, empty_tree}
use Rattle.room_nodes.specs.Steps.{changed_at, on_fields, fields_kind}
use Rattle.room_nodes.specs.Primitives.{with_fields_at, with_key_at}
use Rattle.room_nodes.specs.Sound.{IsSoundKind, IsSoundNode, IsSoundTree}
use Rattle.room_nodes.proofs.Gets.{some_inj, some_none, same_self, one_or_two, here_or_old, get_without, get_beside}
use Rattle.room_nodes.proofs.EmptyTree.{read, nothing}
use Rattle.room_ids.specs.declared.ids.NodeId.{NodeId}
use Rattle.room_ids.specs.declared.ids.NodeId.TheVariants.{Root}
use Rattle.room_nodes.specs.declared.nodes.Node.{Node}
use Rattle.room_nodes.specs.declared.nodes.Kind.{Kind}
use Rattle.room_nodes.specs.declared.nodes.Kind.TheVariants.{Object, List as Listed, Map as Mapped, Register}

-- the root alone

no_members : AreSoundMembers []
unfolding IsStrictlySortedBy
no_members = record { ordered = tt; json = tt }

sound_root : IsSoundNode bare_root
sound_root = record { parent = tt; key = IsUtf8-nil; kind = no_members }

root_there : (x : NodeId) → x ≡ Root → get empty_tree x ≡ Some bare_root
root_there x h = ap (get empty_tree) h ∙ read Root ∙ ap (λ b. cond b (Some bare_root) None) (same_self Root)

pub sound-empty : IsSoundTree empty_tree
sound-empty x n e = elim (one_or_two x Root) [
  | inl h ↦ (subst IsNodeInRange (sym h) tt, subst IsSoundNode (some_inj bare_root n (sym (root_there x h) ∙ e)) sound_root)
  | inr h ↦ absurd (nothing x n h e)
]

-- a node put, a node taken

pub sound-insert : (t : Nodes) → IsSoundTree t → (x : NodeId) (n : Node) → IsNodeInRange x → IsSoundNode n → IsSoundTree (insert t x n)
sound-insert t s x n id node y m e = elim (here_or_old t x n y m e) [
  | inl h ↦ (subst IsNodeInRange (sym h.0) id, subst IsSoundNode (sym h.1) node)
  | inr h ↦ s y m h.1
]

pub sound-remove : (t : Nodes) → IsSoundTree t → (x : NodeId) → IsSoundTree (remove t x)
sound-remove t s x y m e = elim (one_or_two y x) [
  | inl h ↦ absurd (some_none m (sym e ∙ ap (get (remove t x)) h ∙ get_without t x))
  | inr h ↦ s y m (sym (get_beside t x y h) ∙ e)
]

-- a node changed

sound-changed : (t : Nodes) → IsSoundTree t → (x : NodeId) (f : Node → Node) → ((n : Node) → IsSoundNode n → IsSoundNode (f n)) → (o : Option Node) → get t x ≡ o → IsSoundTree (changed_at t x f o)
sound-changed t s x f keeps None e = s
sound-changed t s x f keeps (Some n) e = let old = s x n e in sound-insert t s x (f n) old.0 (keeps n old.1)

sound_kind : (fs : List (List ℕ × Value)) → AreSoundMembers fs → (k : Kind) → IsSoundKind k → IsSoundKind (fields_kind (λ _. fs) k)
sound_kind fs h (Object gs) s = h
sound_kind fs h Listed s = s
sound_kind fs h Mapped s = s
sound_kind fs h (Register v) s = s

pub sound-fields : (t : Nodes) → IsSoundTree t → (x : NodeId) (fs : List (List ℕ × Value)) → AreSoundMembers fs → IsSoundTree (with_fields_at t x fs)
sound-fields t s x fs h = sound-changed t s x (on_fields (λ _. fs)) (λ n old. record { parent = old.parent; key = old.key; kind = sound_kind fs h n.kind old.kind }) (get t x) refl

pub sound-key : (t : Nodes) → IsSoundTree t → (x : NodeId) (k : List ℕ) → IsUtf8 k → IsSoundTree (with_key_at t x k)
sound-key t s x k h = sound-changed t s x (λ n. record n { key = k }) (λ n old. record { parent = old.parent; key = h; kind = old.kind }) (get t x) refl
