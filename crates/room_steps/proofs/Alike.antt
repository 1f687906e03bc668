-- What nodes have in common that differ in an object's fields alone.
use Rattle.std.proofs.Common.{◌≡◌, not, ◌&&◌, nat_lt, [], Option, Some, None, option_map, is_some, refl, sym, ap, ◌∙◌}
use Rattle.room_ids.specs.Order.{is_same}
use Rattle.room_ids.specs.declared.ids.NodeId.{NodeId}
use Rattle.room_ids.specs.declared.ids.NodeId.TheVariants.{Root}
use Rattle.room_nodes.specs.Cells.{bare}
use Rattle.room_nodes.specs.Primitives.{key_in}
use Rattle.room_nodes.specs.Shape.{is_list, is_object, is_register, parent_of}
use Rattle.room_nodes.specs.Steps.{depth_in, fields_kind, has_room, holds_list, holds_object, is_under, on_fields}
use Rattle.room_nodes.specs.declared.nodes.Kind.{Kind}
use Rattle.room_nodes.specs.declared.nodes.Kind.TheVariants.{Object, List as Listed, Map as Mapped, Register}
use Rattle.room_nodes.specs.declared.nodes.Node.{Node}
use Rattle.room_nodes.proofs.Gets.{some_inj, some_none}
use Rattle.room_nodes.proofs.StepForm.{FieldsOf, object_same}

abbrev pub Alike : Option Node → Option Node → Type 0
Alike o w = option_map bare o ≡ option_map bare w

pub alike_some : (o w : Option Node) → Alike o w → (n : Node) → o ≡ Some n → (k : Node) × (w ≡ Some k) × (bare n ≡ bare k)
alike_some None w e n h = absurd (some_none n (sym h))
alike_some (Some a) None e n h = absurd (some_none (bare a) e)
alike_some (Some a) (Some b) e n h = (b, refl, ap bare (some_inj n a (sym h)) ∙ some_inj (bare a) (bare b) e)

pub by_alike : {A : Type 0} (h : Option Node → A) → ((n k : Node) → bare n ≡ bare k → h (Some n) ≡ h (Some k)) → (o w : Option Node) → Alike o w → h o ≡ h w
by_alike h f None None e = refl
by_alike h f None (Some b) e = absurd (some_none (bare b) (sym e))
by_alike h f (Some a) None e = absurd (some_none (bare a) e)
by_alike h f (Some a) (Some b) e = f a b (some_inj (bare a) (bare b) e)

list_same : (g : FieldsOf → FieldsOf) (kind : Kind) → is_list (fields_kind g kind) ≡ is_list kind
list_same g (Object fs) = refl
list_same g Listed = refl
list_same g Mapped = refl
list_same g (Register v) = refl

register_same : (g : FieldsOf → FieldsOf) (kind : Kind) → is_register (fields_kind g kind) ≡ is_register kind
register_same g (Object fs) = refl
register_same g Listed = refl
register_same g Mapped = refl
register_same g (Register v) = refl

module _ (n k : Node) (e : bare n ≡ bare k) where
  pub parent_alike : n.parent ≡ k.parent
  parent_alike = ap (λ (v : Node). v.parent) e

  pub key_alike : n.key ≡ k.key
  key_alike = ap (λ (v : Node). v.key) e

  depth_alike : n.depth ≡ k.depth
  depth_alike = ap (λ (v : Node). v.depth) e

  kind_alike : fields_kind (λ _. []) n.kind ≡ fields_kind (λ _. []) k.kind
  kind_alike = ap (λ (v : Node). v.kind) e

  list_alike : is_list n.kind ≡ is_list k.kind
  list_alike = sym (list_same (λ _. []) n.kind) ∙ ap is_list kind_alike ∙ list_same (λ _. []) k.kind

  object_alike : is_object n.kind ≡ is_object k.kind
  object_alike = sym (object_same (λ _. []) n.kind) ∙ ap is_object kind_alike ∙ object_same (λ _. []) k.kind

  register_alike : is_register n.kind ≡ is_register k.kind
  register_alike = sym (register_same (λ _. []) n.kind) ∙ ap is_register kind_alike ∙ register_same (λ _. []) k.kind

module _ (o w : Option Node) (e : Alike o w) where
  pub some_same : is_some o ≡ is_some w
  some_same = by_alike is_some (λ n k h. refl) o w e

  pub parent_same : parent_of o ≡ parent_of w
  parent_same = by_alike parent_of parent_alike o w e

  pub key_same : key_in o ≡ key_in w
  key_same = by_alike key_in key_alike o w e

  pub depth_same : depth_in o ≡ depth_in w
  depth_same = by_alike depth_in depth_alike o w e

  pub holds_list_same : holds_list o ≡ holds_list w
  holds_list_same = by_alike holds_list list_alike o w e

  pub holds_object_same : holds_object o ≡ holds_object w
  holds_object_same = by_alike holds_object object_alike o w e

  pub has_room_same : has_room o ≡ has_room w
  has_room_same = by_alike has_room (λ n k h. ap (λ b. not b && nat_lt n.depth 60) (register_alike n k h) ∙ ap (λ d. not (is_register k.kind) && nat_lt d 60) (depth_alike n k h)) o w e

  pub under_same : (p x : NodeId) → is_under p x o ≡ is_under p x w
  under_same p x = by_alike (is_under p x) (λ n k h. ap (λ z. not (is_same x Root) && is_same z p) (parent_alike n k h)) o w e

-- a node whose fields change is like itself

bare_kind : (g : FieldsOf → FieldsOf) (kind : Kind) → fields_kind (λ _. []) (fields_kind g kind) ≡ fields_kind (λ _. []) kind
bare_kind g (Object fs) = refl
bare_kind g Listed = refl
bare_kind g Mapped = refl
bare_kind g (Register v) = refl

pub bare_fields : (g : FieldsOf → FieldsOf) (n : Node) → bare (on_fields g n) ≡ bare n
bare_fields g n = ap (λ (k : Kind). record n { kind = k }) (bare_kind g n.kind)
