-- The tree of a root alone.
use Rattle.std.proofs.Common.{◌≡◌, false, cond, ℕ, List, [], ◌∷◌, Option, Some, None, option_and_then, map, if◌then◌else◌, refl, sym, ap, ◌∙◌}
use Rattle.std.specs.FinMap.{get, get-from_sorted, entries-from_sorted, entries-insert, same_entries_map, put}
use Rattle.room_json.specs.Value.{Value}
use Rattle.room_ids.specs.Order.{node_cmp, is_same}
use Rattle.room_ids.specs.declared.ids.NodeId.{NodeId}
use Rattle.room_ids.specs.declared.ids.NodeId.TheVariants.{Root}
use Rattle.room_nodes.specs.Primitives.{CanHold, with_fields_at}
use Rattle.room_nodes.specs.Shape.{Nodes, bare_root, empty_tree, is_object}
use Rattle.room_nodes.specs.Steps.{holds_object, changed_at, on_fields}
use Rattle.room_nodes.specs.declared.nodes.Node.{Node}
use Rattle.room_nodes.specs.declared.nodes.Kind.{Kind}
use Rattle.room_nodes.specs.declared.nodes.Kind.TheVariants.{Object, List as Listed, Map, Register}
use Rattle.room_nodes.proofs.Gets.{some_none, differ}
use Rattle.room_ids.proofs.IdOrder.{node_cmp-total}
use Rattle.room_items.specs.declared.row.Row.{Row}
use Rattle.room_items.specs.Items.{row_id, root_of, tree_under, in_order, same_ids}
use Rattle.room_nodes.specs.Preorder.{preorder}

pub none_under : (kind : Kind) (rows : Option (List Row)) → is_object kind ≡ false → option_and_then (tree_under kind) rows ≡ None
none_under (Object fs) rows h = cc
none_under Listed None h = refl
none_under Listed (Some rs) h = refl
none_under Map None h = refl
none_under Map (Some rs) h = refl
none_under (Register v) None h = refl
none_under (Register v) (Some rs) h = refl

at : (q : NodeId) → get empty_tree q ≡ cond (is_same q Root) (Some bare_root) None
at q = get-from_sorted node_cmp ((Root, bare_root) ∷ []) q tt

pub empty_holds : (fs : List (List ℕ × Value)) → CanHold empty_tree Root fs
empty_holds fs = record {
  object = ap holds_object (at Root);
  free = λ y n other there parent. absurd (some_none n (sym there ∙ at y ∙ ap (λ b. cond b (Some bare_root) None) (differ y Root other)));
}

pub rooted : (fs : List (List ℕ × Value)) → with_fields_at empty_tree Root fs ≡ root_of (Object fs)
rooted fs =
    let n : Node = record bare_root { kind = Object fs } in
    ap (changed_at empty_tree Root (on_fields (λ _. fs))) (at Root)
    ∙ same_entries_map _ _ (
    entries-insert node_cmp-total empty_tree Root n
    ∙ ap (put node_cmp Root n) (entries-from_sorted node_cmp ((Root, bare_root) ∷ []) tt)
    ∙ sym (entries-from_sorted node_cmp ((Root, n) ∷ []) tt))

-- the tree of some rows, where they stand in its own order

pub in_order_of : (t : Nodes) (rows : List Row) (ids : List NodeId) (made : Option Nodes) → ids ≡ Root ∷ map row_id rows → made ≡ Some t
    → (if same_ids (preorder t Root) ids then Some t else None) ≡ option_and_then (in_order rows) made
in_order_of t rows ids made named is = ap (λ xs. if same_ids (preorder t Root) xs then Some t else None) named ∙ sym (ap (option_and_then (in_order rows)) is)

pub in_order_none : (rows : List Row) (made : Option Nodes) → made ≡ None → None ≡ option_and_then (in_order rows) made
in_order_none rows made is = sym (ap (option_and_then (in_order rows)) is)
