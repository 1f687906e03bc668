-- The tree of a root alone with some fields: its items, and an update of it.
use Rattle.std.proofs.Common.{◌≡◌, ◌≢◌, ℕ, Bool, true, false, cond, List, [], ◌∷◌, map, flat_map, Some, None, refl, sym, ap, ◌∙◌, nat_cmp, subst}
use Rattle.std.specs.Cmp.Lexicographic.{slice_cmp}
use Rattle.std.specs.FinMap.{get, insert, get-from_sorted, entries-from_sorted, entries-insert, same_entries_map, find, put}
use Rattle.room_json.specs.Value.{Value}
use Rattle.room_ids.specs.Order.{node_cmp, is_same}
use Rattle.room_ids.specs.Laws.{IsNodeInRange}
use Rattle.room_ids.specs.declared.ids.NodeId.{NodeId}
use Rattle.room_ids.specs.declared.ids.NodeId.TheVariants.{Root}
use Rattle.room_ids.proofs.IdOrder.{node_cmp-total}
use Rattle.room_nodes.specs.Preorder.{preorder, preorder_within}
use Rattle.room_nodes.specs.Shape.{IsFormed, bare_root, child_entries, children, is_root_node}
use Rattle.room_nodes.specs.Steps.{step, without_field}
use Rattle.room_nodes.specs.Reversal.{reverse_all}
use Rattle.room_nodes.specs.declared.nodes.Body.TheVariants.{DeleteKey, Update as UpdateOf}
use Rattle.room_nodes.specs.declared.nodes.Node.{Node}
use Rattle.room_nodes.specs.declared.nodes.Kind.TheVariants.{Object}
use Rattle.room_nodes.proofs.Gets.{some_none, differ, same}
use Rattle.room_items.specs.Items.{items_of, tree_in, item_out}
use Rattle.room_items.proofs.Spells.{trees_again}
use Rattle.room_model.specs.Server.{parts_of}
use Rattle.room_laws.specs.Sample.{tree_with}

module _ (fs : List (List ℕ × Value)) where
  abbrev pub root_with : Node
  root_with = record bare_root { kind = Object fs }

  at : (q : NodeId) → get (tree_with fs) q ≡ cond (is_same q Root) (Some root_with) None
  at q = get-from_sorted node_cmp ((Root, root_with) ∷ []) q tt

  pub at_root : get (tree_with fs) Root ≡ Some root_with
  at_root = at Root

  nothing : (x : NodeId) (n : Node) → x ≢ Root → get (tree_with fs) x ≡ Some n → ⊥
  nothing x n other e = some_none n (sym e ∙ at x ∙ ap (λ b. cond b (Some root_with) None) (differ x Root other))

  formed : IsFormed (tree_with fs)
  formed = record {
    root = ap is_root_node (at Root);
    parents = λ x n other e. absurd (nothing x n other e);
    keys = λ x y m n a b e d same key. absurd (nothing x m a e);
  }

  within : (x : NodeId) (n : Node) → get (tree_with fs) x ≡ Some n → IsNodeInRange x
  within x n e = by_root (is_same x Root) refl (sym (at x) ∙ e)
    where
      by_root : (b : Bool) → is_same x Root ≡ b → cond b (Some root_with) None ≡ Some n → IsNodeInRange x
      by_root true p q = subst IsNodeInRange (sym (same x Root p)) tt
      by_root false p q = cc

  pub no_children : children (tree_with fs) Root ≡ []
  no_children = ap (child_entries Root) (entries-from_sorted node_cmp ((Root, root_with) ∷ []) tt)

  alone : preorder (tree_with fs) Root ≡ Root ∷ []
  unfolding preorder preorder_within
  alone = ap (λ cs. Root ∷ flat_map (λ (e : List ℕ × NodeId). preorder_within 59 (tree_with fs) e.1) cs) no_children

  one_item : items_of (tree_with fs) ≡ item_out (tree_with fs) Root ∷ []
  one_item = ap (map (item_out (tree_with fs))) alone

  pub one_part : parts_of (items_of (tree_with fs)) ≡ (items_of (tree_with fs), false) ∷ []
  one_part = ap parts_of one_item ∙ ap (λ (vs : List Value). (vs, false) ∷ []) (sym one_item)

  pub read_again : tree_in (items_of (tree_with fs)) ≡ Some (tree_with fs)
  read_again = trees_again (tree_with fs) formed within

-- other fields

put_root : (fs gs : List (List ℕ × Value)) → insert (tree_with fs) Root (root_with gs) ≡ tree_with gs
put_root fs gs = same_entries_map _ _ (
    entries-insert node_cmp-total (tree_with fs) Root (root_with gs)
    ∙ ap (put node_cmp Root (root_with gs)) (entries-from_sorted node_cmp ((Root, root_with fs) ∷ []) tt)
    ∙ sym (entries-from_sorted node_cmp ((Root, root_with gs) ∷ []) tt))

pub set_field : (fs : List (List ℕ × Value)) (k : List ℕ) (v : Value)
    → step (tree_with fs) (UpdateOf Root ((k, v) ∷ [])) ≡ tree_with (put (slice_cmp nat_cmp) k v fs)
unfolding step
set_field fs k v = rw (at_root fs) (rw (no_children fs) (rw (at_root fs) (put_root fs (put (slice_cmp nat_cmp) k v fs))))

pub unset_field : (fs : List (List ℕ × Value)) (k : List ℕ)
    → step (tree_with fs) (DeleteKey Root k) ≡ tree_with (without_field k fs)
unfolding step
unset_field fs k = rw (at_root fs) (rw (no_children fs) (rw (at_root fs) (put_root fs (without_field k fs))))

-- what takes a new field back
pub taken_back : (fs : List (List ℕ × Value)) (k : List ℕ) (v : Value) → find (slice_cmp nat_cmp) k fs ≡ None
    → reverse_all (tree_with fs) (UpdateOf Root ((k, v) ∷ []) ∷ []) ≡ DeleteKey Root k ∷ []
taken_back fs k v h = rw (at_root fs) (rw h (rw (no_children fs) refl))
