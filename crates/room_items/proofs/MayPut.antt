-- When an item may be put.
use Rattle.std.proofs.Common.{◌≡◌, ◌<◌, ◌+◌, ◌&&◌, ◌||◌, ℕ, Bool, true, false, cond, not, nat_eq, nat_le, nat_lt, List, [], ◌∷◌, Option, Some, None, is_some, refl, sym, ap, ◌∙◌, rules}
use Rattle.std.specs.BTreeMap.{is_at}
use Rattle.std.specs.Cmp.Lexicographic.{slice_cmp}
use Rattle.std.specs.FinMap.{get, find}
use Rattle.std.specs.Map.{lookup}
use Rattle.std.specs.Ordering.{nat_cmp, eq_by_cmp}
use Rattle.room_json.specs.Value.{Value}
use Rattle.room_ids.specs.Position.{is_pos}
use Rattle.room_nodes.specs.Shape.{Nodes, IsFree, fits_under, is_register, is_list, has_field}
use Rattle.room_nodes.specs.Steps.{depth_in}
use Rattle.room_nodes.specs.declared.nodes.Node.{Node}
use Rattle.room_nodes.proofs.Children.{child_at_none}
use Rattle.room_nodes.proofs.Fitting.{both, not_true, none_of}
use Rattle.room_items.specs.declared.row.Row.{Row}
use Rattle.room_items.specs.Items.{row_node, may_put}

pub lookup_find : (k : List ℕ) (fs : List (List ℕ × Value)) → lookup (is_at (slice_cmp nat_cmp k)) fs ≡ find (slice_cmp nat_cmp) k fs
lookup_find k [] = refl
lookup_find k (f ∷ fs) = ap (cond (eq_by_cmp (slice_cmp nat_cmp) k f.0) (Some f.1)) (lookup_find k fs)

eq_self : (n : ℕ) → nat_eq n n ≡ true
eq_self n = search rules

one_more : (n : ℕ) → nat_le (n + 1) 60 ≡ nat_lt n 60
one_more n = search rules

-- a node that stands one deeper than its parent, asked of the parent's depth
abbrev fits_there : Option Node → Row → Bool
fits_there None r = false
fits_there (Some p) r =
    nat_lt p.depth 60 && (not (is_register p.kind) && (not (has_field r.key p.kind) && (not (is_list p.kind) || is_pos r.key)))

pub fits_is : (o : Option Node) (r : Row) → fits_under o (record { parent = r.parent; key = r.key; depth = depth_in o + 1; kind = r.kind }) ≡ fits_there o r
fits_is None r = refl
fits_is (Some p) r = rw (eq_self (p.depth + 1), one_more p.depth) refl

small : (o : Option Node) (r : Row) → fits_there o r ≡ true → depth_in o < 60
small None r h = cc
small (Some p) r h = let a = (both (nat_lt p.depth 60) _ h).0 in search (rules, a)

pub depth_small : (t : Nodes) (r : Row) → may_put t r ≡ true → depth_in (get t r.parent) < 60
depth_small t r h = small (get t r.parent) r (sym (fits_is (get t r.parent) r) ∙ (both _ _ (both (not (is_some (get t r.id))) _ h).1).0)

pub free_of : (t : Nodes) (r : Row) → may_put t r ≡ true → IsFree t r.id (row_node t r)
free_of t r h =
    let a = both (not (is_some (get t r.id))) _ h in
    let b = both (fits_under (get t r.parent) (row_node t r)) _ a.1 in
    record {
      fresh = not_true _ a.0;
      parent = b.0;
      key = λ y n made there parent key. child_at_none t r.parent r.key (none_of _ (not_true _ b.1)) y n made there parent key;
    }
