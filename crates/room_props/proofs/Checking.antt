-- Edits whose node is found, and values that are not too deep.
use Rattle.std.proofs.Common.{◌≡◌, ◌≤◌, ◌<◌, ◌+◌, ℕ, Bool, true, false, cond, nat_lt, List, [], ◌∷◌, length, Option, Some, None, refl, ap, arith}
use Rattle.std.specs.Prelude.{Result}
use Rattle.std.proofs.lemmas.Bool.Decides.{nat_tests}
use Rattle.std.specs.Ordering.{nat_cmp, eq_by_cmp}
use Rattle.std.specs.Cmp.Lexicographic.{slice_cmp}
use Rattle.std.specs.FinMap.{get, find}
use Rattle.std.specs.BTreeMap.{is_at}
use Rattle.std.specs.Map.{lookup}
use Rattle.room_json.specs.Value.{Value}
use Rattle.room_ids.specs.declared.ids.NodeId.{NodeId}
use Rattle.room_nodes.specs.declared.nodes.Node.{Node}
use Rattle.room_nodes.specs.declared.nodes.Body.TheVariants.{Update}
use Rattle.room_nodes.specs.Shape.{Nodes, children}
use Rattle.room_model.specs.Edits as model
use Rattle.room_model.specs.Edits.{target, make, make_at, removed_child, update_bodies}
use Rattle.room_props.specs.Making.{made_on}
use Rattle.room_props.specs.Weighing.{checked}

pub passed : (v d : ℕ) (r : Result model.Made model.EditFault) → v ≤ 50 → d ≤ 60 → checked v d r ≡ r
passed v d r l m =
    let p : nat_lt 50 v ≡ false = grind (arith, nat_tests, l) in
    let q : nat_lt 60 d ≡ false = grind (arith, nat_tests, m) in
    rw (p, q) refl

pub on_node : (t : Nodes) (c : model.Clocks) (e : model.Edit) (n : Node) → get t (target e) ≡ Some n
    → make t c e ≡ made_on n.kind n.depth c (children t (target e)) (removed_child t e) e
on_node t c e n h = ap (make_at t c e) h

pub no_update : (x : NodeId) (fs : List (List ℕ × Value)) → length fs ≡ 0 → update_bodies x fs ≡ []
no_update x [] h = refl
no_update x (f ∷ fs) h = absurd (omega (arith, h))

pub one_update : (x : NodeId) (fs : List (List ℕ × Value)) → 0 < length fs → update_bodies x fs ≡ Update x fs ∷ []
one_update x [] h = absurd (omega (arith, h))
one_update x (f ∷ fs) h = refl

pub ruleset updates = (no_update, one_update)

pub lookup_find : (k : List ℕ) (fs : List (List ℕ × Value)) → lookup (is_at (slice_cmp nat_cmp k)) fs ≡ find (slice_cmp nat_cmp) k fs
lookup_find k [] = refl
lookup_find k (f ∷ fs) = ap (cond (eq_by_cmp (slice_cmp nat_cmp) k f.0) (Some f.1)) (lookup_find k fs)
