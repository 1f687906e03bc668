-- Each edit has its effect.
use Rattle.std.specs.List.Sorted.{IsStrictlySortedBy}
use Rattle.std.proofs.Common.{◌≡◌, ◌≤◌, ◌+◌, ℕ, true, List, [], ◌∷◌, Some, None, refl, sym, ap, ◌∙◌, subst}
use Rattle.std.specs.Prelude.{Ok}
use Rattle.std.specs.FinMap.{get}
use Rattle.room_ids.specs.declared.ids.NodeId.{NodeId}
use Rattle.room_json.specs.Value.{Value, merged}
use Rattle.room_nodes.specs.declared.nodes.Node.{Node}
use Rattle.room_nodes.specs.declared.nodes.Kind.{Kind}
use Rattle.room_nodes.specs.declared.nodes.Kind.TheVariants.{Object, List as Listed, Map as Mapped, Register}
use Rattle.room_nodes.specs.Ordered.{AreOrdered, IsOrderedKind, IsOrderedTree}
use Rattle.room_nodes.specs.Shape.{Nodes, IsFormed, is_object}
use Rattle.room_nodes.specs.Sound.{IsSoundTree, IsSoundKind}
use Rattle.room_items.specs.View.{view_at}
use Rattle.room_log.specs.Log.{bodies_of}
use Rattle.room_model.specs.Edits.{Edit, Clocks, Made, target, Set, Update, Remove, Push, Insert, Put, Move, Take, Clear, make, named_effect, on_members, update_bodies, set_bodies, set_depth, too_long, is_keyed}
use Rattle.room_model.specs.Init.{Init, Plain, AnObject, AMap, AList, creates, node_depth, positions_in}
use Rattle.room_model.specs.Sound.{IsSoundInit, IsSoundEdit}
use Rattle.room_effect.specs.Effect.{Changes, EditsShow}
use Rattle.room_effect.proofs.Created.{FreshFrom}
use Rattle.room_effect.proofs.Keyed.{kids_of, object_view, on_shown}
use Rattle.room_effect.proofs.Lists.{pushes, inserts, puts, moves, takes, clears}
use Rattle.room_effect.proofs.Local.{Pair}
use Rattle.room_effect.proofs.Makes.{makes}
use Rattle.room_effect.proofs.Paths.{path_changes}
use Rattle.room_effect.proofs.Planting.{least}
use Rattle.room_effect.proofs.Sets.{node_set}
use Rattle.room_effect.proofs.Removals.{removal_changes}
use Rattle.room_effect.proofs.Still.{none_changes}
use Rattle.room_effect.proofs.Updates.{update_changes}

one_field : (k : List ℕ) (v : Value) → AreOrdered ((k, v) ∷ [])
unfolding IsStrictlySortedBy
one_field k v = (tt, tt)

object_of : (k : Kind) → is_object k ≡ true → IsSoundKind k → (gs : List Pair) × (k ≡ Object gs) × AreOrdered gs
object_of (Object gs) e s = (gs, refl, s.ordered)
object_of Listed e s = cc
object_of Mapped e s = cc
object_of (Register v) e s = cc

module _ (t : Nodes) (f : IsFormed t) (x : NodeId) (n : Node) (there : get t x ≡ Some n) (gs : List Pair) (kind : n.kind ≡ Object gs) (ordered : AreOrdered gs) where
  update_by : (fs : List Pair) → AreOrdered fs → Changes t x (update_bodies x fs) (λ v. on_members (λ hs. merged hs fs) v)
  update_by [] named =
      let is = object_view t x n there gs kind in
      none_changes t f x n there (λ v. on_members (λ hs. merged hs []) v) (is ∙ sym (on_shown (λ hs. merged hs []) (view_at t x) (merged gs (kids_of 59 t x)) is))
  update_by (e ∷ fs) named = update_changes t f x (e ∷ fs) gs n there kind named ordered

updates : (t : Nodes) → IsFormed t → IsSoundTree t → (c : Clocks) (m : Made) (x : NodeId) (fs : List Pair) → AreOrdered fs → make t c (Update x fs) ≡ Ok m → Changes t x (bodies_of m.ops) (named_effect (Update x fs))
updates t f sound c m x fs named made =
    let k = makes t c (Update x fs) m made in
    let o = object_of k.node.kind k.edit (sound x k.node k.there).1.kind in
    subst (λ bs. Changes t x bs (named_effect (Update x fs))) (sym k.is) (update_by t f x k.node k.there o.0 o.1 o.2 fs named)

keyed_of : (k : Kind) → is_keyed k ≡ true → IsSoundKind k → IsOrderedKind k
keyed_of (Object gs) e s = s.ordered
keyed_of Listed e s = cc
keyed_of Mapped e s = tt
keyed_of (Register v) e s = cc

removals : (t : Nodes) → IsFormed t → IsSoundTree t → (c : Clocks) (m : Made) (x : NodeId) (k : List ℕ) → make t c (Remove x k) ≡ Ok m → Changes t x (bodies_of m.ops) (named_effect (Remove x k))
removals t f sound c m x k made =
    let d = makes t c (Remove x k) m made in
    let ordered = keyed_of d.node.kind d.edit (sound x d.node d.there).1.kind in
    subst (λ bs. Changes t x bs (named_effect (Remove x k))) (sym d.is) (removal_changes t f x k d.node d.there d.edit ordered)

module _ (t : Nodes) (f : IsFormed t) (x : NodeId) (k : List ℕ) (n : Node) (there : get t x ≡ Some n) (ordered : IsOrderedKind n.kind) (a c : ℕ) (new : FreshFrom t a c) where
  set_node : (i : Init) → is_keyed n.kind ≡ true → node_depth (n.depth + 1) i ≤ 60 → too_long (positions_in i) ≡ None → IsSoundInit i → Changes t x (creates a c x k None i) (named_effect (Set x k i))
  set_node i keyed deep short sound = node_set t f x k n there keyed ordered a c new i deep (least (n.depth + 1) i) short sound

  -- an object has plain values as fields
  object_set : (gs : List Pair) → n.kind ≡ Object gs → (i : Init) → set_depth (Object gs) (n.depth + 1) i ≤ 60 → too_long (positions_in i) ≡ None → IsSoundInit i
      → Changes t x (set_bodies (Object gs) a c x k i) (named_effect (Set x k i))
  object_set gs kind (Plain v) deep short sound = update_changes t f x ((k, v) ∷ []) gs n there kind (one_field k v) (subst IsOrderedKind kind ordered)
  object_set gs kind (AnObject ps) deep short sound = set_node (AnObject ps) (ap is_keyed kind) deep short sound
  object_set gs kind (AMap ps) deep short sound = set_node (AMap ps) (ap is_keyed kind) deep short sound
  object_set gs kind (AList is) deep short sound = set_node (AList is) (ap is_keyed kind) deep short sound

  set_by : (kind : Kind) → n.kind ≡ kind → is_keyed kind ≡ true → (i : Init) → set_depth kind (n.depth + 1) i ≤ 60 → too_long (positions_in i) ≡ None → IsSoundInit i
      → Changes t x (set_bodies kind a c x k i) (named_effect (Set x k i))
  set_by (Object gs) e keyed i deep short sound = object_set gs e i deep short sound
  set_by Listed e keyed i deep short sound = cc
  set_by Mapped e keyed i deep short sound = set_node i (ap is_keyed e) deep short sound
  set_by (Register v) e keyed i deep short sound = cc

sets : (t : Nodes) → IsFormed t → IsSoundTree t → (c : Clocks) (m : Made) → FreshFrom t c.actor c.node → (x : NodeId) (k : List ℕ) (i : Init) → IsSoundInit i → make t c (Set x k i) ≡ Ok m
    → Changes t x (bodies_of m.ops) (named_effect (Set x k i))
sets t f sound c m new x k i so made =
    let d = makes t c (Set x k i) m made in
    let ordered = keyed_of d.node.kind d.edit (sound x d.node d.there).1.kind in
    subst (λ bs. Changes t x bs (named_effect (Set x k i))) (sym d.is)
    (set_by t f x k d.node d.there ordered c.actor c.node new d.node.kind refl d.edit i d.deep d.short so)

changes : (t : Nodes) (c : Clocks) (e : Edit) (m : Made) → IsFormed t → IsSoundTree t → IsSoundEdit e → FreshFrom t c.actor c.node → make t c e ≡ Ok m → Changes t (target e) (bodies_of m.ops) (named_effect e)
changes t c (Set x k i) m f sound so new made = sets t f sound c m new x k i so.2 made
changes t c (Update x fs) m f sound so new made = updates t f sound c m x fs so.1.ordered made
changes t c (Remove x k) m f sound so new made = removals t f sound c m x k made
changes t c (Push x i) m f sound so new made = pushes t f c m new x i so.1 made
changes t c (Insert x g i) m f sound so new made = inserts t f c m new x g i so.1 made
changes t c (Put x j i) m f sound so new made = puts t f c m new x j i so.1 made
changes t c (Move x i j) m f sound so new made = moves t f c m x i j made
changes t c (Take x j) m f sound so new made = takes t f c m x j made
changes t c (Clear x) m f sound so new made = clears t f c m x made

ordered_by : (k : Kind) → IsSoundKind k → IsOrderedKind k
ordered_by (Object gs) s = s.ordered
ordered_by Listed s = tt
ordered_by Mapped s = tt
ordered_by (Register v) s = tt

pub edits : EditsShow
edits t c e m f sound so new made =
    let d = makes t c e m made in
    let is = changes t c e m f sound so new made in
    let ordered : IsOrderedTree t = λ y n there. ordered_by n.kind (sound y n there).1.kind in
    record { changes = is; path = path_changes t f ordered (target e) d.node d.there (named_effect e) ∙ ap Some (sym is.rest) }
