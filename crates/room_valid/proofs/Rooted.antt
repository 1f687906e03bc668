-- The tree that rows are put into is well-formed, and what holds of the root and of each row holds of its nodes.
use Rattle.std.proofs.Common.{◌≡◌, ◌≢◌, ◌+◌, inl, inr, ℕ, Bool, true, false, cond, List, [], ◌∷◌, Option, Some, None}
use Rattle.std.proofs.Common.{refl, sym, ap, ◌∙◌, subst}
use Rattle.std.specs.FinMap.{get, insert, get-from_sorted}
use Rattle.std.specs.List.{AllByRecursion}
use Rattle.room_ids.specs.Order.{node_cmp, is_same}
use Rattle.room_ids.specs.declared.ids.NodeId.{NodeId}
use Rattle.room_ids.specs.declared.ids.NodeId.TheVariants.{Root}
use Rattle.room_nodes.proofs.Formed.{formed-insert}
use Rattle.room_nodes.proofs.Gets.{some_none, same as same_id, differ, same_self, here_or_old}
use Rattle.room_nodes.specs.Shape.{Nodes, IsFormed, is_object, is_root_node}
use Rattle.room_nodes.specs.Steps.{depth_in}
use Rattle.room_nodes.specs.declared.nodes.Node.{Node}
use Rattle.room_nodes.specs.declared.nodes.Kind.{Kind}
use Rattle.room_nodes.specs.declared.nodes.Kind.TheVariants.{Object, List as Listed, Map, Register}
use Rattle.room_items.specs.Items.{root_of}
use Rattle.room_items.proofs.MayPut.{free_of}
use Rattle.room_snapshot.specs.Reading.{may_hold, held, put_nodes, rooted}
use Rattle.room_valid.proofs.Options.{kept, stepped, same}

-- each node of a tree with its id
abbrev pub AllNodes : (NodeId → Node → Type 0) → Nodes → Type 0
AllNodes Is t = (x : NodeId) (n : Node) → get t x ≡ Some n → Is x n

-- a node at some depth
abbrev pub at_depth : Node → ℕ → Node
at_depth n d = record { parent = n.parent; key = n.key; depth = d; kind = n.kind }

abbrev put_one : Nodes → NodeId × Node → Option Nodes
put_one t e = cond (may_hold t e) (Some (insert t e.0 (held t e))) None

put_is : (u v : Nodes) (e : NodeId × Node) → put_one u e ≡ Some v
    → (may_hold u e ≡ true) × (insert u e.0 (held u e) ≡ v)
put_is u v e put =
    let k = kept (may_hold u e) (Some (insert u e.0 (held u e))) v put in
    (k.0, cc)

put_all : (Is : NodeId → Node → Type 0) (u v : Nodes) (e : NodeId × Node) → AllNodes Is u → Is e.0 (held u e)
    → put_one u e ≡ Some v → AllNodes Is v
put_all Is u v e h new put =
    subst (AllNodes Is) (put_is u v e put).1 (λ x n there. elim (here_or_old u e.0 (held u e) x n there) [
      | inl here ↦ subst (Is x) (sym here.1) (subst (λ (y : NodeId). Is y (held u e)) (sym here.0) new)
      | inr old ↦ h x n old.1
    ])

rows_all : (Is : NodeId → Node → Type 0) (es : List (NodeId × Node)) (u v : Nodes) → AllNodes Is u
    → AllByRecursion (λ e. (d : ℕ) → Is e.0 (at_depth e.1 d)) es → put_nodes u es ≡ Some v → AllNodes Is v
rows_all Is [] u v h rows put = same (AllNodes Is) u v h put
rows_all Is (e ∷ es) u v h rows put =
    stepped _ (put_one u e) _ v (λ w is put.
    rows_all Is es w v (put_all Is u w e h (rows.0 (depth_in (get u e.1.parent) + 1)) is) rows.1 put) put

rows_formed : (es : List (NodeId × Node)) (u v : Nodes) → IsFormed u → put_nodes u es ≡ Some v → IsFormed v
rows_formed [] u v f put = same IsFormed u v f put
rows_formed (e ∷ es) u v f put =
    stepped _ (put_one u e) _ v (λ w is put.
    let one = put_is u w e is in
    let free = free_of u (record { id = e.0; parent = e.1.parent; key = e.1.key; kind = e.1.kind }) one.0 in
    rows_formed es w v (subst IsFormed one.1 (formed-insert u e.0 (held u e) f free)) put) put

-- the root alone

abbrev pub alone : Kind → Node
alone kind = record { parent = Root; key = []; depth = 0; kind = kind }

root_at : (kind : Kind) (x : NodeId) → get (root_of kind) x ≡ cond (is_same x Root) (Some (alone kind)) None
root_at kind x = get-from_sorted node_cmp ((Root, alone kind) ∷ []) x tt

root_only : (kind : Kind) (x : NodeId) (n : Node) → x ≢ Root → get (root_of kind) x ≡ Some n → ⊥
root_only kind x n other e =
    some_none n (sym e ∙ root_at kind x ∙ ap (λ b. cond b (Some (alone kind)) None) (differ x Root other))

root_test : (kind : Kind) → is_object kind ≡ true → is_root_node (get (root_of kind) Root) ≡ true
root_test kind object =
    ap is_root_node (root_at kind Root ∙ ap (λ b. cond b (Some (alone kind)) None) (same_self Root))
    ∙ rw (same_self Root, object) refl

root_formed : (kind : Kind) → is_object kind ≡ true → IsFormed (root_of kind)
root_formed kind object = record {
  root = root_test kind object;
  parents = λ x n other e. absurd (root_only kind x n other e);
  keys = λ x y m n a b e d parent key. absurd (root_only kind x m a e);
}

root_all : (Is : NodeId → Node → Type 0) (kind : Kind) → Is Root (alone kind) → AllNodes Is (root_of kind)
root_all Is kind h x n there = by (is_same x Root) refl
  where
    by : (b : Bool) → is_same x Root ≡ b → Is x n
    by true e =
        let is = kept (is_same x Root) (Some (alone kind)) n (sym (root_at kind x) ∙ there) in
        let node : alone kind ≡ n = cc in
        subst (Is x) node (subst (λ (y : NodeId). Is y (alone kind)) (sym (same_id x Root is.0)) h)
    by false e = absurd (some_none n (sym there ∙ root_at kind x ∙ ap (λ b. cond b (Some (alone kind)) None) e))

-- the tree of an object with rows put under it

pub rooted_formed : (kind : Kind) (es : List (NodeId × Node)) (t : Nodes) → rooted kind es ≡ Some t → IsFormed t
rooted_formed (Object fs) es t e = rows_formed es (root_of (Object fs)) t (root_formed (Object fs) refl) e
rooted_formed Listed es t e = cc
rooted_formed Map es t e = cc
rooted_formed (Register v) es t e = cc

pub rooted_all : (Is : NodeId → Node → Type 0) (kind : Kind) (es : List (NodeId × Node)) (t : Nodes)
    → Is Root (alone kind) → AllByRecursion (λ e. (d : ℕ) → Is e.0 (at_depth e.1 d)) es → rooted kind es ≡ Some t
    → AllNodes Is t
rooted_all Is (Object fs) es t root rows e =
    rows_all Is es (root_of (Object fs)) t (root_all Is (Object fs) root) rows e
rooted_all Is Listed es t root rows e = cc
rooted_all Is Map es t root rows e = cc
rooted_all Is (Register v) es t root rows e = cc
