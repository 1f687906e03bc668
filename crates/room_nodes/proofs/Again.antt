-- A change that is taken back can be made again.
use Rattle.std.proofs.Common.{◌≡◌, ℕ, inl, inr, Bool, true, false, not, ◌||◌, List, Some, None, is_some, refl, sym, ap, ◌∙◌, subst}
use Rattle.std.specs.FinMap.{get, insert, remove, same_map, find}
use Rattle.std.specs.Ordering.{nat_cmp}
use Rattle.std.specs.Cmp.Lexicographic.{slice_cmp}
use Rattle.room_nodes.specs.Shape.{Nodes, IsFormed, IsFree, IsLeaf, is_object, is_list, has_field, up, removed, parent_of}
use Rattle.room_nodes.specs.Steps.{on_fields, fields_kind, holds_object, holds_list}
use Rattle.room_nodes.specs.Turns.{turned, reverse, CanTurn, put_of}
use Rattle.room_nodes.specs.Primitives.{CanHold, CanStand, fields_in, key_in, kind_fields, with_fields_at, with_key_at}
use Rattle.room_ids.proofs.IdOrder.{node_cmp-total, node_cmp-exact}
use Rattle.room_nodes.proofs.Gets.{some_inj, some_none, same, get_here, get_other, get_without, get_beside, here_or_old, one_or_two}
use Rattle.room_nodes.proofs.Fitting.{Fits, the_parent, the_root, fits_parent, none_of, some_of}
use Rattle.room_nodes.proofs.Below.{below_self}
use Rattle.room_nodes.proofs.Undoing.{parent_other, free_again, put_again}
use Rattle.room_nodes.proofs.Cutting.{walk_end}
use Rattle.room_nodes.proofs.Formed.{formed-insert, formed-removed}
use Rattle.room_nodes.proofs.StepForm.{formed_fields, object_there, at_node, object_same}
use Rattle.room_nodes.proofs.Steps.{formed-key, list_there}
use Rattle.room_ids.specs.declared.ids.NodeId.{NodeId}
use Rattle.room_nodes.specs.declared.nodes.Node.{Node}
use Rattle.room_nodes.specs.declared.nodes.Kind.{Kind}
use Rattle.room_nodes.specs.declared.nodes.Kind.TheVariants.{Object, List as Listed, Map as Mapped, Register}
use Rattle.room_nodes.specs.declared.turns.Turn.{Turn}
use Rattle.room_nodes.specs.declared.turns.Turn.TheVariants.{Put, Cut, Fields, Key}
use Rattle.room_json.specs.Value.{Value}

pub record IsAgain (t : Nodes) (c : Turn) : Type 0 where
  pub formed : IsFormed (turned t c)
  pub back : turned (turned t c) (reverse t c) ≡ t
  pub can : CanTurn (turned t c) (reverse t c)
  pub same : reverse (turned t c) (reverse t c) ≡ c

put_over : (t : Nodes) (x : NodeId) (m n : Node) → get t x ≡ Some n → insert (insert t x m) x n ≡ t
put_over t x m n e = same_map node_cmp-total node_cmp-exact (insert (insert t x m) x n) t (λ q. elim (one_or_two q x) [
  | inl h ↦ ap (get (insert (insert t x m) x n)) h ∙ get_here (insert t x m) x n ∙ sym e ∙ ap (get t) (sym h)
  | inr h ↦ get_other (insert t x m) x n q h ∙ get_other t x m q h
])

put_out : (t : Nodes) (x : NodeId) (n : Node) → get t x ≡ None → remove (insert t x n) x ≡ t
put_out t x n e = same_map node_cmp-total node_cmp-exact (remove (insert t x n) x) t (λ q. elim (one_or_two q x) [
  | inl h ↦ ap (get (remove (insert t x n) x)) h ∙ get_without (insert t x n) x ∙ sym e ∙ ap (get t) (sym h)
  | inr h ↦ get_beside (insert t x n) x q h ∙ get_other t x n q h
])

place_of_list : (b c : Bool) → (not b || c) ≡ true → b ≡ true → c ≡ true
place_of_list true c e h = e
place_of_list false c e h = cc

hold_plain : (k : List ℕ) (fs : List (List ℕ × Value)) (kind : Kind) → is_some (find (slice_cmp nat_cmp) k fs) ≡ false → has_field k (fields_kind (λ _. fs) kind) ≡ false
hold_plain k fs (Object gs) e = e
hold_plain k fs Listed e = refl
hold_plain k fs Mapped e = refl
hold_plain k fs (Register v) e = refl

plain_fields : (k : List ℕ) (kind : Kind) → is_object kind ≡ true → has_field k kind ≡ false → is_some (find (slice_cmp nat_cmp) k (kind_fields kind)) ≡ false
plain_fields k (Object gs) o e = e
plain_fields k Listed o e = cc
plain_fields k Mapped o e = cc
plain_fields k (Register v) o e = cc

new_fields : (fs : List (List ℕ × Value)) (kind : Kind) → is_object kind ≡ true → kind_fields (fields_kind (λ _. fs) kind) ≡ fs
new_fields fs (Object gs) e = refl
new_fields fs Listed e = cc
new_fields fs Mapped e = cc
new_fields fs (Register v) e = cc

kind_again : (fs : List (List ℕ × Value)) (kind : Kind) → is_object kind ≡ true → fields_kind (λ _. kind_fields kind) (fields_kind (λ _. fs) kind) ≡ kind
kind_again fs (Object gs) e = refl
kind_again fs Listed e = cc
kind_again fs Mapped e = cc
kind_again fs (Register v) e = cc

same_again : (fs : List (List ℕ × Value)) (n : Node) → is_object n.kind ≡ true → on_fields (λ _. kind_fields n.kind) (on_fields (λ _. fs) n) ≡ n
same_again fs n e = ap (λ k. record n { kind = k }) (kind_again fs n.kind e)

module _ (t : Nodes) (f : IsFormed t) (x : NodeId) where
  -- a node put
  again_gone : (n : Node) → IsFree t x n → IsAgain t (Put x n)
  again_gone n free =
      let fresh = none_of (get t x) free.fresh in
      record {
        formed = formed-insert t x n f free;
        back = put_out t x n fresh;
        can = record {
          there = ap is_some (get_here t x n);
          made = λ r. let q = the_root t f in some_none q.0 (sym q.1 ∙ ap (get t) (sym r) ∙ fresh);
          bare = λ y m own g parent. elim (here_or_old t x n y m g) [
            | inl h ↦ let q = fits_parent (get t n.parent) n free.parent in some_none q.0 (sym q.1 ∙ ap (get t) (ap (λ (v : Node). v.parent) (sym h.1) ∙ parent) ∙ fresh)
            | inr old ↦ let q = the_parent t f y m own old.1 in some_none q.0 (sym q.1 ∙ ap (get t) parent ∙ fresh)
          ];
        };
        same = ap (put_of x) (get_here t x n);
      }

  -- a leaf taken
  leaf_removed : IsLeaf t x → remove t x ≡ removed t x
  leaf_removed leaf = walk_end t t x leaf.made f f leaf x (record { part = λ q. inl refl; top = leaf.there; here = leaf.there; below = below_self t x })

  again_here : IsLeaf t x → IsAgain t (Cut x)
  again_here leaf =
      let n = some_of (get t x) leaf.there in
      let is : put_of x (get t x) ≡ Put x n.0 = ap (put_of x) n.1 in
      record {
        formed = subst IsFormed (sym (leaf_removed leaf)) (formed-removed t x f leaf.made);
        back = ap (turned (remove t x)) is ∙ put_again t f x n.0 leaf.made n.1;
        can = subst (CanTurn (remove t x)) (sym is) (free_again t f x n.0 leaf.made n.1);
        same = ap (reverse (remove t x)) is;
      }

  -- fields changed
  module _ (fs : List (List ℕ × Value)) (n : Node) (e : get t x ≡ Some n) (object : is_object n.kind ≡ true) where
    fields_can : CanHold t x fs → IsFormed (insert t x (on_fields (λ _. fs) n))
    fields_can h = formed_fields (λ _. fs) t f x n e (λ y k own g parent old. hold_plain k.key fs n.kind (h.free y k own g parent))

    again_in : CanHold t x fs → IsAgain t (Fields x fs)
    again_in h =
        let u = insert t x (on_fields (λ _. fs) n) in
        let is : with_fields_at t x fs ≡ u = at_node t x (on_fields (λ _. fs)) n e in
        let was : reverse t (Fields x fs) ≡ Fields x (kind_fields n.kind) = ap (λ o. Fields x (fields_in o)) e in
        let here : get u x ≡ Some (on_fields (λ _. fs) n) = get_here t x (on_fields (λ _. fs) n) in
        record {
          formed = subst IsFormed (sym is) (fields_can h);
          back = ap (λ (v : Nodes). turned v (reverse t (Fields x fs))) is ∙ ap (turned u) was
              ∙ at_node u x (on_fields (λ _. kind_fields n.kind)) _ here ∙ ap (insert u x) (same_again fs n object) ∙ put_over t x (on_fields (λ _. fs) n) n e;
          can = subst (λ (v : Nodes). CanTurn v (reverse t (Fields x fs))) (sym is) (subst (CanTurn u) (sym was) (record {
            object = ap holds_object here ∙ object_same (λ _. fs) n.kind ∙ object;
            free = λ y k own g parent. elim (here_or_old t x (on_fields (λ _. fs) n) y k g) [
              | inl s ↦ absurd (parent_other t f x n (λ r. own (s.0 ∙ r)) e (ap (λ (v : Node). v.parent) (sym s.1) ∙ parent))
              | inr s ↦
                  let q = the_parent t f y k own s.1 in
                  let old : Fits n k = subst (λ (v : Node). Fits v k) (some_inj q.0 n (sym q.1 ∙ ap (get t) parent ∙ e)) q.2 in
                  plain_fields k.key n.kind object old.plain
            ];
          }));
          same = ap (λ (v : Nodes). reverse v (reverse t (Fields x fs))) is ∙ ap (reverse u) was ∙ ap (λ o. Fields x (fields_in o)) here ∙ ap (Fields x) (new_fields fs n.kind object);
        }

  again_fields : (fs : List (List ℕ × Value)) → CanHold t x fs → IsAgain t (Fields x fs)
  again_fields fs h = let n = object_there (get t x) h.object in again_in fs n.0 n.1 (ap holds_object (sym n.1) ∙ h.object) h

  -- a key changed
  again_key : (k : List ℕ) → CanStand t x k → IsAgain t (Key x k)
  again_key k h =
      let n = some_of (get t x) h.there in
      let m : Node = record n.0 { key = k } in
      let u = insert t x m in
      let is : with_key_at t x k ≡ u = at_node t x (λ v. record v { key = k }) n.0 n.1 in
      let was : reverse t (Key x k) ≡ Key x n.0.key = ap (λ o. Key x (key_in o)) n.1 in
      let here : get u x ≡ Some m = get_here t x m in
      let above : up t x ≡ n.0.parent = ap parent_of n.1 in
      let p = list_there (get t (up t x)) h.list in
      let there : get t n.0.parent ≡ Some p.0 = ap (get t) (sym above) ∙ p.1 in
      let q = the_parent t f x n.0 h.made n.1 in
      let old : Fits p.0 n.0 = subst (λ (v : Node). Fits v n.0) (some_inj q.0 p.0 (sym q.1 ∙ there)) q.2 in
      let other = parent_other t f x n.0 h.made n.1 in
      let now : up u x ≡ n.0.parent = ap parent_of here in
      record {
        formed = subst IsFormed (sym is) (formed-key t f x n.0 p.0 k h.made n.1 there p.2 h.pos (λ c v own away g parent key. h.free c v own away g (parent ∙ sym above) key));
        back = ap (λ (v : Nodes). turned v (reverse t (Key x k))) is ∙ ap (turned u) was ∙ at_node u x (λ v. record v { key = n.0.key }) m here ∙ put_over t x m n.0 n.1;
        can = subst (λ (v : Nodes). CanTurn v (reverse t (Key x k))) (sym is) (subst (CanTurn u) (sym was) (record {
          there = ap is_some here;
          made = h.made;
          list = ap (λ y. holds_list (get u y)) now ∙ ap holds_list (get_other t x m n.0.parent other ∙ there) ∙ p.2;
          pos = place_of_list (is_list p.0.kind) _ old.place p.2;
          free = λ y v own away g parent key. away (same y x (f.keys y x v n.0 own h.made (sym (get_other t x m y away) ∙ g) n.1 (parent ∙ now) key));
        }));
        same = ap (λ (v : Nodes). reverse v (reverse t (Key x k))) is ∙ ap (reverse u) was ∙ ap (λ o. Key x (key_in o)) here;
      }

pub again : (t : Nodes) → IsFormed t → (c : Turn) → CanTurn t c → IsAgain t c
again t f (Put x n) h = again_gone t f x n h
again t f (Cut x) h = again_here t f x h
again t f (Fields x fs) h = again_fields t f x fs h
again t f (Key x k) h = again_key t f x k h
