-- What an edit makes: operations that run on, and a node clock in its bounds.
use Rattle.std.proofs.Common.{◌≡◌, ◌⊎◌, inl, inr, ◌≤◌, ◌+◌, ◌-◌, ℕ, Bool, true, false, cond, ◌==◌, ◌||◌, not}
use Rattle.std.proofs.Common.{nat_le, nat_lt, List, length, Option, Some, None, refl, sym, ap, subst, arith}
use Rattle.std.specs.Prelude.{Result, Ok, Err}
use Rattle.std.specs.FinMap.{get}
use Rattle.std.proofs.lemmas.Bool.Decides.{nat_tests}
use Rattle.room_json.specs.Fields.{and_then}
use Rattle.room_nodes.specs.declared.nodes.Body.{Body}
use Rattle.room_nodes.specs.declared.nodes.Node.{Node}
use Rattle.room_nodes.specs.Shape.{Nodes, children}
use Rattle.room_log.specs.Follows.{most}
use Rattle.room_log.specs.Log.{bodies_of, ops_from}
use Rattle.room_model.specs.Edits.{Clocks, Edit, EditFault, Made, WrongKind, ValueTooDeep, NodeTooDeep, spent, made}
use Rattle.room_model.specs.Edits.{clocked, placed, make, make_at, target, has_edit, indices, value_depth, made_depth}
use Rattle.room_model.specs.Edits.{made_nodes, made_positions, bodies, removed_child, too_long}
use Rattle.room_editor.proofs.Pending.{bodies_again}

either : (a b : Bool) → (a || b) ≡ true → (a ≡ true) ⊎ (b ≡ true)
either true b h = inl refl
either false b h = inr h

spent_by : (b : Bool) (last : ℕ) → cond b None (Some last) ≡ None → b ≡ true
spent_by true last h = refl
spent_by false last h = cc

-- a counter that isn't spent stays within its bound
unspent : (next count : ℕ) → spent next count ≡ None → next ≤ most + 1 → next + count ≤ most + 1
unspent next count h l =
    elim (either (count == 0) (nat_le (next + count - 1) most)
    (spent_by ((count == 0) || nat_le (next + count - 1) most) (next + count - 1) h)) [
      | inl e ↦ grind (arith, nat_tests, e, l)
      | inr e ↦ grind (arith, nat_tests, e)
    ]

module _ (c : Clocks) (m : Made) where
  record Makes : Type 0 where
    nodes : ℕ
    bodies : List Body
    spent : spent c.node nodes ≡ None
    is : m ≡ made c nodes bodies

  by_clocks : (nodes : ℕ) (bs : List Body) (o p : Option ℕ) → spent c.node nodes ≡ o → clocked c nodes bs o p ≡ Ok m
      → Makes
  by_clocks nodes bs (Some l) p q h = cc
  by_clocks nodes bs None (Some l) q h = cc
  by_clocks nodes bs None None q h = record { nodes = nodes; bodies = bs; spent = q; is = cc }

  by_place : (nodes : ℕ) (bs : List Body) (o : Option ℕ) → placed c nodes bs o ≡ Ok m → Makes
  by_place nodes bs (Some n) h = cc
  by_place nodes bs None h = by_clocks nodes bs (spent c.node nodes) (spent c.op (length bs)) refl h

  by_depths : (a b : Bool) (f g : EditFault) (nodes : ℕ) (bs : List Body) (o : Option ℕ)
      → cond a (Err f) (cond b (Err g) (placed c nodes bs o)) ≡ Ok m → Makes
  by_depths true b f g nodes bs o h = cc
  by_depths false true f g nodes bs o h = cc
  by_depths false false f g nodes bs o h = by_place nodes bs o h

  by_index : (r : Result (Option ℕ) EditFault) (a b : Bool) (f g : EditFault) (nodes : ℕ) (bs : List Body)
      (o : Option ℕ)
      → and_then r (λ (i : Option ℕ). cond a (Err f) (cond b (Err g) (placed c nodes bs o))) ≡ Ok m → Makes
  by_index (Err e) a b f g nodes bs o h = cc
  by_index (Ok i) a b f g nodes bs o h = by_depths a b f g nodes bs o h

  by_kind : (t : Bool) (e : EditFault) (r : Result (Option ℕ) EditFault) (a b : Bool) (f g : EditFault) (nodes : ℕ)
      (bs : List Body) (o : Option ℕ)
      → cond (not t) (Err e)
      (and_then r (λ (i : Option ℕ). cond a (Err f) (cond b (Err g) (placed c nodes bs o)))) ≡ Ok m → Makes
  by_kind false e r a b f g nodes bs o h = cc
  by_kind true e r a b f g nodes bs o h = by_index r a b f g nodes bs o h

  by_node : (t : Nodes) (e : Edit) (o : Option Node) → make_at t c e o ≡ Ok m → Makes
  by_node t e None h = cc
  by_node t e (Some n) h =
      by_kind (has_edit n.kind e) (WrongKind (target e)) (indices (length (children t (target e))) e)
      (nat_lt 50 (value_depth e)) (nat_lt 60 (made_depth n.kind (n.depth + 1) e)) (ValueTooDeep (value_depth e))
      (NodeTooDeep (made_depth n.kind (n.depth + 1) e)) (made_nodes n.kind e)
      (bodies n.kind (children t (target e)) (removed_child t e) c.actor c.node e)
      (too_long (made_positions (children t (target e)) e)) h

pub made_runs : (t : Nodes) (c : Clocks) (e : Edit) (m : Made) → make t c e ≡ Ok m
    → m.ops ≡ ops_from c.actor c.op (bodies_of m.ops)
made_runs t c e m h =
    let k = by_node c m t e (get t (target e)) h in
    subst (λ (n : Made). n.ops ≡ ops_from c.actor c.op (bodies_of n.ops)) (sym k.is)
    (ap (ops_from c.actor c.op) (sym (bodies_again c.actor c.op k.bodies)))

pub made_node : (t : Nodes) (c : Clocks) (e : Edit) (m : Made) → make t c e ≡ Ok m → c.node ≤ most + 1
    → m.next.node ≤ most + 1
made_node t c e m h l =
    let k = by_node c m t e (get t (target e)) h in
    subst (λ (n : Made). n.next.node ≤ most + 1) (sym k.is) (unspent c.node k.nodes k.spent l)
