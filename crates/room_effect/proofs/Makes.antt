-- What a made edit says.
use Rattle.std.proofs.Common.{◌≡◌, ◌≤◌, ◌+◌, ℕ, Bool, true, false, cond, not, nat_lt, List, [], ◌∷◌, length, Option, Some, None, refl, sym, ap, ◌∙◌, arith}
use Rattle.std.specs.Prelude.{Result, Ok, Err}
use Rattle.std.specs.FinMap.{get}
use Rattle.std.proofs.lemmas.Bool.Decides.{nat_tests}
use Rattle.room_json.specs.Fields.{and_then}
use Rattle.room_nodes.specs.declared.nodes.Node.{Node}
use Rattle.room_nodes.specs.declared.nodes.Body.{Body}
use Rattle.room_nodes.specs.Shape.{Nodes, children}
use Rattle.room_log.specs.Log.{bodies_of, ops_from}
use Rattle.room_model.specs.Edits as edits
use Rattle.room_model.specs.Edits.{Edit, EditFault, Clocks, Made, target, has_edit, indices, value_depth, made_depth, made_nodes, made_positions, too_long, bodies, spent, made, clocked, placed, removed_child, make_of, make_at, make}

pub record Makes (t : Nodes) (c : Clocks) (e : Edit) (m : Made) : Type 0 where
  pub node : Node
  pub there : get t (target e) ≡ Some node
  pub edit : has_edit node.kind e ≡ true
  pub index : Option ℕ
  pub indices : indices (length (children t (target e))) e ≡ Ok index
  pub deep : made_depth node.kind (node.depth + 1) e ≤ 60
  pub short : too_long (made_positions (children t (target e)) e) ≡ None
  pub is : bodies_of m.ops ≡ bodies node.kind (children t (target e)) (removed_child t e) c.actor c.node e

ok_is : {A E : Type 0} (x y : A) → ◌≡◌ {A = Result A E} (Ok x) (Ok y) → x ≡ y
ok_is x y h = cc

cond_ok : {A E : Type 0} (b : Bool) (f : E) (r : Result A E) (y : A) → cond b (Err f) r ≡ Ok y → (b ≡ false) × (r ≡ Ok y)
cond_ok true f r y h = cc
cond_ok false f r y h = (refl, h)

then_ok : {A B E : Type 0} (r : Result A E) (k : A → Result B E) (y : B) → and_then r k ≡ Ok y → (x : A) × (r ≡ Ok x) × (k x ≡ Ok y)
then_ok (Err f) k y h = cc
then_ok (Ok x) k y h = (x, refl, h)

placed_ok : (c : Clocks) (n : ℕ) (bs : List Body) (o : Option ℕ) (m : Made) → placed c n bs o ≡ Ok m → (o ≡ None) × (clocked c n bs (spent c.node n) (spent c.op (length bs)) ≡ Ok m)
placed_ok c n bs (Some l) m h = cc
placed_ok c n bs None m h = (refl, h)

clocked_ok : (c : Clocks) (n : ℕ) (bs : List Body) (o p : Option ℕ) (m : Made) → clocked c n bs o p ≡ Ok m → made c n bs ≡ m
clocked_ok c n bs (Some l) p m h = cc
clocked_ok c n bs None (Some l) m h = cc
clocked_ok c n bs None None m h = ok_is (made c n bs) m h

pub bodies_again : (a c : ℕ) (bs : List Body) → bodies_of (ops_from a c bs) ≡ bs
bodies_again a c [] = refl
bodies_again a c (b ∷ bs) = ap (λ cs. b ∷ cs) (bodies_again a (c + 1) bs)

yes : (b : Bool) → not b ≡ false → b ≡ true
yes true h = refl
yes false h = cc

module _ (t : Nodes) (c : Clocks) (e : Edit) (m : Made) where
  of_node : (n : Node) → get t (target e) ≡ Some n → make_of t c e n ≡ Ok m → Makes t c e m
  of_node n there h =
      let bs = bodies n.kind (children t (target e)) (removed_child t e) c.actor c.node e in
      let a = cond_ok (not (has_edit n.kind e)) (edits.WrongKind (target e)) _ m h in
      let b = then_ok (indices (length (children t (target e))) e) _ m a.1 in
      let d = cond_ok (nat_lt 50 (value_depth e)) (edits.ValueTooDeep (value_depth e)) _ m b.2 in
      let g = cond_ok (nat_lt 60 (made_depth n.kind (n.depth + 1) e)) (edits.NodeTooDeep (made_depth n.kind (n.depth + 1) e)) _ m d.1 in
      let p = placed_ok c (made_nodes n.kind e) bs (too_long (made_positions (children t (target e)) e)) m g.1 in
      let q = clocked_ok c (made_nodes n.kind e) bs _ _ m p.1 in
      record {
        node = n;
        there = there;
        edit = yes _ a.0;
        index = b.0;
        indices = b.1;
        deep = grind (arith, nat_tests, g.0);
        short = p.0;
        is = ap (λ (z : Made). bodies_of z.ops) (sym q) ∙ bodies_again c.actor c.op bs;
      }

  at_node : (o : Option Node) → get t (target e) ≡ o → make_at t c e o ≡ Ok m → Makes t c e m
  at_node None there h = cc
  at_node (Some n) there h = of_node n there h

  pub makes : make t c e ≡ Ok m → Makes t c e m
  makes h = at_node (get t (target e)) refl h
