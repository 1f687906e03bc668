-- What the tests of the form say.
use Rattle.std.proofs.Common.{◌≡◌, ◌≢◌, ◌≤◌, ◌+◌, Bool, true, false, not, ◌||◌, ◌&&◌, nat_eq, nat_le, Option, Some, None, is_some, refl, arith}
use Rattle.std.proofs.lemmas.Bool.{eqb-true}
use Rattle.std.proofs.lemmas.Bool.Decides.{nat_tests}
use Rattle.std.specs.FinMap.{get}
use Rattle.room_ids.specs.Position.{is_pos, is_some_text}
use Rattle.room_nodes.specs.Shape.{Nodes, IsFormed, fits, fits_under, is_root_node, is_register, is_object, is_list, has_field}
use Rattle.room_ids.specs.Order.{is_same}
use Rattle.room_nodes.proofs.Gets.{same}
use Rattle.room_ids.specs.declared.ids.NodeId.{NodeId}
use Rattle.room_ids.specs.declared.ids.NodeId.TheVariants.{Root}
use Rattle.room_nodes.specs.declared.nodes.Node.{Node}

pub both : (a b : Bool) → (a && b) ≡ true → (a ≡ true) × (b ≡ true)
both true b e = (refl, e)
both false b e = cc

pub not_true : (a : Bool) → not a ≡ true → a ≡ false
not_true true e = cc
not_true false e = refl

pub some_of : {A : Type 0} (o : Option A) → is_some o ≡ true → (x : A) × (o ≡ Some x)
some_of None e = cc
some_of (Some x) e = (x, refl)

pub none_of : {A : Type 0} (o : Option A) → is_some o ≡ false → o ≡ None
none_of None e = refl
none_of (Some x) e = cc

pub record Fits (p n : Node) : Type 0 where
  pub depth : n.depth ≡ p.depth + 1
  pub deep : n.depth ≤ 60
  pub holds : is_register p.kind ≡ false
  pub plain : has_field n.key p.kind ≡ false
  pub place : (not (is_list p.kind) || is_pos n.key) ≡ true

pub fits_says : (p n : Node) → fits p n ≡ true → Fits p n
fits_says p n e =
    let a = both (nat_eq n.depth (p.depth + 1)) _ e in
    let b = both (nat_le n.depth 60) _ a.1 in
    let c = both (not (is_register p.kind)) _ b.1 in
    let d = both (not (has_field n.key p.kind)) _ c.1 in
    record { depth = eqb-true _ _ a.0; deep = grind (arith, nat_tests, b.0); holds = not_true _ c.0; plain = not_true _ d.0; place = d.1 }

joined : (a b c d e : Bool) → a ≡ true → b ≡ true → c ≡ false → d ≡ false → e ≡ true → (a && (b && (not c && (not d && e)))) ≡ true
joined a b c d e p q r s u = rw (p, q, r, s, u) refl

pub fits_from : (p n : Node) → Fits p n → fits p n ≡ true
fits_from p n f = joined (nat_eq n.depth (p.depth + 1)) (nat_le n.depth 60) (is_register p.kind) (has_field n.key p.kind) (not (is_list p.kind) || is_pos n.key)
    (let h : n.depth ≡ p.depth + 1 = f.depth in grind (arith, nat_tests)) (let h : n.depth ≤ 60 = f.deep in grind (arith, nat_tests)) f.holds f.plain f.place

pub fits_parent : (o : Option Node) (n : Node) → fits_under o n ≡ true → (p : Node) × (o ≡ Some p) × Fits p n
fits_parent None n e = cc
fits_parent (Some p) n e = (p, refl, fits_says p n e)

pub record IsRootNode (r : Node) : Type 0 where
  pub depth : r.depth ≡ 0
  pub parent : r.parent ≡ Root
  pub key : not (is_some_text r.key) ≡ true
  pub kind : is_object r.kind ≡ true

pub root_of : (o : Option Node) → is_root_node o ≡ true → (r : Node) × (o ≡ Some r) × IsRootNode r
root_of None e = cc
root_of (Some r) e =
    let a = both (nat_eq r.depth 0) _ e in
    let b = both (is_same r.parent Root) _ a.1 in
    let c = both (not (is_some_text r.key)) _ b.1 in
    (r, refl, record { depth = eqb-true _ _ a.0; parent = same _ _ b.0; key = c.0; kind = c.1 })

module _ (t : Nodes) (f : IsFormed t) where
  pub the_root : (r : Node) × (get t Root ≡ Some r) × IsRootNode r
  the_root = root_of (get t Root) f.root

  pub the_parent : (x : NodeId) (n : Node) → x ≢ Root → get t x ≡ Some n → (p : Node) × (get t n.parent ≡ Some p) × Fits p n
  the_parent x n other e = fits_parent (get t n.parent) n (f.parents x n other e)
