-- A change of one node's fields that takes out what lies below some of its children is a change at that node.
use Rattle.std.proofs.Common.{◌≡◌, ◌≢◌, inl, inr, ℕ, Bool, true, false, cond, ◌||◌, List, [], ◌∷◌, Option, Some, None, refl, sym, ap, ◌∙◌}
use Rattle.std.specs.FinMap.{get}
use Rattle.room_ids.specs.Order.{is_same}
use Rattle.room_ids.specs.declared.ids.NodeId.{NodeId}
use Rattle.room_ids.specs.declared.ids.NodeId.TheVariants.{Root}
use Rattle.room_nodes.specs.declared.nodes.Node.{Node}
use Rattle.room_nodes.specs.Shape.{Nodes, IsFormed, child_at, is_below}
use Rattle.std.specs.FinMap.{find}
use Rattle.std.specs.Ordering.{nat_cmp, eq_by_cmp}
use Rattle.std.specs.Cmp.Lexicographic.{slice_cmp}
use Rattle.room_nodes.proofs.Below.{below_step, below_root, below_self}
use Rattle.room_nodes.proofs.Fitting.{the_parent}
use Rattle.room_nodes.proofs.Gets.{differ, same, true_false, some_inj}
use Rattle.room_nodes.proofs.StepForm.{FieldsOf}
use Rattle.room_steps.proofs.Booleans.{by_no, or_parts}
use Rattle.room_steps.proofs.Changing.{Acts, edited_by, stays_there, child_was, child_stays}
use Rattle.room_steps.proofs.Covering.{is_hit, hit_is, hit_of}
use Rattle.room_steps.proofs.Cutting.{siblings_apart}
use Rattle.room_steps.proofs.Fields.{key_self}
use Rattle.room_steps.proofs.Framing.{gone_of, gone_at}
use Rattle.room_steps.proofs.Kin.{child_of, found, same_child, same_children}
use Rattle.room_effect.proofs.Local.{IsLocal}

-- what goes, goes with all below it, and stands below children of x
abbrev pub IsClosed : Nodes → NodeId → (NodeId → Bool) → Type 0
IsClosed t x gone = (q : NodeId) (n : Node) → get t q ≡ Some n → q ≢ Root → n.parent ≢ x → gone n.parent ≡ false → gone q ≡ false

module _ (t u : Nodes) (gone : NodeId → Bool) (x : NodeId) (g : FieldsOf → FieldsOf) (a : Acts t u gone x g) (f : IsFormed t) (h : IsFormed u) (closed : IsClosed t x gone) where
  kid_same : (q : NodeId) (n : Node) → get t q ≡ Some n → gone q ≡ false → q ≢ x → (k : List ℕ) → child_at t q k ≡ child_at u q k
  kid_same q n there stays other k = same_child t u h q k
      (λ y c. child_stays t u gone x g a q k y c (closed y c.node c.there c.made (λ e. other (sym c.parent ∙ e)) (ap gone c.parent ∙ stays)))
      (λ y c. (child_was t u gone x g a q k y c).0)

  pub acts_local : IsLocal t u x gone
  acts_local = record {
    node = λ q n there stays other. (
      n,
      stays_there t u gone x g a q n there stays ∙ ap (λ b. Some (edited_by b g n)) (differ q x other),
      refl,
    );
    kids = λ q n there stays other. sym (same_children t u q (kid_same q n there stays other));
    closed = closed;
  }

  -- the children of x that stay
  pub kid_at_x : (k : List ℕ) → ((y : NodeId) → child_at t x k ≡ Some y → gone y ≡ false) → child_at t x k ≡ child_at u x k
  kid_at_x k stay = same_child t u h x k
      (λ y c. child_stays t u gone x g a x k y c (stay y (found t f x k y c)))
      (λ y c. (child_was t u gone x g a x k y c).0)

-- what lies below a child

module _ (t : Nodes) (f : IsFormed t) (x : NodeId) where
  hit_closed : (y : NodeId) (m : Node) → get t y ≡ Some m → m.parent ≡ x → IsClosed t x (is_hit t y)
  hit_closed y m out up q n there made other stays = by_no (is_hit t y q) (λ hit.
      let below : is_below t y q ≡ true = (hit_is t y q hit).2 in
      let p = the_parent t f q n made there in
      elim (or_parts (is_same q y) _ (sym (below_step t f y q n made there) ∙ below)) [
        | inl s ↦ other (ap (λ (v : Node). v.parent) (some_inj n m (sym there ∙ ap (get t) (same q y s) ∙ out)) ∙ up)
        | inr b ↦ true_false (sym (hit_of t y n.parent p.0 p.1 b) ∙ stays)
      ])

  pub gone_closed : (k : List ℕ) (o : Option NodeId) → child_at t x k ≡ o → IsClosed t x (gone_of t o)
  gone_closed k None e q n there made other stays = refl
  gone_closed k (Some y) e q n there made other stays = let c = child_of t x k y e in hit_closed y c.node c.there c.parent q n there made other stays

  pub at_closed : {V : Type 0} (es : List (List ℕ × V)) → IsClosed t x (gone_at t x es)
  at_closed [] q n there made other stays = refl
  at_closed (e ∷ es) q n there made other stays =
      let s = or_no (gone_of t (child_at t x e.0) n.parent) (gone_at t x es n.parent) stays in
      rw (gone_closed e.0 (child_at t x e.0) refl q n there made other s.0, at_closed es q n there made other s.1) refl
    where
      or_no : (a b : Bool) → (a || b) ≡ false → (a ≡ false) × (b ≡ false)
      or_no true b e = cc
      or_no false b e = (refl, e)

  -- the root stays

  hit_root : (y : NodeId) → y ≢ Root → is_hit t y Root ≡ false
  hit_root y made = by_no (is_hit t y Root) (λ hit. true_false (sym (hit_is t y Root hit).2 ∙ below_root t f y made))

  pub gone_root : (k : List ℕ) (o : Option NodeId) → child_at t x k ≡ o → gone_of t o Root ≡ false
  gone_root k None e = refl
  gone_root k (Some y) e = hit_root y (child_of t x k y e).made

  pub at_root : {V : Type 0} (es : List (List ℕ × V)) → gone_at t x es Root ≡ false
  at_root [] = refl
  at_root (e ∷ es) = rw (gone_root e.0 (child_at t x e.0) refl, at_root es) refl

  -- a child at another key stays

  module _ (q : List ℕ) (y : NodeId) (at : child_at t x q ≡ Some y) where
    stays_by : (k : List ℕ) (o : Option NodeId) → child_at t x k ≡ o → k ≢ q → gone_of t o y ≡ false
    stays_by k None e other = refl
    stays_by k (Some z) e other = by_no (is_hit t z y) (λ hit.
        let b = child_of t x k z e in
        let c = child_of t x q y at in
        let one : z ≡ y = siblings_apart t f z y b.node c.node b.made c.made b.there c.there (b.parent ∙ sym c.parent) y c.node c.there (hit_is t z y hit).2 (below_self t y) in
        let node : b.node ≡ c.node = some_inj b.node c.node (sym b.there ∙ ap (get t) one ∙ c.there) in
        other (sym b.key ∙ ap (λ (v : Node). v.key) node ∙ c.key))

    pub stays_beside : (k : List ℕ) → k ≢ q → gone_of t (child_at t x k) y ≡ false
    stays_beside k other = stays_by k (child_at t x k) refl other

    pub stays_unnamed : {V : Type 0} (es : List (List ℕ × V)) → find (slice_cmp nat_cmp) q es ≡ None → gone_at t x es y ≡ false
    stays_unnamed [] h = refl
    stays_unnamed (e ∷ es) h =
        let n = no_match (eq_by_cmp (slice_cmp nat_cmp) q e.0) e.1 (find (slice_cmp nat_cmp) q es) h in
        rw (stays_beside e.0 (λ is. true_false (sym (ap (eq_by_cmp (slice_cmp nat_cmp) q) is ∙ key_self q) ∙ n.0)), stays_unnamed es n.1) refl
      where
        no_match : {A : Type 0} (b : Bool) (v : A) (o : Option A) → cond b (Some v) o ≡ None → (b ≡ false) × (o ≡ None)
        no_match true v o e = cc
        no_match false v o e = (refl, e)
