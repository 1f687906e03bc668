-- What stands in a tree that was changed at one id.
use Rattle.std.proofs.Common.{◌≡◌, ◌≢◌, ◌⊎◌, inl, inr, Bool, true, false, cond, not, Some, None, Ordering, Less, Equal, Greater, refl, sym, ap, ◌∙◌}
use Rattle.std.specs.Ordering.{is_eq}
use Rattle.std.specs.FinMap.{get, get-insert, get-remove, get-retain_keys, insert, remove}
use Rattle.std.proofs.lemmas.Cmp.{tied_itself}
use Rattle.room_nodes.specs.Shape.{Nodes, is_below, removed}
use Rattle.room_ids.specs.Order.{is_same}
use Rattle.room_ids.proofs.IdOrder.{node_cmp-total, node_cmp-exact}
use Rattle.room_ids.specs.declared.ids.NodeId.{NodeId}
use Rattle.room_nodes.specs.declared.nodes.Node.{Node}

pub some_inj : {A : Type 0} (x y : A) → Some x ≡ Some y → x ≡ y
some_inj x y e = cc

pub some_none : {A : Type 0} (x : A) → Some x ≡ None → ⊥
some_none x e = cc

is_equal : (o : Ordering) → is_eq o ≡ true → o ≡ Equal
is_equal Less e = cc
is_equal Equal e = refl
is_equal Greater e = cc

pub same : (x y : NodeId) → is_same x y ≡ true → x ≡ y
same x y e = node_cmp-exact x y (is_equal _ e)

pub same_self : (x : NodeId) → is_same x x ≡ true
same_self x = ap is_eq (tied_itself node_cmp-total x)

by_test : (b : Bool) → (b ≡ true → ⊥) → b ≡ false
by_test true h = absurd (h refl)
by_test false h = refl

pub differ : (x y : NodeId) → x ≢ y → is_same x y ≡ false
differ x y n = by_test (is_same x y) (λ e. n (same x y e))

pub true_false : true ≡ false → ⊥
true_false e = cc

-- two ids are one or not
pub one_or_two : (x y : NodeId) → (x ≡ y) ⊎ (x ≢ y)
one_or_two x y = elim (is_same x y) as (λ b. is_same x y ≡ b → (x ≡ y) ⊎ (x ≢ y)) [
  | true ↦ λ e. inl (same x y e)
  | false ↦ λ e. inr (λ p. true_false (sym (same_self x) ∙ ap (is_same x) p ∙ e))
] refl

module _ (t : Nodes) (id : NodeId) (node : Node) where
  pub get_here : get (insert t id node) id ≡ Some node
  get_here = get-insert node_cmp-total t id node id ∙ ap (λ b. cond b (Some node) (get t id)) (same_self id)

  pub get_other : (q : NodeId) → q ≢ id → get (insert t id node) q ≡ get t q
  get_other q n = get-insert node_cmp-total t id node q ∙ ap (λ b. cond b (Some node) (get t q)) (differ q id n)

  -- a node of the new tree is the new one or an old one
  pub here_or_old : (q : NodeId) (n : Node) → get (insert t id node) q ≡ Some n → ((q ≡ id) × (n ≡ node)) ⊎ ((q ≢ id) × (get t q ≡ Some n))
  here_or_old q n e = elim (one_or_two q id) [
    | inl h ↦ inl (h, some_inj n node (sym e ∙ ap (get (insert t id node)) h ∙ get_here))
    | inr h ↦ inr (h, sym (get_other q h) ∙ e)
  ]

module _ (t : Nodes) (x : NodeId) where
  pub get_removed : (q : NodeId) → get (removed t x) q ≡ cond (not (is_below t x q)) (get t q) None
  get_removed q = get-retain_keys t (λ y. not (is_below t x y)) q (λ y e. ap (λ z. not (is_below t x z)) (sym (node_cmp-exact q y e)))

  pub get_gone : (q : NodeId) → is_below t x q ≡ true → get (removed t x) q ≡ None
  get_gone q e = get_removed q ∙ ap (λ b. cond (not b) (get t q) None) e

  pub get_kept : (q : NodeId) → is_below t x q ≡ false → get (removed t x) q ≡ get t q
  get_kept q e = get_removed q ∙ ap (λ b. cond (not b) (get t q) None) e

  -- what is left was there, and not below
  pub kept : (q : NodeId) (n : Node) → get (removed t x) q ≡ Some n → (get t q ≡ Some n) × (is_below t x q ≡ false)
  kept q n e = elim (is_below t x q) as (λ b. is_below t x q ≡ b → (get t q ≡ Some n) × (is_below t x q ≡ false)) [
    | true ↦ λ h. absurd (some_none n (sym e ∙ get_gone q h))
    | false ↦ λ h. (sym (get_kept q h) ∙ e, h)
  ] refl

  pub get_without : get (remove t x) x ≡ None
  get_without = get-remove node_cmp-total t x x ∙ ap (λ b. cond b None (get t x)) (same_self x)

  pub get_beside : (q : NodeId) → q ≢ x → get (remove t x) q ≡ get t q
  get_beside q n = get-remove node_cmp-total t x q ∙ ap (λ b. cond b None (get t q)) (differ q x n)
