-- A node whose kind changes, whose children go in part and may come by one.
use Rattle.std.proofs.Common.{◌≡◌, ◌≢◌, ℕ, ◌⊎◌, inl, inr, List, Option, Some, None, option_map, refl, sym, ap, ◌∙◌, subst}
use Rattle.std.specs.FinMap.{get}
use Rattle.room_ids.specs.declared.ids.NodeId.{NodeId}
use Rattle.room_ids.specs.declared.ids.NodeId.TheVariants.{Root}
use Rattle.room_nodes.specs.declared.nodes.Node.{Node}
use Rattle.room_nodes.specs.declared.nodes.Kind.{Kind}
use Rattle.room_nodes.specs.Shape.{Nodes, IsFormed, child_at}
use Rattle.room_nodes.proofs.Below.{below_self}
use Rattle.room_nodes.proofs.Gets.{one_or_two, some_inj, true_false}
use Rattle.room_nodes.proofs.Undoing.{parent_other}
use Rattle.room_steps.proofs.Booleans.{by_no}
use Rattle.room_steps.proofs.Cutting.{siblings_apart}
use Rattle.room_steps.proofs.Kin.{IsChild, child_of, found, same_child}
use Rattle.room_items.specs.View.{view_within}
use Rattle.room_told.proofs.Following.{IsChange, IsSpared, child_view}

pub record IsEdit (t u : Nodes) (z : NodeId) (G : NodeId → Type 0) (kind : Kind) (new : Option (NodeId × Node)) : Type 0 where
  pub before : IsFormed t
  pub after : IsFormed u
  pub node : Node
  pub there : get t z ≡ Some node
  pub out : (w : NodeId) → G w → (n : Node) × (get t w ≡ Some n) × (w ≢ Root) × (n.parent ≡ z)
  pub here : get u z ≡ Some (record node { kind = kind })
  pub kept : (y : NodeId) (m : Node) → get t y ≡ Some m → IsSpared t G y → y ≢ z → get u y ≡ Some m
  pub old : (y : NodeId) (m : Node) → get u y ≡ Some m → y ≢ z → (new ≡ Some (y, m)) ⊎ ((get t y ≡ Some m) × IsSpared t G y)
  pub new_parent : (x : NodeId) (m : Node) → new ≡ Some (x, m) → (m.parent ≡ z) × (get u x ≡ Some m) × (x ≢ Root)

module _ (t u : Nodes) (z : NodeId) (G : NodeId → Type 0) (kind : Kind) (new : Option (NodeId × Node)) (c : IsEdit t u z G kind new) where
  pub stays : (y : NodeId) (n : Node) → get t y ≡ Some n → IsSpared t G y → (m : Node) × (get u y ≡ Some m) × (m.parent ≡ n.parent) × (y ≢ z → m.kind ≡ n.kind) × (n.parent ≢ z → m.key ≡ n.key)
  stays y n e s = elim (one_or_two y z) [
    | inl is ↦
        let one : n ≡ c.node = some_inj n c.node (sym e ∙ ap (get t) is ∙ c.there) in
        (record c.node { kind = kind }, ap (get u) is ∙ c.here, ap (λ (v : Node). v.parent) (sym one), λ other. absurd (other is), λ _. ap (λ (v : Node). v.key) (sym one))
    | inr other ↦ (n, c.kept y n e s other, refl, λ _. refl, λ _. refl)
  ]

  pub was : (y : NodeId) (m : Node) → get u y ≡ Some m → m.parent ≢ z → (n : Node) × (get t y ≡ Some n) × (n.parent ≡ m.parent) × (n.key ≡ m.key)
  was y m e away = elim (one_or_two y z) [
    | inl is ↦
        let one : m ≡ record c.node { kind = kind } = some_inj m (record c.node { kind = kind }) (sym e ∙ ap (get u) is ∙ c.here) in
        (c.node, ap (get t) is ∙ c.there, ap (λ (v : Node). v.parent) (sym one), ap (λ (v : Node). v.key) (sym one))
    | inr other ↦ elim (c.old y m e other) [
      | inl q ↦ absurd (away (c.new_parent y m q).0)
      | inr q ↦ (m, q.0, refl, refl)
    ]
  ]

  abbrev pub changes : IsChange t u z G
  changes = record { before = c.before; after = c.after; node = c.node; there = c.there; out = c.out; stays = stays; was = was }

  -- a child of z that doesn't go

  kid_other : (v : Nodes) → IsFormed v → (n : Node) → get v z ≡ Some n → (k : List ℕ) (e : NodeId) → IsChild v z k e → e ≢ z
  kid_other v f n there k e d is = parent_other v f e d.node d.made d.there (d.parent ∙ sym is)

  pub kid_spared : (k : List ℕ) (e : NodeId) → IsChild t z k e → (G e → ⊥) → IsSpared t G e
  kid_spared k e d stay w g = by_no _ (λ h.
      let o = c.out w g in
      stay (subst G (siblings_apart t c.before w e o.0 d.node o.2 d.made o.1 d.there (o.3 ∙ sym d.parent) e d.node d.there h (below_self t e)) g))

  pub kid_stays : (k : List ℕ) (e : NodeId) → IsChild t z k e → IsSpared t G e → IsChild u z k e
  kid_stays k e d s = record { node = d.node; there = c.kept e d.node d.there s (kid_other t c.before c.node c.there k e d); made = d.made; parent = d.parent; key = d.key }

  pub kid_was : (k : List ℕ) (e : NodeId) → IsChild u z k e → ((n : Node) × (new ≡ Some (e, n)) × (n.key ≡ k)) ⊎ (IsChild t z k e × IsSpared t G e)
  kid_was k e d = elim (c.old e d.node d.there (kid_other u c.after (record c.node { kind = kind }) c.here k e d)) [
    | inl q ↦ inl (d.node, q, d.key)
    | inr q ↦ inr (record { node = d.node; there = q.0; made = d.made; parent = d.parent; key = d.key }, q.1)
  ]

  -- a key at which nothing comes

  abbrev pub NoneNew : List ℕ → Type 0
  NoneNew k = (x : NodeId) (n : Node) → new ≡ Some (x, n) → n.key ≡ k → ⊥

  old_kid : (k : List ℕ) → NoneNew k → (e : NodeId) → IsChild u z k e → IsChild t z k e × IsSpared t G e
  old_kid k none e d = elim (kid_was k e d) [
    | inl q ↦ absurd (none e q.0 q.1 q.2)
    | inr q ↦ q
  ]

  -- and nothing goes
  pub same_at : (k : List ℕ) → NoneNew k → ((e : NodeId) → IsChild t z k e → G e → ⊥) → child_at u z k ≡ child_at t z k
  same_at k none stay = same_child u t c.before z k (λ e d. (old_kid k none e d).0) (λ e d. kid_stays k e d (kid_spared k e d (stay e d)))

  value_by : (j : ℕ) (k : List ℕ) → ((e : NodeId) → IsChild t z k e → G e → ⊥) → (o : Option NodeId) → child_at t z k ≡ o → option_map (view_within j u) o ≡ option_map (view_within j t) o
  value_by j k stay None e = refl
  value_by j k stay (Some d) e = let b = child_of t z k d e in ap Some (sym (child_view t u z G changes j k d b (kid_spared k d b (stay d b))))

  pub same_value : (j : ℕ) (k : List ℕ) → NoneNew k → ((e : NodeId) → IsChild t z k e → G e → ⊥) → option_map (view_within j u) (child_at u z k) ≡ option_map (view_within j t) (child_at t z k)
  same_value j k none stay = ap (option_map (view_within j u)) (same_at k none stay) ∙ value_by j k stay (child_at t z k) refl

  none_by : (k : List ℕ) → NoneNew k → ((e : NodeId) → IsChild t z k e → G e) → (o : Option NodeId) → child_at u z k ≡ o → o ≡ None
  none_by k none goes None e = refl
  none_by k none goes (Some d) e =
      let q = old_kid k none d (child_of u z k d e) in
      absurd (true_false (sym (below_self t d) ∙ q.1 d (goes d q.0)))

  -- and what was there goes
  pub none_at : (k : List ℕ) → NoneNew k → ((e : NodeId) → IsChild t z k e → G e) → child_at u z k ≡ None
  none_at k none goes = none_by k none goes (child_at u z k) refl

  -- the key at which one comes
  pub new_at : (x : NodeId) (n : Node) → new ≡ Some (x, n) → child_at u z n.key ≡ Some x
  new_at x n e = let p = c.new_parent x n e in found u c.after z n.key x (record { node = n; there = p.1; made = p.2; parent = p.0; key = refl })
