-- Taking leaf after leaf until a node and all below it are gone.
use Rattle.std.proofs.Common.{◌≡◌, ◌≢◌, ◌⊎◌, inl, inr, ◌<◌, ◌+◌, ◌-◌, ◌*◌, ◌≤◌, ℕ, zero, suc, Bool, true, false, cond, ◌||◌, Some, None, is_some, refl, sym, ap, ◌∙◌, arith}
use Rattle.std.specs.FinMap.{get, remove, same_map, len, len-remove, empty_of_len, get-empty}
use Rattle.room_ids.specs.Order.{node_cmp, is_same}
use Rattle.room_nodes.specs.Shape.{Nodes, IsFormed, IsLeaf, leads_to, is_below, removed}
use Rattle.room_nodes.specs.Steps.{depth_in}
use Rattle.room_ids.proofs.IdOrder.{node_cmp-total, node_cmp-exact}
use Rattle.room_nodes.proofs.Gets.{some_none, same, true_false, get_gone, get_kept, get_without, get_beside, one_or_two}
use Rattle.room_nodes.proofs.Below.{below_step, below_root, below_self, leads_root, up_node}
use Rattle.room_nodes.proofs.Fitting.{the_parent}
use Rattle.room_nodes.proofs.Undoing.{parent_other}
use Rattle.room_ids.specs.declared.ids.NodeId.{NodeId}
use Rattle.room_ids.specs.declared.ids.NodeId.TheVariants.{Root}
use Rattle.room_nodes.specs.declared.nodes.Node.{Node}

or_parts : (a b : Bool) → (a || b) ≡ true → (a ≡ true) ⊎ (b ≡ true)
or_parts true b e = inl refl
or_parts false b e = inr e

or_right : (a b : Bool) → b ≡ true → (a || b) ≡ true
or_right true b e = refl
or_right false b e = e

pub some_len : (u : Nodes) (q : NodeId) (n : Node) → get u q ≡ Some n → 1 ≤ len u
some_len u q n e = elim (len u) as (λ k. len u ≡ k → 1 ≤ k) [
  | zero ↦ λ z. absurd (some_none n (sym e ∙ ap (λ (v : Nodes). get v q) (empty_of_len u z) ∙ get-empty node_cmp q))
  | suc k ↦ λ z. omega arith
] refl

-- u is t without some of what lies below x; the walk stands at a node of u
pub record IsWalk (t u : Nodes) (x at : NodeId) : Type 0 where
  pub part : (q : NodeId) → (get u q ≡ get t q) ⊎ ((get u q ≡ None) × (is_below t x q ≡ true))
  pub top : is_some (get u x) ≡ true
  pub here : is_some (get u at) ≡ true
  pub below : is_below t x at ≡ true

module _ (t u : Nodes) (x : NodeId) (made : x ≢ Root) (f : IsFormed t) (g : IsFormed u) where
  old_node : (at : NodeId) → IsWalk t u x at → (q : NodeId) (n : Node) → get u q ≡ Some n → get t q ≡ Some n
  old_node at w q n e = elim (w.part q) [
    | inl h ↦ sym h ∙ e
    | inr h ↦ absurd (some_none n (sym e ∙ h.0))
  ]

  pub walk_made : (at : NodeId) → IsWalk t u x at → at ≢ Root
  walk_made at w e = true_false (sym w.below ∙ ap (is_below t x) e ∙ below_root t f x made)

  -- down to a child
  pub walk_down : (at c : NodeId) (n : Node) → IsWalk t u x at → get u c ≡ Some n → c ≢ Root → n.parent ≡ at → IsWalk t u x c
  walk_down at c n w e other p = record {
    part = w.part;
    top = w.top;
    here = ap is_some e;
    below = below_step t f x c n other (old_node at w c n e) ∙ or_right (is_same c x) _ (ap (is_below t x) p ∙ w.below);
  }

  pub down_less : (at c : NodeId) (n : Node) → get u c ≡ Some n → c ≢ Root → n.parent ≡ at → 62 * len u + (60 - depth_in (get u c)) < 62 * len u + (60 - depth_in (get u at))
  down_less at c n e other p =
      let q = the_parent u g c n other e in
      let d : n.depth ≡ q.0.depth + 1 = q.2.depth in
      let low : n.depth ≤ 60 = q.2.deep in
      let here : depth_in (get u c) ≡ n.depth = ap depth_in e in
      let there : depth_in (get u at) ≡ q.0.depth = ap depth_in (ap (get u) (sym p) ∙ q.1) in
      omega arith

  -- up from a leaf that is taken
  module _ (at : NodeId) (n : Node) (w : IsWalk t u x at) (e : get u at ≡ Some n) where
    pub walk_up : at ≢ x → IsWalk t (remove u at) x n.parent
    walk_up other =
        let h = walk_made at w in
        let p = the_parent u g at n h e in
        record {
          part = λ q. elim (one_or_two q at) [
            | inl s ↦ inr (ap (get (remove u at)) s ∙ get_without u at, ap (is_below t x) s ∙ w.below)
            | inr s ↦ elim (w.part q) [
              | inl k ↦ inl (get_beside u at q s ∙ k)
              | inr k ↦ inr (get_beside u at q s ∙ k.0, k.1)
            ]
          ];
          top = ap is_some (get_beside u at x (λ s. other (sym s))) ∙ w.top;
          here = ap is_some (get_beside u at n.parent (parent_other u g at n h e) ∙ p.1);
          below = elim (or_parts (is_same at x) _ (sym (below_step t f x at n h (old_node at w at n e)) ∙ w.below)) [
            | inl s ↦ absurd (other (same at x s))
            | inr s ↦ s
          ];
        }

    pub up_less : 62 * len (remove u at) + (60 - depth_in (get (remove u at) n.parent)) < 62 * len u + (60 - depth_in (get u at))
    up_less =
        let fewer : len (remove u at) ≡ len u - 1 = len-remove node_cmp-total u at ∙ ap (λ b. cond b (len u - 1) (len u)) w.here in
        let some : 1 ≤ len u = some_len u at n e in
        omega arith

  -- at the end
  reach : IsLeaf u x → (at : NodeId) → IsWalk t u x at → (k : ℕ) (q : NodeId) (n : Node) → get u q ≡ Some n → leads_to k t x q ≡ true → q ≡ x
  reach leaf at w zero q n e h = same q x h
  reach leaf at w (suc k) q n e h = elim (or_parts (is_same q x) _ h) [
    | inl s ↦ same q x s
    | inr s ↦ elim (one_or_two q Root) [
      | inl r ↦ absurd (made (sym (same Root x (sym (leads_root t f (suc k) x) ∙ ap (leads_to (suc k) t x) (sym r) ∙ h))))
      | inr r ↦ absurd (leaf.bare q n r e (let p = the_parent u g q n r e in reach leaf at w k n.parent p.0 p.1 (ap (leads_to k t x) (sym (up_node t f q n (old_node at w q n e))) ∙ s)))
    ]
  ]

  gone : IsLeaf u x → (at : NodeId) → IsWalk t u x at → (q : NodeId) → is_below t x q ≡ true → get (remove u x) q ≡ None
  unfolding is_below
  gone leaf at w q h = elim (get (remove u x) q) as (λ o. get (remove u x) q ≡ o → o ≡ None) [
    | None ↦ λ e. refl
    | Some n ↦ λ e. elim (one_or_two q x) [
      | inl s ↦ absurd (some_none n (sym e ∙ ap (get (remove u x)) s ∙ get_without u x))
      | inr s ↦ absurd (s (reach leaf at w 60 q n (sym (get_beside u x q s) ∙ e) h))
    ]
  ] refl

  stays : (at : NodeId) → IsWalk t u x at → (q : NodeId) → is_below t x q ≡ false → get (remove u x) q ≡ get t q
  stays at w q h =
      get_beside u x q (λ s. true_false (sym (below_self t x) ∙ ap (is_below t x) (sym s) ∙ h))
      ∙ elim (w.part q) [ inl k ↦ k | inr k ↦ absurd (true_false (sym k.1 ∙ h)) ]

  -- when x itself is taken, it is gone with all below it
  pub walk_end : IsLeaf u x → (at : NodeId) → IsWalk t u x at → remove u x ≡ removed t x
  walk_end leaf at w = same_map node_cmp-total node_cmp-exact (remove u x) (removed t x) (λ q.
      elim (is_below t x q) as (λ b. is_below t x q ≡ b → get (remove u x) q ≡ get (removed t x) q) [
        | true ↦ λ h. gone leaf at w q h ∙ sym (get_gone t x q h)
        | false ↦ λ h. stays at w q h ∙ sym (get_kept t x q h)
      ] refl)
