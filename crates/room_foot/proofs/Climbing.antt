-- A walk from a node to its parents.
use Rattle.std.proofs.Common.{◌≡◌, ◌≢◌, ◌+◌, ◌<◌, true, false, ◌||◌, Some, None, refl, sym, ap, ◌∙◌, arith}
use Rattle.std.specs.FinMap.{get}
use Rattle.room_ids.specs.Order.{is_same}
use Rattle.room_ids.specs.declared.ids.NodeId.{NodeId}
use Rattle.room_ids.specs.declared.ids.NodeId.TheVariants.{Root}
use Rattle.room_nodes.specs.Shape.{Nodes, IsFormed, is_below}
use Rattle.room_nodes.specs.Steps.{depth_in}
use Rattle.room_nodes.specs.declared.nodes.Node.{Node}
use Rattle.room_nodes.proofs.Below.{below_root, below_self, below_step}
use Rattle.room_nodes.proofs.Fitting.{the_parent}
use Rattle.room_nodes.proofs.Gets.{same, same_self, true_false}
use Rattle.room_steps.proofs.Covering.{is_hit}

pub none_hit : (t : Nodes) (top at : NodeId) → get t at ≡ None → is_hit t top at ≡ false
none_hit t top at e = rw e refl

module _ (t : Nodes) (f : IsFormed t) (top at : NodeId) (n : Node) (there : get t at ≡ Some n) where
  hit_there : is_hit t top at ≡ is_below t top at
  hit_there = rw there refl

  pub hit_itself : is_same at top ≡ true → is_hit t top at ≡ true
  hit_itself s = hit_there ∙ ap (is_below t top) (same at top s) ∙ below_self t top

  pub hit_root : is_same at top ≡ false → is_same at Root ≡ true → is_hit t top at ≡ false
  hit_root s r = hit_there ∙ ap (is_below t top) (same at Root r) ∙ below_root t f top (λ e. true_false (sym r ∙ ap (is_same at) (sym e) ∙ s))

  module _ (other : is_same at Root ≡ false) where
    made : at ≢ Root
    made e = true_false (sym (same_self Root) ∙ ap (λ z. is_same z Root) (sym e) ∙ other)

    pub hit_up : is_same at top ≡ false → is_hit t top n.parent ≡ is_hit t top at
    hit_up s =
        let p = the_parent t f at n made there in
        let above : is_hit t top n.parent ≡ is_below t top n.parent = rw p.1 refl in
        above ∙ sym (hit_there ∙ below_step t f top at n made there ∙ ap (λ b. b || is_below t top n.parent) s)

    pub climbs : depth_in (get t n.parent) < depth_in (get t at)
    climbs =
        let p = the_parent t f at n made there in
        let deep : n.depth ≡ p.0.depth + 1 = p.2.depth in
        rw (p.1, there) (omega (arith, deep))
