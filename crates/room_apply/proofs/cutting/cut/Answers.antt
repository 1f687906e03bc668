-- What is left to prove of `cutting::cut`.
use Rattle.std.proofs.Common.{◌≡◌, ◌≢◌, List, Some, None, refl, sym, ap, ◌∙◌, subst, ◌<◌, ◌+◌, ◌-◌, ◌*◌, ℕ}
use Rattle.std.proofs.Common.{Option, inl, option_map}
use Rattle.std.specs.FinMap.{get, remove, len}
use Rattle.room_nodes.specs.Shape.{Nodes, IsFormed, IsLeaf, up, parent_of, removed, children, next_of}
use Rattle.room_ids.specs.Order.{is_same}
use Rattle.room_nodes.specs.Steps.{depth_in}
use Rattle.room_nodes.proofs.Children.{bare_of, next_is_child}
use Rattle.room_nodes.proofs.Below.{below_self}
use Rattle.room_nodes.proofs.Fitting.{some_of}
use Rattle.room_nodes.proofs.Gets.{same, same_self, true_false}
use Rattle.room_nodes.proofs.Cutting.{IsWalk, walk_made, walk_down, down_less, walk_up, up_less, walk_end}
use Rattle.room_apply.proofs.cutting.cut.Goals as goal
use Rattle.room_ids.specs.declared.ids.NodeId.{NodeId}
use Rattle.room_ids.specs.declared.ids.NodeId.TheVariants.{Root}
use Rattle.room_nodes.specs.declared.nodes.Node.{Node}

-- a first child, as the call answers it
record IsFirst (t : Nodes) (p c : NodeId) : Type 0 where
  node : Node
  there : get t c ≡ Some node
  made : c ≢ Root
  parent : node.parent ≡ p

of_entry : (t : Nodes) (p c : NodeId) (o : Option (List ℕ × NodeId)) → next_of None (children t p) ≡ o
    → Some c ≡ option_map (λ e. e.1) o → IsFirst t p c
of_entry t p c None e h = cc
of_entry t p c (Some k) e h =
    let n = next_is_child t p None k e in
    let is : k.1 ≡ c = cc in
    record { node = n.0; there = ap (get t) (sym is) ∙ n.1; made = λ r. n.2 (is ∙ r); parent = n.3 }

first_child : (t : Nodes) (p c : NodeId) → Some c ≡ option_map (λ e. e.1) (next_of None (children t p)) → IsFirst t p c
first_child t p c h = of_entry t p c _ refl h

no_entry : (t : Nodes) (p : NodeId) (o : Option (List ℕ × NodeId)) → next_of None (children t p) ≡ o
    → None ≡ option_map (λ e. e.1) o → next_of None (children t p) ≡ None
no_entry t p None e h = e
no_entry t p (Some k) e h = cc

leaf_of : (t u : Nodes) (x at : NodeId) → x ≢ Root → IsFormed t → IsFormed u → IsWalk t u x at
    → None ≡ option_map (λ e. e.1) (next_of None (children u at)) → IsLeaf u at
leaf_of t u x at made f g w h = record {
  there = w.here;
  made = walk_made t u x made f g at w;
  bare = bare_of u at
      (no_entry u at _ refl h);
}

module _ (t u v : Nodes) (x at p : NodeId) (made : x ≢ Root) (f : IsFormed t) (g : IsFormed u) (w : IsWalk t u x at)
    (gone : v ≡ remove u at) (parent : p ≡ up u at) where
  up_walk : at ≢ x → IsWalk t v x p
  up_walk other =
      let n = some_of (get u at) w.here in
      subst (λ (y : Nodes). IsWalk t y x p) (sym gone) (subst (IsWalk t (remove u at) x) (sym (parent
      ∙ ap parent_of n.1)) (walk_up t u x made f g at n.0 w n.1 other))

  up_falls : 62 * len v + (60 - depth_in (get v p)) < 62 * len u + (60 - depth_in (get u at))
  up_falls =
      let n = some_of (get u at) w.here in
      subst (λ (y : Nodes). 62 * len y + (60 - depth_in (get y p)) < 62 * len u + (60 - depth_in (get u at))) (sym gone)
      (subst (λ (q : NodeId). 62 * len (remove u at) + (60 - depth_in (get (remove u at) q)) < 62 * len u +
      (60 - depth_in (get u at))) (sym (parent ∙ ap parent_of n.1)) (up_less t u x made f g at n.0 w n.1))

ended : (t u v : Nodes) (x at : NodeId) → x ≢ Root → IsFormed t → IsFormed u → IsWalk t u x at → at ≡ x
    → v ≡ remove u at → None ≡ option_map (λ e. e.1) (next_of None (children u at)) → v ≡ removed t x
ended t u v x at made f g w e gone none =
    gone ∙ ap (remove u) e ∙ walk_end t u x made f g (subst (IsLeaf u) e (leaf_of t u x at made f g w none)) at w

pub loop-child-init : goal.loop-child-init
loop-child-init g c = record {
  walk = record { part = λ q. inl refl; top = c.requires.there; here = c.requires.there; below = below_self _ _ };
  undo = λ s a u. u;
  puts = λ h. h;
}

pub loop-child-smaller-in-Some : goal.loop-child-smaller-in-Some
loop-child-smaller-in-Some g c =
    let k = first_child _ _ _ c.in-Some.ensures in
    down_less (g.T.Tree.nodes c.args.t.now) (g.T.Tree.nodes c.loop-child.t) c.args.x.now c.requires.made
    (g.met.T.Tree.formed c.args.t.now) (g.met.T.Tree.formed c.loop-child.t) _ _ k.node k.there k.made k.parent

pub loop-child-preserved-in-Some : goal.loop-child-preserved-in-Some
loop-child-preserved-in-Some g c = let k = first_child _ _ _ c.in-Some.ensures in record {
  walk = walk_down (g.T.Tree.nodes c.args.t.now) (g.T.Tree.nodes c.loop-child.t) c.args.x.now c.requires.made
      (g.met.T.Tree.formed c.args.t.now) (g.met.T.Tree.formed c.loop-child.t) _ _ k.node c.loop-child.invariant.walk
      k.there k.made k.parent;
  undo = c.loop-child.invariant.undo;
  puts = c.loop-child.invariant.puts;
}

pub parent_at-parent-requires : goal.parent_at-parent-requires
parent_at-parent-requires g c = c.loop-child.invariant.walk.here

pub cut_leaf-requires : goal.cut_leaf-requires
cut_leaf-requires g c = leaf_of (g.T.Tree.nodes c.args.t.now) _ c.args.x.now _ c.requires.made
    (g.met.T.Tree.formed c.args.t.now)
    (g.met.T.Tree.formed c.loop-child.t) c.loop-child.invariant.walk c.in-None.ensures

pub returns-in_err-cut_leaf-in-None-clause-undo : goal.returns-in_err-cut_leaf-in-None-clause-undo
returns-in_err-cut_leaf-in-None-clause-undo g c = λ s a u. c.cut_leaf.ensures.undo s a
    (c.loop-child.invariant.undo s a u)

pub returns-then-same_id-clause-ok : goal.returns-then-same_id-clause-ok
returns-then-same_id-clause-ok g c = ended (g.T.Tree.nodes c.args.t.now)
    (g.T.Tree.nodes c.loop-child.t) _ c.args.x.now c.loop-child.at c.requires.made (g.met.T.Tree.formed c.args.t.now)
    (g.met.T.Tree.formed c.loop-child.t) c.loop-child.invariant.walk (same _ _ (sym c.same_id.ensures
    ∙ c.if-same_id.true)) c.in_ok-cut_leaf-in-None.ensures.ok c.in-None.ensures

pub returns-then-same_id-clause-undo : goal.returns-then-same_id-clause-undo
returns-then-same_id-clause-undo g c = λ s a u. c.cut_leaf.ensures.undo s a (c.loop-child.invariant.undo s a u)

pub returns-in_err-cut_leaf-in-None-clause-puts : goal.returns-in_err-cut_leaf-in-None-clause-puts
returns-in_err-cut_leaf-in-None-clause-puts g c = λ h. c.cut_leaf.ensures.puts (c.loop-child.invariant.puts h)

pub returns-then-same_id-clause-puts : goal.returns-then-same_id-clause-puts
returns-then-same_id-clause-puts g c = λ h. c.cut_leaf.ensures.puts (c.loop-child.invariant.puts h)

pub loop-child-smaller : goal.loop-child-smaller
loop-child-smaller g c = up_falls (g.T.Tree.nodes c.args.t.now) _ _ c.args.x.now _ _ c.requires.made
    (g.met.T.Tree.formed c.args.t.now)
    (g.met.T.Tree.formed c.loop-child.t) c.loop-child.invariant.walk c.in_ok-cut_leaf-in-None.ensures.ok
    c.parent_at-parent.ensures

pub loop-child-preserved : goal.loop-child-preserved
loop-child-preserved g c = record {
  walk = up_walk (g.T.Tree.nodes c.args.t.now) _ _ c.args.x.now _ _ c.requires.made (g.met.T.Tree.formed c.args.t.now)
      (g.met.T.Tree.formed c.loop-child.t) c.loop-child.invariant.walk c.in_ok-cut_leaf-in-None.ensures.ok
      c.parent_at-parent.ensures (λ e. true_false (sym (same_self c.args.x.now)
      ∙ ap (λ (y : NodeId). is_same y c.args.x.now) (sym e) ∙ sym c.same_id.ensures ∙ c.if-same_id.false));
  undo = λ s a u. c.cut_leaf.ensures.undo s a (c.loop-child.invariant.undo s a u);
  puts = λ h. c.cut_leaf.ensures.puts (c.loop-child.invariant.puts h);
}
