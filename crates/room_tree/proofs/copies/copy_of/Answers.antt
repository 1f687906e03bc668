use Rattle.std.proofs.Common.{rules, ◌≡◌, ◌∷◌, ◌++◌, [], refl, ap, ◌∙◌, subst, arith}
use Rattle.std.specs.FinMap.{len}
use Rattle.room_tree.specs.Copying.{IsCopying, Nothing}
use Rattle.room_tree.proofs.Sizes.{part_len}
use Rattle.room_tree.proofs.Parts.{root_copied, in_hand, copied, shorter_copy}
use Rattle.room_ids.specs.declared.ids.NodeId.TheVariants.{Root}
use Rattle.room_tree.proofs.copies.copy_of.Goals as goal

pub loop-x-init : goal.loop-x-init
loop-x-init g c = record {
  copying = root_copied (g.T.Tree.nodes c.args.t.now) _ (g.met.T.Tree.formed c.args.t.now) c.in_ok-copy_root.ensures.nodes _ (c.in_ok-push.ensures.items ∙ ap (λ xs. xs ++ Root ∷ []) c.new-todo.ensures.items);
  room = omega (arith, c.count.ensures, c.in_ok-reserve.ensures.ok, c.copy_root.ensures.spare);
}

pub copy_children-requires-clause-hand : goal.copy_children-requires-clause-hand
copy_children-requires-clause-hand g c =
    in_hand (g.T.Tree.nodes c.args.t.now) (g.met.T.Tree.formed c.args.t.now) (g.T.Tree.nodes c.loop-x.copy) (g.met.T.Tree.formed c.loop-x.copy) c.in-Some.x c.loop-x.todo.items _ c.in-Some.ensures.items c.loop-x.invariant.copying

pub loop-x-smaller : goal.loop-x-smaller
loop-x-smaller g c =
    let t = g.T.Tree.nodes c.args.t.now in
    let before = part_len (len (g.T.Tree.nodes c.loop-x.copy)) t (g.T.Tree.nodes c.loop-x.copy) refl c.loop-x.invariant.copying.part in
    let after = part_len (len (g.T.Tree.nodes c.copy_children.new.copy)) t (g.T.Tree.nodes c.copy_children.new.copy) refl c.in_ok-copy_children.ensures.copying.part in
    shorter_copy _ _ _ _ _ (len t) before after c.in_ok-copy_children.ensures.size (omega (arith, c.in-Some.ensures.cases))

pub returns : goal.returns
returns g c =
    let none : c.loop-x.todo.items ≡ [] = search rules in
    copied (g.T.Tree.nodes c.args.t.now) (g.met.T.Tree.formed c.args.t.now) (g.T.Tree.nodes c.loop-x.copy) (g.met.T.Tree.formed c.loop-x.copy) (subst (λ l. IsCopying (g.T.Tree.nodes c.args.t.now) (g.T.Tree.nodes c.loop-x.copy) l Nothing) none c.loop-x.invariant.copying)
