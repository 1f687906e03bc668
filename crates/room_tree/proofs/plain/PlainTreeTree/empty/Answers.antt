use Rattle.std.proofs.Common.{ap, sym, subst}
use Rattle.std.specs.FinMap.{from_sorted, is_sorted}
use Rattle.room_ids.specs.Order.{node_cmp}
use Rattle.room_nodes.specs.Shape.{IsFormed}
use Rattle.room_nodes.specs.Sound.{IsSoundTree}
use Rattle.room_nodes.proofs.EmptyTree.{formed-empty}
use Rattle.room_tree.proofs.Soundness.{sound-empty}
use Rattle.room_tree.proofs.plain.PlainTreeTree.empty.Goals as goal

pub invariant_of-result : goal.invariant_of-result
invariant_of-result c = record {
  sorted = ap (is_sorted node_cmp) c.in_ok-entries.ensures;
  formed = subst IsFormed (sym (ap from_sorted c.in_ok-entries.ensures)) formed-empty;
  sound = subst IsSoundTree (sym (ap from_sorted c.in_ok-entries.ensures)) sound-empty;
}
