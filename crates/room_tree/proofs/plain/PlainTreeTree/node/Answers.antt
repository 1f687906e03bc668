use Rattle.std.proofs.Common.{sym, ◌∙◌, ap}
use Rattle.std.specs.FinMap.{get-from_sorted, find}
use Rattle.room_ids.specs.Order.{node_cmp}
use Rattle.room_tree.proofs.Entries.{test_of}
use Rattle.room_tree.proofs.plain.PlainTreeTree.node.Goals as goal

pub returns : goal.returns
returns c =
    c.lookup.ensures ∙ ap (find node_cmp c.args.id.now) c.as_slice.ensures.value
    ∙ sym (get-from_sorted node_cmp c.args.self.now.entries.items c.args.id.now (test_of _ c.args.self.now.sorted))
