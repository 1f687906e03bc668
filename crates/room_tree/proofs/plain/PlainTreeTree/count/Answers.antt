use Rattle.std.proofs.Common.{sym, ◌∙◌}
use Rattle.room_tree.proofs.Entries.{len-from_sorted, test_of}
use Rattle.room_tree.proofs.plain.PlainTreeTree.count.Goals as goal

pub returns : goal.returns
returns c = c.len.ensures ∙ c.args.self.now.entries.ok.0 ∙ sym (len-from_sorted c.args.self.now.entries.items (test_of _ c.args.self.now.sorted))
