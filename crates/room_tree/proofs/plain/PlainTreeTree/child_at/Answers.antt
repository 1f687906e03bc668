use Rattle.std.proofs.Common.{sym, ◌∙◌, ap}
use Rattle.std.specs.Ordering.{nat_cmp}
use Rattle.std.specs.Cmp.Lexicographic.{slice_cmp}
use Rattle.std.specs.FinMap.{find}
use Rattle.room_tree.specs.Nearest.{found_of}
use Rattle.room_tree.proofs.Scanning.{child_found}
use Rattle.room_tree.proofs.Vectors.{the_children}
use Rattle.room_tree.proofs.plain.PlainTreeTree.child_at.Goals as goal

pub returns : goal.returns
returns c =
    let es = c.args.self.now.entries.items in
    c.find_child.ensures ∙ ap (found_of c.args.parent.now c.args.key.now) c.as_slice.ensures.value
    ∙ sym (ap (find (slice_cmp nat_cmp) c.args.key.now) (the_children es c.args.self.now.sorted c.args.parent.now) ∙ child_found c.args.parent.now c.args.key.now es)
