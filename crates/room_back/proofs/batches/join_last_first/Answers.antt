use Rattle.std.proofs.Common.{◌++◌, ap, ◌∙◌}
use Rattle.room_back.proofs.Lists.{joined_more}
use Rattle.room_back.proofs.batches.join_last_first.Goals as goal

pub loop-back-preserved : goal.loop-back-preserved
loop-back-preserved c =
    joined_more c.loop-back.all.items c.append.new.self.items c.in-Some.back _ c.loop-back.each.items c.pop.new.self.items
    c.in-Some.ensures.items (c.in_ok-append.ensures.items ∙ ap (λ xs. c.loop-back.all.items ++ xs) c.into_vec-changes.ensures)
    c.loop-back.invariant
