-- What is left to prove of `slots::without`.
use Rattle.std.proofs.Common.{ap, ◌∙◌}
use Rattle.std.specs.Ordering.{nat_cmp}
use Rattle.std.specs.Cmp.Lexicographic.{slice_cmp}
use Rattle.std.specs.BTreeMap.{is_at}
use Rattle.std.specs.Map.{remove_entry}
use Rattle.room_apply.proofs.Removing.{removed_field}
use Rattle.room_apply.proofs.slots.without.Goals as goal

pub returns : goal.returns
returns c = c.remove.ensures.rest ∙ ap (remove_entry (is_at (slice_cmp nat_cmp c.args.key.now))) c.in_ok-left.ensures
    ∙ removed_field c.args.key.now c.args.fields.now c.len.ensures.ordered
