use Rattle.std.proofs.Common.{◌∙◌, ◌++◌, ◌∷◌, [], ap}
use Rattle.room_disk.specs.declared.medium.Entry.{Entry}
use Rattle.room_disk.specs.declared.medium.Act.TheVariants.{Refused}
use Rattle.room_disk.specs.Changes.{ChangedInPart}
use Rattle.room_disk.specs.Parts.{change_undone}
use Rattle.room_disk.proofs.Recorded.{steps_none, steps_to, kept_to, choose_same, refuses}
use Rattle.room_disk.proofs.medium.Medium.refuse.Goals as goal

pub returns-in_err-reserve-clause-steps : goal.returns-in_err-reserve-clause-steps
returns-in_err-reserve-clause-steps c = steps_none c.args.file (ChangedInPart c.args.change) _ _ (change_undone c.args.change) c.reserve.ensures.items

pub invariant_of-self-2 : goal.invariant_of-self-2
invariant_of-self-2 c =
    let call : Entry = record { file = c.args.file; act = Refused c.args.change } in
    let pushed = c.add.ensures ∙ ap (λ l. l ++ call ∷ []) c.reserve.ensures.items in
    let old = c.args.self.now in
    record { kept = kept_to old.entries.items call c.add.new.entries.items _ _ pushed old.kept (λ f. choose_same c.args.file f _); small = old.small }

pub returns-clause-steps : goal.returns-clause-steps
returns-clause-steps c =
    let xs = c.args.self.now.entries.items in
    let call : Entry = record { file = c.args.file; act = Refused c.args.change } in
    let pushed = c.add.ensures ∙ ap (λ l. l ++ call ∷ []) c.reserve.ensures.items in
    steps_to xs call c.add.new.entries.items (ChangedInPart c.args.change) pushed (change_undone c.args.change _) (refuses xs c.args.file c.args.change)
