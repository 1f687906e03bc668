use Rattle.std.proofs.Common.{◌∙◌, ◌++◌, ◌∷◌, [], refl, ap}
use Rattle.room_disk.specs.declared.medium.Entry.{Entry}
use Rattle.room_disk.specs.declared.medium.Act.TheVariants.{Synced}
use Rattle.room_disk.specs.Model.{Same}
use Rattle.room_disk.proofs.Recorded.{steps_to, kept_to, choose_same, syncs}
use Rattle.room_disk.proofs.medium.Medium.sync.Goals as goal

pub invariant_of-self-2 : goal.invariant_of-self-2
invariant_of-self-2 c =
    let call : Entry = record { file = c.args.file; act = Synced } in
    let pushed = c.add.ensures ∙ ap (λ l. l ++ call ∷ []) c.reserve.ensures.items in
    let old = c.args.self.now in
    record { kept = kept_to old.entries.items call c.add.new.entries.items _ _ pushed old.kept (λ f. choose_same c.args.file f _); small = old.small }

pub returns-clause-steps : goal.returns-clause-steps
returns-clause-steps c =
    let xs = c.args.self.now.entries.items in
    let call : Entry = record { file = c.args.file; act = Synced } in
    let pushed = c.add.ensures ∙ ap (λ l. l ++ call ∷ []) c.reserve.ensures.items in
    steps_to xs call c.add.new.entries.items Same pushed refl (syncs xs c.args.file)
