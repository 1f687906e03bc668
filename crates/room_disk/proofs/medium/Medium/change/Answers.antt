use Rattle.std.proofs.Common.{◌≡◌, ◌≤◌, ◌<◌, ◌^◌, ◌∙◌, ◌++◌, ◌∷◌, [], ℕ, List, length, reverse, ap, sym, subst}
use Rattle.room_disk.specs.declared.medium.Entry.{Entry}
use Rattle.room_disk.specs.declared.medium.Act.TheVariants.{Done}
use Rattle.room_disk.specs.Changes.{ChangedInPart, place}
use Rattle.room_disk.specs.Files.{content_in}
use Rattle.room_disk.specs.Parts.{change_done, change_undone}
use Rattle.room_disk.specs.Record.{content_of}
use Rattle.room_disk.proofs.Recorded.{steps_none, steps_to, kept_to, small_to, does}
use Rattle.room_disk.proofs.medium.Medium.change.Goals as goal

pub returns-in_err-reserve-clause-steps : goal.returns-in_err-reserve-clause-steps
returns-in_err-reserve-clause-steps c = steps_none c.args.file (ChangedInPart c.args.change) _ _ (change_undone c.args.change) c.reserve.ensures.items

pub invariant_of-self-in-Break-branch-2 : goal.invariant_of-self-in-Break-branch-2
invariant_of-self-in-Break-branch-2 c =
    let same : content_in c.change_file.new.files ≡ content_in c.args.self.now.files = λ i f. c.in_err-change_file.ensures.err f i in
    record {
      kept = same ∙ c.args.self.now.kept ∙ ap (λ l. content_of (reverse l)) (sym c.reserve.ensures.items);
      small = λ f. subst (λ (l : List ℕ). length l < 2 ^ 62) (sym (c.in_err-change_file.ensures.err f)) (c.args.self.now.small f);
    }

pub returns-in_err-change_file-clause-steps : goal.returns-in_err-change_file-clause-steps
returns-in_err-change_file-clause-steps c = steps_none c.args.file (ChangedInPart c.args.change) _ _ (change_undone c.args.change) c.reserve.ensures.items

pub invariant_of-self-2 : goal.invariant_of-self-2
invariant_of-self-2 c =
    let call : Entry = record { file = c.args.file; act = Done c.args.change } in
    let pushed = c.add.ensures ∙ ap (λ l. l ++ call ∷ []) c.reserve.ensures.items in
    let old = c.args.self.now in
    let within = subst (λ (h : ℕ → List ℕ). place c.args.change ≤ length (h c.args.file)) (sym old.kept) c.requires.place in
    record {
      kept = kept_to old.entries.items call c.add.new.entries.items _ _ pushed old.kept c.in_ok-change_file.ensures.ok;
      small = small_to c.args.file c.args.change (content_in old.files) (content_in c.change_file.new.files) within c.requires.reach c.in_ok-change_file.ensures.ok old.small;
    }

pub returns-clause-steps : goal.returns-clause-steps
returns-clause-steps c =
    let xs = c.args.self.now.entries.items in
    let call : Entry = record { file = c.args.file; act = Done c.args.change } in
    let pushed = c.add.ensures ∙ ap (λ l. l ++ call ∷ []) c.reserve.ensures.items in
    steps_to xs call c.add.new.entries.items (ChangedInPart c.args.change) pushed (change_done c.args.change _ c.requires.place) (λ e. does xs c.args.file c.args.change e c.requires.place)
