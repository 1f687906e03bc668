use Rattle.std.proofs.Common.{List, ℕ, ◌++◌, ap, map, subst, ◌∙◌}
use Rattle.room_bytes.specs.Bounds.{logged, IsCounted, AreCountedEntries}
use Rattle.room_bytes.specs.Reading.{group_of}
use Rattle.room_bytes.specs.Spelling.{group_bytes}
use Rattle.room_bytes.proofs.Groups.{group_written}
use Rattle.room_bytes.proofs.writing.write_group.Goals as goal

pub returns-clause-again : goal.returns-clause-again
returns-clause-again c written =
    let same = c.as_slice.ensures in
    ap group_of (c.from_vec.ensures ∙ c.in_ok-put_group.ensures.bytes ∙ ap (λ (l : List ℕ). l ++ group_bytes (map logged c.as_slice.result.now)) c.new-out.ensures.items ∙ ap (λ es. group_bytes (map logged es)) same)
    ∙ group_written c.args.g.now (subst IsCounted same c.in_ok-put_group.ensures.counted.0) (subst (λ es. AreCountedEntries (map logged es)) same c.in_ok-put_group.ensures.counted.1) c.sound.ensures written
