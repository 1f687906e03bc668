use Rattle.std.proofs.Common.{List, ℕ, ◌++◌, ap, ◌∙◌}
use Rattle.room_bytes.specs.Spelling.{entry_bytes}
use Rattle.room_bytes.specs.declared.entries.Format.TheVariants.{Two}
use Rattle.room_bytes.specs.Bounds.{logged}
use Rattle.room_bytes.specs.Reading.{entry_of}
use Rattle.room_bytes.proofs.Again.{entries_again}
use Rattle.room_bytes.proofs.writing.write_entry.Goals as goal

pub returns-clause-again : goal.returns-clause-again
returns-clause-again c written =
    ap (entry_of Two) (c.from_vec.ensures ∙ c.in_ok-put_entry.ensures.bytes ∙ ap (λ (l : List ℕ). l ++ entry_bytes Two (logged c.args.e.now)) c.new-out.ensures.items)
    ∙ entries_again Two (logged c.args.e.now) (record { counted = c.in_ok-put_entry.ensures.counted; numbers = c.sound.ensures.0; sound = c.sound.ensures.1; written = written })
