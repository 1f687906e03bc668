use Rattle.std.proofs.Common.{◌≡◌, sym, rules, true, false}
use Rattle.std.specs.Prelude.{slice_get}
use Rattle.room_turns.specs.Trying.{is_number, number_below}
use Rattle.room_turns.proofs.Noting.{there, not_there}
use Rattle.room_turns.proofs.trying.note.Goals as goal

pub returns-then-is_there : goal.returns-then-is_there
returns-then-is_there c =
    let at : is_number (slice_get c.args.lost.now (number_below c.args.lost.now c.args.conn)) c.args.conn ≡ true =
    search rules in
    sym (there c.args.lost.now c.args.conn at)

pub returns : goal.returns
returns c =
    let at : is_number (slice_get c.args.lost.now (number_below c.args.lost.now c.args.conn)) c.args.conn ≡ false =
    search rules in
    let same = not_there c.args.lost.now c.args.conn at in
    search (rules, same)
