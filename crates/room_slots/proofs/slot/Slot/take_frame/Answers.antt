use Rattle.std.proofs.Common.{◌≡◌, ◌∙◌, Some, ap, rules}
use Rattle.room_model.specs.Lines.{event_lines}
use Rattle.room_notice.specs.Notices.{notices_in}
use Rattle.room_model.specs.World.{Slot}
use Rattle.room_slots.proofs.Received.{heard_seen, refused_seen}
use Rattle.room_slots.proofs.slot.Slot.take_frame.Goals as goal

pub returns-in_ok-lines-in-Ok : goal.returns-in_ok-lines-in-Ok
returns-in_ok-lines-in-Ok g c mail =
    let s = c.self.inside in
    let p : Slot = record { account = s.client; present = s.present; noticed = notices_in s.noticed } in
    let same : c.as_slice.result.now ≡ c.in-Ok.outcome.events = search rules in
    heard_seen c.args.line c.args.c c.args.k p c.args.self.now c.frame.new.self c.in-Ok.outcome c.args.text.now
    c.in_ok-lines-in-Ok.lines c.self.view_is mail c.in-Ok.ensures.ok
    (c.in_ok-lines-in-Ok.ensures ∙ ap (event_lines (Some c.args.c)) same)

pub returns-in_ok-line-in-Err : goal.returns-in_ok-line-in-Err
returns-in_ok-line-in-Err g c mail =
    let s = c.self.inside in
    let p : Slot = record { account = s.client; present = s.present; noticed = notices_in s.noticed } in
    refused_seen c.args.line c.args.c c.args.k p c.args.self.now c.frame.new.self c.in-Err.fault c.args.text.now
    c.in_ok-line-in-Err.line c.self.view_is mail c.in-Err.ensures.err c.in_ok-line-in-Err.ensures
