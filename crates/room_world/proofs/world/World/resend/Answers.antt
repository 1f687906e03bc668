use Rattle.std.proofs.Common.{refl, subst, sym}
use Rattle.room_model.specs.Calls.{resend_frames, resent}
use Rattle.room_model.specs.Lines as lines
use Rattle.room_model.specs.World.{Slot, World}
use Rattle.room_world.specs.Did.{Does}
use Rattle.room_world.specs.Seen.{Peopled}
use Rattle.room_world.proofs.Dials.{spoken}
use Rattle.room_world.proofs.world.World.resend.Goals as goal

pub returns-clause-does : goal.returns-clause-does
returns-clause-does g c read =
    let i = c.self.inside in
    let q : Peopled = record { hosting = i.host; clients = i.slots; conns = i.queues; opened = i.opened } in
    let r = c.send_present.new.self in
    subst (Does c.args.self.now r c.args.number (lines.OfClient c.args.c lines.Resend)) (sym c.new.ensures)
    (spoken c.args.self.now q r c.resend.new.self c.args.number c.args.c lines.Resend (λ (s : Slot). resent s.account)
    (λ (s : Slot). resend_frames s.account) c.present-present.result c.in_ok-texts.texts
    (λ (w : World) (s : Slot). refl)
    (sym c.self.view_is) c.in_ok-texts.ensures.ok c.in_ok-texts.ensures.texts c.in_ok-send_present.ensures.sends
    c.present-present.ensures read)
