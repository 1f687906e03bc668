use Rattle.std.proofs.Common.{sym}
use Rattle.room_model.specs.Lines as lines
use Rattle.room_world.specs.Seen.{Peopled}
use Rattle.room_world.proofs.Calling.{called}
use Rattle.room_world.proofs.world.World.resume.Goals as goal

pub returns-clause-does : goal.returns-clause-does
returns-clause-does g c =
    let i = c.self.inside in
    let q : Peopled = record { hosting = i.host; clients = i.slots; conns = i.queues; opened = i.opened } in
    called c.args.self.now q c.resume.new.self c.args.number c.args.c lines.Resume c.in_ok-line.line c.lines_of.result
    (sym c.self.view_is) c.in_ok-line.ensures c.lines_of.ensures
