use Rattle.std.proofs.Common.{Some, sym, ap}
use Rattle.room_model.specs.Lines as model
use Rattle.room_script.specs.declared.lines.Line.TheVariants as line
use Rattle.room_world.proofs.Telling.{reads_as}
use Rattle.room_world.proofs.world.World.own.Goals as goal

pub returns-in-Flush-clause-does : goal.returns-in-Flush-clause-does
returns-in-Flush-clause-does g c l is reads =
    reads_as c.args.self.now c.flush.new.self c.args.number c.args.line.now (line.Flush c.in-Flush.c) l
    (model.OfClient c.from-in-Flush.result model.Flush) c.flush.result c.in-Flush.is
    (ap (λ x. Some (model.OfClient x model.Flush)) (sym c.from-in-Flush.ensures)) is reads c.flush.ensures.does

pub returns-in-Resend-clause-does : goal.returns-in-Resend-clause-does
returns-in-Resend-clause-does g c l is reads =
    reads_as c.args.self.now c.resend.new.self c.args.number c.args.line.now (line.Resend c.in-Resend.c) l
    (model.OfClient c.from-in-Resend.result model.Resend) c.resend.result c.in-Resend.is
    (ap (λ x. Some (model.OfClient x model.Resend)) (sym c.from-in-Resend.ensures)) is reads c.resend.ensures.does
