use Rattle.std.proofs.Common.{Some, None, refl, sym, ap}
use Rattle.room_model.specs.Lines as model
use Rattle.room_script.specs.Told.{line_of}
use Rattle.room_script.specs.declared.lines.Line.TheVariants as line
use Rattle.room_world.proofs.Telling.{does_as, reads_as, down_as}
use Rattle.room_world.proofs.world.World.apart.Goals as goal

pub gone-requires : goal.gone-requires
gone-requires g c = record {
  read = λ told can fs.
      c.requires.read told can (model.OfConnection c.in-Gone.k model.Gone) (ap line_of c.in-Gone.is) fs None;
}

pub returns-in-Dial-clause-does : goal.returns-in-Dial-clause-does
returns-in-Dial-clause-does g c told can l is =
    reads_as c.args.self.now c.dial.new.self c.args.number c.args.line.now (line.Dial c.in-Dial.c) l
    (model.OfClient c.from.result model.Dial) c.dial.result c.in-Dial.is
    (ap (λ x. Some (model.OfClient x model.Dial)) (sym c.from.ensures)) is (c.requires.read told can l is)
    c.dial.ensures.does

pub returns-in-Down-clause-does : goal.returns-in-Down-clause-does
returns-in-Down-clause-does g c told can l is =
    down_as c.args.self.now c.down.new.self c.args.number c.in-Down.k c.args.line.now l c.down.result c.in-Down.is is
    (c.requires.read told can l is) (c.down.ensures.does told can)

pub returns-in-Limit-clause-does : goal.returns-in-Limit-clause-does
returns-in-Limit-clause-does g c told can l is =
    does_as c.args.self.now c.limit.new.self c.args.number c.args.line.now (line.Limit c.in-Limit.n c.in-Limit.m) l
    (model.OfServer (model.Limit c.in-Limit.n c.in-Limit.m)) c.limit.result c.in-Limit.is refl is c.limit.ensures.does
