use Rattle.std.proofs.Common.{length, subst, sym}
use Rattle.std.specs.Io.KnownBytes.{Appends}
use Rattle.room_top.proofs.Fronts.{whole_is}
use Rattle.room_top.proofs.texts.told.Goals as goal

pub returns-in-Ok-clause-part : goal.returns-in-Ok-clause-part
returns-in-Ok-clause-part g c =
    let xs = c.args.text.now in
    (length xs, subst (Appends (g.K.Sink.written c.args.sink.now) (g.K.Sink.written c.write_whole.new.sink)) (sym (whole_is xs)) c.in-Ok.ensures.ok)
