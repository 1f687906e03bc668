use Rattle.std.proofs.Common.{◌∙◌, sym}
use Rattle.std.proofs.lemmas.Bool.{eqb-true}
use Rattle.room_fuse.proofs.Firsts.{none_of}
use Rattle.room_fuse.proofs.load.is_spared.Goals as goal

pub returns : goal.returns
returns c is = none_of c.args.held.now c.args.file (sym c.index_of.ensures.place ∙ eqb-true _ _ is)
