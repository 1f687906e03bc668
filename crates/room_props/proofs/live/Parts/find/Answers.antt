use Rattle.std.proofs.Common.{ap, ◌∙◌, sym, option_map}
use Rattle.room_props.specs.Inits.{init_of}
use Rattle.room_props.proofs.Views.{named-lookup}
use Rattle.room_props.proofs.live.Parts.find.Goals as goal

pub returns : goal.returns
returns c = rw (sym c.self.view_is) (ap (option_map init_of) c.get.ensures.value ∙ named-lookup c.args.name.now c.self.inside.entries.entries)
