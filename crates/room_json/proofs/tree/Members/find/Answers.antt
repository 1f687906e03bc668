use Rattle.std.proofs.Common.{ap, ◌∙◌, sym, option_map}
use Rattle.room_json.specs.View.{json_of}
use Rattle.room_json.proofs.Views.{view-lookup}
use Rattle.room_json.proofs.tree.Members.find.Goals as goal

pub returns : goal.returns
returns c =
    rw (sym c.self.view_is) (ap (option_map json_of) c.get.ensures.value ∙ view-lookup c.args.name.now c.self.inside.entries.entries)
