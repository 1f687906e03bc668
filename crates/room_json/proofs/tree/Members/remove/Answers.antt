use Rattle.std.proofs.Common.{ap, ◌∙◌, sym, option_map}
use Rattle.room_json.specs.View.{json_of, members_view}
use Rattle.room_json.proofs.AlwaysJson.{json-remove_entry}
use Rattle.room_json.proofs.Views.{view-lookup, view-remove_entry}
use Rattle.room_json.proofs.tree.Members.remove.Goals as goal

pub returns-clause-value : goal.returns-clause-value
returns-clause-value c =
    rw (sym c.self.view_is) (ap (option_map json_of) c.remove.ensures.value ∙ view-lookup c.args.name.now c.self.inside.entries.entries)

pub returns-clause-rest : goal.returns-clause-rest
returns-clause-rest c =
    rw (sym c.self.view_is) (ap members_view c.remove.ensures.entries ∙ view-remove_entry c.args.name.now c.self.inside.entries.entries)

pub invariant_of-self : goal.invariant_of-self
invariant_of-self c = rw c.remove.ensures.entries (json-remove_entry c.args.name.now c.self.inside.entries.entries c.self.invariant)
