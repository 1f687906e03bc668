use Rattle.room_valid.proofs.Jsons.{values_json}
use Rattle.room_valid.proofs.laws.values_are_json.Goals as goal

pub returns : goal.returns
returns c = values_json
