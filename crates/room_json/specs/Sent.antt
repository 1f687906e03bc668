-- What a value sends to a serializer.
use Rattle.serde.specs.Event.{Log}
use Rattle.serde_json.specs.Events.{SendsValue}
use Rattle.room_json.specs.Value.{Value, data_of}
use Rattle.room_json.specs.Profile.{IsJson}

abbrev pub Sends : Value → Log → Log → Type 0
Sends v old new = SendsValue (data_of v) old new × IsJson v
