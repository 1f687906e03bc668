-- What a value sends to a serializer, whatever its numbers.
use Rattle.serde.specs.Event.{Log}
use Rattle.serde_json.specs.Events.{SendsValue}
use Rattle.room_json.specs.Value.{Value, data_of}

abbrev pub Emits : Value → Log → Log → Type 0
Emits v old new = SendsValue (data_of v) old new
