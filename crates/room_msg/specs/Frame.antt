-- Frames as texts.
use Rattle.std.specs.Prelude.{ℕ, nat_lt, length, List, codes, ok_or, Result, Ok, Err, if◌then◌else◌}
use Rattle.std.specs.Str.{bytes_eq}
use Rattle.room_json.specs.Fields.{and_then, each_in}
use Rattle.room_json.specs.Reading.{Refusal, not_json, too_deep, bad_number, value_of_text}
use Rattle.room_json.specs.Value.{Value, as_list}
use Rattle.room_json.specs.declared.reading.JsonFault.{JsonFault}
use Rattle.room_json.specs.declared.reading.JsonFault.TheVariants.{Memory, NotJson, TooDeep, BadNumber}
use Rattle.room_msg.specs.Msg.{client_in, server_msgs_in}
use Rattle.room_msg.specs.declared.messages.ClientFrame.{ClientFrame}
use Rattle.room_msg.specs.declared.messages.ClientFrame.TheVariants as client
use Rattle.room_msg.specs.declared.messages.ServerFrame.{ServerFrame}
use Rattle.room_msg.specs.declared.messages.ServerFrame.TheVariants as server
use Rattle.room_msg.specs.declared.reason.MsgFault.{MsgFault}
use Rattle.room_msg.specs.declared.reason.MsgFault.TheVariants.{Memory as OutOfMemory, Bad}
use Rattle.room_msg.specs.declared.reason.Reason.{Reason}
use Rattle.room_msg.specs.declared.reason.Reason.TheVariants.{Size, Json, Depth, Number, List as NoList}

-- why a frame is refused whose JSON is
abbrev pub reason_in : Refusal → Reason
reason_in not_json = Json
reason_in (too_deep d) = Depth
reason_in bad_number = Number

-- and as a fault
abbrev pub fault_of : JsonFault → MsgFault
fault_of Memory = OutOfMemory
fault_of NotJson = Bad Json
fault_of (TooDeep d) = Bad Depth
fault_of BadNumber = Bad Number

abbrev pub refused : Result Value Refusal → Result Value Reason
refused (Ok v) = Ok v
refused (Err r) = Err (reason_in r)

-- the JSON of a frame, or `json`, `depth`, `number` in this order
abbrev pub frame_value_in : List ℕ → Result Value Reason
frame_value_in bytes = refused (value_of_text bytes)

abbrev pub client_msgs_in : Value → Result ClientFrame Reason
client_msgs_in v =
    and_then (ok_or (as_list v) NoList) (λ vs.
    and_then (each_in client_in vs) (λ ms. Ok (client.Msgs ms)))

-- what a client's frame holds, or the first reason why it is refused
abbrev pub client_frame_in : List ℕ → Result ClientFrame Reason
client_frame_in bytes =
    if nat_lt 1048576 (length bytes) then Err Size else (
    if bytes_eq bytes (codes "ping") then Ok client.Ping else
    and_then (frame_value_in bytes) client_msgs_in)

-- what a server's frame holds, or the first reason why it is refused
abbrev pub server_frame_in : List ℕ → Result ServerFrame Reason
server_frame_in bytes =
    if bytes_eq bytes (codes "pong") then Ok server.Pong else
    and_then (frame_value_in bytes) (λ v. and_then (server_msgs_in v) (λ ms. Ok (server.Msgs ms)))
