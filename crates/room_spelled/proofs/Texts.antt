-- The values that texts spell are of the profile, and so is what a text says that is sent on a link.
use Rattle.std.proofs.Common.{◌≡◌, ◌≤◌, ℕ, List, codes, nat_lt, Bool, true, false, cond, length, Option, Some, None}
use Rattle.std.proofs.Common.{Result, Ok, Err, refl, sym, subst}
use Rattle.std.specs.Prelude.{IfSome}
use Rattle.std.specs.Str.{bytes_eq}
use Rattle.room_json.specs.Back.{json_in}
use Rattle.room_json.specs.Fields.{and_then}
use Rattle.room_json.specs.Profile.{IsJson, AreSoundMembers}
use Rattle.room_json.specs.Reading.{Refusal, value_of_text}
use Rattle.room_json.specs.Value.{Value, depth, as_members}
use Rattle.room_json.specs.View.{json_of}
use Rattle.room_msg.specs.Frame.{client_frame_in, client_msgs_in, refused}
use Rattle.room_msg.specs.declared.reason.Reason.TheVariants.{Size}
use Rattle.room_msg.specs.declared.messages.ClientFrame.TheVariants.{Ping}
use Rattle.room_msg.proofs.ReadDepth.{text_depth}
use Rattle.room_msg.proofs.SoundClient.{client_sound, client_shallow}
use Rattle.room_model.specs.Server.{Inbound}
use Rattle.room_model.specs.Sound.{IsSoundInit, IsReadSound}
use Rattle.room_script.specs.Edits.{init_to_end}
use Rattle.room_script.specs.Live.{init_of}
use Rattle.room_script.specs.Words.{value_in, value_if, value_to_end, object_to_end}
use Rattle.room_wire.proofs.Fields.{json_of-json_in, members_is, sound_members}
use Rattle.room_valid.proofs.Jsons.{text_json}
use Rattle.room_spelled.proofs.Lives.{live_sound}
use Rattle.room_spelled.proofs.Options.{by_some, if_map, if_then}

-- values to the end of a line

value_step : (r : Result Value Refusal) → ((v : Value) → r ≡ Ok v → IsJson v) → IfSome (value_if r) IsJson
value_step (Ok v) h = h v refl
value_step (Err why) h = tt

value_read : (t : List ℕ) → IfSome (value_in t) IsJson
value_read t = value_step (value_of_text t) (text_json t)

pub value_sound : (rest : Option (List ℕ)) → IfSome (value_to_end rest) IsJson
value_sound None = tt
value_sound (Some t) = value_read t

members_sound : (v : Value) → IsJson v → IfSome (as_members v) AreSoundMembers
members_sound v h =
    by_some AreSoundMembers (as_members v) (λ gs e. sound_members gs (subst IsJson (members_is v gs e) h))

pub object_sound : (rest : Option (List ℕ)) → IfSome (object_to_end rest) AreSoundMembers
object_sound rest = if_then AreSoundMembers IsJson as_members (value_to_end rest) (value_sound rest) members_sound

pub init_sound : (rest : Option (List ℕ)) → IfSome (init_to_end rest) IsSoundInit
init_sound rest = if_map IsSoundInit IsJson init_of (value_to_end rest) (value_sound rest) live_sound

pub event_json : (v : Value) → IsJson v → IsJson (json_of (json_in v))
event_json v h = subst IsJson (sym (json_of-json_in v)) h

-- frames

msgs_step : (v : Value) (u : Inbound) → client_msgs_in v ≡ u → IsJson v → depth v ≤ 60 → IsReadSound u
msgs_step v (Ok f) e json shallow = (client_sound v f e json, client_shallow v f e shallow)
msgs_step v (Err reason) e json shallow = tt

value_frame : (r : Result Value Refusal) → ((v : Value) → r ≡ Ok v → IsJson v × (depth v ≤ 60))
    → IsReadSound (and_then (refused r) client_msgs_in)
value_frame (Ok v) h = let sound = h v refl in msgs_step v (client_msgs_in v) refl sound.0 sound.1
value_frame (Err why) h = tt

one_frame : (b : Bool) (u w : Inbound) → IsReadSound u → IsReadSound w → IsReadSound (cond b u w)
one_frame true u w h k = h
one_frame false u w h k = k

pub raw_sound : (t : List ℕ) → IsReadSound (client_frame_in t)
raw_sound t =
    one_frame (nat_lt 1048576 (length t)) (Err Size) _ tt
    (one_frame (bytes_eq t (codes "ping")) (Ok Ping) _ (tt, tt)
    (value_frame (value_of_text t) (λ v e. (text_json t v e, text_depth t v e))))
