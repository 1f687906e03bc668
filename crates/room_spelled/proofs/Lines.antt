-- Lines that are read are lines that a schedule can spell.
use Rattle.std.proofs.Common.{◌≤◌, ℕ, true, false, ◌&&◌, List, Option, Some, None, option_map, codes}
use Rattle.std.specs.Prelude.{IfSome, ⊤}
use Rattle.std.specs.Str.{bytes_eq}
use Rattle.room_ids.specs.Ids.{number_in}
use Rattle.room_json.specs.Back.{json_in}
use Rattle.room_json.specs.Profile.{IsJson, AreSoundMembers}
use Rattle.room_model.specs.Lines.{Dial, Edits, Begin, End, Undo, Redo, Pause, Resume, Clear, Presence, Event, Flush}
use Rattle.room_model.specs.Lines.{Resend, Cut, Up, Down, Gone, Raw, Stop, Start, Fuse, Compact, Limit, ShowServer}
use Rattle.room_model.specs.Lines.{BriefServer, OfClient, AsksClient, OfConnection, OfServer, Drain, Link}
use Rattle.room_model.specs.Sound.{IsSoundEdit, IsClient, IsCall, IsLine}
use Rattle.room_script.specs.Edits.{edit_in}
use Rattle.room_script.specs.Grammar.{said_named, history_named, call_named, question_named, brief_named, client_line}
use Rattle.room_script.specs.Grammar.{how_in, fuse_in, limit_in, is_server, raw_in, asked_named, server_named}
use Rattle.room_script.specs.Grammar.{line_named, schedule_line, Calls, Asks, Takes, take_in, told_alone, script_line}
use Rattle.room_script.specs.Words.{word_of, rest_of, ended, read_then, number_from, number_then, value_to_end}
use Rattle.room_script.specs.Words.{object_to_end, text_to_end}
use Rattle.room_spelled.specs.Laws.{IsScriptLine}
use Rattle.room_spelled.proofs.Edits.{edit_sound}
use Rattle.room_spelled.proofs.Options.{either, if_else, if_map, if_ended, if_read}
use Rattle.room_spelled.proofs.Texts.{value_sound, object_sound, event_json, raw_sound}
use Rattle.room_spelled.proofs.Words.{IsWithin, number_within, from_within, if_number}

-- what holds of every value of a type
abbrev IsAny : {A : Type 0} → A → Type 0
IsAny x = ⊤

any : {A : Type 0} (o : Option A) → IfSome o IsAny
any None = tt
any (Some x) = tt

-- calls

said_sound : (w : List ℕ) (rest : Option (List ℕ)) → IfSome (said_named w rest) IsCall
said_sound w rest =
    either IsCall (bytes_eq w (codes "presence")) _ _
    (if_map IsCall AreSoundMembers (λ p. Presence p false) (object_to_end rest) (object_sound rest) (λ p h. h))
    (either IsCall (bytes_eq w (codes "presence+")) _ _
    (if_map IsCall AreSoundMembers (λ p. Presence p true) (object_to_end rest) (object_sound rest) (λ p h. h))
    (either IsCall (bytes_eq w (codes "event")) _ _
    (if_map IsCall IsJson (λ v. Event (json_in v)) (value_to_end rest) (value_sound rest) event_json)
    (either IsCall (bytes_eq w (codes "flush")) _ _ (if_ended IsCall Flush rest tt)
    (either IsCall (bytes_eq w (codes "resend")) _ _ (if_ended IsCall Resend rest tt)
    (either IsCall (bytes_eq w (codes "cut")) _ _ (if_ended IsCall Cut rest tt) tt)))))

history_sound : (w : List ℕ) (rest : Option (List ℕ)) → IfSome (history_named w rest) IsCall
history_sound w rest =
    either IsCall (bytes_eq w (codes "undo")) _ _ (if_ended IsCall Undo rest tt)
    (either IsCall (bytes_eq w (codes "redo")) _ _ (if_ended IsCall Redo rest tt)
    (either IsCall (bytes_eq w (codes "pause")) _ _ (if_ended IsCall Pause rest tt)
    (either IsCall (bytes_eq w (codes "resume")) _ _ (if_ended IsCall Resume rest tt)
    (either IsCall (bytes_eq w (codes "clear")) _ _ (if_ended IsCall Clear rest tt) (said_sound w rest)))))

call_sound : (w : List ℕ) (rest : Option (List ℕ)) → IfSome (call_named w rest) IsCall
call_sound w rest =
    either IsCall (bytes_eq w (codes "dial")) _ _ (if_ended IsCall Dial rest tt)
    (either IsCall (bytes_eq w (codes "edit")) _ _
    (if_map IsCall IsSoundEdit Edits (edit_in rest) (edit_sound rest) (λ e h. h))
    (either IsCall (bytes_eq w (codes "begin")) _ _ (if_ended IsCall Begin rest tt)
    (either IsCall (bytes_eq w (codes "end")) _ _ (if_ended IsCall End rest tt) (history_sound w rest))))

-- lines of a client

client_sound : (w : List ℕ) (c : ℕ) (rest : Option (List ℕ)) → IsClient c
    → IfSome (client_line w c rest) IsLine
client_sound w c rest h =
    if_else IsLine (option_map (OfClient c) (call_named w rest)) (option_map (AsksClient c) (brief_named w rest))
    (if_map IsLine IsCall (OfClient c) (call_named w rest) (call_sound w rest) (λ x k. (h, k)))
    (if_map IsLine IsAny (AsksClient c) (brief_named w rest) (any (brief_named w rest)) (λ q k. h))

-- of the server

fuse_sound : (rest : Option (List ℕ)) → IfSome (fuse_in rest) IsLine
fuse_sound rest =
    if_read IsLine (IsWithin 1 18446744073709551615) (number_from 1 18446744073709551615)
    (λ n r. read_then how_in (λ how q. ended (OfServer (Fuse n how)) q) r) rest (from_within 1 18446744073709551615)
    (λ n r h. if_read IsLine IsAny how_in (λ how q. ended (OfServer (Fuse n how)) q) r (λ w. any (how_in w))
    (λ how q k. if_ended IsLine (OfServer (Fuse n how)) q h.0))

limit_sound : (rest : Option (List ℕ)) → IfSome (limit_in rest) IsLine
limit_sound rest =
    if_read IsLine (λ n. n ≤ 9007199254740991) (number_in 9007199254740991)
    (λ n r. read_then (number_in 4294967295) (λ m q. ended (OfServer (Limit n m)) q) r) rest
    (number_within 9007199254740991)
    (λ n r h. if_read IsLine (λ m. m ≤ 4294967295) (number_in 4294967295) (λ m q. ended (OfServer (Limit n m)) q) r
    (number_within 4294967295) (λ m q k. if_ended IsLine (OfServer (Limit n m)) q (h, k)))

asked_sound : (w : List ℕ) (rest : Option (List ℕ)) → IfSome (asked_named w rest) IsLine
asked_sound w rest =
    either IsLine (bytes_eq w (codes "show") && is_server rest) (Some (OfServer ShowServer)) _ tt
    (either IsLine (bytes_eq w (codes "brief") && is_server rest) (Some (OfServer BriefServer)) _ tt
    (if_read IsLine (IsWithin 1 64) (number_from 1 64) (λ c r. client_line w c r) rest (from_within 1 64)
    (λ c r h. client_sound w c r h)))

server_sound : (w : List ℕ) (rest : Option (List ℕ)) → IfSome (server_named w rest) IsLine
server_sound w rest =
    either IsLine (bytes_eq w (codes "stop")) _ _ (if_ended IsLine (OfServer Stop) rest tt)
    (either IsLine (bytes_eq w (codes "start")) _ _ (if_ended IsLine (OfServer Start) rest tt)
    (either IsLine (bytes_eq w (codes "fuse")) _ _ (fuse_sound rest)
    (either IsLine (bytes_eq w (codes "compact")) _ _ (if_ended IsLine (OfServer Compact) rest tt)
    (either IsLine (bytes_eq w (codes "limit")) _ _ (limit_sound rest) (asked_sound w rest)))))

-- of connections

raw_line_sound : (rest : Option (List ℕ)) → IfSome (raw_in rest) IsLine
raw_line_sound rest =
    if_number IsLine (λ k r. option_map (λ t. OfConnection k (Raw t)) (text_to_end r)) rest
    (λ k r. if_map IsLine IsAny (λ t. OfConnection k (Raw t)) (text_to_end r) (any (text_to_end r))
    (λ t h. raw_sound t))

line_named_sound : (w : List ℕ) (rest : Option (List ℕ)) → IfSome (line_named w rest) IsLine
line_named_sound w rest =
    either IsLine (bytes_eq w (codes "up")) _ _
    (if_number IsLine (λ k r. ended (OfConnection k Up) r) rest (λ k r. if_ended IsLine (OfConnection k Up) r tt))
    (either IsLine (bytes_eq w (codes "down")) _ _
    (if_number IsLine (λ k r. ended (OfConnection k Down) r) rest (λ k r. if_ended IsLine (OfConnection k Down) r tt))
    (either IsLine (bytes_eq w (codes "gone")) _ _
    (if_number IsLine (λ k r. ended (OfConnection k Gone) r) rest (λ k r. if_ended IsLine (OfConnection k Gone) r tt))
    (either IsLine (bytes_eq w (codes "raw")) _ _ (raw_line_sound rest)
    (either IsLine (bytes_eq w (codes "drain")) _ _
    (if_number IsLine (λ n r. ended (Drain n) r) rest (λ n r. if_ended IsLine (Drain n) r tt))
    (either IsLine (bytes_eq w (codes "link")) _ _ (if_ended IsLine Link rest tt) (server_sound w rest))))))

pub line_sound : (bs : List ℕ) → IfSome (schedule_line bs) IsLine
line_sound bs = line_named_sound (word_of bs) (rest_of bs)

-- of a script

take_sound : (rest : Option (List ℕ)) → IfSome (take_in rest) IsScriptLine
take_sound rest =
    if_number IsScriptLine (λ n r. number_then (λ m q. ended (Takes n m) q) r) rest
    (λ n r. if_number IsScriptLine (λ m q. ended (Takes n m) q) r (λ m q. if_ended IsScriptLine (Takes n m) q tt))

told_sound : (w : List ℕ) (rest : Option (List ℕ)) → IfSome (told_alone w rest) IsScriptLine
told_sound w rest =
    if_else IsScriptLine (option_map Calls (call_named w rest)) (option_map Asks (question_named w rest))
    (if_map IsScriptLine IsCall Calls (call_named w rest) (call_sound w rest) (λ x k. k))
    (if_map IsScriptLine IsAny Asks (question_named w rest) (any (question_named w rest)) (λ q k. tt))

pub script_line_sound : (bs : List ℕ) → IfSome (script_line bs) IsScriptLine
script_line_sound bs =
    either IsScriptLine (bytes_eq (word_of bs) (codes "take")) _ _ (take_sound (rest_of bs))
    (told_sound (word_of bs) (rest_of bs))
