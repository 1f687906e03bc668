-- How clap is set up, and how a command is read of what clap found.
use Rattle.std.specs.Prelude.{Bool, true, false, if◌then◌else◌, List, [], ◌∷◌, Option, Some, None, option_map}
use Rattle.std.specs.Prelude.{option_and_then, codes}
use Rattle.std.specs.Str.{bytes_eq}
use Rattle.clap.specs.Words.{App, Row, Rule, Shape, first_of, new_rule}
use Rattle.clap.specs.Simple.{new_shape}
use Rattle.room_words.specs.Words.{Text, Told, Deed, Replay, Show, Patch, Client, Rooms, rooms_in, turns_in}
use Rattle.room_words.specs.Words.{count_in, number_in, guard_in, named, serving, generating, plain_deed}
use Rattle.room_words.specs.Words.{named_deed}

-- ---- what clap is told

abbrev pub needed : Text → Rule
needed id = record (new_rule id) { required = true }

abbrev pub leaf : Text → List Rule → Shape
leaf name rules = record (new_shape name) { rules = rules }

abbrev pub replay_shape : Shape
replay_shape = leaf (codes "replay") (new_rule (codes "folder") ∷ [])

abbrev pub serve_shape : Shape
serve_shape = leaf (codes "serve") (needed (codes "folder") ∷ needed (codes "room") ∷ needed (codes "address")
    ∷ needed (codes "turns") ∷ new_rule (codes "guarded") ∷ [])

abbrev pub client_shape : Shape
client_shape = leaf (codes "client") (needed (codes "address") ∷ needed (codes "room") ∷ [])

abbrev pub show_shape : Shape
show_shape = leaf (codes "show") (needed (codes "folder") ∷ [])

abbrev pub gen_shape : Shape
gen_shape = leaf (codes "gen") (needed (codes "number") ∷ needed (codes "count") ∷ [])

abbrev pub patch_shape : Shape
patch_shape = leaf (codes "patch") (needed (codes "folder") ∷ [])

abbrev pub rooms_shape : Shape
rooms_shape = leaf (codes "rooms") (needed (codes "file") ∷ needed (codes "deed") ∷ new_rule (codes "name") ∷ [])

abbrev pub top_shape : Shape
top_shape = record (new_shape (codes "room")) {
  no_binary_name = true;
  disable_help_flag = true;
  disable_help_subcommand = true;
  subcommand_required = true;
}

abbrev pub bare : App
bare = record { top = top_shape; subs = [] }

abbrev pub leaves : List Shape
leaves = replay_shape ∷ serve_shape ∷ client_shape ∷ show_shape ∷ gen_shape ∷ patch_shape ∷ rooms_shape ∷ []

-- the whole program
unfoldable pub program : App
program = record { top = record top_shape { is_leaf = false }; subs = leaves }

-- ---- what is read of its answer

abbrev pub guard_from : Option Text → Option Bool
guard_from None = Some false
guard_from (Some word) = guard_in word

abbrev pub serve_found : List Row → Option Told
serve_found rows =
    option_and_then (λ folder. option_and_then (λ room. option_and_then (λ address. option_and_then (λ turns.
    serving folder (rooms_in room) address (turns_in turns) (guard_from (first_of (codes "guarded") rows)))
    (first_of (codes "turns") rows)) (first_of (codes "address") rows)) (first_of (codes "room") rows))
    (first_of (codes "folder") rows)

abbrev pub client_found : List Row → Option Told
client_found rows = option_and_then (λ address. option_and_then (λ room. option_map (Client address) (named room))
    (first_of (codes "room") rows)) (first_of (codes "address") rows)

abbrev pub gen_found : List Row → Option Told
gen_found rows = option_and_then (λ number. option_and_then (λ count. generating (number_in number) (count_in count))
    (first_of (codes "count") rows)) (first_of (codes "number") rows)

abbrev pub deed_from : Text → Option Text → Option Deed
deed_from verb None = plain_deed verb
deed_from verb (Some name) = named_deed verb name

abbrev pub rooms_found : List Row → Option Told
rooms_found rows = option_and_then (λ file. option_and_then (λ verb.
    option_map (Rooms file) (deed_from verb (first_of (codes "name") rows)))
    (first_of (codes "deed") rows)) (first_of (codes "file") rows)

abbrev pub found : Text → List Row → Option Told
found name rows = if bytes_eq name (codes "replay") then Some (Replay (first_of (codes "folder") rows))
    else (if bytes_eq name (codes "serve") then serve_found rows
    else (if bytes_eq name (codes "client") then client_found rows
    else (if bytes_eq name (codes "show") then option_map Show (first_of (codes "folder") rows)
    else (if bytes_eq name (codes "gen") then gen_found rows
    else (if bytes_eq name (codes "patch") then option_map Patch (first_of (codes "folder") rows)
    else (if bytes_eq name (codes "rooms") then rooms_found rows
    else None))))))
