-- An edit as text.
use Rattle.std.specs.Prelude.{ℕ, if◌then◌else◌, List, Option, None, option_map, codes}
use Rattle.std.specs.Str.{bytes_eq}
use Rattle.room_ids.specs.declared.ids.NodeId.{NodeId}
use Rattle.room_model.specs.Init.{Init}
use Rattle.room_model.specs.Edits.{Edit, Set, Update, Remove, Push, Insert, Put, Move, Take, Clear}
use Rattle.room_script.specs.Live.{init_of}
use Rattle.room_script.specs.Words.{ended, word_then, number_then, id_then, key_then, value_to_end, object_to_end}

-- a live or plain value to the line's end
abbrev pub init_to_end : Option (List ℕ) → Option Init
init_to_end rest = option_map init_of (value_to_end rest)

-- a node, and an index in its list
abbrev pub index_then : (NodeId → ℕ → Option (List ℕ) → Option Edit) → Option (List ℕ) → Option Edit
index_then f rest = id_then (λ x r. number_then (λ i q. f x i q) r) rest

-- edits of an object or a map

abbrev pub set_edit : Option (List ℕ) → Option Edit
set_edit rest = id_then (λ x r. key_then (λ k q. option_map (Set x k) (init_to_end q)) r) rest

abbrev pub update_edit : Option (List ℕ) → Option Edit
update_edit rest = id_then (λ x r. option_map (Update x) (object_to_end r)) rest

abbrev pub remove_edit : Option (List ℕ) → Option Edit
remove_edit rest = id_then (λ x r. key_then (λ k q. ended (Remove x k) q) r) rest

-- edits of a list

abbrev pub push_edit : Option (List ℕ) → Option Edit
push_edit rest = id_then (λ x r. option_map (Push x) (init_to_end r)) rest

abbrev pub insert_edit : Option (List ℕ) → Option Edit
insert_edit rest = index_then (λ x i r. option_map (Insert x i) (init_to_end r)) rest

abbrev pub put_edit : Option (List ℕ) → Option Edit
put_edit rest = index_then (λ x i r. option_map (Put x i) (init_to_end r)) rest

abbrev pub move_edit : Option (List ℕ) → Option Edit
move_edit rest = index_then (λ x f r. number_then (λ t q. ended (Move x f t) q) r) rest

abbrev pub take_edit : Option (List ℕ) → Option Edit
take_edit rest = index_then (λ x i r. ended (Take x i) r) rest

abbrev pub clear_edit : Option (List ℕ) → Option Edit
clear_edit rest = id_then (λ x r. ended (Clear x) r) rest

-- by its name, and what is left behind it: of a list,
abbrev pub list_edit_named : List ℕ → Option (List ℕ) → Option Edit
list_edit_named w rest =
    if bytes_eq w (codes "push") then push_edit rest
    else if bytes_eq w (codes "insert") then insert_edit rest
    else if bytes_eq w (codes "put") then put_edit rest
    else if bytes_eq w (codes "move") then move_edit rest
    else if bytes_eq w (codes "take") then take_edit rest
    else if bytes_eq w (codes "empty") then clear_edit rest
    else None

-- and of an object or a map
abbrev pub edit_named : List ℕ → Option (List ℕ) → Option Edit
edit_named w rest =
    if bytes_eq w (codes "set") then set_edit rest
    else if bytes_eq w (codes "update") then update_edit rest
    else if bytes_eq w (codes "delete") then remove_edit rest
    else list_edit_named w rest

abbrev pub edit_in : Option (List ℕ) → Option Edit
edit_in rest = word_then edit_named rest
