-- Edits that are read are edits of real values.
use Rattle.std.proofs.Common.{ℕ, List, Option, option_map, codes}
use Rattle.std.specs.Prelude.{IfSome}
use Rattle.std.specs.Str.{bytes_eq}
use Rattle.room_ids.specs.Laws.{IsNodeInRange}
use Rattle.room_ids.specs.declared.ids.NodeId.{NodeId}
use Rattle.room_json.specs.Profile.{AreSoundMembers}
use Rattle.room_model.specs.Edits.{Edit, Set, Update, Remove, Push, Insert, Put, Move, Take, Clear}
use Rattle.room_model.specs.Init.{Init}
use Rattle.room_model.specs.Sound.{IsSoundInit, IsSoundEdit}
use Rattle.room_script.specs.Edits.{init_to_end, index_then, set_edit, update_edit, remove_edit, push_edit, insert_edit}
use Rattle.room_script.specs.Edits.{put_edit, move_edit, take_edit, clear_edit, list_edit_named, edit_named, edit_in}
use Rattle.room_script.specs.Words.{ended, number_then, key_then, object_to_end}
use Rattle.room_spelled.proofs.Options.{either, if_map, if_ended, if_word}
use Rattle.room_spelled.proofs.Texts.{init_sound, object_sound}
use Rattle.room_spelled.proofs.Words.{if_number, if_id, if_key}

with_init : (f : Init → Edit) (rest : Option (List ℕ)) → ((i : Init) → IsSoundInit i → IsSoundEdit (f i))
    → IfSome (option_map f (init_to_end rest)) IsSoundEdit
with_init f rest h = if_map IsSoundEdit IsSoundInit f (init_to_end rest) (init_sound rest) h

at_index : (f : NodeId → ℕ → Option (List ℕ) → Option Edit) (rest : Option (List ℕ))
    → ((x : NodeId) (i : ℕ) (r : Option (List ℕ)) → IsNodeInRange x → IfSome (f x i r) IsSoundEdit)
    → IfSome (index_then f rest) IsSoundEdit
at_index f rest h =
    if_id IsSoundEdit (λ x r. number_then (λ i q. f x i q) r) rest
    (λ x r inside. if_number IsSoundEdit (λ i q. f x i q) r (λ i q. h x i q inside))

-- of an object or a map

set_sound : (rest : Option (List ℕ)) → IfSome (set_edit rest) IsSoundEdit
set_sound rest =
    if_id IsSoundEdit (λ x r. key_then (λ k q. option_map (Set x k) (init_to_end q)) r) rest
    (λ x r inside. if_key IsSoundEdit (λ k q. option_map (Set x k) (init_to_end q)) r
    (λ k q utf8. with_init (Set x k) q (λ i h. (inside, utf8, h))))

update_sound : (rest : Option (List ℕ)) → IfSome (update_edit rest) IsSoundEdit
update_sound rest =
    if_id IsSoundEdit (λ x r. option_map (Update x) (object_to_end r)) rest
    (λ x r inside. if_map IsSoundEdit AreSoundMembers (Update x) (object_to_end r) (object_sound r)
    (λ fs h. (inside, h)))

remove_sound : (rest : Option (List ℕ)) → IfSome (remove_edit rest) IsSoundEdit
remove_sound rest =
    if_id IsSoundEdit (λ x r. key_then (λ k q. ended (Remove x k) q) r) rest
    (λ x r inside. if_key IsSoundEdit (λ k q. ended (Remove x k) q) r
    (λ k q utf8. if_ended IsSoundEdit (Remove x k) q (inside, utf8)))

-- of a list

push_sound : (rest : Option (List ℕ)) → IfSome (push_edit rest) IsSoundEdit
push_sound rest =
    if_id IsSoundEdit (λ x r. option_map (Push x) (init_to_end r)) rest
    (λ x r inside. with_init (Push x) r (λ i h. (inside, h)))

insert_sound : (rest : Option (List ℕ)) → IfSome (insert_edit rest) IsSoundEdit
insert_sound rest =
    at_index (λ x n r. option_map (Insert x n) (init_to_end r)) rest
    (λ x n r inside. with_init (Insert x n) r (λ i h. (inside, h)))

put_sound : (rest : Option (List ℕ)) → IfSome (put_edit rest) IsSoundEdit
put_sound rest =
    at_index (λ x n r. option_map (Put x n) (init_to_end r)) rest
    (λ x n r inside. with_init (Put x n) r (λ i h. (inside, h)))

move_sound : (rest : Option (List ℕ)) → IfSome (move_edit rest) IsSoundEdit
move_sound rest =
    at_index (λ x f r. number_then (λ t q. ended (Move x f t) q) r) rest
    (λ x f r inside. if_number IsSoundEdit (λ t q. ended (Move x f t) q) r
    (λ t q. if_ended IsSoundEdit (Move x f t) q inside))

take_sound : (rest : Option (List ℕ)) → IfSome (take_edit rest) IsSoundEdit
take_sound rest =
    at_index (λ x n r. ended (Take x n) r) rest (λ x n r inside. if_ended IsSoundEdit (Take x n) r inside)

clear_sound : (rest : Option (List ℕ)) → IfSome (clear_edit rest) IsSoundEdit
clear_sound rest =
    if_id IsSoundEdit (λ x r. ended (Clear x) r) rest (λ x r inside. if_ended IsSoundEdit (Clear x) r inside)

-- by their names

list_named_sound : (w : List ℕ) (rest : Option (List ℕ)) → IfSome (list_edit_named w rest) IsSoundEdit
list_named_sound w rest =
    either IsSoundEdit (bytes_eq w (codes "push")) _ _ (push_sound rest)
    (either IsSoundEdit (bytes_eq w (codes "insert")) _ _ (insert_sound rest)
    (either IsSoundEdit (bytes_eq w (codes "put")) _ _ (put_sound rest)
    (either IsSoundEdit (bytes_eq w (codes "move")) _ _ (move_sound rest)
    (either IsSoundEdit (bytes_eq w (codes "take")) _ _ (take_sound rest)
    (either IsSoundEdit (bytes_eq w (codes "empty")) _ _ (clear_sound rest) tt)))))

named_sound : (w : List ℕ) (rest : Option (List ℕ)) → IfSome (edit_named w rest) IsSoundEdit
named_sound w rest =
    either IsSoundEdit (bytes_eq w (codes "set")) _ _ (set_sound rest)
    (either IsSoundEdit (bytes_eq w (codes "update")) _ _ (update_sound rest)
    (either IsSoundEdit (bytes_eq w (codes "delete")) _ _ (remove_sound rest) (list_named_sound w rest)))

pub edit_sound : (rest : Option (List ℕ)) → IfSome (edit_in rest) IsSoundEdit
edit_sound rest = if_word IsSoundEdit edit_named rest named_sound
