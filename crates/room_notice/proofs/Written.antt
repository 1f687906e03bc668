-- Notices as members in their order, and how many items and members there are.
use Rattle.std.proofs.Common.{◌≡◌, ℕ, suc, pos, List, [], ◌∷◌, map, length, codes, refl, ap}
use Rattle.serde_json.specs.Events.{items_len}
use Rattle.room_json.specs.Value.{Value, whole, text, list, members, field, no_fields, items_of, values_of, fields_of}
use Rattle.room_model.specs.Notices.{Place, Insert, Take, Move, Reset, keyed_out, notice_out, path_out}

pub items_count : {X : Type 0} (f : X → Value) (xs : List X) → items_len (items_of (values_of (map f xs))) ≡ length xs
items_count f [] = refl
items_count f (x ∷ xs) = ap suc (items_count f xs)

pub keyed_is : (kind : List ℕ) (path : List Place) (set : List (List ℕ × Value)) (unset : List (List ℕ)) → keyed_out kind path set unset
    ≡ members (field (codes "kind") (text kind) (field (codes "path") (path_out path) (field (codes "set") (members (fields_of set)) (field (codes "unset") (list (values_of (map text unset))) no_fields))))
keyed_is kind path set unset = refl

pub insert_is : (path : List Place) (i : ℕ) (v : Value) → notice_out (Insert path i v)
    ≡ members (field (codes "index") (whole (pos i)) (field (codes "kind") (text (codes "insert")) (field (codes "path") (path_out path) (field (codes "value") v no_fields))))
insert_is path i v = refl

pub take_is : (path : List Place) (i : ℕ) → notice_out (Take path i)
    ≡ members (field (codes "index") (whole (pos i)) (field (codes "kind") (text (codes "take")) (field (codes "path") (path_out path) no_fields)))
take_is path i = refl

pub move_is : (path : List Place) (f t : ℕ) → notice_out (Move path f t)
    ≡ members (field (codes "from") (whole (pos f)) (field (codes "kind") (text (codes "move")) (field (codes "path") (path_out path) (field (codes "to") (whole (pos t)) no_fields))))
move_is path f t = refl

pub reset_is : (v : Value) → notice_out (Reset v) ≡ members (field (codes "kind") (text (codes "reset")) (field (codes "view") v no_fields))
reset_is v = refl

pub map_length : {X Y : Type 0} (f : X → Y) (xs : List X) → length (map f xs) ≡ length xs
map_length f [] = refl
map_length f (x ∷ xs) = ap suc (map_length f xs)
