-- The users of a room state: an object from actor to object.
use Rattle.std.specs.Prelude.{◌<◌, ⊤, ℕ, suc, nat_le, if◌then◌else◌}
use Rattle.std.specs.Prelude.{List, [], ◌∷◌, codes, Option, Some, None, option_and_then, option_map}
use Rattle.room_json.specs.Fields.{field_of}
use Rattle.room_json.specs.Value.{Value, as_members, as_text}
use Rattle.room_ids.specs.Ids.{number_in}

-- a user before those of a greater actor
abbrev pub insert_user : ℕ × List ℕ → List (ℕ × List ℕ) → List (ℕ × List ℕ)
insert_user u [] = u ∷ []
insert_user u (x ∷ xs) = if nat_le u.0 x.0 then u ∷ x ∷ xs else x ∷ insert_user u xs

abbrev pub or_empty : Option (List ℕ) → List ℕ
or_empty None = []
or_empty (Some t) = t

-- a text `name`, and else the empty name
abbrev pub name_in : Value → List ℕ
name_in v = or_empty (option_and_then as_text (field_of (codes "name") v))

abbrev pub user_in : List ℕ × Value → Option (ℕ × List ℕ)
user_in e = option_and_then (λ n. option_map (λ ms. (n, name_in e.1)) (as_members e.1)) (number_in 4294967295 e.0)

-- the users that members tell, as the entries of a map from actor to name
abbrev pub users_of : List (List ℕ × Value) → Option (List (ℕ × List ℕ))
users_of [] = Some []
users_of (e ∷ es) = option_and_then (λ u. option_map (insert_user u) (users_of es)) (user_in e)

abbrev pub as_users : Value → Option (List (ℕ × List ℕ))
as_users v = option_and_then users_of (as_members v)

-- rising actors
abbrev pub IsRising : List (ℕ × List ℕ) → Type 0
IsRising [] = ⊤
IsRising (u ∷ []) = ⊤
IsRising (u ∷ v ∷ us) = (u.0 < v.0) × IsRising (v ∷ us)

-- how many users have smaller actors, up to the first that has none
abbrev pub place_of : ℕ → List (ℕ × List ℕ) → ℕ
place_of n [] = 0
place_of n (x ∷ xs) = if nat_le n x.0 then 0 else suc (place_of n xs)
