-- The names of the users, one connection left out.
use Rattle.std.specs.Prelude.{ℕ, ◌==◌, if◌then◌else◌, List, [], ◌∷◌, ◌++◌}
use Rattle.std.specs.Ordering.{nat_cmp}
use Rattle.std.specs.FinMap.{FinMap, from_entries}
use Rattle.room_log.specs.Log.{Session, session_of, name_in}
use Rattle.room_model.specs.Server.{Link, user_at}

abbrev pub name_at : List Session → ℕ → List ℕ
name_at ss a = name_in (session_of ss a)

-- the users among all connections but this one
abbrev pub users_from : List Session → ℕ → List (ℕ × Link) → List (ℕ × List ℕ)
users_from ss k [] = []
users_from ss k (e ∷ es) =
    if e.0 == k then users_from ss k es else user_at ss (e.1).actor ++ users_from ss k es

-- the names by actor
abbrev pub as_named : List (ℕ × List ℕ) → FinMap nat_cmp (List ℕ)
as_named us = from_entries us
