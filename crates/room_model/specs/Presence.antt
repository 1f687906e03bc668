-- Presence: a small object of each user, which isn't stored.
use Rattle.std.specs.Prelude.{ℕ, Bool, false, ◌&&◌, ◌||◌, not, if◌then◌else◌, List, [], ◌∷◌, ◌++◌, map, decimal, Option}
use Rattle.std.specs.Prelude.{Some, None}
use Rattle.std.specs.declared.cmp.Ordering.{Ordering}
use Rattle.std.specs.declared.cmp.Ordering.TheVariants.{Less, Equal, Greater}
use Rattle.std.specs.Ordering.{nat_cmp, eq_by_cmp}
use Rattle.std.specs.Cmp.Lexicographic.{slice_cmp}
use Rattle.std.specs.FinMap.{FinMap, get, insert, remove, entries, empty, find}
use Rattle.room_json.specs.Value.{Value, nothing, members, fields_of, merged, object_of}

-- what a client shows of the others: by actor, from a full presence on
abbrev pub Others : Type 0
Others = FinMap nat_cmp (List (List ℕ × Value))

abbrev pub nobody : Others
nobody = empty

-- a full presence takes the place of what was there; a patch is merged into one, and is nothing without it

abbrev pub patched_at : Others → ℕ → List (List ℕ × Value) → Option (List (List ℕ × Value)) → Others
patched_at os a patch None = os
patched_at os a patch (Some old) = insert os a (merged old patch)

abbrev pub other_patched : Others → ℕ → List (List ℕ × Value) → Others
other_patched os a patch = patched_at os a patch (get os a)

abbrev pub other_full : Others → ℕ → List (List ℕ × Value) → Others
other_full os a full = insert os a full

abbrev pub forgotten : Others → ℕ → Others
forgotten os a = remove os a

abbrev pub other_out : ℕ × List (List ℕ × Value) → List ℕ × Value
other_out e = (decimal e.0, members (fields_of e.1))

-- an object from actor to presence
abbrev pub others_value : Others → Value
others_value os = object_of (map other_out (entries os))

-- names of presence keys: a set, as a list in byte order

abbrev pub is_among : List ℕ → List (List ℕ) → Bool
is_among k [] = false
is_among k (n ∷ ns) = eq_by_cmp (slice_cmp nat_cmp) k n || is_among k ns

-- a name before, at or behind the first one: `more` has it among those behind
abbrev pub with_name_by : Ordering → List ℕ → List ℕ → List (List ℕ) → List (List ℕ) → List (List ℕ)
with_name_by Less k n ns more = k ∷ n ∷ ns
with_name_by Equal k n ns more = n ∷ ns
with_name_by Greater k n ns more = n ∷ more

abbrev pub with_name : List (List ℕ) → List ℕ → List (List ℕ)
with_name [] k = k ∷ []
with_name (n ∷ ns) k = with_name_by (slice_cmp nat_cmp k n) k n ns (with_name ns k)

abbrev pub with_names : List (List ℕ) → List (List ℕ × Value) → List (List ℕ)
with_names ns [] = ns
with_names ns (f ∷ fs) = with_names (with_name ns f.0) fs

-- the names that are among others too
abbrev pub kept_names : List (List ℕ) → List (List ℕ) → List (List ℕ)
kept_names [] ks = []
kept_names (n ∷ ns) ks = if is_among n ks then n ∷ kept_names ns ks else kept_names ns ks

-- the members that are unsent and not held back
abbrev pub unsent_members : List (List ℕ) → List (List ℕ) → List (List ℕ × Value) → List (List ℕ × Value)
unsent_members unsent held [] = []
unsent_members unsent held (f ∷ fs) =
    if is_among f.0 unsent && not (is_among f.0 held)
    then f ∷ unsent_members unsent held fs
    else unsent_members unsent held fs

-- the old value of each key of a patch, null for one that wasn't there

abbrev pub or_null : Option Value → Value
or_null None = nothing
or_null (Some v) = v

abbrev pub back_of : List (List ℕ × Value) → List (List ℕ × Value) → List (List ℕ × Value)
back_of me [] = []
back_of me (f ∷ fs) = (f.0, or_null (find (slice_cmp nat_cmp) f.0 me)) ∷ back_of me fs
