-- Members put in one list after another.
use Rattle.std.proofs.Common.{◌≡◌, ℕ, List, [], ◌∷◌, ◌++◌, nat_cmp, refl}
use Rattle.std.specs.Cmp.Lexicographic.{slice_cmp}
use Rattle.std.specs.BTreeMap.{insert_entry}
use Rattle.room_json.specs.Value.{Value, merged}

pub merged_append : (into xs ys : List (List ℕ × Value)) → merged into (xs ++ ys) ≡ merged (merged into xs) ys
merged_append into [] ys = refl
merged_append into (x ∷ xs) ys = merged_append (insert_entry (slice_cmp nat_cmp) into x.0 x.1) xs ys
