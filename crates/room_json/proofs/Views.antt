-- The members of a map beside the map.
use Rattle.std.proofs.Common.{◌≡◌, ℕ, suc, length, List, [], ◌∷◌, ◌++◌, Ordering, Less, Equal, Greater, Bool, true, false, cond, Option, option_map, Some, nat_cmp, refl, ap, ◌∙◌, sym, subst, map}
use Rattle.std.proofs.lemmas.Option.{slice_get-map}
use Rattle.std.specs.Cmp.Lexicographic.{slice_cmp}
use Rattle.std.specs.Ordering.{match_ordering, is_eq}
use Rattle.std.specs.BTreeMap.{insert_entry, is_at}
use Rattle.std.specs.Map.{lookup, remove_entry, keys_of}
use Rattle.std.specs.List.Sorted.{IsStrictlySortedBy}
use Rattle.serde_json.specs.Events.{items_len, members_len}
use Rattle.room_json.specs.Value.{fields_of, fields_list, values_of, items_of as items_data, members_of as members_data}
use Rattle.room_json.proofs.Spelled.{insert_pair_last}
use Rattle.room_json.proofs.Values.{fields_list-fields_of}
use Rattle.room_json.specs.View.{json_of, members_view}
use Rattle.room_json.specs.declared.tree.Json.{Json}

abbrev pub Entry : Type 0
Entry = List ℕ × Json

view-match_ordering : (o : Ordering) (a b c : List Entry) → members_view (match_ordering o a b c) ≡ match_ordering o (members_view a) (members_view b) (members_view c)
view-match_ordering Less a b c = refl
view-match_ordering Equal a b c = refl
view-match_ordering Greater a b c = refl

pub view-insert_entry : (es : List Entry) (k : List ℕ) (v : Json) → members_view (insert_entry (slice_cmp nat_cmp) es k v) ≡ insert_entry (slice_cmp nat_cmp) (members_view es) k (json_of v)
view-insert_entry [] k v = refl
view-insert_entry (e ∷ es) k v = view-match_ordering (slice_cmp nat_cmp k e.0) _ _ _ ∙ rw (view-insert_entry es k v) refl

map-cond : (b : Bool) (x : Json) (o : Option Json) → option_map json_of (cond b (Some x) o) ≡ cond b (Some (json_of x)) (option_map json_of o)
map-cond true x o = refl
map-cond false x o = refl

pub view-lookup : (name : List ℕ) (es : List Entry) → option_map json_of (lookup (is_at (slice_cmp nat_cmp name)) es) ≡ lookup (is_at (slice_cmp nat_cmp name)) (members_view es)
view-lookup name [] = refl
view-lookup name (e ∷ es) = map-cond (is_eq (slice_cmp nat_cmp name e.0)) e.1 _ ∙ rw (view-lookup name es) refl

drop-cond : (b : Bool) (x y : List Entry) → members_view (cond b x y) ≡ cond b (members_view x) (members_view y)
drop-cond true x y = refl
drop-cond false x y = refl

pub view-remove_entry : (name : List ℕ) (es : List Entry) → members_view (remove_entry (is_at (slice_cmp nat_cmp name)) es) ≡ remove_entry (is_at (slice_cmp nat_cmp name)) (members_view es)
view-remove_entry name [] = refl
view-remove_entry name (e ∷ es) = drop-cond (is_eq (slice_cmp nat_cmp name e.0)) _ _ ∙ rw (view-remove_entry name es) refl

members_view-append : (es fs : List Entry) → members_view (es ++ fs) ≡ members_view es ++ members_view fs
members_view-append [] fs = refl
members_view-append (e ∷ es) fs = ap (λ ms. (e.0, json_of e.1) ∷ ms) (members_view-append es fs)

pub keys_of-members_view : (es : List Entry) → keys_of (members_view es) ≡ keys_of es
keys_of-members_view [] = refl
keys_of-members_view (e ∷ es) = ap (λ ks. e.0 ∷ ks) (keys_of-members_view es)

pub keys_of-fields_list : (es : List Entry) → keys_of (fields_list (fields_of (members_view es))) ≡ keys_of es
keys_of-fields_list es = ap keys_of (fields_list-fields_of (members_view es)) ∙ keys_of-members_view es

pub items_len-view : (js : List Json) → items_len (items_data (values_of (map json_of js))) ≡ length js
items_len-view [] = refl
items_len-view (j ∷ js) = ap suc (items_len-view js)

pub members_len-view : (es : List Entry) → members_len (members_data (fields_of (members_view es))) ≡ length es
members_len-view [] = refl
members_len-view (e ∷ es) = ap suc (members_len-view es)

pub length-members_view : (es : List Entry) → length (members_view es) ≡ length es
length-members_view [] = refl
length-members_view (e ∷ es) = ap suc (length-members_view es)

pub ruleset views = (slice_get-map, view-insert_entry, view-lookup, view-remove_entry, keys_of-members_view, length-members_view)

-- a name that is above those before it goes last
pub insert_last : (done : List Entry) (e : Entry) (more : List Entry) → IsStrictlySortedBy (slice_cmp nat_cmp) (keys_of (done ++ e ∷ more))
    → insert_entry (slice_cmp nat_cmp) (members_view done) e.0 (json_of e.1) ≡ members_view (done ++ e ∷ [])
insert_last done e more sorted =
    let left = ap keys_of (members_view-append done (e ∷ more)) in
    let seen = subst (IsStrictlySortedBy (slice_cmp nat_cmp)) (sym (sym left ∙ keys_of-members_view (done ++ e ∷ more))) sorted in
    insert_pair_last (members_view done) (e.0, json_of e.1) (members_view more) seen ∙ sym (members_view-append done (e ∷ []))
