-- Lists and members stay values of the profile.
use Rattle.std.proofs.Common.{ℕ, List, [], ◌∷◌, ◌++◌, map, Ordering, Less, Equal, Greater, Bool, true, false, cond, nat_cmp, IsUtf8}
use Rattle.std.specs.Cmp.Lexicographic.{slice_cmp}
use Rattle.std.specs.Ordering.{match_ordering, is_eq}
use Rattle.std.specs.BTreeMap.{insert_entry, is_at}
use Rattle.std.specs.Map.{remove_entry}
use Rattle.room_json.specs.Profile.{IsJson, AreJson, HaveJson}
use Rattle.room_json.specs.Value.{values_of, fields_of}
use Rattle.room_json.specs.View.{json_of, members_view}
use Rattle.room_json.specs.declared.tree.Json.{Json}
use Rattle.room_json.proofs.Views.{Entry}

abbrev ItemsAreJson : List Json → Type 0
ItemsAreJson js = AreJson (values_of (map json_of js))

abbrev EntriesAreJson : List Entry → Type 0
EntriesAreJson es = HaveJson (fields_of (members_view es))

pub json-push : (js : List Json) (j : Json) → ItemsAreJson js → IsJson (json_of j) → ItemsAreJson (js ++ j ∷ [])
json-push [] j h new = (new, tt)
json-push (k ∷ js) j h new = (h.0, json-push js j h.1 new)

json-match_ordering : (o : Ordering) (a b c : List Entry) → EntriesAreJson a → EntriesAreJson b → EntriesAreJson c → EntriesAreJson (match_ordering o a b c)
json-match_ordering Less a b c x y z = x
json-match_ordering Equal a b c x y z = y
json-match_ordering Greater a b c x y z = z

pub json-insert_entry : (es : List Entry) (k : List ℕ) (v : Json) → EntriesAreJson es → IsUtf8 k → IsJson (json_of v) → EntriesAreJson (insert_entry (slice_cmp nat_cmp) es k v)
json-insert_entry [] k v h name new = (name, new, tt)
json-insert_entry (e ∷ es) k v h name new =
    json-match_ordering (slice_cmp nat_cmp k e.0) _ _ _ (name, new, h) (h.0, new, h.2) (h.0, h.1, json-insert_entry es k v h.2 name new)

json-cond : (b : Bool) (x y : List Entry) → EntriesAreJson x → EntriesAreJson y → EntriesAreJson (cond b x y)
json-cond true x y h k = h
json-cond false x y h k = k

pub json-remove_entry : (name : List ℕ) (es : List Entry) → EntriesAreJson es → EntriesAreJson (remove_entry (is_at (slice_cmp nat_cmp name)) es)
json-remove_entry name [] h = h
json-remove_entry name (e ∷ es) h = json-cond (is_eq (slice_cmp nat_cmp name e.0)) _ _ h.2 (h.0, h.1, json-remove_entry name es h.2)
