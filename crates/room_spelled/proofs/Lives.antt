-- What a value of the profile puts in place is sound.
use Rattle.std.proofs.Common.{◌≡◌, ℕ, Bool, true, false, cond, List, ◌∷◌, nat_cmp, codes, refl, sym, ap, subst}
use Rattle.std.specs.Cmp.Lexicographic.{slice_cmp}
use Rattle.std.specs.List.Sorted.{IsStrictlySortedBy}
use Rattle.std.specs.Map.{keys_of}
use Rattle.std.specs.Str.{bytes_eq}
use Rattle.room_json.specs.Profile.{IsJson, AreJson, HaveJson}
use Rattle.room_json.specs.Value.{Value, nothing, flag, whole, text, list, members, Values, no_values, value}
use Rattle.room_json.specs.Value.{Fields, no_fields, field, fields_list}
use Rattle.room_model.specs.Init.{Init, Plain, AnObject, AMap, AList}
use Rattle.room_model.specs.Sound.{names_of, IsSoundInit, AreSoundParts, AreSoundInits}
use Rattle.room_script.specs.Live.{init_of, init_named, parts_of, inits_of}

one_of : (b : Bool) (i j : Init) → IsSoundInit i → IsSoundInit j → IsSoundInit (cond b i j)
one_of true i j h k = h
one_of false i j h k = k

names : (fs : Fields) → names_of (parts_of fs) ≡ keys_of (fields_list fs)
names no_fields = refl
names (field k v fs) = ap (λ ks. k ∷ ks) (names fs)

names_sorted : (fs : Fields) → IsStrictlySortedBy (slice_cmp nat_cmp) (keys_of (fields_list fs))
    → IsStrictlySortedBy (slice_cmp nat_cmp) (names_of (parts_of fs))
names_sorted fs h = subst (IsStrictlySortedBy (slice_cmp nat_cmp)) (sym (names fs)) h

mutual
  pub live_sound : (v : Value) → IsJson v → IsSoundInit (init_of v)
  live_sound nothing h = h
  live_sound (flag b) h = h
  live_sound (whole z) h = h
  live_sound (text s) h = h
  live_sound (list vs) h = h
  live_sound (members no_fields) h = h
  live_sound (members (field k v no_fields)) h = named_sound k v h
  live_sound (members (field k v (field l u fs))) h = h

  named_sound : (k : List ℕ) (v : Value) → IsJson (members (field k v no_fields)) → IsSoundInit (init_named k v)
  named_sound k nothing h = h
  named_sound k (flag b) h = h
  named_sound k (whole z) h = h
  named_sound k (text s) h = h
  named_sound k (list vs) h =
      one_of (bytes_eq k (codes "$list")) (AList (inits_of vs)) (Plain (members (field k (list vs) no_fields)))
      (items_sound vs h.1.1) h
  named_sound k (members fs) h =
      let sound : AreSoundParts (parts_of fs) = parts_sound fs h.1.1.1 in
      let sorted = names_sorted fs h.1.1.0 in
      one_of (bytes_eq k (codes "$object")) (AnObject (parts_of fs)) _ (sorted, sound)
      (one_of (bytes_eq k (codes "$map")) (AMap (parts_of fs)) (Plain (members (field k (members fs) no_fields)))
      (sorted, sound) h)

  parts_sound : (fs : Fields) → HaveJson fs → AreSoundParts (parts_of fs)
  parts_sound no_fields h = tt
  parts_sound (field k v fs) h = (h.0, live_sound v h.1, parts_sound fs h.2)

  items_sound : (vs : Values) → AreJson vs → AreSoundInits (inits_of vs)
  items_sound no_values h = tt
  items_sound (value v vs) h = (live_sound v h.0, items_sound vs h.1)
