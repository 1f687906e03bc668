-- Live values stay sound.
use Rattle.std.proofs.Common.{ℕ, List, [], ◌∷◌, ◌++◌, map, Ordering, Less, Equal, Greater, nat_cmp, IsUtf8}
use Rattle.std.specs.Cmp.Lexicographic.{slice_cmp}
use Rattle.std.specs.Ordering.{match_ordering}
use Rattle.std.specs.BTreeMap.{insert_entry}
use Rattle.room_model.specs.Sound.{IsSoundInit, AreSoundParts, AreSoundInits}
use Rattle.room_props.specs.Inits.{init_of, inits_of, parts_of, named}
use Rattle.room_props.specs.declared.live.Init.{Init}
use Rattle.room_props.proofs.Views.{Entry}

abbrev ItemsAreSound : List Init → Type 0
ItemsAreSound is = AreSoundInits (inits_of (map init_of is))

abbrev EntriesAreSound : List Entry → Type 0
EntriesAreSound es = AreSoundParts (parts_of (named es))

pub sound-push : (is : List Init) (i : Init) → ItemsAreSound is → IsSoundInit (init_of i) → ItemsAreSound (is ++ i ∷ [])
sound-push [] i h new = (new, tt)
sound-push (j ∷ is) i h new = (h.0, sound-push is i h.1 new)

sound-match_ordering : (o : Ordering) (a b c : List Entry) → EntriesAreSound a → EntriesAreSound b → EntriesAreSound c → EntriesAreSound (match_ordering o a b c)
sound-match_ordering Less a b c x y z = x
sound-match_ordering Equal a b c x y z = y
sound-match_ordering Greater a b c x y z = z

pub sound-insert_entry : (es : List Entry) (k : List ℕ) (i : Init) → EntriesAreSound es → IsUtf8 k → IsSoundInit (init_of i) → EntriesAreSound (insert_entry (slice_cmp nat_cmp) es k i)
sound-insert_entry [] k i h name new = (name, new, tt)
sound-insert_entry (e ∷ es) k i h name new =
    sound-match_ordering (slice_cmp nat_cmp k e.0) _ _ _ (name, new, h) (h.0, new, h.2) (h.0, h.1, sound-insert_entry es k i h.2 name new)
