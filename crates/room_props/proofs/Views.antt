-- The parts of a map beside the map.
use Rattle.std.proofs.Common.{◌≡◌, ℕ, suc, length, List, [], ◌∷◌, ◌++◌, Ordering, Less, Equal, Greater, Bool, true, false, cond, Option, option_map, Some, nat_cmp, refl, ap, ◌∙◌, sym}
use Rattle.std.proofs.lemmas.Option.{slice_get-map}
use Rattle.std.specs.Cmp.Lexicographic.{slice_cmp}
use Rattle.std.specs.Ordering.{match_ordering, is_eq, ordering_reverse}
use Rattle.std.specs.BTreeMap.{insert_entry, is_at}
use Rattle.std.specs.Map.{lookup, keys_of}
use Rattle.std.specs.List.{AllByRecursion}
use Rattle.std.specs.List.Sorted.{IsStrictlySortedBy}
use Rattle.std.proofs.lemmas.Cmp.{nat_list_cmp_total}
use Rattle.room_model.specs.Sound.{names_of}
use Rattle.room_props.specs.Inits.{init_of, parts_of, named}
use Rattle.room_props.specs.declared.live.Init.{Init}

abbrev pub Entry : Type 0
Entry = List ℕ × Init

named-match_ordering : (o : Ordering) (a b c : List Entry) → named (match_ordering o a b c) ≡ match_ordering o (named a) (named b) (named c)
named-match_ordering Less a b c = refl
named-match_ordering Equal a b c = refl
named-match_ordering Greater a b c = refl

pub named-insert_entry : (es : List Entry) (k : List ℕ) (i : Init) → named (insert_entry (slice_cmp nat_cmp) es k i) ≡ insert_entry (slice_cmp nat_cmp) (named es) k (init_of i)
named-insert_entry [] k i = refl
named-insert_entry (e ∷ es) k i = named-match_ordering (slice_cmp nat_cmp k e.0) _ _ _ ∙ rw (named-insert_entry es k i) refl

map-cond : (b : Bool) (i : Init) (o : Option Init) → option_map init_of (cond b (Some i) o) ≡ cond b (Some (init_of i)) (option_map init_of o)
map-cond true i o = refl
map-cond false i o = refl

pub named-lookup : (name : List ℕ) (es : List Entry) → option_map init_of (lookup (is_at (slice_cmp nat_cmp name)) es) ≡ lookup (is_at (slice_cmp nat_cmp name)) (named es)
named-lookup name [] = refl
named-lookup name (e ∷ es) = map-cond (is_eq (slice_cmp nat_cmp name e.0)) e.1 _ ∙ rw (named-lookup name es) refl

pub names_of-named : (es : List Entry) → names_of (parts_of (named es)) ≡ keys_of es
names_of-named [] = refl
names_of-named (e ∷ es) = ap (λ ks. e.0 ∷ ks) (names_of-named es)

pub length-named : (es : List Entry) → length (named es) ≡ length es
length-named [] = refl
length-named (e ∷ es) = ap suc (length-named es)

named-append : (es fs : List Entry) → named (es ++ fs) ≡ named es ++ named fs
named-append [] fs = refl
named-append (e ∷ es) fs = ap (λ ps. (e.0, init_of e.1) ∷ ps) (named-append es fs)

-- a name that is above those before it goes last

above_by : (first e : Entry) (done more : List Entry) → AllByRecursion (λ n. slice_cmp nat_cmp first.0 n ≡ Less) (keys_of (done ++ e ∷ more)) → slice_cmp nat_cmp first.0 e.0 ≡ Less
above_by first e [] more h = h.0
above_by first e (d ∷ done) more h = above_by first e done more h.1

insert_end : (done : List Entry) (e : Entry) (more : List Entry) → IsStrictlySortedBy (slice_cmp nat_cmp) (keys_of (done ++ e ∷ more)) → insert_entry (slice_cmp nat_cmp) done e.0 e.1 ≡ done ++ e ∷ []
unfolding IsStrictlySortedBy
insert_end [] e more h = refl
insert_end (first ∷ done) e more h =
    rw (nat_list_cmp_total.antisymm e.0 first.0 ∙ ap ordering_reverse (above_by first e done more h.0)) (ap (λ es. first ∷ es) (insert_end done e more h.1))

pub insert_last : (done : List Entry) (e : Entry) (more : List Entry) → IsStrictlySortedBy (slice_cmp nat_cmp) (keys_of (done ++ e ∷ more))
    → insert_entry (slice_cmp nat_cmp) (named done) e.0 (init_of e.1) ≡ named (done ++ e ∷ [])
insert_last done e more sorted = sym (named-insert_entry done e.0 e.1) ∙ ap named (insert_end done e more sorted)

pub ruleset views = (slice_get-map, named-insert_entry, named-lookup, names_of-named, length-named)
