-- Which JSON is live.
use Rattle.std.proofs.Common.{◌≡◌, ◌<◌, ℕ, Bool, true, false, cond, List, [], ◌∷◌, ◌++◌, map, Some, None, Less, nat_cmp, codes, refl, ap, ◌∙◌, sym, subst, arith}
use Rattle.std.specs.Cmp.Lexicographic.{slice_cmp}
use Rattle.std.specs.Ordering.{ordering_reverse}
use Rattle.std.specs.BTreeMap.{insert_entry}
use Rattle.std.specs.Map.{keys_of}
use Rattle.std.specs.List.{AllByRecursion}
use Rattle.std.specs.List.Sorted.{IsStrictlySortedBy}
use Rattle.std.specs.Str.{bytes_eq}
use Rattle.std.proofs.lemmas.Cmp.{nat_list_cmp_total}
use Rattle.room_json.specs.Value.{Value, nothing, flag, whole, text, list, members, no_fields, field, values_of, fields_of}
use Rattle.room_json.specs.View.{json_of, members_view}
use Rattle.room_json.specs.Weights.{weight}
use Rattle.room_json.specs.declared.tree.Json.{Json}
use Rattle.room_model.specs.Init.{Init, Plain, part, init}
use Rattle.room_props.specs.Inits as program
use Rattle.room_script.specs.Live.{init_of, init_named, parts_of, inits_of}
use Rattle.room_script.specs.Living.{only, live_named, live_entries}

-- one decision after the other

some_if : (a : Bool) (x p i : Init) → cond a (Some x) None ≡ Some i → cond a x p ≡ i
some_if true x p i e = cc
some_if false x p i e = cc

none_if : (a : Bool) (x p : Init) → cond a (Some x) None ≡ None → cond a x p ≡ p
none_if true x p e = cc
none_if false x p e = refl

some_ifs : (a b : Bool) (x y p i : Init) → cond a (Some x) (cond b (Some y) None) ≡ Some i → cond a x (cond b y p) ≡ i
some_ifs true b x y p i e = cc
some_ifs false b x y p i e = some_if b y p i e

none_ifs : (a b : Bool) (x y p : Init) → cond a (Some x) (cond b (Some y) None) ≡ None → cond a x (cond b y p) ≡ p
none_ifs true b x y p e = cc
none_ifs false b x y p e = none_if b y p e

named_some : (k : List ℕ) (u : Value) (i : Init) → live_named k u ≡ Some i → init_named k u ≡ i
named_some k nothing i e = cc
named_some k (flag b) i e = cc
named_some k (whole z) i e = cc
named_some k (text s) i e = cc
named_some k (list vs) i e = some_if (bytes_eq k (codes "$list")) _ _ i e
named_some k (members fs) i e = some_ifs (bytes_eq k (codes "$object")) (bytes_eq k (codes "$map")) _ _ _ i e

named_none : (k : List ℕ) (u : Value) → live_named k u ≡ None → init_named k u ≡ Plain (members (field k u no_fields))
named_none k nothing e = refl
named_none k (flag b) e = refl
named_none k (whole z) e = refl
named_none k (text s) e = refl
named_none k (list vs) e = none_if (bytes_eq k (codes "$list")) _ _ e
named_none k (members fs) e = none_ifs (bytes_eq k (codes "$object")) (bytes_eq k (codes "$map")) _ _ _ e

-- an object with more or fewer names, and every other value, is plain

some_inj : {A : Type 0} {a b : A} → Some a ≡ Some b → a ≡ b
some_inj e = cc

pub plain_by_shape : (v : Value) → only v ≡ None → init_of v ≡ Plain v
plain_by_shape nothing e = refl
plain_by_shape (flag b) e = refl
plain_by_shape (whole z) e = refl
plain_by_shape (text s) e = refl
plain_by_shape (list vs) e = refl
plain_by_shape (members no_fields) e = refl
plain_by_shape (members (field k u no_fields)) e = cc
plain_by_shape (members (field k u (field l w fs))) e = refl

pub plain_by_name : (v : Value) (p : List ℕ × Value) → only v ≡ Some p → live_named p.0 p.1 ≡ None → init_of v ≡ Plain v
plain_by_name nothing p e h = cc
plain_by_name (flag b) p e h = cc
plain_by_name (whole z) p e h = cc
plain_by_name (text s) p e h = cc
plain_by_name (list vs) p e h = cc
plain_by_name (members no_fields) p e h = cc
plain_by_name (members (field k u no_fields)) p e h =
    named_none k u (subst (λ (q : List ℕ × Value). live_named q.0 q.1 ≡ None) (sym (some_inj e)) h)
plain_by_name (members (field k u (field l w fs))) p e h = cc

pub live_by_name : (v : Value) (p : List ℕ × Value) (i : Init) → only v ≡ Some p → live_named p.0 p.1 ≡ Some i → init_of v ≡ i
live_by_name nothing p i e h = cc
live_by_name (flag b) p i e h = cc
live_by_name (whole z) p i e h = cc
live_by_name (text s) p i e h = cc
live_by_name (list vs) p i e h = cc
live_by_name (members no_fields) p i e h = cc
live_by_name (members (field k u no_fields)) p i e h =
    named_some k u i (subst (λ (q : List ℕ × Value). live_named q.0 q.1 ≡ Some i) (sym (some_inj e)) h)
live_by_name (members (field k u (field l w fs))) p i e h = cc

-- what an object has is smaller
pub one_is_smaller : (v : Value) (p : List ℕ × Value) → only v ≡ Some p → weight p.1 < weight v
one_is_smaller nothing p e = cc
one_is_smaller (flag b) p e = cc
one_is_smaller (whole z) p e = cc
one_is_smaller (text s) p e = cc
one_is_smaller (list vs) p e = cc
one_is_smaller (members no_fields) p e = cc
one_is_smaller (members (field k u no_fields)) p e =
    let same : weight u ≡ weight p.1 = ap (λ (q : List ℕ × Value). weight q.1) (some_inj e) in
    omega (arith, same)
one_is_smaller (members (field k u (field l w fs))) p e = cc

-- parts and items

abbrev pub Entry : Type 0
Entry = List ℕ × Json

pub parts_spelled : (es : List Entry) → program.parts_of (live_entries es) ≡ parts_of (fields_of (members_view es))
parts_spelled [] = refl
parts_spelled (e ∷ es) = ap (part e.0 (init_of (json_of e.1))) (parts_spelled es)

pub items_spelled : (js : List Json) → program.inits_of (map (λ j. init_of (json_of j)) js) ≡ inits_of (values_of (map json_of js))
items_spelled [] = refl
items_spelled (j ∷ js) = ap (init (init_of (json_of j))) (items_spelled js)

pub ruleset spelled = (parts_spelled, items_spelled)

-- a name that is above those before it goes last

above_by : (first e : Entry) (done more : List Entry) → AllByRecursion (λ n. slice_cmp nat_cmp first.0 n ≡ Less) (keys_of (done ++ e ∷ more)) → slice_cmp nat_cmp first.0 e.0 ≡ Less
above_by first e [] more h = h.0
above_by first e (d ∷ done) more h = above_by first e done more h.1

pub insert_last : (done : List Entry) (e : Entry) (more : List Entry) → IsStrictlySortedBy (slice_cmp nat_cmp) (keys_of (done ++ e ∷ more))
    → insert_entry (slice_cmp nat_cmp) (live_entries done) e.0 (init_of (json_of e.1)) ≡ live_entries (done ++ e ∷ [])
unfolding IsStrictlySortedBy
insert_last [] e more h = refl
insert_last (first ∷ done) e more h =
    rw (nat_list_cmp_total.antisymm e.0 first.0 ∙ ap ordering_reverse (above_by first e done more h.0))
    (ap (λ es. (first.0, init_of (json_of first.1)) ∷ es) (insert_last done e more h.1))
