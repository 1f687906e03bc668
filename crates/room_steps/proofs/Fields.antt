-- Fields in order: those in which the same is found are the same, and an update that is taken back leaves them as they were.
use Rattle.std.proofs.Common.{◌≡◌, ◌≢◌, ◌⊎◌, inl, inr, ℕ, Bool, true, false, cond, not, ◌&&◌, T, List, [], ◌∷◌, ◌++◌, Option, Some, None, Ordering, Less, Equal, Greater, refl, sym, ap, ◌∙◌}
use Rattle.std.specs.Ordering.{nat_cmp, eq_by_cmp, is_eq, is_lt}
use Rattle.std.specs.Cmp.Lexicographic.{slice_cmp}
use Rattle.std.specs.List.{AllByRecursion}
use Rattle.std.specs.List.Sorted.{IsStrictlySortedBy}
use Rattle.std.specs.Map.{keys_of}
use Rattle.std.specs.FinMap.{find, put, is_sorted}
use Rattle.std.specs.FinMap.Entries.{below_all, is_sorted-put, is_sorted-where_key, find-put, find-where_key, same_entries}
use Rattle.std.proofs.lemmas.Cmp.{nat_list_cmp_total, tied_itself}
use Rattle.room_json.specs.Value.{Value}
use Rattle.room_nodes.specs.declared.nodes.Node.{Node}
use Rattle.room_nodes.specs.declared.nodes.Kind.TheVariants.{Object}
use Rattle.room_nodes.specs.Steps.{with_fields, without_field}
use Rattle.room_nodes.proofs.Gets.{some_none, true_false}
use Rattle.room_nodes.proofs.Listing.{is_equal, less_of, parts}
use Rattle.room_nodes.proofs.Children.{text_exact}
use Rattle.room_nodes.proofs.StepForm.{FieldsOf}
use Rattle.room_nodes.specs.Ordered.{AreOrdered}
use Rattle.room_nodes.specs.Reversal.{field_in, old_field, old_fields}
use Rattle.room_steps.proofs.Booleans.{by_no}

-- the order as a test

less_holds : (o : Ordering) (b : Bool) → o ≡ Less → T b → T (is_lt o && b)
less_holds Less b e h = h
less_holds Equal b e h = cc
less_holds Greater b e h = cc

together : (a b : Bool) → T a → T b → T (a && b)
together true b g h = h
together false b g h = g

below_of : (k : List ℕ) (fs : FieldsOf) → AllByRecursion (λ j. slice_cmp nat_cmp k j ≡ Less) (keys_of fs) → T (below_all (slice_cmp nat_cmp) k fs)
below_of k [] h = tt
below_of k (f ∷ fs) h = less_holds (slice_cmp nat_cmp k f.0) _ h.0 (below_of k fs h.1)

above_of : (k : List ℕ) (fs : FieldsOf) → T (below_all (slice_cmp nat_cmp) k fs) → AllByRecursion (λ j. slice_cmp nat_cmp k j ≡ Less) (keys_of fs)
above_of k [] h = tt
above_of k (f ∷ fs) h = let p = less_of (slice_cmp nat_cmp k f.0) _ h in (p.0, above_of k fs p.1)

pub sorted_of : (fs : FieldsOf) → AreOrdered fs → T (is_sorted (slice_cmp nat_cmp) fs)
unfolding IsStrictlySortedBy
sorted_of [] h = tt
sorted_of (f ∷ fs) h = together (below_all (slice_cmp nat_cmp) f.0 fs) _ (below_of f.0 fs h.0) (sorted_of fs h.1)

pub ordered_of : (fs : FieldsOf) → T (is_sorted (slice_cmp nat_cmp) fs) → AreOrdered fs
unfolding IsStrictlySortedBy
ordered_of [] h = tt
ordered_of (f ∷ fs) h = let p = parts (below_all (slice_cmp nat_cmp) f.0 fs) _ h in (above_of f.0 fs p.0, ordered_of fs p.1)

pub ordered_put : (k : List ℕ) (v : Value) (fs : FieldsOf) → AreOrdered fs → AreOrdered (put (slice_cmp nat_cmp) k v fs)
ordered_put k v fs h = ordered_of (put (slice_cmp nat_cmp) k v fs) (is_sorted-put (slice_cmp nat_cmp) nat_list_cmp_total k v fs (sorted_of fs h))

pub ordered_without : (k : List ℕ) (fs : FieldsOf) → AreOrdered fs → AreOrdered (without_field k fs)
ordered_without k fs h = ordered_of (without_field k fs) (is_sorted-where_key (slice_cmp nat_cmp) (λ x. not (eq_by_cmp (slice_cmp nat_cmp) k x)) fs (sorted_of fs h))

pub ordered_with : (es fs : FieldsOf) → AreOrdered fs → AreOrdered (with_fields es fs)
ordered_with [] fs h = h
ordered_with (e ∷ es) fs h = ordered_with es (put (slice_cmp nat_cmp) e.0 e.1 fs) (ordered_put e.0 e.1 fs h)

-- fields in order in which the same is found are the same
pub same_fields : (es fs : FieldsOf) → AreOrdered es → AreOrdered fs → ((q : List ℕ) → find (slice_cmp nat_cmp) q es ≡ find (slice_cmp nat_cmp) q fs) → es ≡ fs
same_fields es fs g h is = same_entries (slice_cmp nat_cmp) nat_list_cmp_total text_exact es fs (sorted_of es g) (sorted_of fs h) is

-- names, as one or two

pub key_self : (k : List ℕ) → eq_by_cmp (slice_cmp nat_cmp) k k ≡ true
key_self k = ap is_eq (tied_itself nat_list_cmp_total k)

pub same_name : (j k : List ℕ) → eq_by_cmp (slice_cmp nat_cmp) j k ≡ true → j ≡ k
same_name j k e = text_exact j k (is_equal _ e)

key_apart : (q k : List ℕ) → q ≢ k → eq_by_cmp (slice_cmp nat_cmp) q k ≡ false
key_apart q k n = by_no (eq_by_cmp (slice_cmp nat_cmp) q k) (λ e. n (same_name q k e))

pub one_name : (q k : List ℕ) → (q ≡ k) ⊎ (q ≢ k)
one_name q k = elim (eq_by_cmp (slice_cmp nat_cmp) q k) as (λ b. eq_by_cmp (slice_cmp nat_cmp) q k ≡ b → (q ≡ k) ⊎ (q ≢ k)) [
  | true ↦ λ e. inl (same_name q k e)
  | false ↦ λ e. inr (λ is. true_false (sym (key_self q) ∙ ap (eq_by_cmp (slice_cmp nat_cmp) q) is ∙ e))
] refl

-- what is found after a field came or went

pub found_put : (k : List ℕ) (v : Value) (fs : FieldsOf) → find (slice_cmp nat_cmp) k (put (slice_cmp nat_cmp) k v fs) ≡ Some v
found_put k v fs = find-put (slice_cmp nat_cmp) nat_list_cmp_total k k v fs ∙ ap (λ b. cond b (Some v) (find (slice_cmp nat_cmp) k fs)) (key_self k)

pub beside_put : (q k : List ℕ) (v : Value) (fs : FieldsOf) → q ≢ k → find (slice_cmp nat_cmp) q (put (slice_cmp nat_cmp) k v fs) ≡ find (slice_cmp nat_cmp) q fs
beside_put q k v fs n = find-put (slice_cmp nat_cmp) nat_list_cmp_total q k v fs ∙ ap (λ b. cond b (Some v) (find (slice_cmp nat_cmp) q fs)) (key_apart q k n)

pub find_without : (q k : List ℕ) (fs : FieldsOf) → find (slice_cmp nat_cmp) q (without_field k fs) ≡ cond (not (eq_by_cmp (slice_cmp nat_cmp) k q)) (find (slice_cmp nat_cmp) q fs) None
find_without q k fs = find-where_key (slice_cmp nat_cmp) (λ x. not (eq_by_cmp (slice_cmp nat_cmp) k x)) q (λ x e. ap (λ y. not (eq_by_cmp (slice_cmp nat_cmp) k y)) (sym (text_exact q x e))) fs

found_without : (k : List ℕ) (fs : FieldsOf) → find (slice_cmp nat_cmp) k (without_field k fs) ≡ None
found_without k fs = find_without k k fs ∙ ap (λ b. cond (not b) (find (slice_cmp nat_cmp) k fs) None) (key_self k)

pub beside_without : (q k : List ℕ) (fs : FieldsOf) → k ≢ q → find (slice_cmp nat_cmp) q (without_field k fs) ≡ find (slice_cmp nat_cmp) q fs
beside_without q k fs n = find_without q k fs ∙ ap (λ b. cond (not b) (find (slice_cmp nat_cmp) q fs) None) (key_apart k q n)

keep_step : (b : Bool) (v : Value) (o : Option Value) (f : List ℕ × Value) (fs left : FieldsOf) → cond b (Some v) o ≡ None → (o ≡ None → left ≡ fs) → cond (not b) (f ∷ left) left ≡ f ∷ fs
keep_step true v o f fs left e more = absurd (some_none v e)
keep_step false v o f fs left e more = ap (λ gs. f ∷ gs) (more e)

-- a name that is no field takes nothing out
pub without_none : (k : List ℕ) (fs : FieldsOf) → find (slice_cmp nat_cmp) k fs ≡ None → without_field k fs ≡ fs
without_none k [] e = refl
without_none k (f ∷ fs) e = keep_step (eq_by_cmp (slice_cmp nat_cmp) k f.0) f.1 (find (slice_cmp nat_cmp) k fs) f fs (without_field k fs) e (without_none k fs)

-- a field that went and comes back
pub put_back : (k : List ℕ) (v : Value) (fs : FieldsOf) → AreOrdered fs → find (slice_cmp nat_cmp) k fs ≡ Some v → put (slice_cmp nat_cmp) k v (without_field k fs) ≡ fs
put_back k v fs h e = same_fields (put (slice_cmp nat_cmp) k v (without_field k fs)) fs (ordered_put k v (without_field k fs) (ordered_without k fs h)) h (λ q. elim (one_name q k) [
  | inl is ↦ ap (λ j. find (slice_cmp nat_cmp) j (put (slice_cmp nat_cmp) k v (without_field k fs))) is ∙ found_put k v (without_field k fs) ∙ sym e ∙ ap (λ j. find (slice_cmp nat_cmp) j fs) (sym is)
  | inr n ↦ beside_put q k v (without_field k fs) n ∙ beside_without q k fs (λ is. n (sym is))
])

-- an update and its reversal

-- a name among those of fields
abbrev pub Named : List ℕ → FieldsOf → Type 0
Named k [] = ⊥
Named k (e ∷ es) = (e.0 ≡ k) ⊎ Named k es

-- of the fields gs: the old values of the names of fs that were fields
abbrev pub olds : FieldsOf → FieldsOf → FieldsOf
olds gs [] = []
olds gs (f ∷ fs) = old_field f.0 (find (slice_cmp nat_cmp) f.0 gs) ++ olds gs fs

abbrev pub cleaned_by : Option Value → List ℕ → FieldsOf → FieldsOf
cleaned_by None k hs = without_field k hs
cleaned_by (Some v) k hs = hs

-- the fields hs without those names of fs that were no fields in gs
abbrev pub cleaned : FieldsOf → FieldsOf → FieldsOf → FieldsOf
cleaned gs [] hs = hs
cleaned gs (f ∷ fs) hs = cleaned gs fs (cleaned_by (find (slice_cmp nat_cmp) f.0 gs) f.0 hs)

pub olds_are : (n : Node) (gs fs : FieldsOf) → n.kind ≡ Object gs → old_fields (Some n) fs ≡ olds gs fs
olds_are n gs [] e = refl
olds_are n gs (f ∷ fs) e = λ i. old_field f.0 (field_in f.0 (e i)) ++ olds_are n gs fs e i

named_step : (gs : FieldsOf) (f : List ℕ × Value) (es : FieldsOf) (k : List ℕ) (o : Option Value) → find (slice_cmp nat_cmp) f.0 gs ≡ o → Named k (old_field f.0 o ++ es)
    → (Named k es → (v : Value) × (find (slice_cmp nat_cmp) k gs ≡ Some v)) → (v : Value) × (find (slice_cmp nat_cmp) k gs ≡ Some v)
named_step gs f es k None e h more = more h
named_step gs f es k (Some v) e h more = elim h [
  | inl is ↦ (v, ap (λ j. find (slice_cmp nat_cmp) j gs) (sym is) ∙ e)
  | inr m ↦ more m
]

-- what has an old value was a field
pub olds_named : (gs fs : FieldsOf) (k : List ℕ) → Named k (olds gs fs) → (v : Value) × (find (slice_cmp nat_cmp) k gs ≡ Some v)
olds_named gs [] k h = absurd h
olds_named gs (f ∷ fs) k h = named_step gs f (olds gs fs) k (find (slice_cmp nat_cmp) f.0 gs) refl h (olds_named gs fs k)

named_or_not : (k : List ℕ) (fs : FieldsOf) → Named k fs ⊎ (Named k fs → ⊥)
named_or_not k [] = inr (λ h. h)
named_or_not k (f ∷ fs) = elim (one_name f.0 k) [
  | inl is ↦ inl (inl is)
  | inr n ↦ elim (named_or_not k fs) [
    | inl m ↦ inl (inr m)
    | inr none ↦ inr (λ h. elim h [ inl is ↦ n is | inr m ↦ none m ])
  ]
]

with_append : (ds es hs : FieldsOf) → with_fields (ds ++ es) hs ≡ with_fields es (with_fields ds hs)
with_append [] es hs = refl
with_append (d ∷ ds) es hs = with_append ds es (put (slice_cmp nat_cmp) d.0 d.1 hs)

none_by : (b : Bool) (o : Option Value) → o ≡ None → cond b o None ≡ None
none_by true o e = e
none_by false o e = refl

-- what is found under one name
module _ (gs : FieldsOf) (q : List ℕ) where
  pub with_beside : (es hs : FieldsOf) → (Named q es → ⊥) → find (slice_cmp nat_cmp) q (with_fields es hs) ≡ find (slice_cmp nat_cmp) q hs
  with_beside [] hs n = refl
  with_beside (e ∷ es) hs n = with_beside es (put (slice_cmp nat_cmp) e.0 e.1 hs) (λ m. n (inr m)) ∙ beside_put q e.0 e.1 hs (λ is. n (inl (sym is)))

  -- a name that was a field
  module _ (v : Value) (e : find (slice_cmp nat_cmp) q gs ≡ Some v) where
    old_is : (k : List ℕ) → k ≡ q → find (slice_cmp nat_cmp) k gs ≡ Some v
    old_is k is = ap (λ j. find (slice_cmp nat_cmp) j gs) is ∙ e

    kept_by : (k : List ℕ) (o : Option Value) (hs : FieldsOf) → find (slice_cmp nat_cmp) k gs ≡ o → find (slice_cmp nat_cmp) q (cleaned_by o k hs) ≡ find (slice_cmp nat_cmp) q hs
    kept_by k None hs g = beside_without q k hs (λ is. some_none v (sym (old_is k is) ∙ g))
    kept_by k (Some w) hs g = refl

    cleaned_keeps : (fs hs : FieldsOf) → find (slice_cmp nat_cmp) q (cleaned gs fs hs) ≡ find (slice_cmp nat_cmp) q hs
    cleaned_keeps [] hs = refl
    cleaned_keeps (f ∷ fs) hs = cleaned_keeps fs (cleaned_by (find (slice_cmp nat_cmp) f.0 gs) f.0 hs) ∙ kept_by f.0 (find (slice_cmp nat_cmp) f.0 gs) hs refl

    held_put : (k : List ℕ) (w : Value) (hs : FieldsOf) → find (slice_cmp nat_cmp) k gs ≡ Some w → find (slice_cmp nat_cmp) q hs ≡ Some v → find (slice_cmp nat_cmp) q (put (slice_cmp nat_cmp) k w hs) ≡ Some v
    held_put k w hs g h = elim (one_name q k) [
      | inl is ↦ ap (λ j. find (slice_cmp nat_cmp) j (put (slice_cmp nat_cmp) k w hs)) is ∙ found_put k w hs ∙ sym g ∙ old_is k (sym is)
      | inr n ↦ beside_put q k w hs n ∙ h
    ]

    held_by : (k : List ℕ) (o : Option Value) (hs : FieldsOf) → find (slice_cmp nat_cmp) k gs ≡ o → find (slice_cmp nat_cmp) q hs ≡ Some v → find (slice_cmp nat_cmp) q (with_fields (old_field k o) hs) ≡ Some v
    held_by k None hs g h = h
    held_by k (Some w) hs g h = held_put k w hs g h

    -- its old value stays
    olds_hold : (fs hs : FieldsOf) → find (slice_cmp nat_cmp) q hs ≡ Some v → find (slice_cmp nat_cmp) q (with_fields (olds gs fs) hs) ≡ Some v
    olds_hold [] hs h = h
    olds_hold (f ∷ fs) hs h =
        let o = find (slice_cmp nat_cmp) f.0 gs in
        ap (find (slice_cmp nat_cmp) q) (with_append (old_field f.0 o) (olds gs fs) hs) ∙ olds_hold fs (with_fields (old_field f.0 o) hs) (held_by f.0 o hs refl h)

    back_by : (k : List ℕ) (hs : FieldsOf) → k ≡ q → find (slice_cmp nat_cmp) q (with_fields (old_field k (find (slice_cmp nat_cmp) k gs)) hs) ≡ Some v
    back_by k hs is =
        ap (λ o. find (slice_cmp nat_cmp) q (with_fields (old_field k o) hs)) (old_is k is)
        ∙ ap (λ j. find (slice_cmp nat_cmp) j (put (slice_cmp nat_cmp) k v hs)) (sym is) ∙ found_put k v hs

    -- and comes back
    olds_back : (fs hs : FieldsOf) → Named q fs → find (slice_cmp nat_cmp) q (with_fields (olds gs fs) hs) ≡ Some v
    olds_back [] hs m = absurd m
    olds_back (f ∷ fs) hs m =
        let now = with_fields (old_field f.0 (find (slice_cmp nat_cmp) f.0 gs)) hs in
        ap (find (slice_cmp nat_cmp) q) (with_append (old_field f.0 (find (slice_cmp nat_cmp) f.0 gs)) (olds gs fs) hs)
        ∙ elim m [ inl is ↦ olds_hold fs now (back_by f.0 hs is) | inr m ↦ olds_back fs now m ]

    restored_old : (fs : FieldsOf) → find (slice_cmp nat_cmp) q (with_fields (olds gs fs) (with_fields fs gs)) ≡ Some v
    restored_old fs = elim (named_or_not q fs) [
      | inl m ↦ olds_back fs (with_fields fs gs) m
      | inr n ↦ olds_hold fs (with_fields fs gs) (with_beside fs gs n ∙ e)
    ]

  -- a name that was no field
  none_step : (k : List ℕ) (o : Option Value) (hs : FieldsOf) → find (slice_cmp nat_cmp) q hs ≡ None → find (slice_cmp nat_cmp) q (cleaned_by o k hs) ≡ None
  none_step k None hs h = find_without q k hs ∙ none_by _ _ h
  none_step k (Some w) hs h = h

  cleaned_none : (fs hs : FieldsOf) → find (slice_cmp nat_cmp) q hs ≡ None → find (slice_cmp nat_cmp) q (cleaned gs fs hs) ≡ None
  cleaned_none [] hs h = h
  cleaned_none (f ∷ fs) hs h = cleaned_none fs (cleaned_by (find (slice_cmp nat_cmp) f.0 gs) f.0 hs) (none_step f.0 (find (slice_cmp nat_cmp) f.0 gs) hs h)

  module _ (e : find (slice_cmp nat_cmp) q gs ≡ None) where
    gone_by : (k : List ℕ) (hs : FieldsOf) → k ≡ q → find (slice_cmp nat_cmp) q (cleaned_by (find (slice_cmp nat_cmp) k gs) k hs) ≡ None
    gone_by k hs is =
        ap (λ o. find (slice_cmp nat_cmp) q (cleaned_by o k hs)) (ap (λ j. find (slice_cmp nat_cmp) j gs) is ∙ e)
        ∙ ap (λ j. find (slice_cmp nat_cmp) j (without_field k hs)) (sym is) ∙ found_without k hs

    cleaned_gone : (fs hs : FieldsOf) → Named q fs → find (slice_cmp nat_cmp) q (cleaned gs fs hs) ≡ None
    cleaned_gone [] hs m = absurd m
    cleaned_gone (f ∷ fs) hs m =
        let now = cleaned_by (find (slice_cmp nat_cmp) f.0 gs) f.0 hs in
        elim m [ inl is ↦ cleaned_none fs now (gone_by f.0 hs is) | inr m ↦ cleaned_gone fs now m ]

    restored_none : (fs : FieldsOf) → find (slice_cmp nat_cmp) q (cleaned gs fs (with_fields (olds gs fs) (with_fields fs gs))) ≡ None
    restored_none fs = elim (named_or_not q fs) [
      | inl m ↦ cleaned_gone fs (with_fields (olds gs fs) (with_fields fs gs)) m
      | inr n ↦ cleaned_none fs (with_fields (olds gs fs) (with_fields fs gs))
          (with_beside (olds gs fs) (with_fields fs gs) (λ m. let o = olds_named gs fs q m in some_none o.0 (sym o.1 ∙ e)) ∙ with_beside fs gs n ∙ e)
    ]

  restored_at : (fs : FieldsOf) (o : Option Value) → find (slice_cmp nat_cmp) q gs ≡ o → find (slice_cmp nat_cmp) q (cleaned gs fs (with_fields (olds gs fs) (with_fields fs gs))) ≡ o
  restored_at fs None e = restored_none e fs
  restored_at fs (Some v) e = cleaned_keeps v e fs (with_fields (olds gs fs) (with_fields fs gs)) ∙ restored_old v e fs

ordered_by : (k : List ℕ) (o : Option Value) (hs : FieldsOf) → AreOrdered hs → AreOrdered (cleaned_by o k hs)
ordered_by k None hs h = ordered_without k hs h
ordered_by k (Some v) hs h = h

ordered_cleaned : (gs fs hs : FieldsOf) → AreOrdered hs → AreOrdered (cleaned gs fs hs)
ordered_cleaned gs [] hs h = h
ordered_cleaned gs (f ∷ fs) hs h = ordered_cleaned gs fs (cleaned_by (find (slice_cmp nat_cmp) f.0 gs) f.0 hs) (ordered_by f.0 (find (slice_cmp nat_cmp) f.0 gs) hs h)

-- the old values back, and the new names out
pub restored_fields : (gs fs : FieldsOf) → AreOrdered gs → cleaned gs fs (with_fields (olds gs fs) (with_fields fs gs)) ≡ gs
restored_fields gs fs h =
    let hs = with_fields (olds gs fs) (with_fields fs gs) in
    same_fields (cleaned gs fs hs) gs (ordered_cleaned gs fs hs (ordered_with (olds gs fs) (with_fields fs gs) (ordered_with fs gs h))) h
    (λ q. restored_at gs q fs (find (slice_cmp nat_cmp) q gs) refl)
