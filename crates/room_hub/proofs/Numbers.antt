-- Numbers of connections: what was given, and what is ahead.
use Rattle.std.proofs.Common.{◌≡◌, ◌≤◌, ◌+◌, ℕ, true, false, ◌&&◌, ◌||◌, ◌==◌, not, max, List, [], ◌∷◌, ◌++◌, drop, refl, sym, ap, ◌∙◌, subst, arith, append_assoc, append-nil}
use Rattle.room_edge.specs.Memory.{is_among}
use Rattle.room_hub.specs.declared.hub.Event.{Event}
use Rattle.room_hub.specs.declared.hub.Event.TheVariants.{Opened, Frame, Gone, Quiet, End}
use Rattle.room_hub.specs.declared.hub.Deed.{Deed}
use Rattle.room_hub.specs.declared.hub.Deed.TheVariants.{Dialled}
use Rattle.room_hub.specs.declared.hub.Happening.{Happening}
use Rattle.room_hub.specs.declared.hub.Happening.TheVariants.{Gave, Did, Failed}
use Rattle.room_hub.specs.Happening.{deeds_in, opens, opened_in, dials, numbers_of, numbers, are_new, are_at_most}
use Rattle.room_hub.specs.Memory.{greatest, first_of, Keeps}

-- lists

pub deeds_append : (hs ks : List Happening) → deeds_in (hs ++ ks) ≡ deeds_in hs ++ deeds_in ks
deeds_append [] ks = refl
deeds_append (Gave e ∷ hs) ks = deeds_append hs ks
deeds_append (Did d ∷ hs) ks = ap (λ l. d ∷ l) (deeds_append hs ks)
deeds_append (Failed ∷ hs) ks = deeds_append hs ks

pub numbers_append : (hs ks : List Happening) → numbers (hs ++ ks) ≡ numbers hs ++ numbers ks
numbers_append [] ks = refl
numbers_append (h ∷ hs) ks = ap (λ l. numbers_of h ++ l) (numbers_append hs ks) ∙ sym (append_assoc (numbers_of h) (numbers hs) (numbers ks))

numbers_then : (hs : List Happening) (h : Happening) → numbers (hs ++ h ∷ []) ≡ numbers hs ++ numbers_of h
numbers_then hs h = numbers_append hs (h ∷ []) ∙ ap (λ l. numbers hs ++ l) (append-nil (numbers_of h))

-- the greatest

pub greatest_opens : (e : Event) (ns : List ℕ) → greatest (opens e ++ ns) ≡ max (greatest (opens e)) (greatest ns)
greatest_opens (Opened conn key) ns = grind arith
greatest_opens (Frame conn text) ns = grind arith
greatest_opens (Gone conn) ns = grind arith
greatest_opens Quiet ns = grind arith
greatest_opens End ns = grind arith

most_append : (last : ℕ) (ns ms : List ℕ) → are_at_most last ns ≡ true → are_at_most last ms ≡ true → are_at_most last (ns ++ ms) ≡ true
most_append last [] ms p q = q
most_append last (n ∷ ns) ms p q = grind (arith, most_append last ns ms)

most_front : (last : ℕ) (ns ms : List ℕ) → are_at_most last (ns ++ ms) ≡ true → are_at_most last ns ≡ true
most_front last [] ms p = refl
most_front last (n ∷ ns) ms p = grind (arith, most_front last ns ms)

most_back : (last : ℕ) (ns ms : List ℕ) → are_at_most last (ns ++ ms) ≡ true → are_at_most last ms ≡ true
most_back last [] ms p = p
most_back last (n ∷ ns) ms p = grind (arith, most_back last ns ms)

most_above : (last more : ℕ) (ns : List ℕ) → last ≤ more → are_at_most last ns ≡ true → are_at_most more ns ≡ true
most_above last more [] h p = refl
most_above last more (n ∷ ns) h p = grind (arith, most_above last more ns)

pub most_greatest : (ns : List ℕ) → are_at_most (greatest ns) ns ≡ true
most_greatest [] = refl
most_greatest (n ∷ ns) = grind (arith, most_above (greatest ns) (max n (greatest ns)) ns, most_greatest ns)

-- new numbers

among_append : (n : ℕ) (ks js : List ℕ) → is_among n (ks ++ js) ≡ (is_among n ks || is_among n js)
among_append n [] js = refl
among_append n (k ∷ ks) js = grind (arith, among_append n ks js)

-- that numbers are new asks only what is among the first ones
new_alike : (ks js ns : List ℕ) → ((n : ℕ) → is_among n ks ≡ is_among n js) → are_new ks ns ≡ are_new js ns
new_alike ks js [] h = refl
new_alike ks js (n ∷ ns) h =
    let deeper : are_new (n ∷ ks) ns ≡ are_new (n ∷ js) ns = new_alike (n ∷ ks) (n ∷ js) ns (λ m. ap (λ b. (n == m) || b) (h m)) in
    ap (λ b. not b && are_new (n ∷ ks) ns) (h n) ∙ ap (λ b. not (is_among n js) && b) deeper

among_swapped : (k : ℕ) (ks : List ℕ) (n : ℕ) → is_among n (k ∷ ks) ≡ is_among n (ks ++ k ∷ [])
among_swapped k ks n = grind (arith, among_append n ks (k ∷ []))

new_swapped : (k : ℕ) (ks ns : List ℕ) → are_new (k ∷ ks) ns ≡ true → are_new (ks ++ k ∷ []) ns ≡ true
new_swapped k ks ns h = sym (new_alike (k ∷ ks) (ks ++ k ∷ []) ns (among_swapped k ks)) ∙ h

new_first : (ks : List ℕ) (n : ℕ) (ns : List ℕ) → are_new ks (n ∷ ns) ≡ true → are_new ks (n ∷ []) ≡ true
new_first ks n ns h = grind arith

new_rest : (ks : List ℕ) (n : ℕ) (ns : List ℕ) → are_new ks (n ∷ ns) ≡ true → are_new (n ∷ ks) ns ≡ true
new_rest ks n ns h = grind arith

pub new_front : (ks ns : List ℕ) (e : Event) → are_new ks (opens e ++ ns) ≡ true → are_new ks (opens e) ≡ true
new_front ks ns (Opened conn key) h = new_first ks conn ns h
new_front ks ns (Frame conn text) h = refl
new_front ks ns (Gone conn) h = refl
new_front ks ns Quiet h = refl
new_front ks ns End h = refl

new_back : (ks ns : List ℕ) (e : Event) → are_new ks (opens e ++ ns) ≡ true → are_new (ks ++ opens e) ns ≡ true
new_back ks ns (Opened conn key) h = new_swapped conn ks ns (new_rest ks conn ns h)
new_back ks ns (Frame conn text) h = subst (λ l. are_new l ns ≡ true) (sym (append-nil ks)) h
new_back ks ns (Gone conn) h = subst (λ l. are_new l ns ≡ true) (sym (append-nil ks)) h
new_back ks ns Quiet h = subst (λ l. are_new l ns ≡ true) (sym (append-nil ks)) h
new_back ks ns End h = subst (λ l. are_new l ns ≡ true) (sym (append-nil ks)) h

behind_last : (last : ℕ) (ks : List ℕ) → are_at_most last ks ≡ true → is_among (last + 1) ks ≡ false
behind_last last [] h = refl
behind_last last (k ∷ ks) h = grind (arith, behind_last last ks)

pub new_behind : (last : ℕ) (ks : List ℕ) → are_at_most last ks ≡ true → are_new ks ((last + 1) ∷ []) ≡ true
new_behind last ks h = grind (arith, behind_last last ks)

-- a number above all that are ahead
new_beside : (last : ℕ) (ks ns : List ℕ) → are_at_most last ns ≡ true → are_new ks ns ≡ true → are_new ((last + 1) ∷ ks) ns ≡ true
new_beside last ks [] h f = refl
new_beside last ks (n ∷ ns) h f =
    let deeper : are_new ((last + 1) ∷ n ∷ ks) ns ≡ true = new_beside last (n ∷ ks) ns (grind arith) (grind arith) in
    let swapped : are_new (n ∷ (last + 1) ∷ ks) ns ≡ true = sym (new_alike ((last + 1) ∷ n ∷ ks) (n ∷ (last + 1) ∷ ks) ns (λ m. grind arith)) ∙ deeper in
    grind arith

-- what is kept

pub kept_first : (es : List Event) (last : ℕ) → are_new [] (opened_in es) ≡ true → last ≡ greatest (opened_in es) → Keeps last [] es []
kept_first es last h e = record {
  told = refl;
  bound = refl;
  ahead = subst (λ n. are_at_most n (opened_in es) ≡ true) (sym e) (most_greatest (opened_in es));
  fresh = h;
}

pub kept_gave : (last : ℕ) (hs : List Happening) (es : List Event) (ds : List Deed) → Keeps last hs es ds → Keeps last (hs ++ Gave (first_of es) ∷ []) (drop 1 es) ds
kept_gave last hs [] ds h = record {
  told = deeds_append hs (Gave End ∷ []) ∙ append-nil (deeds_in hs) ∙ h.told;
  bound = subst (λ l. are_at_most last l ≡ true) (sym (numbers_then hs (Gave End) ∙ append-nil (numbers hs))) h.bound;
  ahead = refl;
  fresh = refl;
}
kept_gave last hs (e ∷ es) ds h = record {
  told = deeds_append hs (Gave e ∷ []) ∙ append-nil (deeds_in hs) ∙ h.told;
  bound = subst (λ l. are_at_most last l ≡ true) (sym (numbers_then hs (Gave e))) (most_append last (numbers hs) (opens e) h.bound (most_front last (opens e) (opened_in es) h.ahead));
  ahead = most_back last (opens e) (opened_in es) h.ahead;
  fresh = subst (λ l. are_new l (opened_in es) ≡ true) (sym (numbers_then hs (Gave e))) (new_back (numbers hs) (opened_in es) e h.fresh);
}

pub kept_noted : (last : ℕ) (hs : List Happening) (es : List Event) (ds : List Deed) (d : Deed) → dials d ≡ [] → Keeps last hs es ds → Keeps last (hs ++ Did d ∷ []) es (ds ++ d ∷ [])
kept_noted last hs es ds d none h =
    let same : numbers (hs ++ Did d ∷ []) ≡ numbers hs = numbers_then hs (Did d) ∙ ap (λ l. numbers hs ++ l) none ∙ append-nil (numbers hs) in
    record {
      told = deeds_append hs (Did d ∷ []) ∙ ap (λ l. l ++ d ∷ []) h.told;
      bound = subst (λ l. are_at_most last l ≡ true) (sym same) h.bound;
      ahead = h.ahead;
      fresh = subst (λ l. are_new l (opened_in es) ≡ true) (sym same) h.fresh;
    }

pub kept_dialled : (last : ℕ) (hs : List Happening) (es : List Event) (ds : List Deed) → Keeps last hs es ds → Keeps (last + 1) (hs ++ Did (Dialled (last + 1)) ∷ []) es (ds ++ Dialled (last + 1) ∷ [])
kept_dialled last hs es ds h = record {
  told = deeds_append hs (Did (Dialled (last + 1)) ∷ []) ∙ ap (λ l. l ++ Dialled (last + 1) ∷ []) h.told;
  bound =
      subst (λ l. are_at_most (last + 1) l ≡ true) (sym (numbers_then hs (Did (Dialled (last + 1)))))
      (most_append (last + 1) (numbers hs) ((last + 1) ∷ []) (most_above last (last + 1) (numbers hs) (omega arith) h.bound) (grind arith));
  ahead = most_above last (last + 1) (opened_in es) (omega arith) h.ahead;
  fresh =
      subst (λ l. are_new l (opened_in es) ≡ true) (sym (numbers_then hs (Did (Dialled (last + 1)))))
      (new_swapped (last + 1) (numbers hs) (opened_in es) (new_beside last (numbers hs) (opened_in es) h.ahead h.fresh));
}

pub kept_failed : (last : ℕ) (hs hs1 hs2 : List Happening) (es : List Event) (ds : List Deed) → hs2 ≡ hs1 ++ Failed ∷ [] → hs1 ≡ hs → Keeps last hs es ds → Keeps last hs2 es ds
kept_failed last hs hs1 hs2 es ds is2 is1 h =
    let all : hs2 ≡ hs ++ Failed ∷ [] = is2 ∙ ap (λ l. l ++ Failed ∷ []) is1 in
    let same : numbers (hs ++ Failed ∷ []) ≡ numbers hs = numbers_then hs Failed ∙ append-nil (numbers hs) in
    subst (λ l. Keeps last l es ds) (sym all) (record {
      told = deeds_append hs (Failed ∷ []) ∙ append-nil (deeds_in hs) ∙ h.told;
      bound = subst (λ l. are_at_most last l ≡ true) (sym same) h.bound;
      ahead = h.ahead;
      fresh = subst (λ l. are_new l (opened_in es) ≡ true) (sym same) h.fresh;
    })

-- what is given is new

pub gave_new : (last : ℕ) (hs : List Happening) (es : List Event) (ds : List Deed) → Keeps last hs es ds → are_new (numbers hs) (opens (first_of es)) ≡ true
gave_new last hs [] ds h = refl
gave_new last hs (e ∷ es) ds h = new_front (numbers hs) (opened_in es) e h.fresh

pub dialled_new : (last : ℕ) (hs : List Happening) (es : List Event) (ds : List Deed) → Keeps last hs es ds → are_new (numbers hs) ((last + 1) ∷ []) ≡ true
dialled_new last hs es ds h = new_behind last (numbers hs) h.bound

-- the same by equations

pub gave_as : (last : ℕ) (hs hs1 hs2 : List Happening) (es fs : List Event) (ds : List Deed) (e f : Event) →
    hs2 ≡ hs1 ++ Gave f ∷ [] → hs1 ≡ hs → f ≡ e → e ≡ first_of es → fs ≡ drop 1 es → Keeps last hs es ds → Keeps last hs2 fs ds
gave_as last hs hs1 hs2 es fs ds e f is2 is1 same first rest h =
    let all : hs2 ≡ hs ++ Gave (first_of es) ∷ [] = is2 ∙ ap (λ l. l ++ Gave f ∷ []) is1 ∙ ap (λ x. hs ++ Gave x ∷ []) (same ∙ first) in
    subst (λ l. Keeps last l fs ds) (sym all) (subst (λ l. Keeps last (hs ++ Gave (first_of es) ∷ []) l ds) (sym rest) (kept_gave last hs es ds h))

pub dialled_as : (last n : ℕ) (hs hs1 hs2 : List Happening) (es : List Event) (ds ds1 : List Deed) →
    hs2 ≡ hs1 ++ Did (Dialled n) ∷ [] → hs1 ≡ hs → n ≡ last + 1 → ds1 ≡ ds ++ Dialled n ∷ [] → Keeps last hs es ds → Keeps n hs2 es ds1
dialled_as last n hs hs1 hs2 es ds ds1 is2 is1 next dids h =
    let all : hs2 ≡ hs ++ Did (Dialled n) ∷ [] = is2 ∙ ap (λ l. l ++ Did (Dialled n) ∷ []) is1 in
    subst (λ l. Keeps n l es ds1) (sym all) (subst (λ l. Keeps n (hs ++ Did (Dialled n) ∷ []) es l) (sym dids)
    (subst (λ k. Keeps k (hs ++ Did (Dialled k) ∷ []) es (ds ++ Dialled k ∷ [])) (sym next) (kept_dialled last hs es ds h)))
