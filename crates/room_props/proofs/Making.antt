-- What makes nodes, one after another.
use Rattle.std.proofs.Common.{◌≡◌, ◌+◌, ℕ, Bool, true, false, cond, List, [], ◌∷◌, ◌++◌, Option, Some, None, Less, refl, sym, ap, ◌∙◌, subst, arith, append_assoc, append-nil}
use Rattle.std.specs.Ordering.{nat_cmp}
use Rattle.std.specs.Cmp.Lexicographic.{slice_cmp}
use Rattle.std.specs.BTreeMap.{insert_entry}
use Rattle.std.specs.List.{AllByRecursion}
use Rattle.std.specs.List.Sorted.{IsStrictlySortedBy}
use Rattle.std.specs.Map.{keys_of}
use Rattle.room_json.specs.Value.{Value, merged}
use Rattle.room_json.proofs.Again.{json_again}
use Rattle.room_json.proofs.Spelled.{insert_pair_last}
use Rattle.room_ids.specs.Position.{after as after_position}
use Rattle.room_ids.specs.declared.ids.NodeId.{NodeId}
use Rattle.room_nodes.specs.declared.nodes.Body.{Body}
use Rattle.room_model.specs.Init.{Init, Plain, AnObject, AMap, AList, Parts, no_parts, part, Inits, init, is_plain, nodes_in, plain_field, plain_fields, creates, live_creates, part_creates, item_creates}
use Rattle.room_props.specs.Inits.{init_of, parts_of, named}
use Rattle.room_props.specs.Weighing.{following}
use Rattle.room_props.proofs.Views.{Entry}

pub behind : (bs : List Body) (b : Body) (cs : List Body) → (bs ++ b ∷ []) ++ cs ≡ bs ++ b ∷ cs
behind bs b cs = append_assoc bs (b ∷ []) cs

-- a step of a loop over parts or items: what the loop has made, and what it is to make

pub part_step : (a d c e : ℕ) (x : NodeId) (k j : List ℕ) (i : Init) (ps : Parts) (old new all : List Body) → d ≡ a → e ≡ c + nodes_in i → j ≡ k
    → new ≡ old ++ creates a c x j None i → old ++ part_creates a c x (part k i ps) ≡ all → new ++ part_creates d e x ps ≡ all
part_step a d c e x k j i ps old new all actor clock key made h =
    let more : old ++ (creates a c x k None i ++ part_creates a (c + nodes_in i) x ps) ≡ all = h in
    let joined = append_assoc old (creates a c x k None i) (part_creates a (c + nodes_in i) x ps) in
    cc

live_by : (b : Bool) (bs : List Body) (f : ℕ → List Body) (n c : ℕ) → b ≡ false → (cond b [] bs) ++ f (c + cond b 0 n) ≡ bs ++ f (c + n)
live_by true bs f n c h = cc
live_by false bs f n c h = refl

plain_by : (b : Bool) (bs : List Body) (f : ℕ → List Body) (n c : ℕ) → b ≡ true → (cond b [] bs) ++ f (c + cond b 0 n) ≡ f c
plain_by true bs f n c h = ap f (omega arith)
plain_by false bs f n c h = cc

pub live_step : (a d c e : ℕ) (x : NodeId) (k j : List ℕ) (i : Init) (ps : Parts) (old new all : List Body) → is_plain i ≡ false → d ≡ a → e ≡ c + nodes_in i → j ≡ k
    → new ≡ old ++ creates a c x j None i → old ++ live_creates a c x (part k i ps) ≡ all → new ++ live_creates d e x ps ≡ all
live_step a d c e x k j i ps old new all live actor clock key made h =
    let more : old ++ (creates a c x k None i ++ live_creates a (c + nodes_in i) x ps) ≡ all =
    sym (ap (λ bs. old ++ bs) (live_by (is_plain i) (creates a c x k None i) (λ d. live_creates a d x ps) (nodes_in i) c live)) ∙ h in
    let joined = append_assoc old (creates a c x k None i) (live_creates a (c + nodes_in i) x ps) in
    cc

pub plain_step : (a c : ℕ) (x : NodeId) (k : List ℕ) (i : Init) (ps : Parts) (old all : List Body) → is_plain i ≡ true
    → old ++ live_creates a c x (part k i ps) ≡ all → old ++ live_creates a c x ps ≡ all
plain_step a c x k i ps old all plain h =
    sym (ap (λ bs. old ++ bs) (plain_by (is_plain i) (creates a c x k None i) (λ d. live_creates a d x ps) (nodes_in i) c plain)) ∙ h

pub item_step : (a d c e : ℕ) (x : NodeId) (o : Option (List ℕ)) (k j : List ℕ) (i : Init) (is : Inits) (old new all : List Body) → d ≡ a → e ≡ c + nodes_in i → k ≡ following o → j ≡ k
    → new ≡ old ++ creates a c x j None i → old ++ item_creates a c x (following o) (init i is) ≡ all → new ++ item_creates d e x (following (Some k)) is ≡ all
item_step a d c e x o k j i is old new all actor clock place key made h =
    let here : old ++ item_creates a c x k (init i is) ≡ all = subst (λ (p : List ℕ). old ++ item_creates a c x p (init i is) ≡ all) (sym place) h in
    let more : old ++ (creates a c x k None i ++ item_creates a (c + nodes_in i) x (after_position k) is) ≡ all = here in
    let joined = append_assoc old (creates a c x k None i) (item_creates a (c + nodes_in i) x (after_position k) is) in
    let made_here : new ≡ old ++ creates a c x k None i = made ∙ ap (λ (p : List ℕ). old ++ creates a c x p None i) key in
    let numbers : item_creates d e x (after_position k) is ≡ item_creates a (c + nodes_in i) x (after_position k) is = cc in
    ap (λ bs. bs ++ item_creates d e x (after_position k) is) made_here ∙ ap (λ bs. (old ++ creates a c x k None i) ++ bs) numbers ∙ joined ∙ more

-- the plain members of a live object stand in order

abbrev Members : Type 0
Members = List (List ℕ × Value)

below_by : (k j : List ℕ) (i : Init) (fs : Members) → slice_cmp nat_cmp k j ≡ Less → AllByRecursion (λ n. slice_cmp nat_cmp k n ≡ Less) (keys_of fs) → AllByRecursion (λ n. slice_cmp nat_cmp k n ≡ Less) (keys_of (plain_field j i ++ fs))
below_by k j (Plain v) fs l h = (l, h)
below_by k j (AnObject ps) fs l h = h
below_by k j (AMap ps) fs l h = h
below_by k j (AList is) fs l h = h

plain_below : (k : List ℕ) (es : List Entry) → AllByRecursion (λ n. slice_cmp nat_cmp k n ≡ Less) (keys_of es) → AllByRecursion (λ n. slice_cmp nat_cmp k n ≡ Less) (keys_of (plain_fields (parts_of (named es))))
plain_below k [] h = tt
plain_below k (e ∷ es) h = below_by k e.0 (init_of e.1) (plain_fields (parts_of (named es))) h.0 (plain_below k es h.1)

ordered_by : (k : List ℕ) (i : Init) (fs : Members) → AllByRecursion (λ n. slice_cmp nat_cmp k n ≡ Less) (keys_of fs) → IsStrictlySortedBy (slice_cmp nat_cmp) (keys_of fs) → IsStrictlySortedBy (slice_cmp nat_cmp) (keys_of (plain_field k i ++ fs))
unfolding IsStrictlySortedBy
ordered_by k (Plain v) fs b h = (b, h)
ordered_by k (AnObject ps) fs b h = h
ordered_by k (AMap ps) fs b h = h
ordered_by k (AList is) fs b h = h

plain_ordered : (es : List Entry) → IsStrictlySortedBy (slice_cmp nat_cmp) (keys_of es) → IsStrictlySortedBy (slice_cmp nat_cmp) (keys_of (plain_fields (parts_of (named es))))
unfolding IsStrictlySortedBy
plain_ordered [] h = tt
plain_ordered (e ∷ es) h = ordered_by e.0 (init_of e.1) (plain_fields (parts_of (named es))) (plain_below e.0 es h.0) (plain_ordered es h.1)

merged_end : (done more : Members) → IsStrictlySortedBy (slice_cmp nat_cmp) (keys_of (done ++ more)) → merged done more ≡ done ++ more
merged_end done [] h = sym (append-nil done)
merged_end done (m ∷ more) h =
    let on = append_assoc done (m ∷ []) more in
    ap (λ into. merged into more) (insert_pair_last done m more h)
    ∙ merged_end (done ++ m ∷ []) more (subst (λ ms. IsStrictlySortedBy (slice_cmp nat_cmp) (keys_of ms)) (sym on) h)
    ∙ on

pub fields_end : (es : List Entry) → IsStrictlySortedBy (slice_cmp nat_cmp) (keys_of es) → merged [] (plain_fields (parts_of (named es))) ≡ plain_fields (parts_of (named es))
fields_end es h = merged_end [] (plain_fields (parts_of (named es))) (plain_ordered es h)

pub ruleset made = (json_again, behind)
