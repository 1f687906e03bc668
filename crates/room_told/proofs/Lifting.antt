-- What changes at a node, seen from the root along the path to it.
use Rattle.std.proofs.Common.{◌≡◌, ◌≢◌, ℕ, suc, inl, inr, Bool, true, false, cond, List, [], ◌∷◌, ◌++◌, map, Option, Some, None, option_map, option_and_then, refl, sym, ap, ◌∙◌}
use Rattle.std.specs.Ordering.{nat_cmp, eq_by_cmp}
use Rattle.std.specs.Cmp.Lexicographic.{slice_cmp}
use Rattle.std.proofs.lemmas.Cmp.{nat_list_cmp_total}
use Rattle.std.specs.BTreeMap.{insert_entry, is_at}
use Rattle.std.specs.Map.{lookup}
use Rattle.std.specs.List.{slice_get, slice_set}
use Rattle.std.specs.FinMap.{get, entries, find, put}
use Rattle.std.specs.FinMap.Entries.{find-put, is_sorted-put}
use Rattle.room_json.specs.Value.{Value, list, members, values_of, fields_of}
use Rattle.room_json.proofs.Values.{values_list-values_of, fields_list-fields_of}
use Rattle.room_ids.specs.declared.ids.NodeId.{NodeId}
use Rattle.room_ids.specs.declared.ids.NodeId.TheVariants.{Root}
use Rattle.room_nodes.specs.declared.nodes.Node.{Node}
use Rattle.room_nodes.specs.declared.nodes.Kind.{Kind}
use Rattle.room_nodes.specs.declared.nodes.Kind.TheVariants.{Object, List as Listed, Map as Mapped, Register}
use Rattle.room_nodes.specs.Ordered.{IsOrderedKind, IsOrderedTree}
use Rattle.room_nodes.specs.Primitives.{kind_fields}
use Rattle.room_nodes.specs.Shape.{Nodes, IsFormed, child_at, children, is_below, is_list, is_register}
use Rattle.room_nodes.specs.Steps.{holds_list, with_fields}
use Rattle.room_nodes.proofs.Children.{text_exact}
use Rattle.room_nodes.proofs.Fitting.{the_parent}
use Rattle.room_nodes.proofs.Gets.{true_false}
use Rattle.room_nodes.proofs.Listing.{Has, find_has}
use Rattle.room_nodes.proofs.Places.{children_sorted}
use Rattle.room_nodes.proofs.StepForm.{FieldsOf}
use Rattle.room_steps.proofs.Fields.{key_self, one_name, same_name, sorted_of}
use Rattle.room_steps.proofs.Kin.{found}
use Rattle.room_items.specs.View.{kind_view, node_view, second, view_within}
use Rattle.room_items.proofs.Shown.{merged_sorted, shown_sorted}
use Rattle.room_model.specs.Notices.{Place, Key, Index, at_path, index_in, place_of, step_into, step_out}
use Rattle.room_told.proofs.Following.{Kid, IsChange, kids, one_key, same_parent, same_siblings, sibling_view, view_more}
use Rattle.room_told.proofs.Lists.{item_at, item_set}
use Rattle.room_told.proofs.Members.{Sorted, at, entry_put, first_of, found_map, found_with, lookup_at, merged_with, same_members}

-- a step of a path

abbrev pub Change : Type 0
Change = Value → Option Value

abbrev pub at_place : Place → Change → Change
at_place s f v = option_and_then (λ (w : Value). option_map (λ (y : Value). step_out s v y) (f w)) (step_into s v)

pub path_last : (ss : List Place) (s : Place) (f : Change) (v : Value) → at_path (ss ++ s ∷ []) f v ≡ at_path ss (at_place s f) v
path_last [] s f v = refl
path_last (r ∷ ss) s f v = λ i. option_and_then (λ (w : Value). option_map (λ (y : Value). step_out r v y) (path_last ss s f w i)) (step_into r v)

-- changed within a list

place_list : (f : Change) (i : ℕ) (vs : List Value) (w y : Value) → slice_get vs i ≡ Some w → f w ≡ Some y → at_place (Index i) f (list (values_of vs)) ≡ Some (list (values_of (slice_set vs i y)))
place_list f i vs w y here is =
    ap (λ (ws : List Value). option_and_then (λ (x : Value). option_map (λ (z : Value). list (values_of (slice_set ws i z))) (f x)) (slice_get ws i)) (values_list-values_of vs)
    ∙ ap (option_and_then (λ (x : Value). option_map (λ (z : Value). list (values_of (slice_set vs i z))) (f x))) here
    ∙ ap (option_map (λ (z : Value). list (values_of (slice_set vs i z)))) is

-- and within members

place_members : (f : Change) (k : List ℕ) (fs : FieldsOf) (w y : Value) → at k fs ≡ Some w → f w ≡ Some y → at_place (Key k) f (members (fields_of fs)) ≡ Some (members (fields_of (put (slice_cmp nat_cmp) k y fs)))
place_members f k fs w y here is =
    ap (λ (gs : FieldsOf). option_and_then (λ (x : Value). option_map (λ (z : Value). members (fields_of (insert_entry (slice_cmp nat_cmp) gs k z))) (f x)) (lookup (is_at (slice_cmp nat_cmp k)) gs)) (fields_list-fields_of fs)
    ∙ ap (option_and_then (λ (x : Value). option_map (λ (z : Value). members (fields_of (insert_entry (slice_cmp nat_cmp) fs k z))) (f x))) (lookup_at k fs ∙ here)
    ∙ ap (option_map (λ (z : Value). members (fields_of (insert_entry (slice_cmp nat_cmp) fs k z)))) is
    ∙ ap (λ gs. Some (members (fields_of gs))) (entry_put fs k y)

-- the view of a list, and that of members

second_map : (g : NodeId → Value) (cs : List Kid) → map second (map (λ (e : Kid). (e.0, g e.1)) cs) ≡ map (λ (e : Kid). g e.1) cs
second_map g [] = refl
second_map g (c ∷ cs) = ap (λ vs. g c.1 ∷ vs) (second_map g cs)

-- the items of a list
abbrev pub items : ℕ → Nodes → NodeId → List Value
items j t x = map (λ (e : Kid). view_within j t e.1) (children t x)

pub list_view : (j : ℕ) (t : Nodes) (x : NodeId) (kind : Kind) → is_list kind ≡ true → kind_view kind (kids j t x) ≡ list (values_of (items j t x))
list_view j t x (Object fs) e = cc
list_view j t x Listed e = ap (λ vs. list (values_of vs)) (second_map (view_within j t) (children t x))
list_view j t x Mapped e = cc
list_view j t x (Register v) e = cc

-- the members of an object or a map
abbrev pub shown : ℕ → Nodes → NodeId → Kind → FieldsOf
shown j t x kind = with_fields (kids j t x) (kind_fields kind)

pub kids_sorted : (j : ℕ) (t : Nodes) (x : NodeId) → Sorted (kids j t x)
kids_sorted j t x = shown_sorted t x (λ (e : Kid). view_within j t e.1)

pub members_view_of : (j : ℕ) (t : Nodes) (x : NodeId) (kind : Kind) → is_list kind ≡ false → is_register kind ≡ false → kind_view kind (kids j t x) ≡ members (fields_of (shown j t x kind))
members_view_of j t x (Object fs) e d = ap (λ gs. members (fields_of gs)) (merged_with fs (kids j t x))
members_view_of j t x Listed e d = cc
members_view_of j t x Mapped e d = ap (λ gs. members (fields_of gs)) (sym (merged_sorted (kids j t x) (kids_sorted j t x)) ∙ merged_with [] (kids j t x))
members_view_of j t x (Register v) e d = cc

pub sorted_with : (ms fs : FieldsOf) → Sorted fs → Sorted (with_fields ms fs)
sorted_with [] fs h = h
sorted_with (m ∷ ms) fs h = sorted_with ms (put (slice_cmp nat_cmp) m.0 m.1 fs) (is_sorted-put (slice_cmp nat_cmp) nat_list_cmp_total m.0 m.1 fs h)

pub fields_sorted : (kind : Kind) → IsOrderedKind kind → Sorted (kind_fields kind)
fields_sorted (Object fs) h = sorted_of fs h
fields_sorted Listed h = tt
fields_sorted Mapped h = tt
fields_sorted (Register v) h = tt

pub shown_ordered : (j : ℕ) (t : Nodes) (x : NodeId) (kind : Kind) → IsOrderedKind kind → Sorted (shown j t x kind)
shown_ordered j t x kind h = sorted_with (kids j t x) (kind_fields kind) (fields_sorted kind h)

-- what is found under a name: a child, or else a field
pub found_shown : (j : ℕ) (t : Nodes) (x : NodeId) (kind : Kind) (q : List ℕ) → at q (shown j t x kind) ≡ first_of (option_map (view_within j t) (child_at t x q)) (at q (kind_fields kind))
found_shown j t x kind q =
    found_with q (kids j t x) (kind_fields kind) (kids_sorted j t x) ∙ ap (λ o. first_of o (at q (kind_fields kind))) (found_map (view_within j t) q (children t x))

-- a level up

module _ (t u : Nodes) (z : NodeId) (G : NodeId → Type 0) (c : IsChange t u z G) (x : NodeId) (m : Node) (made : x ≢ Root) (here : get t x ≡ Some m) (leads : is_below t x z ≡ true) where
  f : IsFormed t
  f = c.before

  own : child_at t m.parent m.key ≡ Some x
  own = found t f m.parent m.key x (record { node = m; there = here; made = made; parent = refl; key = refl })

  listed : Has (m.key, x) (children t m.parent)
  listed = find_has (slice_cmp nat_cmp) text_exact m.key x (children t m.parent) own

  same_at : (q : List ℕ) → child_at u m.parent q ≡ child_at t m.parent q
  same_at q = ap (find (slice_cmp nat_cmp) q) (sym (same_siblings t u z G c x m made here leads))

  module _ (j : ℕ) (g : Change) (is : g (view_within j t x) ≡ Some (view_within j u x)) where
    in_list : (kind : Kind) → is_list kind ≡ true → at_place (Index (index_in t m.parent x)) g (kind_view kind (kids j t m.parent)) ≡ Some (kind_view kind (kids j u m.parent))
    in_list kind e =
        let before : Kid → Value = λ d. view_within j t d.1 in
        let after : Kid → Value = λ d. view_within j u d.1 in
        let s = children_sorted m.parent (entries t) in
        let one = one_key t u z G c x m made here leads in
        ap (at_place (Index (index_in t m.parent x)) g) (list_view j t m.parent kind e)
        ∙ place_list g (index_in t m.parent x) (items j t m.parent) (view_within j t x) (view_within j u x) (item_at x m.key before after (children t m.parent) s listed one) is
        ∙ ap (λ vs. Some (list (values_of vs))) (
        item_set x m.key before after (children t m.parent) s listed one (sibling_view t u z G c x m made here leads j)
        ∙ ap (map after) (same_siblings t u z G c x m made here leads))
        ∙ sym (ap Some (list_view j u m.parent kind e))

    beside : (q : List ℕ) → q ≢ m.key → (o : Option NodeId) → child_at t m.parent q ≡ o → option_map (view_within j t) o ≡ option_map (view_within j u) o
    beside q other None e = refl
    beside q other (Some d) e =
        let there = find_has (slice_cmp nat_cmp) text_exact q d (children t m.parent) e in
        ap Some (sibling_view t u z G c x m made here leads j (q, d) there (λ i. other (one_key t u z G c x m made here leads (q, d) there i)))

    named : (kind : Kind) (q : List ℕ) (b : Bool) → eq_by_cmp (slice_cmp nat_cmp) q m.key ≡ b → q ≡ m.key
        → cond b (Some (view_within j u x)) (at q (shown j t m.parent kind)) ≡ at q (shown j u m.parent kind)
    named kind q false e i = absurd (true_false (sym (ap (eq_by_cmp (slice_cmp nat_cmp) q) (sym i) ∙ key_self q) ∙ e))
    named kind q true e i =
        sym (found_shown j u m.parent kind q ∙ ap (λ o. first_of (option_map (view_within j u) o) (at q (kind_fields kind))) (same_at q ∙ ap (child_at t m.parent) i ∙ own))

    unnamed : (kind : Kind) (q : List ℕ) (b : Bool) → eq_by_cmp (slice_cmp nat_cmp) q m.key ≡ b → q ≢ m.key
        → cond b (Some (view_within j u x)) (at q (shown j t m.parent kind)) ≡ at q (shown j u m.parent kind)
    unnamed kind q true e i = absurd (i (same_name q m.key e))
    unnamed kind q false e i =
        found_shown j t m.parent kind q
        ∙ ap (λ o. first_of o (at q (kind_fields kind))) (beside q i (child_at t m.parent q) refl ∙ ap (option_map (view_within j u)) (sym (same_at q)))
        ∙ sym (found_shown j u m.parent kind q)

    in_members : (kind : Kind) → IsOrderedKind kind → is_list kind ≡ false → is_register kind ≡ false → at_place (Key m.key) g (kind_view kind (kids j t m.parent)) ≡ Some (kind_view kind (kids j u m.parent))
    in_members kind ordered e d =
        let w = view_within j u x in
        let fs = shown j t m.parent kind in
        let gs = shown j u m.parent kind in
        let held : at m.key fs ≡ Some (view_within j t x) = found_shown j t m.parent kind m.key ∙ ap (λ o. first_of (option_map (view_within j t) o) (at m.key (kind_fields kind))) own in
        ap (at_place (Key m.key) g) (members_view_of j t m.parent kind e d)
        ∙ place_members g m.key fs (view_within j t x) w held is
        ∙ ap (λ hs. Some (members (fields_of hs))) (
        same_members (put (slice_cmp nat_cmp) m.key w fs) gs (is_sorted-put (slice_cmp nat_cmp) nat_list_cmp_total m.key w fs (shown_ordered j t m.parent kind ordered)) (shown_ordered j u m.parent kind ordered) (λ q.
        find-put (slice_cmp nat_cmp) nat_list_cmp_total q m.key w fs
        ∙ elim (one_name q m.key) [ inl i ↦ named kind q _ refl i | inr i ↦ unnamed kind q _ refl i ]))
        ∙ sym (ap Some (members_view_of j u m.parent kind e d))

    place_by : (q : Node) → get t m.parent ≡ Some q → is_register q.kind ≡ false → IsOrderedKind q.kind → (b : Bool) → is_list q.kind ≡ b
        → at_place (cond b (Index (index_in t m.parent x)) (Key m.key)) g (kind_view q.kind (kids j t m.parent)) ≡ Some (kind_view q.kind (kids j u m.parent))
    place_by q e holds ordered true is = in_list q.kind is
    place_by q e holds ordered false is = in_members q.kind ordered is holds

    -- what changes at x changes with it the view of its parent
    pub lifted : IsOrderedTree t → at_place (place_of t x m) g (view_within (suc j) t m.parent) ≡ Some (view_within (suc j) u m.parent)
    lifted ordered =
        let p = the_parent t f x m made here in
        let q = p.0 in
        let at_q : view_within (suc j) t m.parent ≡ kind_view q.kind (kids j t m.parent) = view_more j t m.parent ∙ ap (λ o. node_view o (kids j t m.parent)) p.1 in
        let then_q : view_within (suc j) u m.parent ≡ kind_view q.kind (kids j u m.parent) =
        view_more j u m.parent ∙ sym (same_parent t u z G c x m made here leads (kids j u m.parent)) ∙ ap (λ o. node_view o (kids j u m.parent)) p.1 in
        ap (at_place (place_of t x m) g) at_q
        ∙ ap (λ b. at_place (cond b (Index (index_in t m.parent x)) (Key m.key)) g (kind_view q.kind (kids j t m.parent))) (ap holds_list p.1)
        ∙ place_by q p.1 p.2.holds (ordered m.parent q p.1) (is_list q.kind) refl
        ∙ sym (ap Some then_q)
