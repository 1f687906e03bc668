-- Members that stand in order.
use Rattle.std.proofs.Common.{◌≡◌, inl, inr, ℕ, Bool, true, false, ◌&&◌, T, List, [], ◌∷◌, ◌++◌, map, refl, sym, ap, ◌∙◌, subst, append_assoc, append-nil}
use Rattle.std.specs.BTreeMap.{insert_entry}
use Rattle.std.specs.Cmp.Lexicographic.{slice_cmp}
use Rattle.std.specs.FinMap.{is_sorted, entries}
use Rattle.std.specs.FinMap.Entries.{below_all}
use Rattle.std.specs.Ordering.{nat_cmp, is_lt, ordering_reverse}
use Rattle.std.proofs.lemmas.Cmp.{nat_list_cmp_total}
use Rattle.room_json.specs.Value.{Value, merged}
use Rattle.room_json.specs.View.{json_of, members_view}
use Rattle.room_json.specs.declared.tree.Json.{Json}
use Rattle.room_ids.specs.declared.ids.NodeId.{NodeId}
use Rattle.room_nodes.specs.Shape.{Nodes, children}
use Rattle.room_nodes.proofs.Children.{text_exact}
use Rattle.room_nodes.proofs.Listing.{Has, has_above, parts}
use Rattle.room_nodes.proofs.Places.{children_sorted}

abbrev pub Pair : Type 0
Pair = List ℕ × Value

has_middle : (done : List Pair) (e : Pair) (rest : List Pair) → Has e (done ++ e ∷ rest)
has_middle [] e rest = inl refl
has_middle (d ∷ done) e rest = inr (has_middle done e rest)

insert_after : (done : List Pair) (e : Pair) (rest : List Pair) → T (is_sorted (slice_cmp nat_cmp) (done ++ e ∷ rest)) → insert_entry (slice_cmp nat_cmp) done e.0 e.1 ≡ done ++ e ∷ []
insert_after [] e rest h = refl
insert_after (d ∷ done) e rest h =
    let p = parts (below_all (slice_cmp nat_cmp) d.0 (done ++ e ∷ rest)) _ h in
    let below = has_above (slice_cmp nat_cmp) text_exact nat_list_cmp_total d.0 e (done ++ e ∷ rest) p.0 (has_middle done e rest) in
    rw (nat_list_cmp_total.antisymm e.0 d.0 ∙ ap ordering_reverse below) (ap (λ es. d ∷ es) (insert_after done e rest p.1))

merged_on : (done rest : List Pair) → T (is_sorted (slice_cmp nat_cmp) (done ++ rest)) → merged done rest ≡ done ++ rest
merged_on done [] h = sym (append-nil done)
merged_on done (e ∷ rest) h =
    ap (λ es. merged es rest) (insert_after done e rest h)
    ∙ merged_on (done ++ e ∷ []) rest (subst (λ es. T (is_sorted (slice_cmp nat_cmp) es)) (sym (append_assoc done (e ∷ []) rest)) h)
    ∙ append_assoc done (e ∷ []) rest

pub merged_sorted : (es : List Pair) → T (is_sorted (slice_cmp nat_cmp) es) → merged [] es ≡ es
merged_sorted es h = merged_on [] es h

both_of : (a b : Bool) → T a → T b → T (a && b)
both_of true b x y = y
both_of false b x y = x

-- values in the places of others

module _ {X : Type 0} (f : List ℕ × X → Value) where
  below_map : (k : List ℕ) (es : List (List ℕ × X)) → T (below_all (slice_cmp nat_cmp) k es) → T (below_all (slice_cmp nat_cmp) k (map (λ e. (e.0, f e)) es))
  below_map k [] h = tt
  below_map k (e ∷ es) h = let p = parts (is_lt (slice_cmp nat_cmp k e.0)) _ h in both_of (is_lt (slice_cmp nat_cmp k e.0)) _ p.0 (below_map k es p.1)

  sorted_map : (es : List (List ℕ × X)) → T (is_sorted (slice_cmp nat_cmp) es) → T (is_sorted (slice_cmp nat_cmp) (map (λ e. (e.0, f e)) es))
  sorted_map [] h = tt
  sorted_map (e ∷ es) h = let p = parts (below_all (slice_cmp nat_cmp) e.0 es) _ h in both_of (below_all (slice_cmp nat_cmp) e.0 (map (λ e. (e.0, f e)) es)) _ (below_map e.0 es p.0) (sorted_map es p.1)

pub shown_sorted : (t : Nodes) (p : NodeId) (f : List ℕ × NodeId → Value) → T (is_sorted (slice_cmp nat_cmp) (map (λ e. (e.0, f e)) (children t p)))
shown_sorted t p f = sorted_map f (children t p) (children_sorted p (entries t))

pub members_append : (es fs : List (List ℕ × Json)) → members_view (es ++ fs) ≡ members_view es ++ members_view fs
members_append [] fs = refl
members_append (e ∷ es) fs = ap (λ ms. (e.0, json_of e.1) ∷ ms) (members_append es fs)
