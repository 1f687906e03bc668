-- Names that are set and unset in the view of an object or a map.
use Rattle.std.proofs.Common.{◌≡◌, ◌≢◌, ◌-◌, ℕ, ◌⊎◌, inl, inr, true, false, cond, not, List, [], ◌∷◌, Option, Some, None, option_map, refl, sym, ap, ◌∙◌}
use Rattle.std.specs.Ordering.{nat_cmp, eq_by_cmp}
use Rattle.std.specs.Cmp.Lexicographic.{slice_cmp}
use Rattle.std.specs.FinMap.{put}
use Rattle.room_json.specs.Value.{Value, members, merged, fields_of}
use Rattle.room_json.proofs.Values.{fields_list-fields_of}
use Rattle.room_ids.specs.declared.ids.NodeId.{NodeId}
use Rattle.room_nodes.specs.declared.nodes.Node.{Node}
use Rattle.room_nodes.specs.declared.nodes.Kind.{Kind}
use Rattle.room_nodes.specs.declared.nodes.Kind.TheVariants.{Object, List as Listed, Map as Mapped, Register}
use Rattle.room_nodes.specs.Ordered.{IsOrderedKind, IsOrderedTree}
use Rattle.room_nodes.specs.Primitives.{kind_fields}
use Rattle.room_nodes.specs.Shape.{Nodes, has_field, is_list, is_object, is_register}
use Rattle.room_nodes.specs.Steps.{fields_kind, with_fields, without_field}
use Rattle.room_nodes.proofs.Fitting.{none_of}
use Rattle.room_nodes.proofs.StepForm.{FieldsOf}
use Rattle.room_steps.proofs.Fields.{Named, beside_put, beside_without, find_without, found_put, key_self, one_name, ordered_of, ordered_without, sorted_of, with_beside}
use Rattle.room_steps.proofs.Kin.{IsChild}
use Rattle.room_items.specs.View.{view, view_within}
use Rattle.room_model.specs.Notices.{at_path, path_of, set_names, without_names}
use Rattle.room_told.proofs.Editing.{IsEdit, NoneNew, changes, new_at, none_at, same_value}
use Rattle.room_told.proofs.Lifting.{found_shown, members_view_of, shown, shown_ordered, sorted_with}
use Rattle.room_told.proofs.Members.{Sorted, at, entry_gone, first_of, found_set, merged_with, same_members}
use Rattle.room_told.proofs.Rising.{followed}

-- of members alone

set_only : (ms fs : FieldsOf) → set_names ms [] (members (fields_of fs)) ≡ Some (members (fields_of (with_fields ms fs)))
set_only ms fs = ap (λ gs. Some (members (fields_of (merged gs ms)))) (fields_list-fields_of fs) ∙ ap (λ gs. Some (members (fields_of gs))) (merged_with fs ms)

unset_one : (k : List ℕ) (fs : FieldsOf) → Sorted fs → set_names [] (k ∷ []) (members (fields_of fs)) ≡ Some (members (fields_of (without_field k fs)))
unset_one k fs h =
    ap (λ gs. Some (members (fields_of (without_names (k ∷ []) gs)))) (fields_list-fields_of fs)
    ∙ ap (λ gs. Some (members (fields_of gs))) (entry_gone k fs h)

sorted_without : (k : List ℕ) (fs : FieldsOf) → Sorted fs → Sorted (without_field k fs)
sorted_without k fs h = sorted_of (without_field k fs) (ordered_without k fs (ordered_of fs h))

named_or_not : (k : List ℕ) (fs : FieldsOf) → Named k fs ⊎ (Named k fs → ⊥)
named_or_not k [] = inr (λ h. h)
named_or_not k (f ∷ fs) = elim (one_name f.0 k) [
  | inl is ↦ inl (inl is)
  | inr n ↦ elim (named_or_not k fs) [
    | inl m ↦ inl (inr m)
    | inr none ↦ inr (λ h. elim h [ inl is ↦ n is | inr m ↦ none m ])
  ]
]

-- fields of kinds

pub object_fields : (g : FieldsOf → FieldsOf) (kind : Kind) → is_object kind ≡ true → kind_fields (fields_kind g kind) ≡ g (kind_fields kind)
object_fields g (Object fs) e = refl
object_fields g Listed e = cc
object_fields g Mapped e = cc
object_fields g (Register v) e = cc

pub fields_without : (k : List ℕ) (kind : Kind) → kind_fields (fields_kind (without_field k) kind) ≡ without_field k (kind_fields kind)
fields_without k (Object fs) = refl
fields_without k Listed = refl
fields_without k Mapped = refl
fields_without k (Register v) = refl

pub plain_none : (k : List ℕ) (kind : Kind) → has_field k kind ≡ false → at k (kind_fields kind) ≡ None
plain_none k (Object fs) e = none_of (at k fs) e
plain_none k Listed e = refl
plain_none k Mapped e = refl
plain_none k (Register v) e = refl

module _ (t u : Nodes) (z : NodeId) (G : NodeId → Type 0) (kind : Kind) (new : Option (NodeId × Node)) (c : IsEdit t u z G kind new) (ordered : IsOrderedTree t) (after : IsOrderedKind kind)
    (list : is_list c.node.kind ≡ false) (holds : is_register c.node.kind ≡ false) (list_after : is_list kind ≡ false) (holds_after : is_register kind ≡ false) where
  abbrev old_members : FieldsOf
  old_members = shown (59 - c.node.depth) t z c.node.kind

  abbrev new_members : FieldsOf
  new_members = shown (59 - c.node.depth) u z kind

  old_sorted : Sorted old_members
  old_sorted = shown_ordered (59 - c.node.depth) t z c.node.kind (ordered z c.node c.there)

  new_sorted : Sorted new_members
  new_sorted = shown_ordered (59 - c.node.depth) u z kind after

  -- names that are set
  pub sets : (ms : FieldsOf) → ((q : List ℕ) → at q (with_fields ms old_members) ≡ at q new_members) → at_path (path_of t z) (set_names ms []) (view t) ≡ Some (view u)
  sets ms h = followed t u z G (changes t u z G kind new c) ordered (record c.node { kind = kind }) c.here refl (set_names ms []) (
      ap (set_names ms []) (members_view_of (59 - c.node.depth) t z c.node.kind list holds)
      ∙ set_only ms old_members
      ∙ ap (λ fs. Some (members (fields_of fs))) (same_members (with_fields ms old_members) new_members (sorted_with ms old_members old_sorted) new_sorted h)
      ∙ sym (ap Some (members_view_of (59 - c.node.depth) u z kind list_after holds_after)))

  -- a name that goes
  pub unsets : (k : List ℕ) → ((q : List ℕ) → at q (without_field k old_members) ≡ at q new_members) → at_path (path_of t z) (set_names [] (k ∷ [])) (view t) ≡ Some (view u)
  unsets k h = followed t u z G (changes t u z G kind new c) ordered (record c.node { kind = kind }) c.here refl (set_names [] (k ∷ [])) (
      ap (set_names [] (k ∷ [])) (members_view_of (59 - c.node.depth) t z c.node.kind list holds)
      ∙ unset_one k old_members old_sorted
      ∙ ap (λ fs. Some (members (fields_of fs))) (same_members (without_field k old_members) new_members (sorted_without k old_members old_sorted) new_sorted h)
      ∙ sym (ap Some (members_view_of (59 - c.node.depth) u z kind list_after holds_after)))

  abbrev Goes : List ℕ → Type 0
  Goes q = (e : NodeId) → IsChild t z q e → G e

  abbrev Stays : List ℕ → Type 0
  Stays q = (e : NodeId) → IsChild t z q e → G e → ⊥

  -- under a name at which nothing comes or goes, where the field is as it was
  stays_found : (q : List ℕ) → NoneNew t u z G kind new c q → Stays q → at q (kind_fields kind) ≡ at q (kind_fields c.node.kind) → at q old_members ≡ at q new_members
  stays_found q none stay same =
      found_shown (59 - c.node.depth) t z c.node.kind q
      ∙ (λ i. first_of (sym (same_value t u z G kind new c (59 - c.node.depth) q none stay) i) (sym same i))
      ∙ sym (found_shown (59 - c.node.depth) u z kind q)

  -- where the child goes
  gone_found : (q : List ℕ) → NoneNew t u z G kind new c q → Goes q → at q new_members ≡ at q (kind_fields kind)
  gone_found q none goes =
      found_shown (59 - c.node.depth) u z kind q
      ∙ ap (λ o. first_of (option_map (view_within (59 - c.node.depth) u) o) (at q (kind_fields kind))) (none_at t u z G kind new c q none goes)

  -- one name goes
  pub goes : (k : List ℕ) → ((q : List ℕ) → NoneNew t u z G kind new c q) → Goes k → ((q : List ℕ) → q ≢ k → Stays q) → at k (kind_fields kind) ≡ None
      → ((q : List ℕ) → q ≢ k → at q (kind_fields kind) ≡ at q (kind_fields c.node.kind)) → at_path (path_of t z) (set_names [] (k ∷ [])) (view t) ≡ Some (view u)
  goes k none leave stay gone same = unsets k (λ q. find_without q k old_members ∙ elim (one_name q k) [
    | inl i ↦
        ap (λ b. cond (not b) (at q old_members) None) (ap (eq_by_cmp (slice_cmp nat_cmp) k) i ∙ key_self k)
        ∙ sym (ap (λ j. at j new_members) i ∙ gone_found k (none k) leave ∙ gone)
    | inr other ↦ sym (find_without q k old_members) ∙ beside_without q k old_members (λ i. other (sym i)) ∙ stays_found q (none q) (stay q other) (same q other)
  ])

  -- names are set whose children go
  pub named_set : (ms : FieldsOf) → ((q : List ℕ) → NoneNew t u z G kind new c q) → ((q : List ℕ) → Named q ms → Goes q) → ((q : List ℕ) → (Named q ms → ⊥) → Stays q)
      → kind_fields kind ≡ with_fields ms (kind_fields c.node.kind) → at_path (path_of t z) (set_names ms []) (view t) ≡ Some (view u)
  named_set ms none goes stay is = sets ms (λ q. elim (named_or_not q ms) [
    | inl m ↦
        found_set q ms old_members (kind_fields c.node.kind) m
        ∙ sym (gone_found q (none q) (goes q m) ∙ ap (at q) is)
    | inr m ↦
        with_beside [] q ms old_members m
        ∙ stays_found q (none q) (stay q m) (ap (at q) is ∙ with_beside [] q ms (kind_fields c.node.kind) m)
  ])

  -- a node comes at a name
  pub comes : (x : NodeId) (n : Node) → new ≡ Some (x, n) → (a : Value) → view_within (59 - c.node.depth) u x ≡ a → ((q : List ℕ) → q ≢ n.key → NoneNew t u z G kind new c q) → ((q : List ℕ) → q ≢ n.key → Stays q)
      → ((q : List ℕ) → q ≢ n.key → at q (kind_fields kind) ≡ at q (kind_fields c.node.kind)) → at_path (path_of t z) (set_names ((n.key, a) ∷ []) []) (view t) ≡ Some (view u)
  comes x n is a shows none stay same = sets ((n.key, a) ∷ []) (λ q. elim (one_name q n.key) [
    | inl i ↦
        ap (λ j. at j (put (slice_cmp nat_cmp) n.key a old_members)) i ∙ found_put n.key a old_members
        ∙ sym (ap (λ j. at j new_members) i ∙ found_shown (59 - c.node.depth) u z kind n.key
        ∙ ap (λ o. first_of (option_map (view_within (59 - c.node.depth) u) o) (at n.key (kind_fields kind))) (new_at t u z G kind new c x n is)
        ∙ ap (λ v. Some v) shows)
    | inr other ↦ beside_put q n.key a old_members other ∙ stays_found q (none q other) (stay q other) (same q other)
  ])
