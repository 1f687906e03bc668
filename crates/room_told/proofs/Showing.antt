-- The notices of each operation give the view behind it.
use Rattle.std.proofs.Common.{◌≡◌, ◌≢◌, ◌+◌, ◌-◌, ◌<◌, ℕ, inl, inr, Bool, true, false, cond, not, ◌||◌, List, [], ◌∷◌, ◌++◌, Option, Some, None, is_some, refl, sym, ap, ◌∙◌, subst, arith}
use Rattle.std.specs.FinMap.{get, insert}
use Rattle.room_json.specs.Value.{Value, nothing}
use Rattle.room_ids.specs.Order.{is_same}
use Rattle.room_ids.specs.declared.ids.NodeId.{NodeId}
use Rattle.room_ids.specs.declared.ids.NodeId.TheVariants.{Root}
use Rattle.room_nodes.specs.declared.nodes.Node.{Node}
use Rattle.room_nodes.specs.declared.nodes.Kind.{Kind}
use Rattle.room_nodes.specs.declared.nodes.Kind.TheVariants.{Object, List as Listed, Map as Mapped, Register}
use Rattle.room_nodes.specs.declared.nodes.Body.{Body}
use Rattle.room_nodes.specs.declared.nodes.Body.TheVariants.{SetKey, Create, Update, Delete, DeleteKey}
use Rattle.room_nodes.specs.Ordered.{IsOrderedKind, IsOrderedTree}
use Rattle.room_nodes.specs.Primitives.{kind_fields}
use Rattle.room_nodes.specs.Shape.{Nodes, IsFormed, child_at, has_field, is_list, is_object, is_register, parent_of, removed, up}
use Rattle.room_nodes.specs.Steps.{changed, changed_at, cleared, depth_in, effect, fields_kind, has_room, holds_list, holds_object, is_under, is_void, on_fields, with_fields, without, without_child, without_children, without_field, without_replaced}
use Rattle.room_nodes.proofs.Children.{child_at_some}
use Rattle.room_nodes.proofs.Fitting.{Fits, none_of, some_of, the_parent, the_root}
use Rattle.room_nodes.proofs.Formed.{formed-removed}
use Rattle.room_nodes.proofs.Gets.{kept, same_self, some_inj, true_false}
use Rattle.room_nodes.proofs.StepForm.{FieldsOf, at_node, effect-create, formed-cleared, object_same, object_there}
use Rattle.room_nodes.proofs.Steps.{neither, not_false, room_there}
use Rattle.room_steps.proofs.Cutting.{IsNamed}
use Rattle.room_steps.proofs.Fields.{Named, beside_without, find_without, key_self, ordered_with, ordered_without}
use Rattle.room_steps.proofs.Keeping.{of_kind}
use Rattle.room_steps.proofs.Kin.{IsChild, found}
use Rattle.room_steps.proofs.Restoring.{put_same, without_node}
use Rattle.room_tree.proofs.Skipping.{under_some}
use Rattle.room_items.specs.View.{view, view_within}
use Rattle.room_model.specs.Notices.{Place, Notice, Fields, Insert, Take, Move, alone, applied, apply_all, apply_while, at_path, body_notices, created_notices, deleted_notices, has_field_at, holds_map, index_in, insert_item, keyed, moved_notices, or_stays, path_of, replaced_taken, set_names, take_item}
use Rattle.room_told.proofs.Actions.{NamedKid, added_edit, cut_edit, itself, no_new, removed_edit}
use Rattle.room_told.proofs.Editing.{IsEdit, changes}
use Rattle.room_told.proofs.Itemized.{insert_shows, move_shows, take_shows}
use Rattle.room_told.proofs.Keyed.{comes, fields_without, goes, named_set, object_fields, plain_none}
use Rattle.room_told.proofs.Members.{at}
use Rattle.room_told.proofs.Rising.{new_view, same_path}

-- lists of notices

abbrev pub Shows : Nodes → Nodes → List Notice → Type 0
Shows t u ns = apply_all ns (view t) ≡ (view u, true)

pub first_shows : (t w u : Nodes) (n : Notice) (ns : List Notice) → applied n (view t) ≡ Some (view w) → Shows w u ns → Shows t u (n ∷ ns)
first_shows t w u n ns e h = ap (λ o. apply_while (or_stays (view t) o).1 ns (or_stays (view t) o).0) e ∙ h

pub one_shows : (t u : Nodes) (n : Notice) → applied n (view t) ≡ Some (view u) → Shows t u (n ∷ [])
one_shows t u n e = first_shows t u u n [] e refl

keyed_applied : (b : Bool) (path : List Place) (set : FieldsOf) (unset : List (List ℕ)) (v : Value) → applied (keyed b path set unset) v ≡ at_path path (set_names set unset) v
keyed_applied true path set unset v = refl
keyed_applied false path set unset v = refl

-- kinds

object_no_list : (kind : Kind) → is_object kind ≡ true → is_list kind ≡ false
object_no_list (Object fs) e = refl
object_no_list Listed e = cc
object_no_list Mapped e = cc
object_no_list (Register v) e = cc

object_no_register : (kind : Kind) → is_object kind ≡ true → is_register kind ≡ false
object_no_register (Object fs) e = refl
object_no_register Listed e = cc
object_no_register Mapped e = cc
object_no_register (Register v) e = cc

same_list : (g : FieldsOf → FieldsOf) (kind : Kind) → is_list (fields_kind g kind) ≡ is_list kind
same_list g (Object fs) = refl
same_list g Listed = refl
same_list g Mapped = refl
same_list g (Register v) = refl

same_register : (g : FieldsOf → FieldsOf) (kind : Kind) → is_register (fields_kind g kind) ≡ is_register kind
same_register g (Object fs) = refl
same_register g Listed = refl
same_register g Mapped = refl
same_register g (Register v) = refl

-- names

to_named : (x : NodeId) (k : List ℕ) (es : FieldsOf) → Named k es → IsNamed x k es
to_named x k [] h = h
to_named x k (e ∷ es) h = elim h [ inl is ↦ inl is | inr m ↦ inr (to_named x k es m) ]

from_named : (x : NodeId) (k : List ℕ) (es : FieldsOf) → IsNamed x k es → Named k es
from_named x k [] h = h
from_named x k (e ∷ es) h = elim h [ inl is ↦ inl is | inr m ↦ inr (from_named x k es m) ]

-- a child has one key
key_of_kid : (t : Nodes) (x : NodeId) (q k : List ℕ) (e : NodeId) → IsChild t x q e → child_at t x k ≡ Some e → k ≡ q
key_of_kid t x q k e d at =
    let c = child_at_some t x k e at in
    sym c.4 ∙ ap (λ (n : Node). n.key) (some_inj c.0 d.node (sym c.1 ∙ d.there)) ∙ d.key

none_comes : (t u : Nodes) (z : NodeId) (G : NodeId → Type 0) (kind : Kind) (q : List ℕ) (x : NodeId) (n : Node) → ◌≡◌ {A = Option (NodeId × Node)} None (Some (x, n)) → n.key ≡ q → ⊥
none_comes t u z G kind q x n e key = no_new (x, n) e

-- fields set

module _ (t : Nodes) (f : IsFormed t) (x : NodeId) (fs : FieldsOf) (n : Node) (there : get t x ≡ Some n) (object : is_object n.kind ≡ true) (ordered : IsOrderedTree t) where
  abbrev updated : Nodes
  updated = insert (without_children t x fs) x (on_fields (with_fields fs) n)

  update_shows : IsFormed updated → at_path (path_of t x) (set_names fs []) (view t) ≡ Some (view updated)
  update_shows after =
      let kind = fields_kind (with_fields fs) n.kind in
      let still : is_object kind ≡ true = object_same (with_fields fs) n.kind ∙ object in
      named_set t updated x (NamedKid t x fs) kind None (cut_edit t f x fs n there (with_fields fs) after) ordered
      (of_kind IsOrderedKind (with_fields fs) (λ gs h. ordered_with fs gs h) n.kind (ordered x n there))
      (object_no_list n.kind object) (object_no_register n.kind object) (object_no_list kind still) (object_no_register kind still)
      fs (λ q y m e key. no_new (y, m) e)
      (λ q m e d. (q, to_named x q fs m, found t f x q e d))
      (λ q away e d g. away (subst (λ j. Named j fs) (key_of_kid t x q g.0 e d g.2) (from_named x g.0 fs g.1)))
      (object_fields (with_fields fs) n.kind object)

  pub shows_update : IsFormed (effect t (Update x fs)) → Shows t (effect t (Update x fs)) (Fields (path_of t x) fs [] ∷ [])
  shows_update after =
      let is : effect t (Update x fs) ≡ updated = at_node (without_children t x fs) x (on_fields (with_fields fs)) n (itself t f x fs n there (with_fields fs)) in
      subst (λ (u : Nodes). Shows t u (Fields (path_of t x) fs [] ∷ [])) (sym is)
      (one_shows t updated (Fields (path_of t x) fs []) (update_shows (subst IsFormed is after)))

-- a name that is emptied

abbrev one_name : List ℕ → FieldsOf
one_name k = (k, nothing) ∷ []

found_out : (k : List ℕ) (kind : Kind) → at k (kind_fields (fields_kind (without_field k) kind)) ≡ None
found_out k kind =
    ap (at k) (fields_without k kind) ∙ find_without k k (kind_fields kind) ∙ ap (λ b. cond (not b) (at k (kind_fields kind)) None) (key_self k)

found_beside : (q k : List ℕ) (kind : Kind) → q ≢ k → at q (kind_fields (fields_kind (without_field k) kind)) ≡ at q (kind_fields kind)
found_beside q k kind other = ap (at q) (fields_without k kind) ∙ beside_without q k (kind_fields kind) (λ i. other (sym i))

module _ (t : Nodes) (f : IsFormed t) (x : NodeId) (k : List ℕ) (n : Node) (there : get t x ≡ Some n) where
  abbrev cleared_tree : Nodes
  cleared_tree = insert (without_child t x k) x (on_fields (without_field k) n)

  clears_is : changed (without_child t x k) x (on_fields (without_field k)) ≡ cleared_tree
  clears_is = at_node (without_child t x k) x (on_fields (without_field k)) n (itself t f x (one_name k) n there (without_field k))

  goes_at : (e : NodeId) → IsChild t x k e → NamedKid t x (one_name k) e
  goes_at e d = (k, inl refl, found t f x k e d)

  stays_at : (q : List ℕ) → q ≢ k → (e : NodeId) → IsChild t x q e → NamedKid t x (one_name k) e → ⊥
  stays_at q other e d g = elim g.1 [
    | inl is ↦ other (sym (is ∙ key_of_kid t x q g.0 e d g.2))
    | inr h ↦ h
  ]

  module _ (object : is_object n.kind ≡ true) (ordered : IsOrderedTree t) where
    clear_shows : IsFormed cleared_tree → at_path (path_of t x) (set_names [] (k ∷ [])) (view t) ≡ Some (view cleared_tree)
    clear_shows after =
        let kind = fields_kind (without_field k) n.kind in
        let still : is_object kind ≡ true = object_same (without_field k) n.kind ∙ object in
        goes t cleared_tree x (NamedKid t x (one_name k)) kind None (cut_edit t f x (one_name k) n there (without_field k) after) ordered
        (of_kind IsOrderedKind (without_field k) (λ gs h. ordered_without k gs h) n.kind (ordered x n there))
        (object_no_list n.kind object) (object_no_register n.kind object) (object_no_list kind still) (object_no_register kind still)
        k (λ q y m e key. no_new (y, m) e) goes_at stays_at (found_out k n.kind) (λ q other. found_beside q k n.kind other)

    nothing_cleared : has_field k n.kind ≡ false → child_at t x k ≡ None → effect t (DeleteKey x k) ≡ t
    nothing_cleared plain none =
        ap (λ o. changed (without t o) x (on_fields (without_field k))) none
        ∙ at_node t x (on_fields (without_field k)) n there ∙ ap (insert t x) (without_node k n plain) ∙ put_same t x n there

    clear_by : (b c : Bool) → has_field k n.kind ≡ b → is_some (child_at t x k) ≡ c → IsFormed (effect t (DeleteKey x k))
        → Shows t (effect t (DeleteKey x k)) (cond (b || c) (Fields (path_of t x) [] (k ∷ []) ∷ []) [])
    clear_by true c h d after =
        subst (λ (u : Nodes). Shows t u (Fields (path_of t x) [] (k ∷ []) ∷ [])) (sym clears_is) (one_shows t cleared_tree (Fields (path_of t x) [] (k ∷ [])) (clear_shows (subst IsFormed clears_is after)))
    clear_by false true h d after =
        subst (λ (u : Nodes). Shows t u (Fields (path_of t x) [] (k ∷ []) ∷ [])) (sym clears_is) (one_shows t cleared_tree (Fields (path_of t x) [] (k ∷ [])) (clear_shows (subst IsFormed clears_is after)))
    clear_by false false h d after = subst (λ (u : Nodes). Shows t u []) (sym (nothing_cleared h (none_of (child_at t x k) d))) refl

    pub shows_delete_key : IsFormed (effect t (DeleteKey x k)) → Shows t (effect t (DeleteKey x k)) (body_notices t (effect t (DeleteKey x k)) (DeleteKey x k))
    shows_delete_key after =
        subst (λ (b : Bool). Shows t (effect t (DeleteKey x k)) (cond (b || is_some (child_at t x k)) (Fields (path_of t x) [] (k ∷ []) ∷ []) [])) (sym (ap (has_field_at k) there))
        (clear_by (has_field k n.kind) (is_some (child_at t x k)) refl refl after)

-- a node that goes

module _ (t : Nodes) (f : IsFormed t) (x : NodeId) (n : Node) (here : get t x ≡ Some n) (made : x ≢ Root) (ordered : IsOrderedTree t) where
  abbrev above : (p : Node) × (get t n.parent ≡ Some p) × Fits p n
  above = the_parent t f x n made here

  remove_shows : is_list above.0.kind ≡ false → at_path (path_of t n.parent) (set_names [] (n.key ∷ [])) (view t) ≡ Some (view (removed t x))
  remove_shows list =
      let p = above in
      goes t (removed t x) n.parent (λ w. w ≡ x) p.0.kind None (removed_edit t f x n p.0 here made p.1) ordered (ordered n.parent p.0 p.1) list p.2.holds list p.2.holds
      n.key (λ q y m e key. no_new (y, m) e)
      (λ e d. some_inj e x (sym (found t f n.parent n.key e d) ∙ found t f n.parent n.key x (record { node = n; there = here; made = made; parent = refl; key = refl })))
      (λ q other e d is. other (sym d.key ∙ ap (λ (m : Node). m.key) (some_inj d.node n (sym d.there ∙ ap (get t) is ∙ here))))
      (plain_none n.key p.0.kind p.2.plain) (λ q other. refl)

  delete_by : (b : Bool) → is_list above.0.kind ≡ b
      → Shows t (removed t x) (cond b (Take (path_of t n.parent) (index_in t n.parent x) ∷ []) (keyed (holds_map (get t n.parent)) (path_of t n.parent) [] (n.key ∷ []) ∷ []))
  delete_by true list = one_shows t (removed t x) (Take (path_of t n.parent) (index_in t n.parent x)) (take_shows t f x n above.0 here made above.1 list ordered)
  delete_by false list =
      one_shows t (removed t x) (keyed (holds_map (get t n.parent)) (path_of t n.parent) [] (n.key ∷ []))
      (keyed_applied (holds_map (get t n.parent)) (path_of t n.parent) [] (n.key ∷ []) (view t) ∙ remove_shows list)

  pub shows_delete : Shows t (removed t x) (deleted_notices t x (get t x))
  shows_delete =
      subst (λ (o : Option Node). Shows t (removed t x) (deleted_notices t x o)) (sym here)
      (subst (λ (b : Bool). Shows t (removed t x) (cond b (Take (path_of t n.parent) (index_in t n.parent x) ∷ []) (keyed (holds_map (get t n.parent)) (path_of t n.parent) [] (n.key ∷ []) ∷ [])))
      (sym (ap holds_list above.1)) (delete_by (is_list above.0.kind) refl))

-- a node that comes

module _ (t : Nodes) (f : IsFormed t) (x p : NodeId) (k : List ℕ) (r : Option NodeId) (kind : Kind) (n : Node) (there : get t p ≡ Some n) (register : is_register n.kind ≡ false) (deep : n.depth < 60)
    (fresh : is_some (get t x) ≡ false) (ordered : IsOrderedTree t) (whole : IsFormed (effect t (Create x p k r kind))) where
  abbrev new : Node
  new = record { parent = p; key = k; depth = n.depth + 1; kind = kind }

  absent : (m : Node) → get t x ≡ Some m → ⊥
  absent m e = true_false (sym (ap is_some e) ∙ fresh)

  not_root : x ≢ Root
  not_root i = let o = the_root t f in absent o.0 (ap (get t) i ∙ o.1)

  level_is : 60 - new.depth ≡ 59 - n.depth
  level_is = omega arith

  -- under an object or a map
  module _ (list : is_list n.kind ≡ false) where
    abbrev base : Nodes
    base = insert (without_child t p k) p (on_fields (without_field k) n)

    base_is : changed (without_child t p k) p (on_fields (without_field k)) ≡ base
    base_is = at_node (without_child t p k) p (on_fields (without_field k)) n (itself t f p (one_name k) n there (without_field k))

    base_formed : IsFormed base
    base_formed = subst IsFormed base_is (formed-cleared t f x p k n there)

    made_is : effect t (Create x p k r kind) ≡ insert base x new
    made_is = effect-create t f x p k n there kind list register deep fresh r ∙ ap (λ v. insert v x new) base_is

    abbrev base_edit : IsEdit t base p (NamedKid t p (one_name k)) (fields_kind (without_field k) n.kind) None
    base_edit = cut_edit t f p (one_name k) n there (without_field k) base_formed

    not_there : (m : Node) → get base x ≡ Some m → ⊥
    not_there m e = elim (base_edit.old x m e (λ i. absent n (ap (get t) i ∙ there))) [
      | inl q ↦ no_new (x, m) q
      | inr q ↦ absent m q.0
    ]

    at_key : at_path (path_of t p) (set_names ((k, alone kind) ∷ []) []) (view t) ≡ Some (view (insert base x new))
    at_key =
        let after = subst IsFormed made_is whole in
        let with_kind = fields_kind (without_field k) n.kind in
        comes t (insert base x new) p (NamedKid t p (one_name k)) with_kind (Some (x, new)) (added_edit t base p (NamedKid t p (one_name k)) with_kind base_edit x new absent refl not_root after) ordered
        (of_kind IsOrderedKind (without_field k) (λ gs h. ordered_without k gs h) n.kind (ordered p n there))
        list register (same_list (without_field k) n.kind ∙ list) (same_register (without_field k) n.kind ∙ register)
        x new refl (alone kind)
        (ap (λ j. view_within j (insert base x new) x) (sym level_is) ∙ new_view base base_formed x new not_there after)
        (λ q other y m e key. other (sym key ∙ ap (λ (pair : NodeId × Node). pair.1.key) (sym (some_inj (x, new) (y, m) e))))
        (stays_at t f p k n there) (λ q other. found_beside q k n.kind other)

    pub shows_at_key : Shows t (effect t (Create x p k r kind)) (keyed (holds_map (get t p)) (path_of t p) ((k, alone kind) ∷ []) [] ∷ [])
    shows_at_key =
        subst (λ (u : Nodes). Shows t u (keyed (holds_map (get t p)) (path_of t p) ((k, alone kind) ∷ []) [] ∷ [])) (sym made_is)
        (one_shows t (insert base x new) (keyed (holds_map (get t p)) (path_of t p) ((k, alone kind) ∷ []) [])
        (keyed_applied (holds_map (get t p)) (path_of t p) ((k, alone kind) ∷ []) [] (view t) ∙ at_key))

  -- in a list
  module _ (list : is_list n.kind ≡ true) where
    enters : (w : Nodes) → IsFormed w → ((m : Node) → get w x ≡ Some m → ⊥) → get w p ≡ Some n → IsOrderedTree w → IsFormed (insert w x new) → path_of w p ≡ path_of t p
        → applied (Insert (path_of t p) (index_in (insert w x new) p x) (alone kind)) (view w) ≡ Some (view (insert w x new))
    enters w g none above order after path =
        ap (λ ss. at_path ss (insert_item (index_in (insert w x new) p x) (alone kind)) (view w)) (sym path)
        ∙ insert_shows w g x new n none not_root above list order after (alone kind)
        (ap (λ j. view_within j (insert w x new) x) (sym level_is) ∙ new_view w g x new none after)

    made_in : (w : Nodes) → without_replaced t p r ≡ w → effect t (Create x p k r kind) ≡ insert w x new
    made_in w is =
        ap (λ o. insert (cleared t p k r o) x (record { parent = p; key = k; depth = depth_in o + 1; kind = kind })) there
        ∙ ap (λ b. insert (cond b (without_replaced t p r) (changed (without_child t p k) p (on_fields (without_field k)))) x new) list
        ∙ ap (λ v. insert v x new) is

    abbrev Enters : Nodes → List Notice → Type 0
    Enters u old = Shows t u (old ++ Insert (path_of t p) (index_in u p x) (alone kind) ∷ [])

    alone_enters : without_replaced t p r ≡ t → Enters (effect t (Create x p k r kind)) []
    alone_enters is =
        let e = made_in t is in
        subst (λ (u : Nodes). Enters u []) (sym e)
        (one_shows t (insert t x new) (Insert (path_of t p) (index_in (insert t x new) p x) (alone kind)) (enters t f absent there ordered (subst IsFormed e whole) refl))

    behind_one : (z : NodeId) (m : Node) → without_replaced t p r ≡ removed t z → get t z ≡ Some m → z ≢ Root → m.parent ≡ p → Enters (effect t (Create x p k r kind)) (Take (path_of t p) (index_in t p z) ∷ [])
    behind_one z m is here made parent =
        let e = made_in (removed t z) is in
        let above : get t m.parent ≡ Some n = ap (get t) parent ∙ there in
        let edit = removed_edit t f z m n here made above in
        let left : at_path (path_of t p) (take_item (index_in t p z)) (view t) ≡ Some (view (removed t z)) =
        subst (λ (q : NodeId). at_path (path_of t q) (take_item (index_in t q z)) (view t) ≡ Some (view (removed t z))) parent (take_shows t f z m n here made above list ordered) in
        let path : path_of (removed t z) p ≡ path_of t p =
        subst (λ (q : NodeId). path_of (removed t z) q ≡ path_of t q) parent (same_path t (removed t z) m.parent (λ w. w ≡ z) (changes t (removed t z) m.parent (λ w. w ≡ z) n.kind None edit)) in
        let still : get (removed t z) p ≡ Some n = ap (get (removed t z)) (sym parent) ∙ edit.here in
        subst (λ (u : Nodes). Enters u (Take (path_of t p) (index_in t p z) ∷ [])) (sym e)
        (first_shows t (removed t z) (insert (removed t z) x new) (Take (path_of t p) (index_in t p z)) (Insert (path_of t p) (index_in (insert (removed t z) x new) p x) (alone kind) ∷ []) left
        (one_shows (removed t z) (insert (removed t z) x new) (Insert (path_of t p) (index_in (insert (removed t z) x new) p x) (alone kind))
        (enters (removed t z) (formed-removed t z f made) (λ v d. absent v (kept t z x v d).0) still (λ y v d. ordered y v (kept t z y v d).0) (subst IsFormed e whole) path)))

    under_by : (z : NodeId) (b : Bool) → is_under p z (get t z) ≡ b → without_replaced t p r ≡ cond b (removed t z) t → Enters (effect t (Create x p k r kind)) (cond b (Take (path_of t p) (index_in t p z) ∷ []) [])
    under_by z true e is = let u = under_some t p z (get t z) refl e in behind_one z u.0 is u.1 u.2 u.3
    under_by z false e is = alone_enters is

    by_replaced : (o : Option NodeId) → r ≡ o → Enters (effect t (Create x p k r kind)) (replaced_taken t p o)
    by_replaced None e = alone_enters (ap (without_replaced t p) e)
    by_replaced (Some z) e = under_by z (is_under p z (get t z)) refl (ap (without_replaced t p) e)

    pub shows_in_list : Enters (effect t (Create x p k r kind)) (replaced_taken t p r)
    shows_in_list = by_replaced r refl

  create_by : (b : Bool) → is_list n.kind ≡ b → Shows t (effect t (Create x p k r kind))
      (cond b (replaced_taken t p r ++ Insert (path_of t p) (index_in (effect t (Create x p k r kind)) p x) (alone kind) ∷ []) (keyed (holds_map (get t p)) (path_of t p) ((k, alone kind) ∷ []) [] ∷ []))
  create_by true list = shows_in_list list
  create_by false list = shows_at_key list

  pub shows_create : Shows t (effect t (Create x p k r kind)) (created_notices t (effect t (Create x p k r kind)) x p k r kind)
  shows_create =
      subst (λ (b : Bool). Shows t (effect t (Create x p k r kind))
      (cond b (replaced_taken t p r ++ Insert (path_of t p) (index_in (effect t (Create x p k r kind)) p x) (alone kind) ∷ []) (keyed (holds_map (get t p)) (path_of t p) ((k, alone kind) ∷ []) [] ∷ [])))
      (sym (ap holds_list there)) (create_by (is_list n.kind) refl)

-- a node that moves

pub shows_set_key : (t : Nodes) → IsFormed t → IsOrderedTree t → (x : NodeId) (k : List ℕ) (n : Node) → get t x ≡ Some n → x ≢ Root → holds_list (get t n.parent) ≡ true → IsFormed (effect t (SetKey x k))
    → Shows t (effect t (SetKey x k)) (moved_notices t (effect t (SetKey x k)) x (get t x))
shows_set_key t f ordered x k n here made list after =
    let is : effect t (SetKey x k) ≡ insert t x (record n { key = k }) = ap (changed_at t x (λ m. record m { key = k })) here in
    let p = the_parent t f x n made here in
    subst (λ (o : Option Node). Shows t (effect t (SetKey x k)) (moved_notices t (effect t (SetKey x k)) x o)) (sym here)
    (subst (λ (u : Nodes). Shows t u (Move (path_of t n.parent) (index_in t n.parent x) (index_in u n.parent x) ∷ [])) (sym is)
    (one_shows t (insert t x (record n { key = k })) (Move (path_of t n.parent) (index_in t n.parent x) (index_in (insert t x (record n { key = k })) n.parent x))
    (move_shows t f x n k here made (subst IsFormed is after) ordered (sym (ap holds_list p.1) ∙ list))))

-- each operation that is settled

not_root_if : (x : NodeId) (b c : Bool) → (b || (is_same x Root || c)) ≡ false → x ≢ Root
not_root_if x b c e r = true_false (sym (same_self Root) ∙ ap (λ y. is_same y Root) (sym r) ∙ (neither (is_same x Root) c (neither b _ e).1).0)

pub shows_body : (t : Nodes) → IsFormed t → IsOrderedTree t → (c : Body) → is_void t c ≡ false → IsFormed (effect t c) → Shows t (effect t c) (body_notices t (effect t c) c)
shows_body t f ordered (SetKey x k) live after =
    let a = neither (not (is_some (get t x))) _ live in
    let n = some_of (get t x) (not_false _ a.0) in
    let b = neither (is_same x Root) _ a.1 in
    let list : holds_list (get t (up t x)) ≡ true = not_false _ (neither _ _ b.1).0 in
    shows_set_key t f ordered x k n.0 n.1 (not_root_if x _ _ live) (ap (λ o. holds_list (get t (parent_of o))) (sym n.1) ∙ list) after
shows_body t f ordered (Create x p k r kind) live after =
    let a = neither (is_some (get t x)) _ live in
    let b = neither (not (has_room (get t p))) _ a.1 in
    let n = room_there (get t p) (not_false _ b.0) in
    shows_create t f x p k r kind n.0 n.1 n.2 n.3 a.0 ordered after
shows_body t f ordered (Update x fs) live after =
    let n = object_there (get t x) (not_false _ live) in
    shows_update t f x fs n.0 n.1 (sym (ap holds_object n.1) ∙ not_false _ live) ordered after
shows_body t f ordered (Delete x) live after =
    let a = neither (not (is_some (get t x))) _ live in
    let n = some_of (get t x) (not_false _ a.0) in
    shows_delete t f x n.0 n.1 (λ r. true_false (sym (same_self Root) ∙ ap (λ y. is_same y Root) (sym r) ∙ a.1)) ordered
shows_body t f ordered (DeleteKey x k) live after =
    let n = object_there (get t x) (not_false _ live) in
    shows_delete_key t f x k n.0 n.1 (sym (ap holds_object n.1) ∙ not_false _ live) ordered after
