-- A set shows what it sets.
use Rattle.std.proofs.Common.{◌≡◌, ◌≤◌, ◌+◌, ℕ, suc, Bool, true, false, cond, not, ◌&&◌, ◌||◌, nat_lt, List, [], ◌∷◌, Option, Some, None, is_some, refl, sym, ap, ◌∙◌, subst, arith}
use Rattle.std.proofs.lemmas.Bool.Decides.{nat_tests}
use Rattle.std.specs.BTreeMap.{insert_entry}
use Rattle.std.specs.Cmp.Lexicographic.{slice_cmp}
use Rattle.std.specs.FinMap.{get, find, insert}
use Rattle.std.specs.Ordering.{nat_cmp, eq_by_cmp}
use Rattle.room_ids.specs.Position.{first as first_position}
use Rattle.room_ids.specs.declared.ids.NodeId.{NodeId}
use Rattle.room_json.specs.Back.{json_in}
use Rattle.room_json.specs.Value.{Value, members, fields_of}
use Rattle.room_nodes.specs.declared.nodes.Body.{Body}
use Rattle.room_nodes.specs.declared.nodes.Body.TheVariants.{Create}
use Rattle.room_nodes.specs.declared.nodes.Kind.{Kind}
use Rattle.room_nodes.specs.declared.nodes.Kind.TheVariants.{Object, List as Listed, Map as Mapped, Register}
use Rattle.room_nodes.specs.declared.nodes.Node.{Node}
use Rattle.room_nodes.specs.Ordered.{AreOrdered, IsOrderedKind}
use Rattle.room_nodes.specs.Primitives.{kind_fields}
use Rattle.room_nodes.specs.Shape.{Nodes, IsFormed, child_at, has_field, is_list, is_register}
use Rattle.room_nodes.specs.Steps.{fold, step, effect, is_void, settled_body, settled_key, has_room, holds_list, cleared, depth_in, fields_kind, without_field}
use Rattle.room_nodes.proofs.Gets.{some_none, true_false}
use Rattle.room_steps.proofs.Booleans.{by_no}
use Rattle.room_steps.proofs.Changing.{was_there}
use Rattle.room_steps.proofs.Fields.{same_fields, ordered_put, same_name, key_self, find_without, ordered_without as field_gone}
use Rattle.room_steps.proofs.Framing.{gone_of}
use Rattle.room_steps.proofs.Operations.{emptied}
use Rattle.room_steps.proofs.Restoring.{step_acts}
use Rattle.room_items.specs.View.{view, view_at}
use Rattle.room_model.specs.Edits.{on_members, is_keyed, too_long}
use Rattle.room_model.specs.Init.{Init, Plain, AnObject, AMap, AList, made_id, creates, live_creates, part_creates, item_creates, init_view, node_depth, positions_in, plain_fields}
use Rattle.room_model.specs.Sound.{IsSoundInit}
use Rattle.room_effect.specs.Effect.{Changes, AreLive}
use Rattle.room_effect.proofs.Created.{FreshFrom, create_step}
use Rattle.room_effect.proofs.Emptied.{empty_acts, empty_formed, empty_node, empty_here, empty_local, empty_root, empty_none, find_empty, before_ordered}
use Rattle.room_effect.proofs.Grafting.{MayStand, Grafted, graft_kids}
use Rattle.room_effect.proofs.Keyed.{kids_of, kids_ordered, keyed_view, members_shown, find_shown, ordered_shown, on_shown, rest_of}
use Rattle.room_effect.proofs.Local.{IsLocal}
use Rattle.room_effect.proofs.Members.{or_else, insert_put, find_insert}
use Rattle.room_effect.proofs.Planting.{grafts}

-- the first of the operations, and the others

abbrev pub first_kind : Init → Kind
first_kind (Plain v) = Register (json_in v)
first_kind (AnObject ps) = Object (plain_fields ps)
first_kind (AMap ps) = Mapped
first_kind (AList is) = Listed

abbrev pub others : ℕ → ℕ → Init → List Body
others a c (Plain v) = []
others a c (AnObject ps) = live_creates a (suc c) (made_id a c) ps
others a c (AMap ps) = part_creates a (suc c) (made_id a c) ps
others a c (AList is) = item_creates a (suc c) (made_id a c) first_position is

pub first_and : (a c : ℕ) (x : NodeId) (k : List ℕ) (r : Option NodeId) (i : Init) → creates a c x k r i ≡ Create (made_id a c) x k r (first_kind i) ∷ others a c i
first_and a c x k r (Plain v) = refl
first_and a c x k r (AnObject ps) = refl
first_and a c x k r (AMap ps) = refl
first_and a c x k r (AList is) = refl

keyed_holds : (kind : Kind) → is_keyed kind ≡ true → is_register kind ≡ false
keyed_holds (Object fs) e = refl
keyed_holds Listed e = cc
keyed_holds Mapped e = refl
keyed_holds (Register v) e = cc

keyed_list : (kind : Kind) → is_keyed kind ≡ true → is_list kind ≡ false
keyed_list (Object fs) e = refl
keyed_list Listed e = cc
keyed_list Mapped e = refl
keyed_list (Register v) e = cc

keyed_without : (k : List ℕ) (kind : Kind) → is_keyed kind ≡ true → is_keyed (fields_kind (without_field k) kind) ≡ true
keyed_without k (Object fs) e = refl
keyed_without k Listed e = cc
keyed_without k Mapped e = refl
keyed_without k (Register v) e = cc

ordered_without : (k : List ℕ) (kind : Kind) → IsOrderedKind kind → IsOrderedKind (fields_kind (without_field k) kind)
ordered_without k (Object fs) h = field_gone k fs h
ordered_without k Listed h = h
ordered_without k Mapped h = h
ordered_without k (Register v) h = h

no_field : (k : List ℕ) (kind : Kind) → has_field k (fields_kind (without_field k) kind) ≡ false
no_field k (Object fs) = ap is_some (find_without k k fs ∙ ap (λ b. cond (not b) (find (slice_cmp nat_cmp) k fs) None) (key_self k))
no_field k Listed = refl
no_field k Mapped = refl
no_field k (Register v) = refl

room_there : (r : Bool) (d : ℕ) → r ≡ false → d + 1 ≤ 60 → (not r && nat_lt d 60) ≡ true
room_there true d e h = cc
room_there false d e h = grind (arith, nat_tests, h)

live_first : (a r l q : Bool) → a ≡ false → r ≡ true → l ≡ false → (a || (not r || (l && not q))) ≡ false
live_first a r l q e h g = rw (e, h, g) refl

or_true : (b : Bool) → (b || true) ≡ true
or_true true = refl
or_true false = refl

module _ (t : Nodes) (f : IsFormed t) (x : NodeId) (k : List ℕ) (n : Node) (there : get t x ≡ Some n) (keyed : is_keyed n.kind ≡ true) (ordered : IsOrderedKind n.kind)
    (a c : ℕ) (new : FreshFrom t a c) (i : Init) (deep : node_depth (n.depth + 1) i ≤ 60) (least : n.depth + 1 ≤ node_depth (n.depth + 1) i) (short : too_long (positions_in i) ≡ None) (sound : IsSoundInit i) where
  abbrev u : Nodes
  u = emptied t x k

  abbrev p : Node
  p = empty_node t f x k n there

  abbrev b : Body
  b = Create (made_id a c) x k None (first_kind i)

  -- the first operation takes out what stands there

  here : is_list n.kind ≡ false
  here = keyed_list n.kind keyed

  no_list : holds_list (get t x) ≡ false
  no_list = ap holds_list there ∙ here

  live : is_void t b ≡ false
  live = live_first (is_some (get t (made_id a c))) (has_room (get t x)) (holds_list (get t x)) _
      (ap is_some (new c (omega arith))) (ap has_room there ∙ room_there (is_register n.kind) n.depth (keyed_holds n.kind keyed) (omega (arith, deep, least))) no_list

  settled : settled_body t b ≡ b
  settled = ap (λ z. cond (is_void t b || not z) b (Create (made_id a c) x (settled_key t x (made_id a c) k) None (first_kind i))) no_list
      ∙ ap (λ z. cond z b (Create (made_id a c) x (settled_key t x (made_id a c) k) None (first_kind i))) (or_true (is_void t b))

  cleared_so : cleared t x k None (get t x) ≡ u
  cleared_so = ap (cleared t x k None) there ∙ ap (λ z. cond z t u) here

  abbrev node : Node
  node = record { parent = x; key = k; depth = n.depth + 1; kind = first_kind i }

  step_so : step t b ≡ insert u (made_id a c) node
  step_so =
      step_acts t b live ∙ ap (effect t) settled
      ∙ (λ j. insert (cleared_so j) (made_id a c) (record { parent = x; key = k; depth = depth_in (there j) + 1; kind = first_kind i }))

  -- and then all is as on the tree without it

  new_by : (j : ℕ) → c ≤ j → (o : Option Node) → get u (made_id a j) ≡ o → o ≡ None
  new_by j l None e = refl
  new_by j l (Some m) e =
      let w = was_there t u (gone_of t (child_at t x k)) x (without_field k) (empty_acts t f x k n there) (made_id a j) m e in
      absurd (some_none w.0 (sym w.1 ∙ new j l))

  new_there : FreshFrom u a c
  new_there j l = new_by j l _ refl

  formed : IsFormed u
  formed = empty_formed t f x k n there

  at : get u x ≡ Some p
  at = empty_here t f x k n there

  holds : is_register p.kind ≡ false
  holds = keyed_holds p.kind (keyed_without k n.kind keyed)

  may : MayStand u x p k i
  may = record {
    free = empty_none t f x k n there;
    plain = no_field k n.kind;
    place = λ l. absurd (true_false (sym l ∙ keyed_list p.kind (keyed_without k n.kind keyed)));
    deep = deep;
    short = short;
    sound = sound;
  }

  step_same : step t b ≡ step u b
  step_same = step_so ∙ sym (create_step u formed a c new_there x k (first_kind i) p at holds (omega (arith, deep, least)) may.free may.place may.plain)

  abbrev bs : List Body
  bs = creates a c x k None i

  g : (w : Nodes) × Grafted u w x k a c i bs
  g = grafts i u a c x p k formed new_there at holds may

  abbrev w : Nodes
  w = g.0

  fold_same : fold t bs ≡ w
  fold_same = ap (fold t) (first_and a c x k None i) ∙ ap (λ (z : Nodes). fold z (others a c i)) step_same ∙ sym (ap (fold u) (first_and a c x k None i)) ∙ g.1.is

  live_all : AreLive t bs
  live_all = subst (AreLive t) (sym (first_and a c x k None i)) (
    live,
    settled,
    subst (λ (z : Nodes). AreLive z (others a c i)) (sym step_same) (subst (AreLive u) (first_and a c x k None i) g.1.live).2,
  )

  -- what x shows

  p_there : get w x ≡ Some p
  p_there = g.1.grown.node x p at

  kids : kids_of 59 w x ≡ insert_entry (slice_cmp nat_cmp) (kids_of 59 u x) k (init_view i)
  kids = graft_kids u w formed x p at k a c i bs (new_there c (omega arith)) g.1

  or_by : (d : Bool) (v : Value) (o z : Option Value) → or_else (cond d (Some v) o) z ≡ cond d (Some v) (or_else o z)
  or_by true v o z = refl
  or_by false v o z = refl

  beside_by : (q : List ℕ) (d : Bool) → eq_by_cmp (slice_cmp nat_cmp) q k ≡ d
      → cond d (Some (init_view i)) (cond (not (eq_by_cmp (slice_cmp nat_cmp) k q)) (find (slice_cmp nat_cmp) q (members_shown n.kind (kids_of 59 t x))) None)
      ≡ cond d (Some (init_view i)) (find (slice_cmp nat_cmp) q (members_shown n.kind (kids_of 59 t x)))
  beside_by q true e = refl
  beside_by q false e = ap (λ z. cond (not z) (find (slice_cmp nat_cmp) q (members_shown n.kind (kids_of 59 t x))) None)
      (by_no (eq_by_cmp (slice_cmp nat_cmp) k q) (λ s. true_false (sym (key_self q) ∙ ap (eq_by_cmp (slice_cmp nat_cmp) q) (sym (same_name k q s)) ∙ e)))

  name : (q : List ℕ) → find (slice_cmp nat_cmp) q (members_shown p.kind (kids_of 59 w x)) ≡ find (slice_cmp nat_cmp) q (insert_entry (slice_cmp nat_cmp) (members_shown n.kind (kids_of 59 t x)) k (init_view i))
  name q =
      let keyed_p = keyed_without k n.kind keyed in
      find_shown q p.kind (kids_of 59 w x) keyed_p (kids_ordered 59 w x)
      ∙ ap (λ o. or_else o (find (slice_cmp nat_cmp) q (kind_fields p.kind))) (ap (find (slice_cmp nat_cmp) q) kids ∙ find_insert q (kids_of 59 u x) k (init_view i))
      ∙ or_by (eq_by_cmp (slice_cmp nat_cmp) q k) (init_view i) (find (slice_cmp nat_cmp) q (kids_of 59 u x)) (find (slice_cmp nat_cmp) q (kind_fields p.kind))
      ∙ ap (cond (eq_by_cmp (slice_cmp nat_cmp) q k) (Some (init_view i)))
      (sym (find_shown q p.kind (kids_of 59 u x) keyed_p (kids_ordered 59 u x)) ∙ find_empty t f x k n there keyed ordered q)
      ∙ beside_by q (eq_by_cmp (slice_cmp nat_cmp) q k) refl
      ∙ sym (find_insert q (members_shown n.kind (kids_of 59 t x)) k (init_view i))

  shown : view_at w x ≡ on_members (λ fs. insert_entry (slice_cmp nat_cmp) fs k (init_view i)) (view_at t x)
  shown =
      let ms = members_shown n.kind (kids_of 59 t x) in
      let keyed_p = keyed_without k n.kind keyed in
      let order = before_ordered t f x k n there keyed ordered in
      keyed_view w x p p_there keyed_p
      ∙ ap (λ z. members (fields_of z)) (same_fields (members_shown p.kind (kids_of 59 w x)) (insert_entry (slice_cmp nat_cmp) ms k (init_view i))
      (ordered_shown p.kind (kids_of 59 w x) keyed_p (ordered_without k n.kind ordered) (kids_ordered 59 w x))
      (subst AreOrdered (sym (insert_put ms k (init_view i))) (ordered_put k (init_view i) ms order))
      name)
      ∙ sym (on_shown (λ fs. insert_entry (slice_cmp nat_cmp) fs k (init_view i)) (view_at t x) ms (keyed_view t x n there keyed))

  local : IsLocal t w x (gone_of t (child_at t x k))
  local = let l = empty_local t f x k n there in record {
    node = λ q m e s o. let h = l.node q m e s o in (h.0, g.1.grown.node q h.0 h.1, h.2);
    kids = λ q m e s o. let h = l.node q m e s o in g.1.grown.kids q h.0 h.1 o ∙ l.kids q m e s o;
    closed = l.closed;
  }

  pub node_set : Changes t x (creates a c x k None i) (λ v. on_members (λ fs. insert_entry (slice_cmp nat_cmp) fs k (init_view i)) v)
  node_set = record {
    live = live_all;
    node = ap (λ (z : Nodes). view_at z x) fold_same ∙ shown;
    rest = ap view fold_same
        ∙ rest_of t w f x (gone_of t (child_at t x k)) local n there g.1.grown.formed p p_there refl (empty_root t f x k n there)
        (on_members (λ fs. insert_entry (slice_cmp nat_cmp) fs k (init_view i)) (view_at t x)) shown;
  }
