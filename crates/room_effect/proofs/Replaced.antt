-- A new item takes the place of another.
use Rattle.std.proofs.Common.{◌≡◌, ◌≤◌, ◌+◌, ℕ, Bool, true, false, cond, not, ◌||◌, List, map, Option, Some, None, option_map, is_some, refl, sym, ap, ◌∙◌, subst, arith}
use Rattle.std.specs.Prelude.{slice_get, slice_set}
use Rattle.std.specs.BTreeMap.{insert_entry}
use Rattle.std.specs.Cmp.Lexicographic.{slice_cmp}
use Rattle.std.specs.FinMap.{get, find, insert}
use Rattle.std.specs.Ordering.{nat_cmp, eq_by_cmp}
use Rattle.std.proofs.lemmas.Option.{slice_get-map}
use Rattle.room_ids.specs.Order.{is_same}
use Rattle.room_ids.specs.Position.{is_pos, between}
use Rattle.room_ids.specs.declared.ids.NodeId.{NodeId}
use Rattle.room_ids.specs.declared.ids.NodeId.TheVariants.{Root}
use Rattle.room_json.specs.Value.{Value, list, values_of}
use Rattle.room_nodes.specs.declared.nodes.Body.{Body}
use Rattle.room_nodes.specs.declared.nodes.Body.TheVariants.{Create}
use Rattle.room_nodes.specs.declared.nodes.Kind.TheVariants.{List as Listed}
use Rattle.room_nodes.specs.declared.nodes.Node.{Node}
use Rattle.room_nodes.specs.Ordered.{AreOrdered}
use Rattle.room_nodes.specs.Shape.{Nodes, IsFormed, child_at, children, has_field, is_list, is_register, removed}
use Rattle.room_nodes.specs.Steps.{fold, step, effect, is_void, is_under, is_other, is_placed, next_key, settled_body, settled_key, has_room, holds_list, cleared, depth_in, without_replaced, without_field}
use Rattle.room_nodes.proofs.Gets.{differ, same_self, some_none, true_false}
use Rattle.room_steps.proofs.Booleans.{by_no}
use Rattle.room_steps.proofs.Changing.{was_there}
use Rattle.room_steps.proofs.Fields.{same_fields, ordered_put, same_name, key_self}
use Rattle.room_steps.proofs.Framing.{gone_of}
use Rattle.room_steps.proofs.Kin.{child_of}
use Rattle.room_steps.proofs.Operations.{emptied}
use Rattle.room_steps.proofs.Restoring.{step_acts}
use Rattle.room_items.specs.View.{view, view_at, view_within, second}
use Rattle.room_model.specs.Edits.{on_list, too_long}
use Rattle.room_model.specs.Init.{Init, made_id, creates, init_view, node_depth, positions_in}
use Rattle.room_model.specs.Sound.{IsSoundInit}
use Rattle.room_effect.specs.Effect.{Changes, AreLive}
use Rattle.room_effect.proofs.Created.{FreshFrom, create_step, not_void, either_way, has_room_there, fits_length}
use Rattle.room_effect.proofs.Emptied.{empty_acts, empty_formed, empty_node, empty_here, empty_local, empty_root, empty_none, kids_by}
use Rattle.room_effect.proofs.Grafting.{MayStand, Grafted, graft_kids}
use Rattle.room_effect.proofs.Indices.{set_index, map_slice_set}
use Rattle.room_effect.proofs.Inserted.{list_at}
use Rattle.room_effect.proofs.Items.{items_of, list_view, on_items}
use Rattle.room_effect.proofs.Keyed.{kids_of, kids_ordered, rest_of}
use Rattle.room_effect.proofs.Local.{Kid, IsLocal}
use Rattle.room_effect.proofs.Members.{insert_put, find_insert}
use Rattle.room_effect.proofs.Neighbours.{pos_of}
use Rattle.room_effect.proofs.Planting.{grafts, least}
use Rattle.room_effect.proofs.Sets.{first_kind, others, first_and}
use Rattle.room_effect.proofs.Taken.{got_has, kid_at, removed_is, kind_empty}

module _ (t : Nodes) (f : IsFormed t) (x : NodeId) (n : Node) (there : get t x ≡ Some n) (kind : n.kind ≡ Listed) (j : ℕ) (e : Kid) (at : slice_get (children t x) j ≡ Some e)
    (a c : ℕ) (new : FreshFrom t a c) (i : Init) (deep : node_depth (n.depth + 1) i ≤ 60) (short : too_long (positions_in i) ≡ None) (sound : IsSoundInit i) where
  abbrev k : List ℕ
  k = e.0

  abbrev u : Nodes
  u = emptied t x e.0

  abbrev p : Node
  p = empty_node t f x e.0 n there

  abbrev b : Body
  b = Create (made_id a c) x e.0 (Some e.1) (first_kind i)

  pos : is_pos e.0 ≡ true
  pos = pos_of t f x (list_at t f x n there kind) e (got_has (children t x) j e at)

  under : is_under x e.1 (get t e.1) ≡ true
  under = let h = child_of t x e.0 e.1 (kid_at t x j e at) in rw (h.there, differ e.1 Root h.made) (ap (λ z. is_same z x) h.parent ∙ same_self x)

  replaced : without_replaced t x (Some e.1) ≡ u
  replaced = ap (λ z. cond z (removed t e.1) t) under ∙ removed_is t f x n there kind j e at

  free : child_at u x e.0 ≡ None
  free = empty_none t f x e.0 n there

  settled_there : settled_key (without_replaced t x (Some e.1)) x (made_id a c) e.0 ≡ e.0
  settled_there = ap (λ (v : Nodes). settled_key v x (made_id a c) e.0) replaced ∙ ap (λ o. cond (is_other (made_id a c) o) (between e.0 (next_key u x e.0)) e.0) free

  few : n.depth + 1 ≤ 60
  few = omega (arith, deep, least (n.depth + 1) i)

  live : is_void t b ≡ false
  live = not_void (is_some (get t (made_id a c))) (has_room (get t x)) (holds_list (get t x)) (is_placed (without_replaced t x (Some e.1)) x (made_id a c) e.0)
      (ap is_some (new c (omega arith))) (ap has_room there ∙ has_room_there (is_register n.kind) n.depth (ap is_register kind) (omega (arith, few)))
      (λ h. rw (settled_there, pos, fits_length e.0 pos) refl)

  settled : settled_body t b ≡ b
  settled = ap (λ z. cond (is_void t b || not (holds_list (get t x))) b (Create (made_id a c) x z (Some e.1) (first_kind i))) settled_there ∙ either_way _ b

  abbrev node : Node
  node = record { parent = x; key = e.0; depth = n.depth + 1; kind = first_kind i }

  cleared_so : cleared t x e.0 (Some e.1) (get t x) ≡ u
  cleared_so = ap (cleared t x e.0 (Some e.1)) there ∙ ap (λ z. cond z (without_replaced t x (Some e.1)) u) (ap is_list kind) ∙ replaced

  step_so : step t b ≡ insert u (made_id a c) node
  step_so =
      step_acts t b live ∙ ap (effect t) settled
      ∙ (λ z. insert (cleared_so z) (made_id a c) (record { parent = x; key = e.0; depth = depth_in (there z) + 1; kind = first_kind i }))

  new_by : (d : ℕ) → c ≤ d → (o : Option Node) → get u (made_id a d) ≡ o → o ≡ None
  new_by d l None is = refl
  new_by d l (Some m) is =
      let w = was_there t u (gone_of t (child_at t x e.0)) x (without_field e.0) (empty_acts t f x e.0 n there) (made_id a d) m is in
      absurd (some_none w.0 (sym w.1 ∙ new d l))

  new_there : FreshFrom u a c
  new_there d l = new_by d l _ refl

  formed : IsFormed u
  formed = empty_formed t f x e.0 n there

  here : get u x ≡ Some p
  here = empty_here t f x e.0 n there

  kind_p : p.kind ≡ Listed
  kind_p = kind_empty t f x n there kind e.0

  may : MayStand u x p e.0 i
  may = record { free = free; plain = ap (has_field e.0) kind_p; place = λ l. pos; deep = deep; short = short; sound = sound }

  step_same : step t b ≡ step u (Create (made_id a c) x e.0 None (first_kind i))
  step_same = step_so ∙ sym (create_step u formed a c new_there x e.0 (first_kind i) p here (ap is_register kind_p) (omega (arith, few)) may.free may.place may.plain)

  g : (w : Nodes) × Grafted u w x e.0 a c i (creates a c x e.0 None i)
  g = grafts i u a c x p e.0 formed new_there here (ap is_register kind_p) may

  abbrev w : Nodes
  w = g.0

  fold_same : fold t (creates a c x e.0 (Some e.1) i) ≡ w
  fold_same = ap (fold t) (first_and a c x e.0 (Some e.1) i) ∙ ap (λ (z : Nodes). fold z (others a c i)) step_same ∙ sym (ap (fold u) (first_and a c x e.0 None i)) ∙ g.1.is

  live_all : AreLive t (creates a c x e.0 (Some e.1) i)
  live_all = subst (AreLive t) (sym (first_and a c x e.0 (Some e.1) i)) (
    live,
    settled,
    subst (λ (z : Nodes). AreLive z (others a c i)) (sym step_same) (subst (AreLive u) (first_and a c x e.0 None i) g.1.live).2,
  )

  w_there : get w x ≡ Some p
  w_there = g.1.grown.node x p here

  beside_by : (q : List ℕ) (d : Bool) (v : Value) (o : Option Value) → eq_by_cmp (slice_cmp nat_cmp) q e.0 ≡ d → cond d (Some v) (cond (not (eq_by_cmp (slice_cmp nat_cmp) e.0 q)) o None) ≡ cond d (Some v) o
  beside_by q true v o is = refl
  beside_by q false v o is = ap (λ z. cond (not z) o None)
      (by_no (eq_by_cmp (slice_cmp nat_cmp) e.0 q) (λ s. true_false (sym (key_self q) ∙ ap (eq_by_cmp (slice_cmp nat_cmp) q) (sym (same_name e.0 q s)) ∙ is)))

  kids : kids_of 59 w x ≡ insert_entry (slice_cmp nat_cmp) (kids_of 59 t x) e.0 (init_view i)
  kids =
      same_fields (kids_of 59 w x) (insert_entry (slice_cmp nat_cmp) (kids_of 59 t x) e.0 (init_view i)) (kids_ordered 59 w x)
      (subst AreOrdered (sym (insert_put (kids_of 59 t x) e.0 (init_view i))) (ordered_put e.0 (init_view i) (kids_of 59 t x) (kids_ordered 59 t x)))
      (λ q.
      ap (find (slice_cmp nat_cmp) q) (graft_kids u w formed x p here e.0 a c i (creates a c x e.0 None i) (new_there c (omega arith)) g.1)
      ∙ find_insert q (kids_of 59 u x) e.0 (init_view i)
      ∙ ap (cond (eq_by_cmp (slice_cmp nat_cmp) q e.0) (Some (init_view i))) (kids_by t f x e.0 n there q (eq_by_cmp (slice_cmp nat_cmp) e.0 q) refl)
      ∙ beside_by q (eq_by_cmp (slice_cmp nat_cmp) q e.0) (init_view i) (find (slice_cmp nat_cmp) q (kids_of 59 t x)) refl
      ∙ sym (find_insert q (kids_of 59 t x) e.0 (init_view i)))

  kids_set : kids_of 59 w x ≡ slice_set (kids_of 59 t x) j (e.0, init_view i)
  kids_set = kids ∙ set_index (kids_of 59 t x) j (e.0, view_within 59 t e.1) (init_view i) (kids_ordered 59 t x)
      (slice_get-map (λ (d : Kid). (d.0, view_within 59 t d.1)) (children t x) j ∙ ap (option_map (λ (d : Kid). (d.0, view_within 59 t d.1))) at)

  shown_now : view_at w x ≡ on_list (λ vs. slice_set vs j (init_view i)) (view_at t x)
  shown_now =
      list_view w x p w_there kind_p
      ∙ ap (λ vs. list (values_of vs)) (ap (map second) kids_set ∙ map_slice_set second (kids_of 59 t x) j (e.0, init_view i))
      ∙ sym (on_items (λ vs. slice_set vs j (init_view i)) (view_at t x) (items_of t x) (list_view t x n there kind))

  local : IsLocal t w x (gone_of t (child_at t x e.0))
  local = let l = empty_local t f x e.0 n there in record {
    node = λ q m is s o. let h = l.node q m is s o in (h.0, g.1.grown.node q h.0 h.1, h.2);
    kids = λ q m is s o. let h = l.node q m is s o in g.1.grown.kids q h.0 h.1 o ∙ l.kids q m is s o;
    closed = l.closed;
  }

  pub put_changes : Changes t x (creates a c x e.0 (Some e.1) i) (λ v. on_list (λ vs. slice_set vs j (init_view i)) v)
  put_changes = record {
    live = live_all;
    node = ap (λ (z : Nodes). view_at z x) fold_same ∙ shown_now;
    rest = ap view fold_same
        ∙ rest_of t w f x (gone_of t (child_at t x e.0)) local n there g.1.grown.formed p w_there refl (empty_root t f x e.0 n there) (on_list (λ vs. slice_set vs j (init_view i)) (view_at t x)) shown_now;
  }
