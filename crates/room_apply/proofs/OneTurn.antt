-- One change made on two trees that agree on the cells that it touches.
use Rattle.std.proofs.Common.{◌≡◌, ◌≢◌, inl, inr, ℕ, Bool, true, false, not, ◌&&◌, ◌||◌, ◌+◌, nat_eq, nat_le, List, []}
use Rattle.std.proofs.Common.{Option, Some, None, option_map, is_some, refl, sym, ap, ◌∙◌, subst}
use Rattle.std.specs.Cmp.Lexicographic.{slice_cmp}
use Rattle.std.specs.FinMap.{get, insert, remove, find}
use Rattle.std.specs.Ordering.{nat_cmp}
use Rattle.room_ids.specs.Position.{is_pos}
use Rattle.room_ids.specs.declared.ids.NodeId.{NodeId}
use Rattle.room_ids.specs.declared.ids.NodeId.TheVariants.{Root}
use Rattle.room_nodes.specs.Cells.{Agrees, SameSlot, bare}
use Rattle.room_nodes.specs.Primitives.{CanHold, CanStand, fields_in, key_in, kind_fields}
use Rattle.room_nodes.specs.Shape.{Nodes, IsFormed, IsFree, IsLeaf, fits, fits_under, has_field, is_list, is_object}
use Rattle.room_nodes.specs.Shape.{is_register, parent_of, up}
use Rattle.room_nodes.specs.Steps.{fields_kind, holds_list, holds_object, on_fields}
use Rattle.room_nodes.specs.Turns.{turned, reverse, put_of, CanTurn}
use Rattle.room_nodes.specs.declared.cells.Cell.{Cell}
use Rattle.room_nodes.specs.declared.nodes.Kind.{Kind}
use Rattle.room_nodes.specs.declared.nodes.Kind.TheVariants.{Object, List as Listed, Map as Mapped, Register}
use Rattle.room_nodes.specs.declared.nodes.Node.{Node}
use Rattle.room_nodes.specs.declared.turns.Turn.{Turn}
use Rattle.room_nodes.specs.declared.turns.Turn.TheVariants.{Put, Cut, Fields, Key}
use Rattle.room_nodes.proofs.Again.{again}
use Rattle.room_nodes.proofs.Fitting.{some_of, the_parent}
use Rattle.room_nodes.proofs.Gets.{get_here, get_other, get_without, get_beside, one_or_two, some_inj, some_none}
use Rattle.room_nodes.proofs.StepForm.{at_node, object_there}
use Rattle.room_steps.proofs.Alike.{Alike, bare_fields, holds_list_same, holds_object_same, key_same}
use Rattle.room_steps.proofs.Alike.{parent_same, some_same}
use Rattle.room_steps.proofs.Changing.{found_in}
use Rattle.room_steps.proofs.Covering.{on_node, on_slot}
use Rattle.room_steps.proofs.Kin.{carried}
use Rattle.room_apply.specs.Within.{FieldsOf, IsNodeIn, IsSlotIn, IsPlaceIn, IsKeyIn, AreFieldsIn, IsWithin, is_name}
use Rattle.room_apply.proofs.Framed.{new_fields}
use Rattle.room_apply.proofs.Inserting.{Stays, cut_stays, put_stays}

-- where a change changes fields, both trees have the same fields of the object
abbrev pub SameFields : Nodes → Nodes → Turn → Type 0
SameFields t u (Put x n) = Unit {0}
SameFields t u (Cut x) = Unit {0}
SameFields t u (Fields x fs) = fields_in (get t x) ≡ fields_in (get u x)
SameFields t u (Key x k) = Unit {0}

-- a parent alike, with the same field at the key

pub has_of : (k : List ℕ) (kind : Kind) → has_field k kind ≡ is_some (find (slice_cmp nat_cmp) k (kind_fields kind))
has_of k (Object fs) = refl
has_of k Listed = refl
has_of k Mapped = refl
has_of k (Register v) = refl

register_bare : (kind : Kind) → is_register (fields_kind (λ _. []) kind) ≡ is_register kind
register_bare (Object fs) = refl
register_bare Listed = refl
register_bare Mapped = refl
register_bare (Register v) = refl

list_bare : (kind : Kind) → is_list (fields_kind (λ _. []) kind) ≡ is_list kind
list_bare (Object fs) = refl
list_bare Listed = refl
list_bare Mapped = refl
list_bare (Register v) = refl

fits_too : (p q n : Node) → bare p ≡ bare q → has_field n.key p.kind ≡ has_field n.key q.kind → fits p n ≡ fits q n
fits_too p q n e h =
    let d : p.depth ≡ q.depth = ap (λ (v : Node). v.depth) e in
    let r : is_register p.kind ≡ is_register q.kind =
    sym (register_bare p.kind) ∙ ap (λ (v : Node). is_register v.kind) e ∙ register_bare q.kind in
    let l : is_list p.kind ≡ is_list q.kind =
    sym (list_bare p.kind) ∙ ap (λ (v : Node). is_list v.kind) e ∙ list_bare q.kind in
    λ i. nat_eq n.depth (d i + 1) && (nat_le n.depth 60 && (not (r i) && (not (h i) && (not (l i) || is_pos n.key))))

under_too : (n : Node) (o w : Option Node) → Alike o w → found_in n.key o ≡ found_in n.key w
    → fits_under o n ≡ fits_under w n
under_too n None None e h = refl
under_too n None (Some q) e h = absurd (some_none (bare q) (sym e))
under_too n (Some p) None e h = absurd (some_none (bare p) e)
under_too n (Some p) (Some q) e h =
    fits_too p q n (some_inj (bare p) (bare q) e) (has_of n.key p.kind ∙ ap is_some h ∙ sym (has_of n.key q.kind))

module _ (cs : List Cell) (ns : FieldsOf) (t u : Nodes) (f : IsFormed t) (g : IsFormed u) (h : Agrees t u cs) where
  node_of : (x : NodeId) → IsNodeIn cs x → Alike (get t x) (get u x)
  node_of x e = on_node t u x cs h e

  slot_of : (x : NodeId) (k : List ℕ) → IsSlotIn cs x k → SameSlot t u x k
  slot_of x k e = on_slot t u x k cs h e

  free_too : (x : NodeId) (n : Node) → IsFree t x n → IsPlaceIn cs x n.parent n.key → IsFree u x n
  free_too x n free p =
      let slot = slot_of n.parent n.key p.slot in
      record {
        fresh = sym (some_same _ _ (node_of x p.node)) ∙ free.fresh;
        parent = sym (under_too n (get t n.parent) (get u n.parent) (node_of n.parent p.parent) slot.0) ∙ free.parent;
        key = λ y m own e above key.
            let c = carried u t g n.parent n.key y (sym slot.1)
            (record { node = m; there = e; made = own; parent = above; key = key }) in
            free.key y c.node c.made c.there c.parent c.key;
      }

  leaf_too : (x : NodeId) → IsLeaf t x → ((j : List ℕ) → IsSlotIn cs x j) → IsNodeIn cs x → IsLeaf u x
  leaf_too x leaf slots node = record {
    there = sym (some_same _ _ (node_of x node)) ∙ leaf.there;
    made = leaf.made;
    bare = λ y m own e above.
        let c = carried u t g x m.key y (sym (slot_of x m.key (slots m.key)).1)
        (record { node = m; there = e; made = own; parent = above; key = refl }) in
        leaf.bare y c.node c.made c.there c.parent;
  }

  up_same : (x : NodeId) → IsNodeIn cs x → up t x ≡ up u x
  up_same x node = parent_same _ _ (node_of x node)

  stand_too : (x : NodeId) (k : List ℕ) → CanStand t x k → IsKeyIn cs x (up t x) → CanStand u x k
  stand_too x k can w =
      let ups = up_same x w.node in
      record {
        there = sym (some_same _ _ (node_of x w.node)) ∙ can.there;
        made = can.made;
        list = ap (λ p. holds_list (get u p)) (sym ups) ∙ sym (holds_list_same _ _ (node_of (up t x) w.parent))
            ∙ can.list;
        pos = can.pos;
        free = λ y m own away e above key.
            let c = carried u t g (up t x) k y (sym (slot_of (up t x) k (w.slots k)).1)
            (record { node = m; there = e; made = own; parent = above ∙ sym ups; key = key }) in
            can.free y c.node c.made away c.there c.parent c.key;
      }

  -- fields hs that are fs at the names, and elsewhere those of u
  module _ (x : NodeId) (fs hs : FieldsOf) (can : CanHold t x fs) (w : AreFieldsIn cs ns x fs (fields_in (get t x)))
      (named : (k : List ℕ) → is_name k ns ≡ true → find (slice_cmp nat_cmp) k hs ≡ find (slice_cmp nat_cmp) k fs)
      (other : (k : List ℕ) → is_name k ns ≡ false → find (slice_cmp nat_cmp) k hs ≡ found_in k (get u x)) where
    child_off : (y : NodeId) (m : Node) → y ≢ Root → get u y ≡ Some m → m.parent ≡ x → (b : Bool) → is_name m.key ns ≡ b
        → is_some (find (slice_cmp nat_cmp) m.key hs) ≡ false
    child_off y m own e above true is =
        let c = carried u t g x m.key y (sym (slot_of x m.key (w.names m.key is)).1)
        (record { node = m; there = e; made = own; parent = above; key = refl }) in
        ap is_some (named m.key is) ∙ ap (λ j. is_some (find (slice_cmp nat_cmp) j fs)) (sym c.key)
        ∙ can.free y c.node c.made c.there c.parent
    child_off y m own e above false is =
        let q = the_parent u g y m own e in
        ap is_some (other m.key is) ∙ ap (λ z. is_some (found_in m.key (get u z))) (sym above)
        ∙ ap (λ o. is_some (found_in m.key o)) q.1 ∙ sym (has_of m.key q.0.kind) ∙ q.2.plain

    pub hold_too : CanHold u x hs
    hold_too = record {
      object = sym (holds_object_same _ _ (node_of x w.node)) ∙ can.object;
      free = λ y m own e above. child_off y m own e above _ refl;
    }

    pub fields_within : AreFieldsIn cs ns x hs (fields_in (get u x))
    fields_within = record { node = w.node; names = w.names; others = other }

    -- where they differ from fs, t and u differ too
    same_where : (j : List ℕ) → SameSlot t u x j → (b : Bool) → is_name j ns ≡ b
        → find (slice_cmp nat_cmp) j fs ≡ find (slice_cmp nat_cmp) j hs
    same_where j s true is = sym (named j is)
    same_where j s false is = w.others j is ∙ s.0 ∙ sym (other j is)

    pub fields_stay : Stays t u (turned t (Fields x fs)) (turned u (Fields x hs))
    fields_stay =
        let n = object_there (get t x) can.object in
        let m = object_there (get u x) hold_too.object in
        let a = at_node t x (on_fields (λ _. fs)) n.0 n.1 in
        let b = at_node u x (on_fields (λ _. hs)) m.0 m.1 in
        let one : bare n.0 ≡ bare m.0 = some_inj (bare n.0) (bare m.0) (sym (ap (option_map bare) n.1)
        ∙ node_of x w.node ∙ ap (option_map bare) m.1) in
        let e : bare (on_fields (λ _. fs) n.0) ≡ bare (on_fields (λ _. hs) m.0) = bare_fields (λ _. fs) n.0 ∙ one
        ∙ sym (bare_fields (λ _. hs) m.0) in
        let names : (j : List ℕ) → SameSlot t u x j
        → found_in j (Some (on_fields (λ _. fs) n.0)) ≡ found_in j (Some (on_fields (λ _. hs) m.0)) =
        λ j s. ap (find (slice_cmp nat_cmp) j) (new_fields fs n.0.kind (ap holds_object (sym n.1) ∙ can.object))
        ∙ same_where j s _ refl
        ∙ sym (ap (find (slice_cmp nat_cmp) j) (new_fields hs m.0.kind (ap holds_object (sym m.1)
        ∙ hold_too.object))) in
        subst (λ (v : Nodes). Stays t u v (turned u (Fields x hs))) (sym a)
        (subst (Stays t u (insert t x (on_fields (λ _. fs) n.0))) (sym b)
        (put_stays t u f g x (on_fields (λ _. fs) n.0) (on_fields (λ _. hs) m.0) e
        (subst IsFormed a (again t f (Fields x fs) can).formed)
        (subst IsFormed b (again u g (Fields x hs) hold_too).formed) names))

  key_stays : (x : NodeId) (k : List ℕ) → CanStand t x k → IsKeyIn cs x (up t x)
      → Stays t u (turned t (Key x k)) (turned u (Key x k))
  key_stays x k can w =
      let can2 = stand_too x k can w in
      let n = some_of (get t x) can.there in
      let m = some_of (get u x) can2.there in
      let a = at_node t x (λ v. record v { key = k }) n.0 n.1 in
      let b = at_node u x (λ v. record v { key = k }) m.0 m.1 in
      let one : bare n.0 ≡ bare m.0 = some_inj (bare n.0) (bare m.0) (sym (ap (option_map bare) n.1) ∙ node_of x w.node
      ∙ ap (option_map bare) m.1) in
      let e : bare (record n.0 { key = k }) ≡ bare (record m.0 { key = k }) = ap
      (λ (v : Node). record v { key = k }) one in
      let names : (j : List ℕ) → SameSlot t u x j → found_in j (Some n.0) ≡ found_in j (Some m.0) =
      λ j s. sym (ap (found_in j) n.1) ∙ s.0 ∙ ap (found_in j) m.1 in
      subst (λ (v : Nodes). Stays t u v (turned u (Key x k))) (sym a)
      (subst (Stays t u (insert t x (record n.0 { key = k }))) (sym b)
      (put_stays t u f g x (record n.0 { key = k }) (record m.0 { key = k }) e
      (subst IsFormed a (again t f (Key x k) can).formed) (subst IsFormed b (again u g (Key x k) can2).formed) names))

  -- the change can be made on u too, within the same cells, and the trees after it agree
  pub record IsToo (c : Turn) : Type 0 where
    pub can : CanTurn u c
    pub within : IsWithin cs ns u c
    pub stays : Stays t u (turned t c) (turned u c)

  pub turn_too : (c : Turn) → CanTurn t c → IsWithin cs ns t c → SameFields t u c → IsToo c
  turn_too (Put x n) can w s =
      let can2 = free_too x n can w in
      record {
        can = can2;
        within = w;
        stays = put_stays t u f g x n n refl (again t f (Put x n) can).formed (again u g (Put x n) can2).formed
            (λ j same. refl);
      }
  turn_too (Cut x) can w s =
      let can2 = leaf_too x can w.slots w.node in
      let alike = node_of x w.node in
      record {
        can = can2;
        within = record {
          node = w.node;
          slots = w.slots;
          parent = subst (IsNodeIn cs) (up_same x w.node) w.parent;
          slot = subst (IsSlotIn cs (up u x)) (key_same _ _ alike) (subst (λ p. IsSlotIn cs p (key_in (get t x)))
              (up_same x w.node) w.slot);
        };
        stays = cut_stays t u f g x (again t f (Cut x) can).formed (again u g (Cut x) can2).formed alike;
      }
  turn_too (Fields x fs) can w s =
      let other : (k : List ℕ) → is_name k ns ≡ false → find (slice_cmp nat_cmp) k fs ≡ found_in k (get u x) =
      λ k is. w.others k is ∙ ap (find (slice_cmp nat_cmp) k) s in
      record {
        can = hold_too x fs fs can w (λ k is. refl) other;
        within = fields_within x fs fs can w (λ k is. refl) other;
        stays = fields_stay x fs fs can w (λ k is. refl) other;
      }
  turn_too (Key x k) can w s = record {
    can = stand_too x k can w;
    within = record {
      node = w.node;
      parent = subst (IsNodeIn cs) (up_same x w.node) w.parent;
      slots = subst
          (λ p. (j : List ℕ) → IsSlotIn cs p j) (up_same x w.node) w.slots;
    };
    stays = key_stays x k can w;
  }

-- fields that are the same stay the same

module _ (t u : Nodes) (q : NodeId) (same : fields_in (get t q) ≡ fields_in (get u q)) where
  put_same : (x : NodeId) (n m : Node) → kind_fields n.kind ≡ kind_fields m.kind
      → fields_in (get (insert t x n) q) ≡ fields_in (get (insert u x m) q)
  put_same x n m e = elim (one_or_two q x) [
    | inl i ↦ ap (λ z. fields_in (get (insert t x n) z)) i ∙ ap fields_in (get_here t x n) ∙ e
        ∙ sym (ap fields_in (get_here u x m)) ∙ sym (ap (λ z. fields_in (get (insert u x m) z)) i)
    | inr d ↦ ap fields_in (get_other t x n q d) ∙ same ∙ sym (ap fields_in (get_other u x m q d))
  ]

  key_put : (x : NodeId) (k : List ℕ) (n m : Node) → get t x ≡ Some n → get u x ≡ Some m
      → fields_in (get (insert t x (record n { key = k })) q) ≡ fields_in (get (insert u x (record m { key = k })) q)
  key_put x k n m a b = elim (one_or_two q x) [
    | inl i ↦ ap (λ z. fields_in (get (insert t x (record n { key = k })) z)) i
        ∙ ap fields_in (get_here t x (record n { key = k }))
        ∙ sym (ap fields_in a) ∙ ap (λ z. fields_in (get t z)) (sym i) ∙ same ∙ ap (λ z. fields_in (get u z)) i
        ∙ ap fields_in b
        ∙ sym (ap fields_in (get_here u x (record m { key = k })))
        ∙ sym (ap (λ z. fields_in (get (insert u x (record m { key = k })) z)) i)
    | inr d ↦ ap fields_in (get_other t x (record n { key = k }) q d) ∙ same
        ∙ sym (ap fields_in (get_other u x (record m { key = k }) q d))
  ]

  pub fields_after : (c : Turn) → CanTurn t c → CanTurn u c
      → fields_in (get (turned t c) q) ≡ fields_in (get (turned u c) q)
  fields_after (Put x n) a b = put_same x n n refl
  fields_after (Cut x) a b = elim (one_or_two q x) [
    | inl i ↦ ap (λ z. fields_in (get (remove t x) z)) i ∙ ap fields_in (get_without t x)
        ∙ sym (ap fields_in (get_without u x)) ∙ sym (ap (λ z. fields_in (get (remove u x) z)) i)
    | inr d ↦ ap fields_in (get_beside t x q d) ∙ same ∙ sym (ap fields_in (get_beside u x q d))
  ]
  fields_after (Fields x fs) a b =
      let n = object_there (get t x) a.object in
      let m = object_there (get u x) b.object in
      let c : is_object n.0.kind ≡ true = ap holds_object (sym n.1) ∙ a.object in
      let d : is_object m.0.kind ≡ true = ap holds_object (sym m.1) ∙ b.object in
      ap (λ (v : Nodes). fields_in (get v q)) (at_node t x (on_fields (λ _. fs)) n.0 n.1)
      ∙ put_same x (on_fields (λ _. fs) n.0) (on_fields (λ _. fs) m.0) (new_fields fs n.0.kind c
      ∙ sym (new_fields fs m.0.kind d))
      ∙ sym (ap (λ (v : Nodes). fields_in (get v q)) (at_node u x (on_fields (λ _. fs)) m.0 m.1))
  fields_after (Key x k) a b =
      let n = some_of (get t x) a.there in
      let m = some_of (get u x) b.there in
      ap (λ (v : Nodes). fields_in (get v q)) (at_node t x (λ v. record v { key = k }) n.0 n.1)
      ∙ key_put x k n.0 m.0 n.1 m.1
      ∙ sym (ap (λ (v : Nodes). fields_in (get v q)) (at_node u x (λ v. record v { key = k }) m.0 m.1))

-- the reversal touches the same cells

module _ (cs : List Cell) (ns : FieldsOf) (t : Nodes) where
  cut_of : (x : NodeId) (o : Option Node) → is_some o ≡ true → get t x ≡ o → IsPlaceIn cs x (parent_of o) (key_in o)
      → (v : Nodes) → IsWithin cs ns v (put_of x o)
  cut_of x None s e w v = cc
  cut_of x (Some n) s e w v = w

  pub reverse_within : (c : Turn) → CanTurn t c → IsWithin cs ns t c → IsWithin cs ns (turned t c) (reverse t c)
  reverse_within (Put x n) can w = subst (λ (o : Option Node). IsPlaceIn cs x (parent_of o) (key_in o))
      (sym (get_here t x n)) w
  reverse_within (Cut x) can w = cut_of x (get t x) can.there refl w (remove t x)
  reverse_within (Fields x fs) can w =
      let n = object_there (get t x) can.object in
      let a = at_node t x (on_fields (λ _. fs)) n.0 n.1 in
      let is : fields_in (get (turned t (Fields x fs)) x) ≡ fs =
      ap (λ (v : Nodes). fields_in (get v x)) a ∙ ap fields_in (get_here t x (on_fields (λ _. fs) n.0))
      ∙ new_fields fs n.0.kind (ap holds_object (sym n.1) ∙ can.object) in
      record {
        node = w.node;
        names = w.names;
        others = λ k none. sym (w.others k none)
            ∙ ap (find (slice_cmp nat_cmp) k) (sym is);
      }
  reverse_within (Key x k) can w =
      let n = some_of (get t x) can.there in
      let a = at_node t x (λ v. record v { key = k }) n.0 n.1 in
      let is : up t x ≡ up (turned t (Key x k)) x =
      ap parent_of n.1 ∙ sym (ap parent_of (get_here t x (record n.0 { key = k })))
      ∙ ap (λ (v : Nodes). up v x) (sym a) in
      subst (IsKeyIn cs x) is w
