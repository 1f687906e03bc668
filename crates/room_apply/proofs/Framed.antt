-- One change within some cells leaves the tree as it is elsewhere.
use Rattle.std.proofs.Common.{◌≡◌, ◌≢◌, inl, inr, ℕ, true, false, List, Option, Some, option_map}
use Rattle.std.proofs.Common.{refl, sym, ap, ◌∙◌, subst}
use Rattle.std.specs.Cmp.Lexicographic.{slice_cmp}
use Rattle.std.specs.FinMap.{get, insert, remove, find}
use Rattle.std.specs.Ordering.{nat_cmp}
use Rattle.room_ids.specs.declared.ids.NodeId.{NodeId}
use Rattle.room_nodes.specs.Cells.{bare, overlaps_some}
use Rattle.room_nodes.specs.Primitives.{fields_in, kind_fields, key_in}
use Rattle.room_nodes.specs.Shape.{Nodes, IsFormed, IsFree, IsLeaf, is_object, up, parent_of}
use Rattle.room_nodes.specs.Steps.{fields_kind, holds_object, on_fields}
use Rattle.room_nodes.specs.Turns.{turned, CanTurn}
use Rattle.room_nodes.specs.declared.cells.Cell.{Cell}
use Rattle.room_nodes.specs.declared.cells.Cell.TheVariants.{Node as NodeOf, Slot}
use Rattle.room_nodes.specs.declared.nodes.Kind.{Kind}
use Rattle.room_nodes.specs.declared.nodes.Kind.TheVariants.{Object, List as Listed, Map as Mapped, Register}
use Rattle.room_nodes.specs.declared.nodes.Node.{Node}
use Rattle.room_nodes.specs.declared.turns.Turn.{Turn}
use Rattle.room_nodes.specs.declared.turns.Turn.TheVariants.{Put, Cut, Fields, Key}
use Rattle.room_nodes.proofs.Again.{again}
use Rattle.room_nodes.proofs.Fitting.{none_of, some_of}
use Rattle.room_nodes.proofs.Gets.{get_here, get_other, get_without, here_or_old, one_or_two, some_inj, true_false}
use Rattle.room_nodes.proofs.StepForm.{at_node, object_there}
use Rattle.room_nodes.proofs.Undoing.{put_again}
use Rattle.room_steps.proofs.Booleans.{by_no}
use Rattle.room_steps.proofs.Alike.{bare_fields}
use Rattle.room_steps.proofs.Changing.{found_in, child_was, child_stays}
use Rattle.room_steps.proofs.Framing.{acts_plain, acts_then, node_beside, slot_beside}
use Rattle.room_steps.proofs.Kin.{same_child}
use Rattle.room_steps.proofs.Touching.{Framed}
use Rattle.room_apply.specs.Within.{FieldsOf, IsSlotIn, IsPlaceIn, IsKeyIn, AreFieldsIn, IsWithin, is_name}

pub new_fields : (fs : FieldsOf) (kind : Kind) → is_object kind ≡ true → kind_fields (fields_kind (λ _. fs) kind) ≡ fs
new_fields fs (Object gs) e = refl
new_fields fs Listed e = cc
new_fields fs Mapped e = cc
new_fields fs (Register v) e = cc

framed_back : (t u : Nodes) (cs : List Cell) → Framed t u cs → Framed u t cs
framed_back t u cs a = record {
  node = λ q off. sym (a.node q off);
  slot = λ q k off. let s = a.slot q k off in (sym s.0, sym s.1);
}

module _ (cs : List Cell) (t : Nodes) (f : IsFormed t) (x : NodeId) where
  framed_put : (n : Node) → IsFree t x n → IsPlaceIn cs x n.parent n.key → IsFormed (insert t x n)
      → Framed t (insert t x n) cs
  framed_put n free p h =
      let fresh = none_of (get t x) free.fresh in
      record {
        node = node_beside t x n h fresh cs p.node p.slots p.slot;
        slot = slot_beside t x n h fresh cs p.node p.slots p.slot;
      }

  framed_cut : IsLeaf t x → IsPlaceIn cs x (up t x) (key_in (get t x)) → Framed t (remove t x) cs
  framed_cut leaf p =
      let n = some_of (get t x) leaf.there in
      let v = remove t x in
      let is : insert v x n.0 ≡ t = put_again t f x n.0 leaf.made n.1 in
      let h : IsFormed (insert v x n.0) = subst IsFormed (sym is) f in
      let slot : IsSlotIn cs n.0.parent n.0.key =
      subst (λ (o : Option Node). IsSlotIn cs (parent_of o) (key_in o)) n.1 p.slot in
      framed_back v t cs (subst (λ (w : Nodes). Framed v w cs) is (record {
        node = node_beside v x n.0 h (get_without t x) cs p.node p.slots slot;
        slot = slot_beside v x n.0 h (get_without t x) cs p.node p.slots slot;
      }))

  -- fields
  module _ (ns fs : FieldsOf) (n : Node) (there : get t x ≡ Some n) (object : is_object n.kind ≡ true)
      (w : AreFieldsIn cs ns x fs (fields_in (get t x))) where
    abbrev m : Node
    m = on_fields (λ _. fs) n

    field_off : (j : List ℕ) → overlaps_some (Slot x j) cs ≡ false
        → found_in j (get t x) ≡ found_in j (get (insert t x m) x)
    field_off j off =
        let none : is_name j ns ≡ false = by_no (is_name j ns) (λ e. true_false (sym (w.names j e) ∙ off)) in
        sym (w.others j none) ∙ ap (find (slice_cmp nat_cmp) j) (sym (new_fields fs n.kind object))
        ∙ ap (found_in j) (sym (get_here t x m))

    framed_in : IsFormed (insert t x m) → Framed t (insert t x m) cs
    framed_in h =
        let a = acts_then t t (λ q. false) x (λ _. fs) n (acts_plain t t (λ q. false) x (λ q. refl)) there in
        record {
          node = λ q off. elim (one_or_two q x) [
            | inl i ↦
                ap (λ z. option_map bare (get t z)) i ∙ ap (option_map bare) there
                ∙ ap Some (sym (bare_fields (λ _. fs) n))
                ∙ ap (option_map bare) (sym (get_here t x m)) ∙ ap (λ z. option_map bare (get (insert t x m) z)) (sym i)
            | inr d ↦ ap (option_map bare) (sym (get_other t x m q d))
          ];
          slot = λ q j off. (
            elim (one_or_two q x) [
              | inl i ↦
                  ap (λ z. found_in j (get t z)) i
                  ∙ field_off j (ap (λ z. overlaps_some (Slot z j) cs) (sym i) ∙ off)
                  ∙ ap (λ z. found_in j (get (insert t x m) z)) (sym i)
              | inr d ↦ ap (found_in j) (sym (get_other t x m q d))
            ],
            same_child t (insert t x m) h q j
                (λ y c. child_stays t (insert t x m) (λ z. false) x (λ _. fs) a q j y c refl)
                (λ y c. (child_was t (insert t x m) (λ z. false) x (λ _. fs) a q j y c).0),
          );
        }

  -- a key
  module _ (k : List ℕ) (n : Node) (there : get t x ≡ Some n) (w : IsKeyIn cs x (up t x)) where
    abbrev moved : Node
    moved = record n { key = k }

    off_parent : (q : NodeId) (j : List ℕ) → overlaps_some (Slot q j) cs ≡ false → n.parent ≢ q
    off_parent q j off h =
        true_false (sym (w.slots j) ∙ ap (λ z. overlaps_some (Slot z j) cs) (ap parent_of there ∙ h) ∙ off)

    framed_moved : IsFormed (insert t x moved) → Framed t (insert t x moved) cs
    framed_moved h = record {
      node = λ q off. ap (option_map bare) (sym (get_other t x moved q (λ i.
          true_false (sym w.node ∙ ap (λ z. overlaps_some (NodeOf z) cs) (sym i) ∙ off))));
      slot = λ q j off. (
        elim (one_or_two q x) [
          | inl i ↦
              ap (λ z. found_in j (get t z)) i ∙ ap (found_in j) there ∙ ap (found_in j) (sym (get_here t x moved))
              ∙ ap (λ z. found_in j (get (insert t x moved) z)) (sym i)
          | inr d ↦ ap (found_in j) (sym (get_other t x moved q d))
        ],
        same_child t (insert t x moved) h q j
            (λ y c. record {
              node = c.node;
              there = get_other t x moved y (λ i. off_parent q j off
                  (ap (λ (v : Node). v.parent) (some_inj n c.node (sym there ∙ ap (get t) (sym i) ∙ c.there))
                  ∙ c.parent)) ∙ c.there;
              made = c.made;
              parent = c.parent;
              key = c.key;
            })
            (λ y c. elim (here_or_old t x moved y c.node c.there) [
              | inl i ↦ absurd (off_parent q j off (sym (ap (λ (v : Node). v.parent) i.1) ∙ c.parent))
              | inr old ↦ record { node = c.node; there = old.1; made = c.made; parent = c.parent; key = c.key }
            ]),
      );
    }

pub framed_turn : (cs : List Cell) (ns : FieldsOf) (t : Nodes) → IsFormed t → (c : Turn) → CanTurn t c
    → IsWithin cs ns t c → Framed t (turned t c) cs
framed_turn cs ns t f (Put x n) h w = framed_put cs t f x n h w (again t f (Put x n) h).formed
framed_turn cs ns t f (Cut x) h w = framed_cut cs t f x h w
framed_turn cs ns t f (Fields x fs) h w =
    let n = object_there (get t x) h.object in
    let is = at_node t x (on_fields (λ _. fs)) n.0 n.1 in
    subst (λ (v : Nodes). Framed t v cs) (sym is)
    (framed_in cs t f x ns fs n.0 n.1 (ap holds_object (sym n.1)
    ∙ h.object) w (subst IsFormed is (again t f (Fields x fs) h).formed))
framed_turn cs ns t f (Key x k) h w =
    let n = some_of (get t x) h.there in
    let is = at_node t x (λ v. record v { key = k }) n.0 n.1 in
    subst (λ (v : Nodes). Framed t v cs) (sym is)
    (framed_moved cs t f x k n.0 n.1 w (subst IsFormed is (again t f (Key x k) h).formed))
