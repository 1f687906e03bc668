-- What each operation makes of a tree, as a change at one node.
use Rattle.std.proofs.Common.{◌≡◌, ◌≢◌, ℕ, inl, inr, List, Some, None, refl, sym, ap, ◌∙◌, subst}
use Rattle.std.specs.FinMap.{get, insert}
use Rattle.room_ids.specs.declared.ids.NodeId.{NodeId}
use Rattle.room_ids.specs.declared.ids.NodeId.TheVariants.{Root}
use Rattle.room_nodes.specs.declared.nodes.Node.{Node}
use Rattle.room_nodes.specs.declared.nodes.Kind.{Kind}
use Rattle.room_nodes.specs.Shape.{Nodes, IsFormed, child_at, is_below, removed}
use Rattle.room_nodes.specs.Steps.{fields_kind, on_fields, without_children}
use Rattle.room_nodes.proofs.Below.{parent_not_below}
use Rattle.room_nodes.proofs.Children.{child_at_some}
use Rattle.room_nodes.proofs.Formed.{formed-removed}
use Rattle.room_nodes.proofs.Gets.{get_here, get_kept, get_other, here_or_old, kept, one_or_two, some_inj, some_none}
use Rattle.room_nodes.proofs.StepForm.{FieldsOf}
use Rattle.room_nodes.proofs.Undoing.{parent_other}
use Rattle.room_nodes.proofs.Fitting.{the_parent}
use Rattle.room_steps.proofs.Cutting.{IsNamed, cut}
use Rattle.room_told.proofs.Editing.{IsEdit}
use Rattle.room_told.proofs.Following.{IsChange}

pub no_new : {A : Type 0} (a : A) → None ≡ Some a → ⊥
no_new a e = some_none a (sym e)

-- the children at some names go, and the fields change
abbrev pub NamedKid : Nodes → NodeId → FieldsOf → NodeId → Type 0
NamedKid t x es w = (k : List ℕ) × IsNamed x k es × (child_at t x k ≡ Some w)

module _ (t : Nodes) (f : IsFormed t) (x : NodeId) (es : FieldsOf) (n : Node) (there : get t x ≡ Some n) (g : FieldsOf → FieldsOf) where
  abbrev pub cut_tree : Nodes
  cut_tree = without_children t x es

  pub itself : get cut_tree x ≡ Some n
  itself = (cut x t f es).stays x n there (λ k z named at.
      let c = child_at_some t x k z at in
      ap (is_below t z) (sym c.3) ∙ parent_not_below t f z c.0 c.2 c.1)

  abbrev pub cut_edit : IsFormed (insert cut_tree x (on_fields g n)) → IsEdit t (insert cut_tree x (on_fields g n)) x (NamedKid t x es) (fields_kind g n.kind) None
  cut_edit after =
      let c = cut x t f es in
      record {
        before = f;
        after = after;
        node = n;
        there = there;
        out = λ w q. let k = child_at_some t x q.0 w q.2 in (k.0, k.1, k.2, k.3);
        here = get_here cut_tree x (on_fields g n);
        kept = λ y m e s other. get_other cut_tree x (on_fields g n) y other ∙ c.stays y m e (λ k z named at. s z (k, named, at));
        old = λ y m e other. elim (here_or_old cut_tree x (on_fields g n) y m e) [
          | inl i ↦ absurd (other i.0)
          | inr o ↦ inr (c.part y m o.1, λ w q. c.spared y m o.1 q.0 w q.1 q.2)
        ];
        new_parent = λ y m q. absurd (no_new (y, m) q);
      }

-- a child goes
module _ (t : Nodes) (f : IsFormed t) (r : NodeId) (m n : Node) (here : get t r ≡ Some m) (made : r ≢ Root) (above : get t m.parent ≡ Some n) where
  abbrev pub removed_edit : IsEdit t (removed t r) m.parent (λ w. w ≡ r) n.kind None
  removed_edit = record {
    before = f;
    after = formed-removed t r f made;
    node = n;
    there = above;
    out = λ w q. (m, ap (get t) q ∙ here, λ i. made (sym q ∙ i), refl);
    here = get_kept t r m.parent (parent_not_below t f r m made here) ∙ above;
    kept = λ y v e s other. get_kept t r y (s r refl) ∙ e;
    old = λ y v e other. let k = kept t r y v e in inr (k.0, λ w q. ap (λ z. is_below t z y) q ∙ k.1);
    new_parent = λ y v q. absurd (no_new (y, v) q);
  }

-- nothing changes
abbrev pub same_edit : (t : Nodes) → IsFormed t → (z : NodeId) (n : Node) → get t z ≡ Some n → IsEdit t t z (λ _. ⊥) n.kind None
same_edit t f z n there = record {
  before = f;
  after = f;
  node = n;
  there = there;
  out = λ w q. absurd q;
  here = there;
  kept = λ y m e s other. e;
  old = λ y m e other. inr (e, λ w q. absurd q);
  new_parent = λ y m q. absurd (no_new (y, m) q);
}

-- a node comes
module _ (t v : Nodes) (z : NodeId) (G : NodeId → Type 0) (kind : Kind) (c : IsEdit t v z G kind None) (x : NodeId) (n : Node) (fresh : (m : Node) → get t x ≡ Some m → ⊥) (parent : n.parent ≡ z) (made : x ≢ Root) where
  abbrev pub added_edit : IsFormed (insert v x n) → IsEdit t (insert v x n) z G kind (Some (x, n))
  added_edit after = record {
    before = c.before;
    after = after;
    node = c.node;
    there = c.there;
    out = c.out;
    here = get_other v x n z (λ i. fresh c.node (ap (get t) (sym i) ∙ c.there)) ∙ c.here;
    kept = λ y m e s other. get_other v x n y (λ i. fresh m (ap (get t) (sym i) ∙ e)) ∙ c.kept y m e s other;
    old = λ y m e other. elim (here_or_old v x n y m e) [
      | inl i ↦ inl (λ j. Some (sym i.0 j, sym i.1 j))
      | inr o ↦ elim (c.old y m o.1 other) [ inl q ↦ absurd (no_new (y, m) q) | inr q ↦ inr q ]
    ];
    new_parent = λ y m q.
        let pair = some_inj (x, n) (y, m) q in
        subst (λ (p : NodeId × Node). (p.1.parent ≡ z) × (get (insert v x n) p.0 ≡ Some p.1) × (p.0 ≢ Root)) pair (parent, get_here v x n, made);
  }

-- a child gets another key
module _ (t : Nodes) (f : IsFormed t) (x : NodeId) (n : Node) (k : List ℕ) (here : get t x ≡ Some n) (made : x ≢ Root) where
  abbrev pub keyed_tree : Nodes
  keyed_tree = insert t x (record n { key = k })

  abbrev pub keyed_change : IsFormed keyed_tree → IsChange t keyed_tree n.parent (λ _. ⊥)
  keyed_change after =
      let p = the_parent t f x n made here in
      let m : Node = record n { key = k } in
      record {
        before = f;
        after = after;
        node = p.0;
        there = p.1;
        out = λ w q. absurd q;
        stays = λ y v e s. elim (one_or_two y x) [
          | inl i ↦
              let one : v ≡ n = some_inj v n (sym e ∙ ap (get t) i ∙ here) in
              (m, ap (get keyed_tree) i ∙ get_here t x m, ap (λ (w : Node). w.parent) (sym one), λ _. ap (λ (w : Node). w.kind) (sym one), λ away. absurd (away (ap (λ (w : Node). w.parent) one)))
          | inr other ↦ (v, get_other t x m y other ∙ e, refl, λ _. refl, λ _. refl)
        ];
        was = λ y v e away. elim (here_or_old t x m y v e) [
          | inl i ↦ absurd (away (ap (λ (w : Node). w.parent) i.1))
          | inr o ↦ (v, o.1, refl, refl)
        ];
      }

  pub keyed_parent : (q : Node) → get t n.parent ≡ Some q → get keyed_tree n.parent ≡ Some q
  keyed_parent q e = get_other t x (record n { key = k }) n.parent (parent_other t f x n made here) ∙ e
