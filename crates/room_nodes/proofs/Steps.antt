-- A step of a well-formed tree is well-formed, whatever the operation.
use Rattle.std.proofs.Common.{◌≡◌, ◌≢◌, ◌<◌, ◌+◌, ℕ, Bool, true, false, cond, not, ◌&&◌, ◌||◌, nat_lt, List, [], ◌∷◌, Option, Some, None, is_some, refl, sym, ap, ◌∙◌, subst, arith}
use Rattle.std.proofs.lemmas.Bool.{ltb-true}
use Rattle.std.specs.FinMap.{get, insert}
use Rattle.room_ids.specs.Position.{is_pos}
use Rattle.room_nodes.specs.Shape.{Nodes, parent_of, IsFormed, IsFree, fits_under, is_list, is_register, has_field, up, is_child, is_below, removed}
use Rattle.room_ids.specs.Order.{is_same}
use Rattle.room_nodes.specs.Steps.{is_void, effect, step, fold, settled_body, settled_key, is_placed, is_under, without_replaced, changed, changed_at, without_child, on_fields, without_field, holds_list, has_room, cleared, depth_in}
use Rattle.room_nodes.specs.Primitives.{CanStand}
use Rattle.room_nodes.proofs.Gets.{some_inj, same, same_self, true_false, kept, get_kept}
use Rattle.room_nodes.proofs.Fitting.{Fits, fits_from, the_parent, both, not_true, some_of}
use Rattle.room_nodes.proofs.Below.{parent_not_below}
use Rattle.room_nodes.proofs.Undoing.{parent_other}
use Rattle.room_nodes.proofs.Formed.{formed-removed, formed-insert}
use Rattle.room_nodes.proofs.Putting.{formed-put}
use Rattle.room_nodes.proofs.Places.{settled_free}
use Rattle.room_nodes.proofs.StepForm.{IsPruned, formed-update, formed-delete_key, formed-create, absent}
use Rattle.room_ids.specs.declared.ids.NodeId.{NodeId}
use Rattle.room_ids.specs.declared.ids.NodeId.TheVariants.{Root}
use Rattle.room_nodes.specs.declared.nodes.Node.{Node}
use Rattle.room_nodes.specs.declared.nodes.Kind.{Kind}
use Rattle.room_nodes.specs.declared.nodes.Kind.TheVariants.{Object, List as Listed, Map as Mapped, Register}
use Rattle.room_nodes.specs.declared.nodes.Body.{Body}
use Rattle.room_nodes.specs.declared.nodes.Body.TheVariants.{SetKey, Create, Update, Delete, DeleteKey}

-- tests

pub neither : (a b : Bool) → (a || b) ≡ false → (a ≡ false) × (b ≡ false)
neither true b e = cc
neither false b e = (refl, e)

pub not_false : (b : Bool) → not b ≡ false → b ≡ true
not_false true e = refl
not_false false e = cc

pub list_there : (o : Option Node) → holds_list o ≡ true → (n : Node) × (o ≡ Some n) × (is_list n.kind ≡ true)
list_there None e = cc
list_there (Some n) e = (n, refl, e)

pub room_there : (o : Option Node) → has_room o ≡ true → (n : Node) × (o ≡ Some n) × (is_register n.kind ≡ false) × (n.depth < 60)
room_there None e = cc
room_there (Some n) e = let b = both (not (is_register n.kind)) (nat_lt n.depth 60) e in (n, refl, not_true _ b.0, ltb-true n.depth 60 b.1)

pub second : (a b : Bool) → (a && b) ≡ false → a ≡ true → b ≡ false
second true b e h = e
second false b e h = cc

-- set key

list_plain : (k : List ℕ) (kind : Kind) → is_list kind ≡ true → has_field k kind ≡ false
list_plain k (Object fs) e = cc
list_plain k Listed e = refl
list_plain k Mapped e = cc
list_plain k (Register v) e = cc

or_true : (a b : Bool) → b ≡ true → (a || b) ≡ true
or_true true b e = refl
or_true false b e = e

pub formed-key : (t : Nodes) → IsFormed t → (x : NodeId) (n p : Node) (z : List ℕ) → x ≢ Root → get t x ≡ Some n → get t n.parent ≡ Some p → is_list p.kind ≡ true → is_pos z ≡ true
    → ((c : NodeId) (m : Node) → c ≢ Root → c ≢ x → get t c ≡ Some m → m.parent ≡ n.parent → m.key ≡ z → ⊥) → IsFormed (insert t x (record n { key = z }))
formed-key t f x n p z made e there list pos free = formed-put t f x (record n { key = z }) (record {
  root = λ r. absurd (made r);
  parent = λ h.
      let q = the_parent t f x n made e in
      let old : Fits p n = subst (λ (v : Node). Fits v n) (some_inj q.0 p (sym q.1 ∙ there)) q.2 in
      (parent_other t f x n made e, ap (λ o. fits_under o (record n { key = z })) there ∙ fits_from p (record n { key = z }) (record { depth = old.depth; deep = old.deep; holds = old.holds; plain = list_plain z p.kind list; place = or_true _ _ pos }));
  children = λ y k own other g parent.
      let q = the_parent t f y k own g in
      let old : Fits n k = subst (λ (v : Node). Fits v k) (some_inj q.0 n (sym q.1 ∙ ap (get t) parent ∙ e)) q.2 in
      fits_from (record n { key = z }) k (record { depth = old.depth; deep = old.deep; holds = old.holds; plain = old.plain; place = old.place });
  key = λ h y k own other g parent key. free y k own other g parent key;
})

formed-set_key : (t : Nodes) → IsFormed t → (x : NodeId) (k : List ℕ) → is_some (get t x) ≡ true → is_same x Root ≡ false → holds_list (get t (up t x)) ≡ true → is_placed t (up t x) x k ≡ true → IsFormed (effect t (SetKey x (settled_key t (up t x) x k)))
formed-set_key t f x k there made list placed =
    let n = some_of (get t x) there in
    let p = list_there (get t (up t x)) list in
    let b = both (is_pos k) _ placed in
    let is : up t x ≡ n.0.parent = ap (λ (o : Option Node). parent_of o) n.1 in
    let other : x ≢ Root = λ r. true_false (sym (same_self Root) ∙ ap (λ y. is_same y Root) (sym r) ∙ made) in
    let z = settled_key t (up t x) x k in
    let s = settled_free t f (up t x) p.0 p.1 p.2 k b.0 x b.1 in
    subst IsFormed (sym (ap (changed_at t x (λ n. record n { key = z })) n.1))
    (formed-key t f x n.0 p.0 z other n.1 (ap (get t) (sym is) ∙ p.1) p.2 s.0 (λ c m own away g parent key. s.1 c m own away g (parent ∙ sym is) key))

-- the child may stand at its settled position
pub can_set_key : (t : Nodes) → IsFormed t → (x : NodeId) (k : List ℕ) → is_void t (SetKey x k) ≡ false → CanStand t x (settled_key t (up t x) x k)
can_set_key t f x k e =
    let a = neither _ _ e in
    let b = neither _ _ a.1 in
    let c = neither _ _ b.1 in
    let list = not_false _ c.0 in
    let placed = not_false _ c.1 in
    let p = list_there (get t (up t x)) list in
    let q = both (is_pos k) _ placed in
    let s = settled_free t f (up t x) p.0 p.1 p.2 k q.0 x q.1 in
    record {
      there = not_false _ a.0;
      made = λ r. true_false (sym (same_self Root) ∙ ap (λ y. is_same y Root) (sym r) ∙ b.0);
      list = list;
      pos = s.0;
      free = λ c m own away g parent key. s.1 c m own away g parent key;
    }

-- create under a list

module _ (t : Nodes) (f : IsFormed t) (p : NodeId) where
  child_out : (y : NodeId) (n : Node) → get t y ≡ Some n → (b : Bool) → is_child p (y, n) ≡ b → IsPruned t (cond b (removed t y) t) p
  child_out y n e false h = record { formed = f; kept = λ q m g. g; here = refl }
  child_out y n e true h =
      let a = both (not (is_same y Root)) (is_same n.parent p) h in
      let made : y ≢ Root = λ r. true_false (sym (same_self Root) ∙ ap (λ z. is_same z Root) (sym r) ∙ not_true _ a.0) in
      record {
        formed = formed-removed t y f made;
        kept = λ q m g. (kept t y q m g).0;
        here = get_kept t y p (ap (is_below t y) (sym (same _ _ a.1)) ∙ parent_not_below t f y n made e);
      }

  replaced_at : (y : NodeId) (o : Option Node) → get t y ≡ o → IsPruned t (cond (is_under p y o) (removed t y) t) p
  replaced_at y None e = record { formed = f; kept = λ q n h. h; here = refl }
  replaced_at y (Some n) e = child_out y n e (is_child p (y, n)) refl

  pub pruned : (r : Option NodeId) → IsPruned t (without_replaced t p r) p
  pruned None = record { formed = f; kept = λ q n h. h; here = refl }
  pruned (Some y) = replaced_at y _ refl

module _ (t : Nodes) (f : IsFormed t) (x p : NodeId) (k : List ℕ) (r : Option NodeId) (n : Node) (e : get t p ≡ Some n)
    (list : is_list n.kind ≡ true) (register : is_register n.kind ≡ false) (deep : n.depth < 60) (fresh : is_some (get t x) ≡ false) (placed : is_placed (without_replaced t p r) p x k ≡ true) (kind : Kind) where
  -- the new node may stand at the settled position
  pub free-create_in_list : IsFree (without_replaced t p r) x (record { parent = p; key = settled_key (without_replaced t p r) p x k; depth = n.depth + 1; kind = kind })
  free-create_in_list =
      let c = pruned t f p r in
      let u = without_replaced t p r in
      let z = settled_key u p x k in
      let b = both (is_pos k) _ placed in
      let there : get u p ≡ Some n = c.here ∙ e in
      let s = settled_free u c.formed p n there list k b.0 x b.1 in
      let made : Node = record { parent = p; key = z; depth = n.depth + 1; kind = kind } in
      let new : is_some (get u x) ≡ false = absent t u x (λ q g. c.kept x q g) fresh in
      record {
        fresh = new;
        parent = ap (λ o. fits_under o made) there ∙ fits_from n made (record { depth = refl; deep = omega arith; holds = register; plain = list_plain z n.kind list; place = or_true _ _ s.0 });
        key = λ y q own g parent key. s.1 y q own (λ h. true_false (sym (ap is_some (ap (get u) (sym h) ∙ g)) ∙ new)) g parent key;
      }

  pub effect-create_in_list : (z : List ℕ) → effect t (Create x p z r kind) ≡ insert (without_replaced t p r) x (record { parent = p; key = z; depth = n.depth + 1; kind = kind })
  effect-create_in_list z =
      ap (λ o. insert (cleared t p z r o) x (record { parent = p; key = z; depth = depth_in o + 1; kind = kind })) e
      ∙ ap (λ b. insert (cond b (without_replaced t p r) (changed (without_child t p z) p (on_fields (without_field z)))) x (record { parent = p; key = z; depth = n.depth + 1; kind = kind })) list

  formed-create_in_list : IsFormed (effect t (Create x p (settled_key (without_replaced t p r) p x k) r kind))
  formed-create_in_list =
      subst IsFormed (sym (effect-create_in_list (settled_key (without_replaced t p r) p x k)))
      (formed-insert (without_replaced t p r) x (record { parent = p; key = settled_key (without_replaced t p r) p x k; depth = n.depth + 1; kind = kind }) (pruned t f p r).formed free-create_in_list)

-- all of them

pub list_or_not : (b : Bool) (A : Type 0) → (b ≡ true → A) → (b ≡ false → A) → A
list_or_not true A h g = h refl
list_or_not false A h g = g refl

module _ (t : Nodes) (f : IsFormed t) where
  unvoid : (b : Body) (v : Bool) → is_void t b ≡ v → (v ≡ false → IsFormed (effect t (settled_body t b))) → IsFormed (cond v t (effect t (settled_body t b)))
  unvoid b true e h = f
  unvoid b false e h = h refl

  step_of : (b : Body) → is_void t b ≡ false → IsFormed (effect t (settled_body t b))
  step_of (SetKey x k) e =
      let a = neither _ _ e in
      let b = neither _ _ a.1 in
      let c = neither _ _ b.1 in
      subst (λ v. IsFormed (effect t (cond v (SetKey x k) (SetKey x (settled_key t (up t x) x k))))) (sym e) (formed-set_key t f x k (not_false _ a.0) b.0 (not_false _ c.0) (not_false _ c.1))
  step_of (Create x p k r kind) e =
      let a = neither _ _ e in
      let b = neither _ _ a.1 in
      let n = room_there (get t p) (not_false _ b.0) in
      list_or_not (is_list n.0.kind) _
      (λ list.
      let holds : holds_list (get t p) ≡ true = ap holds_list n.1 ∙ list in
      let placed : is_placed (without_replaced t p r) p x k ≡ true = not_false _ (second (holds_list (get t p)) _ b.1 holds) in
      subst (λ v. IsFormed (effect t (cond v (Create x p k r kind) (Create x p (settled_key (without_replaced t p r) p x k) r kind)))) (sym (ap (λ v. v || not (holds_list (get t p))) e ∙ ap not {y = true} holds))
      (formed-create_in_list t f x p k r n.0 n.1 list n.2 n.3 a.0 placed kind))
      (λ list.
      let holds : holds_list (get t p) ≡ false = ap holds_list n.1 ∙ list in
      subst (λ v. IsFormed (effect t (cond v (Create x p k r kind) (Create x p (settled_key (without_replaced t p r) p x k) r kind)))) (sym (or_true (is_void t (Create x p k r kind)) _ (ap not {y = false} holds)))
      (formed-create t f x p k n.0 n.1 kind list n.2 n.3 a.0 r))
  step_of (Update x fs) e = formed-update t f x fs (not_false _ e)
  step_of (Delete x) e = let a = neither _ _ e in formed-removed t x f (λ r. true_false (sym (same_self Root) ∙ ap (λ y. is_same y Root) (sym r) ∙ a.1))
  step_of (DeleteKey x k) e = formed-delete_key t f x k (not_false _ e)

  pub formed-step : (b : Body) → IsFormed (step t b)
  unfolding step
  formed-step b = unvoid b _ refl (step_of b)

pub formed-fold : (t : Nodes) → IsFormed t → (bs : List Body) → IsFormed (fold t bs)
formed-fold t f [] = f
formed-fold t f (b ∷ bs) = formed-fold (step t b) (formed-step t f b) bs
