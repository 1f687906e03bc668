-- A settled operation has the cells and does the step of the operation.
use Rattle.std.proofs.Common.{◌≡◌, ◌++◌, ℕ, Bool, true, false, cond, not, ◌||◌, List, [], ◌∷◌, Option}
use Rattle.std.proofs.Common.{Some, None, is_some}
use Rattle.std.proofs.Common.{Result, Ok, Err, OnOk, refl, sym, ap, ◌∙◌, subst, arith}
use Rattle.std.specs.Cmp.Lexicographic.{slice_cmp}
use Rattle.std.specs.FinMap.{find, get, len}
use Rattle.std.specs.Ordering.{nat_cmp}
use Rattle.room_nodes.specs.Cells.{reads, writes, effect_cells, replaced_cells, slot_cells}
use Rattle.room_nodes.specs.Shape.{Nodes, IsFormed, is_list, up}
use Rattle.room_nodes.specs.Steps.{effect, holds_list, is_void, settled_body, settled_key, step, without_replaced}
use Rattle.room_ids.specs.declared.ids.NodeId.{NodeId}
use Rattle.room_nodes.specs.declared.cells.Cell.TheVariants.{Node as NodeOf, All}
use Rattle.room_nodes.specs.Primitives.{fields_in, kind_fields}
use Rattle.room_nodes.specs.declared.nodes.Kind.{Kind}
use Rattle.room_nodes.specs.declared.nodes.Kind.TheVariants.{Object, List as Listed, Map as Mapped, Register}
use Rattle.room_nodes.proofs.Steps.{list_there}
use Rattle.room_nodes.specs.declared.nodes.Body.{Body}
use Rattle.room_nodes.specs.declared.nodes.Body.TheVariants.{SetKey, Create, Update, Delete, DeleteKey}
use Rattle.room_nodes.proofs.Gets.{some_inj}
use Rattle.room_nodes.proofs.Settling.{settled-settled, void_settled}
use Rattle.room_tree.specs.Settlement.{live_body}
use Rattle.std.proofs.Common.{◌≤◌, IfOk}
use Rattle.room_apply.specs.Ways.{CanGoBack, nodes_of}
use Rattle.room_apply.specs.Ways.{Way, AreEdits, GoesBack, made_by, owner, owner_at, owner_by, put_by}
use Rattle.room_apply.specs.Ways.{removed_by}
use Rattle.room_apply.specs.Within.{cells}
use Rattle.room_apply.proofs.Stepped.{live_step}

-- what depends on no key is the same of both

module _ {A : Type 0} (f : Body → A) where
  of_key : (v : Bool) (b c : Body) → f b ≡ f c → f (cond v b c) ≡ f b
  of_key true b c e = refl
  of_key false b c e = sym e

module _ (t : Nodes) where
  reads_settled : (b : Body) → reads t (settled_body t b) ≡ reads t b
  reads_settled (SetKey x k) = of_key (reads t) (is_void t (SetKey x k)) (SetKey x k)
      (SetKey x (settled_key t (up t x) x k)) refl
  reads_settled (Create x p k r kind) =
      of_key (reads t) (is_void t (Create x p k r kind) || not (holds_list (get t p))) (Create x p k r kind)
      (Create x p (settled_key (without_replaced t p r) p x k) r kind) refl
  reads_settled (Update x fs) = refl
  reads_settled (Delete x) = refl
  reads_settled (DeleteKey x k) = refl

  made_settled : (b : Body) → made_by (settled_body t b) ≡ made_by b
  made_settled (SetKey x k) = of_key made_by (is_void t (SetKey x k)) (SetKey x k)
      (SetKey x (settled_key t (up t x) x k)) refl
  made_settled (Create x p k r kind) =
      of_key made_by (is_void t (Create x p k r kind) || not (holds_list (get t p))) (Create x p k r kind)
      (Create x p (settled_key (without_replaced t p r) p x k) r kind) refl
  made_settled (Update x fs) = refl
  made_settled (Delete x) = refl
  made_settled (DeleteKey x k) = refl

  -- under a list all its slots are written, under others the key stays
  create_cells : (x p : NodeId) (k z : List ℕ) (r : Option NodeId) (kind : Kind) (v l : Bool) → holds_list (get t p) ≡ l
      → effect_cells t (cond (v || not l) (Create x p k r kind) (Create x p z r kind))
      ≡ effect_cells t (Create x p k r kind)
  create_cells x p k z r kind true l e = refl
  create_cells x p k z r kind false true e =
      ap (λ b. NodeOf x ∷ All x ∷ cond b (All p ∷ replaced_cells t p r) (slot_cells t p z)) e
      ∙ sym (ap (λ b. NodeOf x ∷ All x ∷ cond b (All p ∷ replaced_cells t p r) (slot_cells t p k)) e)
  create_cells x p k z r kind false false e = refl

  effect_settled : (b : Body) → effect_cells t (settled_body t b) ≡ effect_cells t b
  effect_settled (SetKey x k) = of_key (effect_cells t) (is_void t (SetKey x k)) (SetKey x k)
      (SetKey x (settled_key t (up t x) x k)) refl
  effect_settled (Create x p k r kind) = create_cells x p k (settled_key (without_replaced t p r) p x k) r kind
      (is_void t (Create x p k r kind)) (holds_list (get t p)) refl
  effect_settled (Update x fs) = refl
  effect_settled (Delete x) = refl
  effect_settled (DeleteKey x k) = refl

-- a list has no fields

listed : (k : List ℕ) (kind : Kind) → is_list kind ≡ true → find (slice_cmp nat_cmp) k (kind_fields kind) ≡ None
listed k (Object fs) e = cc
listed k Listed e = refl
listed k Mapped e = refl
listed k (Register v) e = cc

pub listed_at : (t : Nodes) (p : NodeId) (k : List ℕ) → holds_list (get t p) ≡ true → owner_at t p k ≡ None
listed_at t p k e =
    let n = list_there (get t p) e in
    ap (λ v. cond (is_some v) (Some p) None) (ap (λ o. find (slice_cmp nat_cmp) k (fields_in o)) n.1
    ∙ listed k n.0.kind n.2)

create_owner : (t : Nodes) (x p : NodeId) (k z : List ℕ) (r : Option NodeId) (kind : Kind) (v l : Bool)
    → holds_list (get t p) ≡ l
    → owner_by t (cond (v || not l) (Create x p k r kind) (Create x p z r kind)) ≡ owner_by t (Create x p k r kind)
create_owner t x p k z r kind true l e = refl
create_owner t x p k z r kind false true e = listed_at t p z e ∙ sym (listed_at t p k e)
create_owner t x p k z r kind false false e = refl

owner_of : (t : Nodes) (b : Body) → owner_by t (settled_body t b) ≡ owner_by t b
owner_of t (SetKey x k) = of_key (owner_by t) (is_void t (SetKey x k)) (SetKey x k)
    (SetKey x (settled_key t (up t x) x k)) refl
owner_of t (Create x p k r kind) =
    create_owner t x p k (settled_key (without_replaced t p r) p x k) r kind (is_void t (Create x p k r kind))
    (holds_list (get t p)) refl
owner_of t (Update x fs) = refl
owner_of t (Delete x) = refl
owner_of t (DeleteKey x k) = refl

some_live : (v : Bool) (b c : Body) → Some c ≡ cond v None (Some b) → (v ≡ false) × (b ≡ c)
some_live true b c e = cc
some_live false b c e = (refl, some_inj b c (sym e))

none_live : (v : Bool) (b : Body) → None ≡ cond v None (Some b) → v ≡ true
none_live true b e = refl
none_live false b e = cc

void_step : (t : Nodes) (b : Body) → is_void t b ≡ true → t ≡ step t b
unfolding step
void_step t b e = sym (ap (λ v. cond v t (effect t (settled_body t b))) e)

module _ (t : Nodes) (f : IsFormed t) (b : Body) where
  cells_settled : cells t (settled_body t b) ≡ cells t b
  cells_settled =
      ap (λ ds. ds ++ writes t (settled_body t b)) (reads_settled t b)
      ∙ ap (λ v. reads t b ++ cond v [] (effect_cells t (settled_body t b))) (void_settled t f b)
      ∙ ap (λ ds. reads t b ++ cond (is_void t b) [] ds) (effect_settled t b)

  put_settled : put_by t (settled_body t b) ≡ put_by t b
  put_settled = ap (λ v. cond v 0 (made_by (settled_body t b))) (void_settled t f b)
      ∙ ap (λ n. cond (is_void t b) 0 n) (made_settled t b)

  owner_settled : owner t (settled_body t b) ≡ owner t b
  owner_settled = ap (λ v. cond v None (owner_by t (settled_body t b))) (void_settled t f b)
      ∙ ap (λ o. cond (is_void t b) None o) (owner_of t b)

  pub live_of : (c : Body) → Some c ≡ live_body t b → (is_void t b ≡ false) × (settled_body t b ≡ c)
  live_of c e = some_live _ _ c e

  pub live_still : (c : Body) → Some c ≡ live_body t b → is_void t c ≡ false
  live_still c e = let l = live_of c e in ap (is_void t) (sym l.1) ∙ void_settled t f b ∙ l.0

  pub live_settled : (c : Body) → Some c ≡ live_body t b → settled_body t c ≡ c
  live_settled c e = let l = live_of c e in ap (settled_body t) (sym l.1) ∙ settled-settled t f b ∙ l.1

  pub live_effect : (c : Body) → Some c ≡ live_body t b → effect t c ≡ step t b
  live_effect c e = let l = live_of c e in live_step t b c l.0 l.1

  step_same : (c : Body) → Some c ≡ live_body t b → step t c ≡ step t b
  step_same c e = sym (live_step t c c (live_still c e) (live_settled c e)) ∙ live_effect c e

  -- the edits of the settled operation are those of the operation
  pub live_edits : (c : Body) (u : Nodes) (e : Way) → Some c ≡ live_body t b → AreEdits t c u e → AreEdits t b u e
  live_edits c u e h a =
      let is = (live_of c h).1 in
      let same : cells t c ≡ cells t b = ap (cells t) (sym is) ∙ cells_settled in
      let put : put_by t c ≡ put_by t b = ap (put_by t) (sym is) ∙ put_settled in
      let removed : removed_by t c ≡ removed_by t b = (let s = ap len (step_same c h) in omega (arith, put, s)) in
      record {
        goes = subst (λ ds. GoesBack ds u e) same a.goes;
        can = a.can;
        before = a.before;
        object = a.object ∙ ap (owner t) (sym is) ∙ owner_settled;
        removed = a.removed ∙ removed;
        put = a.put ∙ put;
        nodes = omega (arith, a.nodes, removed, put);
      }

  pub void_left : None ≡ live_body t b → t ≡ step t b
  void_left e = void_step t b (none_live _ _ e)

  pub void_edits : None ≡ live_body t b
      → AreEdits t b t (record { done = []; undone = []; fields = None; last = None; names = [] })
  void_edits e =
      let v = none_live _ _ e in
      let put : put_by t b ≡ 0 = ap (λ w. cond w 0 (made_by b)) v in
      let removed : removed_by t b ≡ 0 = (let s = ap len (void_left e) in omega (arith, put, s)) in
      record {
        goes = record { formed = f; undone = refl; moves = tt; fields = tt; last = tt; runs = tt };
        can = tt;
        before = refl;
        object = sym (ap (λ w. cond w None (owner_by t b)) v);
        removed = sym removed;
        put = sym put;
        nodes = omega (arith, removed, put);
      }

pub on_ok : {A E P Q : Type 0} (r : Result A E) → (P → Q) → OnOk r P → OnOk r Q
on_ok (Ok x) f h = f h
on_ok (Err e) f h = h

pub if_both : {A E : Type 0} {P Q R : A → Type 0} (r : Result A E) → ((x : A) → P x → Q x → R x) → IfOk r P → IfOk r Q
    → IfOk r R
if_both (Ok x) f p q = f x p q
if_both (Err e) f p q = p

-- edits with spare places for all nodes that they put or remove can go back
pub edits_go : (t : Nodes) (b : Body) (u : Nodes) (d : ℕ) (e : Way) → AreEdits t b u e → nodes_of e ≤ d
    → CanGoBack u d e
edits_go t b u d e a le = (a.goes.undone, (a.can, omega (arith, a.removed, a.nodes, le)))
