-- What settling finds, and what settlement is.
use Rattle.std.proofs.Common.{◌≡◌, ◌≢◌, ℕ, Bool, true, false, cond, not, ◌&&◌, ◌||◌, List, length, nat_le, Option, Some, None, option_map, is_some, Result, Ok, Err, IfOk, IfSome, refl, sym, ap, ◌∙◌, subst}
use Rattle.std.specs.FinMap.{get, entries}
use Rattle.room_ids.specs.Position.{is_pos, between, IsBelow}
use Rattle.room_ids.specs.Order.{is_same}
use Rattle.room_nodes.specs.Shape.{Nodes, IsFormed, is_list, children, child_at, is_below, next_of, up}
use Rattle.room_nodes.specs.Steps.{is_under, is_void, is_other, is_placed, next_key, without, without_replaced, holds_list, has_room, settled_body, settled_key}
use Rattle.room_nodes.proofs.Gets.{some_inj, get_kept}
use Rattle.room_nodes.proofs.Fitting.{Fits, the_parent}
use Rattle.room_nodes.proofs.Below.{parent_not_below}
use Rattle.room_nodes.proofs.Formed.{formed-removed}
use Rattle.room_nodes.proofs.Children.{next_is_child}
use Rattle.room_nodes.proofs.Places.{next_is, children_sorted}
use Rattle.room_nodes.proofs.Steps.{list_there}
use Rattle.room_tree.specs.Settlement.{settlement, moved, moved_in, placed_in, list_of, live_body, settled_by}
use Rattle.room_tree.proofs.Skipping.{under_some}
use Rattle.room_ids.specs.declared.ids.NodeId.{NodeId}
use Rattle.room_ids.specs.declared.ids.NodeId.TheVariants.{Root}
use Rattle.room_nodes.specs.declared.nodes.Node.{Node}
use Rattle.room_nodes.specs.declared.nodes.Kind.{Kind}
use Rattle.room_nodes.specs.declared.nodes.Body.{Body}
use Rattle.room_nodes.specs.declared.nodes.Body.TheVariants.{SetKey, Create, Update, Delete, DeleteKey}
use Rattle.room_tree.specs.declared.settling.Settled.{Settled}
use Rattle.room_tree.specs.declared.settling.Settled.TheVariants.{Same, Moved, Void}

pub if_ok : {A E : Type 0} {P Q : A → Type 0} (r : Result A E) → ((x : A) → P x → Q x) → IfOk r P → IfOk r Q
if_ok (Ok x) f h = f x h
if_ok (Err e) f h = h

pub not_so : (b : Bool) → (b ≡ true → false ≡ true) → b ≡ false
not_so true h = sym (h refl)
not_so false h = refl

place_of_list : (b c : Bool) → (not b || c) ≡ true → b ≡ true → c ≡ true
place_of_list true c e h = e
place_of_list false c e h = cc

-- the children of a list have positions
module _ (u : Nodes) (f : IsFormed u) (p : NodeId) (list : holds_list (get u p) ≡ true) (k : List ℕ) where
  pos_child : (c : NodeId) (m : Node) → c ≢ Root → get u c ≡ Some m → m.parent ≡ p → is_pos m.key ≡ true
  pos_child c m made e parent =
      let n = list_there (get u p) list in
      let q = the_parent u f c m made e in
      let g : Fits n.0 m = subst (λ (v : Node). Fits v m) (some_inj q.0 n.0 (sym q.1 ∙ ap (get u) parent ∙ n.1)) q.2 in
      place_of_list (is_list n.0.kind) _ g.place n.2

  next_found : (o : Option (List ℕ × NodeId)) → next_of (Some k) (children u p) ≡ o → IfSome (option_map (λ e. e.0) o) (λ z. is_pos z ≡ true) × IfSome (option_map (λ e. e.0) o) (λ z. IsBelow k z)
  next_found None h = (tt, tt)
  next_found (Some e) h =
      let q = next_is_child u p (Some k) e h in
      (ap is_pos (sym q.4) ∙ pos_child e.1 q.0 q.2 q.1 q.3, (next_is k e (children u p) (children_sorted p (entries u)) h).0)

  pub next_pos : IfSome (next_key u p k) (λ z. is_pos z ≡ true)
  next_pos = (next_found _ refl).0

  pub next_above : IfSome (next_key u p k) (λ z. IsBelow k z)
  next_above = (next_found _ refl).1

-- the tree with one child of the list not counted
module _ (t : Nodes) (f : IsFormed t) (p : NodeId) where
  pub beside : (r : Option NodeId) → IfSome r (λ x. is_under p x (get t x) ≡ true) → IsFormed (without t r) × (get (without t r) p ≡ get t p)
  beside None h = (f, refl)
  beside (Some x) h =
      let u = under_some t p x (get t x) refl h in
      (formed-removed t x f u.2, get_kept t x p (ap (λ y. is_below t x y) (sym u.3) ∙ parent_not_below t f x u.0 u.2 u.1))

  module _ (r : Option NodeId) (h : IfSome r (λ x. is_under p x (get t x) ≡ true)) (list : holds_list (get t p) ≡ true) (k : List ℕ) where
    pub pos_above : IfSome (next_key (without t r) p k) (λ z. is_pos z ≡ true)
    pos_above = let b = beside r h in next_pos (without t r) b.0 p (ap holds_list b.1 ∙ list) k

    pub key_above : IfSome (next_key (without t r) p k) (λ z. IsBelow k z)
    key_above = let b = beside r h in next_above (without t r) b.0 p (ap holds_list b.1 ∙ list) k

pub no_place : (u : Nodes) (p own : NodeId) (k : List ℕ) → is_pos k ≡ false → Void ≡ placed_in u p own k
no_place u p own k e = sym (ap (λ b. cond (b && nat_le (length (settled_key u p own k)) 4096) (moved_in u p own k) Void) e)

turned_over : {A : Type 0} (b : Bool) (x y : A) → cond b x y ≡ cond (not b) y x
turned_over true x y = refl
turned_over false x y = refl

-- set key

module _ (t : Nodes) (x : NodeId) (k : List ℕ) where
  key_by : (a r l : Bool) (p : NodeId) → cond (a && (not r && l)) (Some (up t x)) None ≡ Some p
      → placed_in t p x k ≡ cond (not a || (r || (not l || not (is_placed t (up t x) x k)))) Void (moved_in t (up t x) x k)
  key_by true false true p e = ap (λ y. placed_in t y x k) (sym (some_inj (up t x) p e)) ∙ turned_over (is_placed t (up t x) x k) _ _
  key_by true false false p e = cc
  key_by true true l p e = cc
  key_by false r l p e = cc

  pub key_settled : (p : NodeId) → Some p ≡ list_of t x → placed_in t p x k ≡ settlement t (SetKey x k)
  key_settled p e = key_by (is_some (get t x)) (is_same x Root) (holds_list (get t (up t x))) p (sym e)

-- create under a list

module _ (t : Nodes) (x p : NodeId) (k : List ℕ) (r : Option NodeId) where
  create_by : (u : Nodes) → u ≡ without_replaced t p r → (a h l : Bool) → a ≡ false → h ≡ true → l ≡ true
      → placed_in u p x k ≡ cond (a || (not h || (l && not (is_placed (without_replaced t p r) p x k)))) Void (cond l (moved_in (without_replaced t p r) p x k) Same)
  create_by u e false true true i j m = ap (λ (v : Nodes). placed_in v p x k) e ∙ turned_over (is_placed (without_replaced t p r) p x k) _ _
  create_by u e true h l i j m = cc
  create_by u e false false l i j m = cc
  create_by u e false true false i j m = cc

  pub create_settled : (u : Nodes) → u ≡ without_replaced t p r → is_some (get t x) ≡ false → has_room (get t p) ≡ true → holds_list (get t p) ≡ true → (kind : Kind)
      → placed_in u p x k ≡ settlement t (Create x p k r kind)
  create_settled u e fresh room list kind = create_by u e (is_some (get t x)) (has_room (get t p)) (holds_list (get t p)) fresh room list

-- settled operations

same_both : (b : Bool) (x : Body) → cond b x x ≡ x
same_both true x = refl
same_both false x = refl

module _ (t : Nodes) where
  moved_key : (x : NodeId) (k : List ℕ) (b : Bool) (z : List ℕ) → settled_by (cond b (Moved z) Same) (SetKey x k) ≡ Some (SetKey x (cond b z k))
  moved_key x k true z = refl
  moved_key x k false z = refl

  moved_create : (x p : NodeId) (k : List ℕ) (r : Option NodeId) (kind : Kind) (b : Bool) (z : List ℕ) → settled_by (cond b (Moved z) Same) (Create x p k r kind) ≡ Some (Create x p (cond b z k) r kind)
  moved_create x p k r kind true z = refl
  moved_create x p k r kind false z = refl

  key_case : (x : NodeId) (k : List ℕ) (v : Bool) → settled_by (cond v Void (moved t (SetKey x k))) (SetKey x k) ≡ cond v None (Some (cond v (SetKey x k) (SetKey x (settled_key t (up t x) x k))))
  key_case x k true = refl
  key_case x k false = moved_key x k (is_other x (child_at t (up t x) k)) (between k (next_key t (up t x) k))

  list_case : (x p : NodeId) (k : List ℕ) (r : Option NodeId) (kind : Kind) (l : Bool)
      → settled_by (cond l (moved_in (without_replaced t p r) p x k) Same) (Create x p k r kind) ≡ Some (cond (not l) (Create x p k r kind) (Create x p (settled_key (without_replaced t p r) p x k) r kind))
  list_case x p k r kind true = moved_create x p k r kind (is_other x (child_at (without_replaced t p r) p k)) (between k (next_key (without_replaced t p r) p k))
  list_case x p k r kind false = refl

  create_case : (x p : NodeId) (k : List ℕ) (r : Option NodeId) (kind : Kind) (v : Bool)
      → settled_by (cond v Void (moved t (Create x p k r kind))) (Create x p k r kind) ≡ cond v None (Some (cond (v || not (holds_list (get t p))) (Create x p k r kind) (Create x p (settled_key (without_replaced t p r) p x k) r kind)))
  create_case x p k r kind true = refl
  create_case x p k r kind false = list_case x p k r kind (holds_list (get t p))

  plain_case : (b : Body) (v : Bool) → settled_by (cond v Void Same) b ≡ cond v None (Some b)
  plain_case b true = refl
  plain_case b false = refl

  -- what becomes of an operation, as an operation
  pub settled_as : (b : Body) → settled_by (settlement t b) b ≡ live_body t b
  settled_as (SetKey x k) = key_case x k (is_void t (SetKey x k))
  settled_as (Create x p k r kind) = create_case x p k r kind (is_void t (Create x p k r kind))
  settled_as (Update x fs) = plain_case (Update x fs) (is_void t (Update x fs))
  settled_as (Delete x) = plain_case (Delete x) (is_void t (Delete x))
  settled_as (DeleteKey x k) = plain_case (DeleteKey x k) (is_void t (DeleteKey x k))

  pub live_is : (b : Body) (s : Settled) (o : Option Body) → s ≡ settlement t b → o ≡ settled_by s b → o ≡ live_body t b
  live_is b s o e h = h ∙ ap (λ v. settled_by v b) e ∙ settled_as b

  -- a void operation is settled
  void_is : (b c : Body) (v : Bool) → None ≡ cond v None (Some c) → v ≡ true
  void_is b c true e = refl
  void_is b c false e = cc

  pub void_same : (b : Body) → None ≡ live_body t b → settled_body t b ≡ b
  void_same (SetKey x k) e = ap (λ v. cond v (SetKey x k) (SetKey x (settled_key t (up t x) x k))) (void_is (SetKey x k) _ _ e)
  void_same (Create x p k r kind) e = ap (λ v. cond (v || not (holds_list (get t p))) (Create x p k r kind) (Create x p (settled_key (without_replaced t p r) p x k) r kind)) (void_is (Create x p k r kind) _ _ e)
  void_same (Update x fs) e = refl
  void_same (Delete x) e = refl
  void_same (DeleteKey x k) e = refl
