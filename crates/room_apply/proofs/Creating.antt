-- The place of a new node, cleared.
use Rattle.std.proofs.Common.{◌≡◌, ◌+◌, ℕ, Bool, true, false, cond, not, ◌||◌, List, [], Option, Some}
use Rattle.std.proofs.Common.{None, is_some, refl, sym, ap, ◌∙◌, subst}
use Rattle.std.specs.FinMap.{get}
use Rattle.room_json.specs.Value.{Value}
use Rattle.room_nodes.specs.Shape.{Nodes, IsFormed, IsFree, is_list, up}
use Rattle.room_nodes.specs.Steps.{changed, on_fields, without_child, without_field, without_replaced, without_children}
use Rattle.room_nodes.specs.Steps.{cleared, depth_in, has_room, holds_list, holds_object, is_void}
use Rattle.room_nodes.specs.Steps.{is_placed, settled_body, settled_key}
use Rattle.room_nodes.specs.Primitives.{CanStand}
use Rattle.room_nodes.proofs.StepForm.{cut_children, free-create}
use Rattle.room_nodes.proofs.Steps.{neither, not_false, second, room_there, can_set_key, free-create_in_list}
use Rattle.room_ids.specs.declared.ids.NodeId.{NodeId}
use Rattle.room_nodes.specs.declared.nodes.Node.{Node}
use Rattle.room_nodes.specs.declared.nodes.Kind.{Kind}
use Rattle.room_nodes.specs.declared.nodes.Body.{Body}
use Rattle.room_nodes.specs.declared.nodes.Body.TheVariants.{SetKey, Create, Update, Delete, DeleteKey}

-- what is cleared
module _ (t : Nodes) (p : NodeId) (k : List ℕ) (r : Option NodeId) where
  pub cleared_list : (o : Option Node) → holds_list o ≡ true → cleared t p k r o ≡ without_replaced t p r
  cleared_list None e = cc
  cleared_list (Some n) e = ap (λ b. cond b (without_replaced t p r)
      (changed (without_child t p k) p (on_fields (without_field k)))) e

  pub cleared_slot : (o : Option Node) → is_some o ≡ true → holds_list o ≡ false
      → cleared t p k r o ≡ changed (without_child t p k) p (on_fields (without_field k))
  cleared_slot None s e = cc
  cleared_slot (Some n) s e = ap
      (λ b. cond b (without_replaced t p r) (changed (without_child t p k) p (on_fields (without_field k)))) e

abbrev pub key_in : Body → List ℕ
key_in (SetKey x k) = k
key_in (Create x p k r kind) = k
key_in (Update x fs) = []
key_in (Delete x) = []
key_in (DeleteKey x k) = k

node_is : (m : Node) (p : NodeId) (k : List ℕ) (d : ℕ) → m.parent ≡ p → m.key ≡ k → m.depth ≡ d
    → record { parent = p; key = k; depth = d; kind = m.kind } ≡ m
node_is m p k d a b c = λ i. record { parent = sym a i; key = sym b i; depth = sym c i; kind = m.kind }

module _ (t : Nodes) (f : IsFormed t) where
  -- a create that isn't void has a parent with room
  pub room_of : (x p : NodeId) (k : List ℕ) (r : Option NodeId) (kind : Kind) → is_void t (Create x p k r kind) ≡ false
      → has_room (get t p) ≡ true
  room_of x p k r kind e = not_false _ (neither _ _ (neither _ _ e).1).0

  made_at : (x p : NodeId) (k : List ℕ) (r : Option NodeId) (m : Node) → m.parent ≡ p → m.key ≡ k
      → is_void t (Create x p k r m.kind) ≡ false → settled_body t (Create x p k r m.kind) ≡ Create x p k r m.kind
      → m.depth ≡ depth_in (get t p) + 1 → (l : Bool) → holds_list (get t p) ≡ l
      → IsFree (cleared t p k r (get t p)) x m
  made_at x p k r m same_parent same_key e s d true h =
      let a = neither _ _ e in
      let b = neither _ _ a.1 in
      let n = room_there (get t p) (not_false _ b.0) in
      let list : is_list n.0.kind ≡ true = ap holds_list (sym n.1) ∙ h in
      let placed : is_placed (without_replaced t p r) p x k
      ≡ true = not_false _ (second (holds_list (get t p)) _ b.1 h) in
      let z : settled_key (without_replaced t p r) p x k ≡ k =
      sym (ap (λ v. key_in (cond v (Create x p k r m.kind)
      (Create x p (settled_key (without_replaced t p r) p x k) r m.kind)))
      (ap (λ v. v || not (holds_list (get t p))) e ∙ ap not {y = true} h)) ∙ ap key_in s in
      subst (λ (u : Nodes). IsFree u x m) (sym (cleared_list t p k r (get t p) h))
      (subst (IsFree (without_replaced t p r) x) (node_is m p (settled_key (without_replaced t p r) p x k)
      (n.0.depth + 1) same_parent (same_key ∙ sym z) (d ∙ ap (λ o. depth_in o + 1) n.1))
      (free-create_in_list t f x p k r n.0 n.1 list n.2 n.3 a.0 placed m.kind))
  made_at x p k r m same_parent same_key e s d false h =
      let a = neither _ _ e in
      let b = neither _ _ a.1 in
      let n = room_there (get t p) (not_false _ b.0) in
      let list : is_list n.0.kind ≡ false = ap holds_list (sym n.1) ∙ h in
      subst (λ (u : Nodes). IsFree u x m) (sym (cleared_slot t p k r (get t p) (ap is_some n.1) h))
      (subst (IsFree (changed (without_child t p k) p (on_fields (without_field k))) x)
      (node_is m p k (n.0.depth + 1) same_parent same_key (d ∙ ap (λ o. depth_in o + 1) n.1))
      (free-create t f x p k n.0 n.1 m.kind list n.2 n.3 a.0))

  -- the new node may be put
  pub free_made : (x : NodeId) (r : Option NodeId) (m : Node) → is_void t (Create x m.parent m.key r m.kind) ≡ false
      → settled_body t (Create x m.parent m.key r m.kind) ≡ Create x m.parent m.key r m.kind
      → m.depth ≡ depth_in (get t m.parent) + 1 → IsFree (cleared t m.parent m.key r (get t m.parent)) x m
  free_made x r m e s d = made_at x m.parent m.key r m refl refl e s d _ refl

  -- the new key may be set
  pub can_stand : (x : NodeId) (k : List ℕ) → is_void t (SetKey x k) ≡ false → settled_body t (SetKey x k) ≡ SetKey x k
      → CanStand t x k
  can_stand x k e s =
      let z : settled_key t (up t x) x k
      ≡ k = sym (ap (λ v. key_in (cond v (SetKey x k) (SetKey x (settled_key t (up t x) x k)))) e) ∙ ap key_in s in
      subst (CanStand t x) z (can_set_key t f x k e)

  pub object_after : (x : NodeId) (fs : List (List ℕ × Value)) → holds_object (get t x) ≡ true
      → holds_object (get (without_children t x fs) x) ≡ true
  object_after x fs h = ap holds_object (cut_children x t f fs).0.here ∙ h

-- a free place of a tree that is another
pub free_at : (x : NodeId) (m : Node) (u v w : Nodes) → w ≡ v → v ≡ u → IsFree u x m → IsFree w x m
free_at x m u v w a b h = subst (λ (z : Nodes). IsFree z x m) (sym (a ∙ b)) h
