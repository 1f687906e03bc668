-- What holds of every node of a tree, and of what an operation brings, holds of every node behind a step.
use Rattle.std.proofs.Common.{◌≡◌, ◌+◌, inl, inr, ℕ, Bool, true, false, ◌||◌, not, cond, List, [], ◌∷◌, Option, Some, None, Ordering, Less, Equal, Greater, refl, sym, subst}
use Rattle.std.specs.Ordering.{nat_cmp, eq_by_cmp, match_ordering}
use Rattle.std.specs.Cmp.Lexicographic.{slice_cmp}
use Rattle.std.specs.FinMap.{get, insert, put}
use Rattle.std.specs.FinMap.Entries.{where_key}
use Rattle.room_json.specs.Value.{Value}
use Rattle.room_ids.specs.declared.ids.NodeId.{NodeId}
use Rattle.room_nodes.specs.declared.nodes.Node.{Node}
use Rattle.room_nodes.specs.declared.nodes.Kind.{Kind}
use Rattle.room_nodes.specs.declared.nodes.Kind.TheVariants.{Object, List as Listed, Map, Register}
use Rattle.room_nodes.specs.declared.nodes.Body.{Body}
use Rattle.room_nodes.specs.declared.nodes.Body.TheVariants.{SetKey, Create, Update, Delete, DeleteKey}
use Rattle.room_nodes.specs.Shape.{Nodes, child_at, removed, is_list, up}
use Rattle.room_nodes.specs.Steps.{step, is_void, effect, settled_body, changed, changed_at, on_fields, fields_kind, with_fields, without_field, without, without_child, without_children, without_replaced, is_under, cleared, holds_list, settled_key, depth_in}
use Rattle.room_nodes.proofs.Gets.{kept, here_or_old}
use Rattle.room_nodes.proofs.StepForm.{FieldsOf}

-- fields, each by itself

abbrev pub OfEach : (List ℕ → Value → Type 0) → FieldsOf → Type 0
OfEach F [] = Unit {0}
OfEach F (e ∷ es) = F e.0 e.1 × OfEach F es

-- a field keeps its name where its value is replaced
module _ (F : List ℕ → Value → Type 0) (renamed : (j k : List ℕ) (v w : Value) → F j w → F k v → F j v) where
  put_by : (o : Ordering) (k : List ℕ) (v : Value) (e : List ℕ × Value) (es more : FieldsOf) → F k v → OfEach F (e ∷ es) → OfEach F more
      → OfEach F (match_ordering o ((k, v) ∷ e ∷ es) ((e.0, v) ∷ es) (e ∷ more))
  put_by Less k v e es more p h m = (p, h)
  put_by Equal k v e es more p h m = (renamed e.0 k v e.1 h.0 p, h.1)
  put_by Greater k v e es more p h m = (h.0, m)

  each_put : (k : List ℕ) (v : Value) (fs : FieldsOf) → F k v → OfEach F fs → OfEach F (put (slice_cmp nat_cmp) k v fs)
  each_put k v [] p h = (p, tt)
  each_put k v (f ∷ fs) p h = put_by (slice_cmp nat_cmp k f.0) k v f fs (put (slice_cmp nat_cmp) k v fs) p h (each_put k v fs p h.1)

  pub each_with : (es fs : FieldsOf) → OfEach F es → OfEach F fs → OfEach F (with_fields es fs)
  each_with [] fs p h = h
  each_with (e ∷ es) fs p h = each_with es (put (slice_cmp nat_cmp) e.0 e.1 fs) p.1 (each_put e.0 e.1 fs p.0 h)

module _ (F : List ℕ → Value → Type 0) where
  keep_by : (b : Bool) (f : List ℕ × Value) (fs more : FieldsOf) → F f.0 f.1 → OfEach F more → OfEach F (cond b (f ∷ more) more)
  keep_by true f fs more p m = (p, m)
  keep_by false f fs more p m = m

  each_where : (p : List ℕ → Bool) (fs : FieldsOf) → OfEach F fs → OfEach F (where_key (slice_cmp nat_cmp) p fs)
  each_where p [] h = tt
  each_where p (f ∷ fs) h = keep_by (p f.0) f fs (where_key (slice_cmp nat_cmp) p fs) h.0 (each_where p fs h.1)

  pub each_without : (k : List ℕ) (fs : FieldsOf) → OfEach F fs → OfEach F (without_field k fs)
  each_without k fs h = each_where (λ x. not (eq_by_cmp (slice_cmp nat_cmp) k x)) fs h

-- a kind whose fields change
pub of_kind : (K : Kind → Type 0) (g : FieldsOf → FieldsOf) → ((fs : FieldsOf) → K (Object fs) → K (Object (g fs))) → (kind : Kind) → K kind → K (fields_kind g kind)
of_kind K g more (Object fs) h = more fs h
of_kind K g more Listed h = h
of_kind K g more Map h = h
of_kind K g more (Register v) h = h

-- trees

abbrev pub OfAll : (NodeId → Node → Type 0) → Nodes → Type 0
OfAll P t = (x : NodeId) (n : Node) → get t x ≡ Some n → P x n

-- what an operation brings is P where what it meets is
abbrev pub Brings : (NodeId → Node → Type 0) → Body → Type 0
Brings P (SetKey x k) = (n : Node) → P x n → P x (record n { key = k })
Brings P (Create x p k r kind) = (d : ℕ) → P x (record { parent = p; key = k; depth = d; kind = kind })
Brings P (Update x fs) = (n : Node) → P x n → P x (on_fields (with_fields fs) n)
Brings P (Delete x) = Unit {0}
Brings P (DeleteKey x k) = Unit {0}

-- with a field less, a node is P still
abbrev pub Spares : (NodeId → Node → Type 0) → Type 0
Spares P = (x : NodeId) (k : List ℕ) (n : Node) → P x n → P x (on_fields (without_field k) n)

module _ (P : NodeId → Node → Type 0) (spares : Spares P) where
  all_insert : (t : Nodes) (x : NodeId) (n : Node) → OfAll P t → P x n → OfAll P (insert t x n)
  all_insert t x n h p q m e = elim (here_or_old t x n q m e) [
    | inl is ↦ subst (λ (z : NodeId). P z m) (sym is.0) (subst (P x) (sym is.1) p)
    | inr old ↦ h q m old.1
  ]

  all_removed : (t : Nodes) (x : NodeId) → OfAll P t → OfAll P (removed t x)
  all_removed t x h q n e = h q n (kept t x q n e).0

  all_without : (t : Nodes) (c : Option NodeId) → OfAll P t → OfAll P (without t c)
  all_without t None h = h
  all_without t (Some x) h = all_removed t x h

  all_without_children : (t : Nodes) (p : NodeId) (es : FieldsOf) → OfAll P t → OfAll P (without_children t p es)
  all_without_children t p [] h = h
  all_without_children t p (e ∷ es) h = all_without_children (without_child t p e.0) p es (all_without t (child_at t p e.0) h)

  under_by : (b : Bool) (t : Nodes) (x : NodeId) → OfAll P t → OfAll P (cond b (removed t x) t)
  under_by true t x h = all_removed t x h
  under_by false t x h = h

  all_without_replaced : (t : Nodes) (p : NodeId) (r : Option NodeId) → OfAll P t → OfAll P (without_replaced t p r)
  all_without_replaced t p None h = h
  all_without_replaced t p (Some x) h = under_by (is_under p x (get t x)) t x h

  changed_by : (t : Nodes) (x : NodeId) (f : Node → Node) (o : Option Node) → get t x ≡ o → OfAll P t → ((n : Node) → P x n → P x (f n)) → OfAll P (changed_at t x f o)
  changed_by t x f None e h more = h
  changed_by t x f (Some n) e h more = all_insert t x (f n) h (more n (h x n e))

  all_changed : (t : Nodes) (x : NodeId) (f : Node → Node) → OfAll P t → ((n : Node) → P x n → P x (f n)) → OfAll P (changed t x f)
  all_changed t x f h more = changed_by t x f (get t x) refl h more

  all_key_out : (t : Nodes) (p : NodeId) (k : List ℕ) → OfAll P t → OfAll P (changed (without_child t p k) p (on_fields (without_field k)))
  all_key_out t p k h = all_changed (without_child t p k) p (on_fields (without_field k)) (all_without t (child_at t p k) h) (spares p k)

  cleared_by : (b : Bool) (t : Nodes) (p : NodeId) (k : List ℕ) (r : Option NodeId) → OfAll P t
      → OfAll P (cond b (without_replaced t p r) (changed (without_child t p k) p (on_fields (without_field k))))
  cleared_by true t p k r h = all_without_replaced t p r h
  cleared_by false t p k r h = all_key_out t p k h

  all_cleared : (t : Nodes) (p : NodeId) (k : List ℕ) (r : Option NodeId) (o : Option Node) → OfAll P t → OfAll P (cleared t p k r o)
  all_cleared t p k r None h = h
  all_cleared t p k r (Some n) h = cleared_by (is_list n.kind) t p k r h

  all_effect : (t : Nodes) (b : Body) → OfAll P t → Brings P b → OfAll P (effect t b)
  all_effect t (SetKey x k) h p = all_changed t x (λ n. record n { key = k }) h p
  all_effect t (Create x p k r kind) h brings =
      all_insert (cleared t p k r (get t p)) x (record { parent = p; key = k; depth = depth_in (get t p) + 1; kind = kind }) (all_cleared t p k r (get t p) h) (brings (depth_in (get t p) + 1))
  all_effect t (Update x fs) h p = all_changed (without_children t x fs) x (on_fields (with_fields fs)) (all_without_children t x fs h) p
  all_effect t (Delete x) h p = all_removed t x h
  all_effect t (DeleteKey x k) h p = all_key_out t x k h

  step_by : (b : Bool) (t u : Nodes) → OfAll P t → OfAll P u → OfAll P (cond b t u)
  step_by true t u h k = h
  step_by false t u h k = k

  pub all_step : (t : Nodes) (b : Body) → OfAll P t → Brings P (settled_body t b) → OfAll P (step t b)
  unfolding step
  all_step t b h p = step_by (is_void t b) t (effect t (settled_body t b)) h (all_effect t (settled_body t b) h p)

-- settling changes a position alone, of an operation that isn't void
module _ (B : Body → Type 0) (t : Nodes)
    (moved : (x : NodeId) (k : List ℕ) → is_void t (SetKey x k) ≡ false → B (SetKey x k) → B (SetKey x (settled_key t (up t x) x k)))
    (placed : (x p : NodeId) (k : List ℕ) (r : Option NodeId) (kind : Kind) → (is_void t (Create x p k r kind) || not (holds_list (get t p))) ≡ false → B (Create x p k r kind) → B (Create x p (settled_key (without_replaced t p r) p x k) r kind)) where
  key_by : (x : NodeId) (k : List ℕ) (b : Bool) → is_void t (SetKey x k) ≡ b → B (SetKey x k) → B (cond b (SetKey x k) (SetKey x (settled_key t (up t x) x k)))
  key_by x k true e h = h
  key_by x k false e h = moved x k e h

  place_by : (x p : NodeId) (k : List ℕ) (r : Option NodeId) (kind : Kind) (b : Bool) → (is_void t (Create x p k r kind) || not (holds_list (get t p))) ≡ b → B (Create x p k r kind)
      → B (cond b (Create x p k r kind) (Create x p (settled_key (without_replaced t p r) p x k) r kind))
  place_by x p k r kind true e h = h
  place_by x p k r kind false e h = placed x p k r kind e h

  pub of_settled : (b : Body) → B b → B (settled_body t b)
  of_settled (SetKey x k) h = key_by x k _ refl h
  of_settled (Create x p k r kind) h = place_by x p k r kind _ refl h
  of_settled (Update x fs) h = h
  of_settled (Delete x) h = h
  of_settled (DeleteKey x k) h = h
