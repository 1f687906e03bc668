-- What is settled settles to itself.
use Rattle.std.proofs.Common.{inl, inr, ◌≡◌, ℕ, Bool, true, false, cond, not, ◌&&◌, ◌||◌, nat_le, List, length, Option, Some, None, refl, ap, ◌∙◌}
use Rattle.std.specs.FinMap.{get}
use Rattle.room_ids.specs.Position.{is_pos, between}
use Rattle.room_nodes.specs.Shape.{Nodes, IsFormed, is_list, child_at, up}
use Rattle.room_ids.specs.Order.{is_same}
use Rattle.room_nodes.specs.Steps.{is_void, settled_body, settled_key, is_other, is_placed, next_key, without_replaced, holds_list}
use Rattle.room_nodes.proofs.Gets.{same_self, one_or_two}
use Rattle.room_nodes.proofs.Fitting.{both}
use Rattle.room_nodes.proofs.Children.{child_at_some}
use Rattle.room_nodes.proofs.Places.{FreeFor, settled_free}
use Rattle.room_nodes.proofs.Steps.{neither, not_false, second, list_there, pruned}
use Rattle.room_ids.specs.declared.ids.NodeId.{NodeId}
use Rattle.room_nodes.specs.declared.nodes.Node.{Node}
use Rattle.room_nodes.specs.declared.nodes.Kind.{Kind}
use Rattle.room_nodes.specs.declared.nodes.Body.{Body}
use Rattle.room_nodes.specs.declared.nodes.Body.TheVariants.{SetKey, Create, Update, Delete, DeleteKey}

same_both : (b : Bool) (x : Body) → cond b x x ≡ x
same_both true x = refl
same_both false x = refl

joined : (a b : Bool) → a ≡ true → b ≡ true → (a && b) ≡ true
joined a b p q = rw (p, q) refl

none_of_four : (a b c d : Bool) → a ≡ false → b ≡ false → c ≡ false → d ≡ false → (a || (b || (c || d))) ≡ false
none_of_four a b c d h i j k = rw (h, i, j, k) refl

none_of_three : (a b c d : Bool) → a ≡ false → b ≡ false → d ≡ false → (a || (b || (c && d))) ≡ false
none_of_three a b true d h i k = rw (h, i, k) refl
none_of_three a b false d h i k = rw (h, i) refl

module _ (u : Nodes) (f : IsFormed u) (p : NodeId) (n : Node) (there : get u p ≡ Some n) (list : is_list n.kind ≡ true) (own : NodeId) (k : List ℕ) (placed : is_placed u p own k ≡ true) where
  own_alone : (z : List ℕ) → FreeFor u f p n there list k (both (is_pos k) _ placed).0 own z → (o : Option NodeId) → child_at u p z ≡ o → is_other own o ≡ false
  own_alone z free None e = refl
  own_alone z free (Some c) e =
      let h = child_at_some u p z c e in
      elim (one_or_two c own) [
        | inl same ↦ ap (λ y. not (is_same y own)) same ∙ ap not {y = true} (same_self own)
        | inr other ↦ absurd (free c h.0 h.2 other h.1 h.3 h.4)
      ]

  -- the settled position stays, and is placed
  pub stays : (settled_key u p own (settled_key u p own k) ≡ settled_key u p own k) × (is_placed u p own (settled_key u p own k) ≡ true)
  stays =
      let b = both (is_pos k) _ placed in
      let z = settled_key u p own k in
      let s = settled_free u f p n there list k b.0 own b.1 in
      let same : settled_key u p own z ≡ z = ap (λ c. cond c (between z (next_key u p z)) z) (own_alone z s.1 _ refl) in
      (same, joined (is_pos z) (nat_le (length (settled_key u p own z)) 4096) s.0 (ap (λ y. nat_le (length y) 4096) same ∙ b.1))

module _ (t : Nodes) (f : IsFormed t) where
  key_again : (x : NodeId) (k : List ℕ) → is_void t (SetKey x k) ≡ false → settled_body t (SetKey x (settled_key t (up t x) x k)) ≡ SetKey x (settled_key t (up t x) x k)
  key_again x k e =
      let a = neither _ _ e in
      let b = neither _ _ a.1 in
      let c = neither _ _ b.1 in
      let p = list_there (get t (up t x)) (not_false _ c.0) in
      let s = stays t f (up t x) p.0 p.1 p.2 x k (not_false _ c.1) in
      let z = settled_key t (up t x) x k in
      ap (λ y. cond (is_void t (SetKey x z)) (SetKey x z) (SetKey x y)) s.0 ∙ same_both (is_void t (SetKey x z)) (SetKey x z)

  create_again : (x p : NodeId) (k : List ℕ) (r : Option NodeId) (kind : Kind) → is_void t (Create x p k r kind) ≡ false → holds_list (get t p) ≡ true
      → settled_body t (Create x p (settled_key (without_replaced t p r) p x k) r kind) ≡ Create x p (settled_key (without_replaced t p r) p x k) r kind
  create_again x p k r kind e holds =
      let a = neither _ _ e in
      let b = neither _ _ a.1 in
      let n = list_there (get t p) holds in
      let q = pruned t f p r in
      let u = without_replaced t p r in
      let s = stays u q.formed p n.0 (q.here ∙ n.1) n.2 x k (not_false _ (second (holds_list (get t p)) _ b.1 holds)) in
      let z = settled_key u p x k in
      ap (λ y. cond (is_void t (Create x p z r kind) || not (holds_list (get t p))) (Create x p z r kind) (Create x p y r kind)) s.0 ∙ same_both _ (Create x p z r kind)

  void_key : (x : NodeId) (k : List ℕ) → is_void t (SetKey x k) ≡ true → settled_body t (SetKey x k) ≡ SetKey x k
  void_key x k e = ap (λ v. cond v (SetKey x k) (SetKey x (settled_key t (up t x) x k))) e

  key_twice : (x : NodeId) (k : List ℕ) (v : Bool) → is_void t (SetKey x k) ≡ v → settled_body t (cond v (SetKey x k) (SetKey x (settled_key t (up t x) x k))) ≡ cond v (SetKey x k) (SetKey x (settled_key t (up t x) x k))
  key_twice x k true e = void_key x k e
  key_twice x k false e = key_again x k e

  plain_create : (x p : NodeId) (k : List ℕ) (r : Option NodeId) (kind : Kind) → (is_void t (Create x p k r kind) || not (holds_list (get t p))) ≡ true → settled_body t (Create x p k r kind) ≡ Create x p k r kind
  plain_create x p k r kind e = ap (λ v. cond v (Create x p k r kind) (Create x p (settled_key (without_replaced t p r) p x k) r kind)) e

  create_twice : (x p : NodeId) (k : List ℕ) (r : Option NodeId) (kind : Kind) (v : Bool) → (is_void t (Create x p k r kind) || not (holds_list (get t p))) ≡ v
      → settled_body t (cond v (Create x p k r kind) (Create x p (settled_key (without_replaced t p r) p x k) r kind)) ≡ cond v (Create x p k r kind) (Create x p (settled_key (without_replaced t p r) p x k) r kind)
  create_twice x p k r kind true e = plain_create x p k r kind e
  create_twice x p k r kind false e = let a = neither _ _ e in create_again x p k r kind a.0 (not_false _ a.1)

  -- the law of settlement
  pub settled-settled : (b : Body) → settled_body t (settled_body t b) ≡ settled_body t b
  settled-settled (SetKey x k) = key_twice x k _ refl
  settled-settled (Create x p k r kind) = create_twice x p k r kind _ refl
  settled-settled (Update x fs) = refl
  settled-settled (Delete x) = refl
  settled-settled (DeleteKey x k) = refl

  -- and a settled operation is void where it was

  void_set_key : (x : NodeId) (k : List ℕ) (v : Bool) → is_void t (SetKey x k) ≡ v → is_void t (cond v (SetKey x k) (SetKey x (settled_key t (up t x) x k))) ≡ v
  void_set_key x k true e = e
  void_set_key x k false e =
      let a = neither _ _ e in
      let b = neither _ _ a.1 in
      let c = neither _ _ b.1 in
      let p = list_there (get t (up t x)) (not_false _ c.0) in
      let s = stays t f (up t x) p.0 p.1 p.2 x k (not_false _ c.1) in
      none_of_four _ _ _ _ a.0 b.0 c.0 (ap not {y = true} s.1)

  void_create : (x p : NodeId) (k : List ℕ) (r : Option NodeId) (kind : Kind) (v : Bool) → is_void t (Create x p k r kind) ≡ v → (w : Bool) → (v || not (holds_list (get t p))) ≡ w
      → is_void t (cond w (Create x p k r kind) (Create x p (settled_key (without_replaced t p r) p x k) r kind)) ≡ v
  void_create x p k r kind v e true h = e
  void_create x p k r kind true e false h = cc
  void_create x p k r kind false e false h =
      let a = neither _ _ e in
      let b = neither _ _ a.1 in
      let holds : holds_list (get t p) ≡ true = not_false _ h in
      let n = list_there (get t p) holds in
      let q = pruned t f p r in
      let u = without_replaced t p r in
      let s = stays u q.formed p n.0 (q.here ∙ n.1) n.2 x k (not_false _ (second (holds_list (get t p)) _ b.1 holds)) in
      none_of_three _ _ (holds_list (get t p)) _ a.0 b.0 (ap not {y = true} s.1)

  pub void_settled : (b : Body) → is_void t (settled_body t b) ≡ is_void t b
  void_settled (SetKey x k) = void_set_key x k _ refl
  void_settled (Create x p k r kind) = void_create x p k r kind _ refl _ refl
  void_settled (Update x fs) = refl
  void_settled (Delete x) = refl
  void_settled (DeleteKey x k) = refl
