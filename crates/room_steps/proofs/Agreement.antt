-- Every operation: what stays outside its written cells, and what it keeps of what two trees agree on.
use Rattle.std.proofs.Common.{◌≡◌, ◌≢◌, inl, inr, ℕ, Bool, true, false, cond, not, ◌&&◌, ◌||◌, nat_le, List, [], ◌∷◌, ◌++◌, length, Option, Some, None, option_map, is_some, refl, sym, ap, ◌∙◌, subst}
use Rattle.std.specs.Cmp.Lexicographic.{slice_cmp}
use Rattle.std.specs.FinMap.{get, insert, find}
use Rattle.std.specs.Ordering.{nat_cmp}
use Rattle.room_json.specs.Value.{Value}
use Rattle.room_ids.specs.Order.{is_same}
use Rattle.room_ids.specs.Position.{is_pos, between}
use Rattle.room_ids.specs.declared.ids.NodeId.{NodeId}
use Rattle.room_ids.specs.declared.ids.NodeId.TheVariants.{Root}
use Rattle.room_nodes.specs.Cells.{Agrees, SameSlot, bare, overlaps_some, reads, writes, effect_cells, create_reads, delete_reads, set_key_reads, replaced_cells, slot_cells}
use Rattle.room_nodes.specs.Primitives.{fields_in, kind_fields}
use Rattle.room_nodes.specs.Shape.{Nodes, IsFormed, children, next_of, parent_of, up}
use Rattle.room_nodes.specs.Steps.{effect, is_void, settled_body, settled_key, is_other, is_placed, has_room, holds_list, without_replaced}
use Rattle.room_nodes.specs.declared.cells.Cell.TheVariants.{Node as NodeOf, Slot, All}
use Rattle.room_nodes.specs.declared.nodes.Body.{Body}
use Rattle.room_nodes.specs.declared.nodes.Body.TheVariants.{SetKey, Create, Update, Delete, DeleteKey}
use Rattle.room_nodes.specs.declared.nodes.Kind.{Kind}
use Rattle.room_nodes.specs.declared.nodes.Node.{Node}
use Rattle.room_nodes.proofs.Fitting.{some_of}
use Rattle.room_nodes.proofs.Gets.{get_here, get_other, here_or_old, one_or_two, same_self, some_inj, true_false}
use Rattle.room_nodes.proofs.StepForm.{at_node}
use Rattle.room_nodes.proofs.Steps.{neither, not_false, can_set_key, formed-step}
use Rattle.room_steps.proofs.Booleans.{or_left}
use Rattle.room_steps.proofs.Alike.{Alike, alike_some, has_room_same, holds_list_same, holds_object_same, parent_same, some_same, under_same}
use Rattle.room_steps.proofs.Changing.{Kept, found_in}
use Rattle.room_steps.proofs.Covering.{Agrees-append}
use Rattle.room_steps.proofs.Creations.{out_by, out_of, placed_same, framed_create, local_in_list, local_at_key}
use Rattle.room_steps.proofs.Touching.{Framed}
use Rattle.room_steps.proofs.Framing.{kept_put}
use Rattle.room_steps.proofs.Kin.{same_child, same_children}
use Rattle.room_steps.proofs.Operations.{IsFramed, IsLocal, framed_void, framed_live, local_void, local_live, framed_delete, framed_delete_key, framed_update, local_delete, local_delete_key, local_update, writes_by}
use Rattle.room_steps.proofs.Restoring.{step_acts}

-- set key

module _ (t : Nodes) (f : IsFormed t) (x : NodeId) (k : List ℕ) (e : is_void t (SetKey x k) ≡ false) (n : Node) (there : get t x ≡ Some n) where
  abbrev key : List ℕ
  key = settled_key t (up t x) x k

  abbrev moved : Nodes
  moved = insert t x (record n { key = key })

  moved_is : effect t (settled_body t (SetKey x k)) ≡ moved
  moved_is = ap (λ v. effect t (cond v (SetKey x k) (SetKey x key))) e ∙ at_node t x (λ v. record v { key = key }) n there

  moved_formed : IsFormed moved
  moved_formed = subst IsFormed (step_acts t (SetKey x k) e ∙ moved_is) (formed-step t f (SetKey x k))

  above : up t x ≡ n.parent
  above = ap parent_of there

  made : x ≢ Root
  made = (can_set_key t f x k e).made

  off_parent : (q : NodeId) (j : List ℕ) → overlaps_some (Slot q j) (All (up t x) ∷ NodeOf x ∷ []) ≡ false → n.parent ≢ q
  off_parent q j off h = true_false (sym (ap (λ z. is_same z (up t x)) (sym h ∙ sym above) ∙ same_self (up t x)) ∙ (neither (is_same q (up t x)) _ off).0)

  moved_framed : Framed t moved (All (up t x) ∷ NodeOf x ∷ [])
  moved_framed = record {
    node = λ q off. ap (option_map bare) (sym (get_other t x (record n { key = key }) q (λ h. true_false (sym (or_left _ _ (ap (λ z. is_same z x) h ∙ same_self x)) ∙ off))));
    slot = λ q j off. (
      elim (one_or_two q x) [
        | inl i ↦ ap (fields j t) i ∙ ap (found_in j) there ∙ sym (ap (found_in j) (get_here t x (record n { key = key }))) ∙ sym (ap (fields j moved) i)
        | inr d ↦ ap (found_in j) (sym (get_other t x (record n { key = key }) q d))
      ],
      same_child t moved moved_formed q j
          (λ y c. record {
            node = c.node;
            there = get_other t x (record n { key = key }) y (λ h. off_parent q j off (ap (λ (v : Node). v.parent) (some_inj n c.node (sym there ∙ ap (get t) (sym h) ∙ c.there)) ∙ c.parent)) ∙ c.there;
            made = c.made;
            parent = c.parent;
            key = c.key;
          })
          (λ y c. elim (here_or_old t x (record n { key = key }) y c.node c.there) [
            | inl i ↦ absurd (off_parent q j off (sym (ap (λ (v : Node). v.parent) i.1) ∙ c.parent))
            | inr old ↦ record { node = c.node; there = old.1; made = c.made; parent = c.parent; key = c.key }
          ]),
    );
  }
    where
      fields : List ℕ → Nodes → NodeId → Option Value
      fields j v q = find (slice_cmp nat_cmp) j (fields_in (get v q))

framed_set_key : (t : Nodes) → IsFormed t → (x : NodeId) (k : List ℕ) → is_void t (SetKey x k) ≡ false → IsFramed t (SetKey x k)
framed_set_key t f x k e =
    let n = some_of (get t x) (not_false _ (neither _ _ e).0) in
    framed_live t (SetKey x k) e (subst (λ (v : Nodes). Framed t v (All (up t x) ∷ NodeOf x ∷ [])) (sym (moved_is t f x k e n.0 n.1)) (moved_framed t f x k e n.0 n.1))

-- a place among the same children is the same
place_same : (t u : Nodes) (p q x : NodeId) (k : List ℕ) → p ≡ q → children t p ≡ children u p → settled_key t p x k ≡ settled_key u q x k
place_same t u p q x k e h =
    ap (λ cs. cond (is_other x (find (slice_cmp nat_cmp) k cs)) (between k (option_map (λ (c : List ℕ × NodeId). c.0) (next_of (Some k) cs))) k) h
    ∙ ap (λ z. settled_key u z x k) e

module _ (t u : Nodes) (f : IsFormed t) (g : IsFormed u) (x : NodeId) (k : List ℕ) (alike : Alike (get t x) (get u x)) where
  ups : up t x ≡ up u x
  ups = parent_same _ _ alike

  local_set_key : is_void t (SetKey x k) ≡ false → is_void u (SetKey x k) ≡ false → ((j : List ℕ) → SameSlot t u (up t x) j) → IsLocal t u (SetKey x k)
  local_set_key e d slots =
      let n = some_of (get t x) (not_false _ (neither _ _ e).0) in
      let m = alike_some (get t x) (get u x) alike n.0 n.1 in
      let keys : settled_key t (up t x) x k ≡ settled_key u (up u x) x k = place_same t u (up t x) (up u x) x k ups (same_children t u (up t x) (λ j. (slots j).1)) in
      let one : bare (record n.0 { key = settled_key t (up t x) x k }) ≡ bare (record m.0 { key = settled_key u (up u x) x k }) =
      ap (λ (v : Node). record v { key = settled_key t (up t x) x k }) m.2 ∙ ap (λ z. record (bare m.0) { key = z }) keys in
      let a = moved_formed t f x k e n.0 n.1 in
      let b = moved_formed u g x k d m.0 m.1 in
      let fields : (j : List ℕ) → SameSlot t u x j → find (slice_cmp nat_cmp) j (kind_fields n.0.kind) ≡ find (slice_cmp nat_cmp) j (kind_fields m.0.kind) =
      λ j s. sym (ap (λ o. find (slice_cmp nat_cmp) j (fields_in o)) n.1) ∙ s.0 ∙ ap (λ o. find (slice_cmp nat_cmp) j (fields_in o)) m.1 in
      local_live t u (SetKey x k) e d
      (subst (λ (v : Nodes). Kept t u v (effect u (settled_body u (SetKey x k)))) (sym (moved_is t f x k e n.0 n.1)) (subst (Kept t u (moved t f x k e n.0 n.1)) (sym (moved_is u g x k d m.0 m.1))
      (kept_put t u f g x _ _ one a b fields (λ h. h x n.0 m.0 n.1 m.1))))
      (ap (λ p. All p ∷ NodeOf x ∷ []) ups)

-- whether an operation is void is read of its cells

parts_same : (a b c d a2 b2 c2 d2 : Bool) → a ≡ a2 → b ≡ b2 → c ≡ c2 → (c ≡ true → d ≡ d2) → (not a || (b || (not c || not d))) ≡ (not a2 || (b2 || (not c2 || not d2)))
parts_same a b true d a2 b2 c2 d2 p q r s = rw (p, q, sym r, s refl) refl
parts_same a b false d a2 b2 c2 d2 p q r s = rw (p, q, sym r) refl

create_same : (a r l q a2 r2 l2 q2 : Bool) → a ≡ a2 → r ≡ r2 → l ≡ l2 → (l ≡ true → q ≡ q2) → (a || (not r || (l && not q))) ≡ (a2 || (not r2 || (l2 && not q2)))
create_same a r true q a2 r2 l2 q2 p s h k = rw (p, s, sym h, k refl) refl
create_same a r false q a2 r2 l2 q2 p s h k = rw (p, s, sym h) refl

module _ (t u : Nodes) (f : IsFormed t) (g : IsFormed u) where
  -- what is read of x, and of its parent where it is there
  pub record AgreesAbove (x : NodeId) : Type 0 where
    pub node : Alike (get t x) (get u x)
    pub above : is_some (get t x) ≡ true → Alike (get t (up t x)) (get u (up t x))

  pub delete_by : (x : NodeId) (o : Option Node) → get t x ≡ o → Agrees t u (delete_reads x o) → AgreesAbove x
  delete_by x None e h = record { node = h.0; above = λ s. absurd (true_false (sym s ∙ ap is_some e)) }
  delete_by x (Some n) e h = record { node = h.0; above = λ s. subst (λ p. Alike (get t p) (get u p)) (sym (ap parent_of e)) h.1.0 }

  pub record AgreesBeside (x : NodeId) : Type 0 where
    pub node : Alike (get t x) (get u x)
    pub above : is_some (get t x) ≡ true → Alike (get t (up t x)) (get u (up t x))
    pub slots : is_some (get t x) ≡ true → holds_list (get t (up t x)) ≡ true → (j : List ℕ) → SameSlot t u (up t x) j

  pub set_key_by : (x : NodeId) (o : Option Node) → get t x ≡ o → Agrees t u (set_key_reads t x o) → AgreesBeside x
  set_key_by x None e h = record { node = h.0; above = λ s. absurd (true_false (sym s ∙ ap is_some e)); slots = λ s. absurd (true_false (sym s ∙ ap is_some e)) }
  set_key_by x (Some n) e h =
      let is : up t x ≡ n.parent = ap parent_of e in
      record {
        node = h.0;
        above = λ s. subst (λ p. Alike (get t p) (get u p)) (sym is) h.1.0;
        slots = λ s list j. subst (λ p. SameSlot t u p j) (sym is) ((subst (λ b. Agrees t u (cond b (All n.parent ∷ []) [])) (ap (λ p. holds_list (get t p)) (sym is) ∙ list) h.1.1).0 j);
      }

  set_key_void : (x : NodeId) (k : List ℕ) → AgreesBeside x → (b : Bool) → is_some (get t x) ≡ b → is_void t (SetKey x k) ≡ is_void u (SetKey x k)
  set_key_void x k a false s =
      or_left (not (is_some (get t x))) _ (ap not s)
      ∙ sym (or_left (not (is_some (get u x))) _ (ap not (sym (some_same _ _ a.node) ∙ s)))
  set_key_void x k a true s =
      let is : up t x ≡ up u x = parent_same _ _ a.node in
      parts_same (is_some (get t x)) (is_same x Root) (holds_list (get t (up t x))) (is_placed t (up t x) x k) (is_some (get u x)) (is_same x Root) (holds_list (get u (up u x))) (is_placed u (up u x) x k)
      (some_same _ _ a.node) refl
      (holds_list_same _ _ (a.above s) ∙ ap (λ p. holds_list (get u p)) is)
      (λ list. ap (λ z. is_pos k && nat_le (length z) 4096) (place_same t u (up t x) (up u x) x k is (same_children t u (up t x) (λ j. (a.slots s list j).1))))

  -- what is read of a create
  pub create_both : (x p : NodeId) (r : Option NodeId) (b : Bool) → Agrees t u (create_reads x p r b) → Alike (get t x) (get u x) × Alike (get t p) (get u p)
  create_both x p r true h = (h.0, h.1.0)
  create_both x p r false h = (h.0, h.1.0)

  create_slots : (x p : NodeId) (r : Option NodeId) → Agrees t u (create_reads x p r (holds_list (get t p))) → holds_list (get t p) ≡ true → (j : List ℕ) → SameSlot t u p j
  create_slots x p r h list = (subst (λ b. Agrees t u (create_reads x p r b)) list h).1.1.0

  out_same : (x p : NodeId) (r : Option NodeId) → Agrees t u (create_reads x p r true) → out_of t p r ≡ out_of u p r
  out_same x p None h = refl
  out_same x p (Some y) h = ap (out_by y) (under_same (get t y) (get u y) h.1.1.1.0 p y)

  pub create_out : (x p : NodeId) (r : Option NodeId) → Agrees t u (create_reads x p r (holds_list (get t p))) → holds_list (get t p) ≡ true → out_of t p r ≡ out_of u p r
  create_out x p r h list = out_same x p r (subst (λ b. Agrees t u (create_reads x p r b)) list h)

  pub void_same : (b : Body) → Agrees t u (reads t b) → is_void t b ≡ is_void u b
  void_same (SetKey x k) h = set_key_void x k (set_key_by x (get t x) refl h) _ refl
  void_same (Create x p k r kind) h =
      let a = create_both x p r _ h in
      create_same (is_some (get t x)) (has_room (get t p)) (holds_list (get t p)) (is_placed (without_replaced t p r) p x k) (is_some (get u x)) (has_room (get u p)) (holds_list (get u p)) (is_placed (without_replaced u p r) p x k)
      (some_same _ _ a.0) (has_room_same _ _ a.1) (holds_list_same _ _ a.1)
      (λ list. placed_same t u f g p (create_slots x p r h list) r x k (create_out x p r h list))
  void_same (Update x fs) h = ap not (holds_object_same _ _ h.0)
  void_same (Delete x) h = ap (λ b. not b || is_same x Root) (some_same _ _ (delete_by x (get t x) refl h).node)
  void_same (DeleteKey x k) h = ap not (holds_object_same _ _ h.0)

  create_live : (x p : NodeId) (k : List ℕ) (r : Option NodeId) (kind : Kind) → is_void t (Create x p k r kind) ≡ false → is_void u (Create x p k r kind) ≡ false
      → Agrees t u (create_reads x p r (holds_list (get t p))) → (b : Bool) → holds_list (get t p) ≡ b → Agrees t u (cond b (All p ∷ replaced_cells t p r) (slot_cells t p k)) → IsLocal t u (Create x p k r kind)
  create_live x p k r kind e d h true list w = local_in_list t u f g x p k r kind (create_both x p r _ h).1 e d list (create_slots x p r h list) (create_out x p r h list) w.1
  create_live x p k r kind e d h false list w = local_at_key t u f g x p k r kind (create_both x p r _ h).1 e d list w

  live : (b : Body) → is_void t b ≡ false → is_void u b ≡ false → Agrees t u (reads t b) → Agrees t u (effect_cells t b) → IsLocal t u b
  live (SetKey x k) e d h w = local_set_key t u f g x k w.1.0 e d w.0
  live (Create x p k r kind) e d h w = create_live x p k r kind e d h _ refl w.1.1
  live (Update x fs) e d h w = local_update t u f g x fs e d h.0 w
  live (Delete x) e d h w =
      let a = delete_by x (get t x) refl h in
      local_delete t u f g x e d a.node (a.above (not_false _ (neither _ _ e).0)) w.1
  live (DeleteKey x k) e d h w = local_delete_key t u f g x k e d h.0 w

  local_by : (b : Body) → Agrees t u (reads t b) → Agrees t u (writes t b) → (v : Bool) → is_void t b ≡ v → IsLocal t u b
  local_by b h w true e = local_void t u b e (sym (void_same b h) ∙ e)
  local_by b h w false e = live b e (sym (void_same b h) ∙ e) h (subst (Agrees t u) (writes_by t b false e) w)

  pub local : (b : Body) → Agrees t u (reads t b ++ writes t b) → IsLocal t u b
  local b h = let a = Agrees-append t u (reads t b) (writes t b) h in local_by b a.0 a.1 _ refl

framed_by : (t : Nodes) → IsFormed t → (b : Body) → is_void t b ≡ false → IsFramed t b
framed_by t f (SetKey x k) e = framed_set_key t f x k e
framed_by t f (Create x p k r kind) e = framed_create t f x p k r kind e
framed_by t f (Update x fs) e = framed_update t f x fs e
framed_by t f (Delete x) e = framed_delete t f x e
framed_by t f (DeleteKey x k) e = framed_delete_key t f x k e

framed_or_not : (t : Nodes) → IsFormed t → (b : Body) (v : Bool) → is_void t b ≡ v → IsFramed t b
framed_or_not t f b true e = framed_void t b e
framed_or_not t f b false e = framed_by t f b e

pub framed : (t : Nodes) → IsFormed t → (b : Body) → IsFramed t b
framed t f b = framed_or_not t f b _ refl
